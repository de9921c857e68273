-- Entries of a legal history, and its beginnings.
use Rattle.std.proofs.Common.{◌≡◌, ℕ, ◌+◌, ◌-◌, ◌<◌, ◌≤◌, List, [], ◌∷◌, ◌++◌, length, take, drop, suc, ap, sym, ◌∙◌, subst, arith, append_assoc}
use Rattle.std.specs.Prelude.{Contains}
use Rattle.std.proofs.Math.Seq.{split_at, take-append_seam, take-append-add}
use Rattle.std.proofs.lemmas.List.{get_or_append_left}
use Rattle.std.proofs.lemmas.List.Elements.{Contains-append_left}
use Rattle.tb_message.specs.declared.message.Entry.{Entry}
use Rattle.tb_history.specs.Legal.{IsLegal, Follows}
use Rattle.tb_history.specs.Verdict.{verdict_on}
use Rattle.tb_history.proofs.HistoryLemmas.{IsLegal-front, IsLegal-follows, repeated-push}
use Rattle.tb_replica.specs.Arrival.{StandsAt}

-- a history around an entry that stands at a place of it
around : (history : List Entry) (place : ℕ) (entry : Entry)
    → StandsAt history place entry
    → history ≡ take place history ++ entry ∷ drop (suc place) history
around history place entry stands =
    subst (λ (x : Entry). history ≡ take place history ++ x ∷ drop (suc place) history) stands.is
    (split_at history place entry stands.within)

-- an entry of a legal history can't follow on it again
pub never_again : (history : List Entry) (entry : Entry)
    → IsLegal history
    → Contains history entry
    → ¬ (Follows history entry)
never_again history entry legal among follows =
    let e = around history among.0 entry (record { within = among.1; is = among.2 }) in
    let split_legal : IsLegal (take among.0 history ++ entry ∷ drop (suc among.0) history) = subst IsLegal e legal in
    let again = repeated-push (take among.0 history) (drop (suc among.0) history) entry entry.moment split_legal in
    let accepted = follows.accepted in
    let same = ap (λ (h : List Entry). verdict_on h entry.submitter entry.number entry.moment entry.message) e in
    cc (again, accepted, same)

-- an entry of a legal history follows on those before it
pub follows_before : (history : List Entry) (place : ℕ) (entry : Entry)
    → IsLegal history
    → StandsAt history place entry
    → Follows (take place history) entry
follows_before history place entry legal stands =
    IsLegal-follows (drop (suc place) history) (take place history) entry
    (subst IsLegal (around history place entry stands) legal)

-- the entries before an entry of a legal history are legal
legal_before : (history : List Entry) (place : ℕ) (entry : Entry)
    → IsLegal history
    → StandsAt history place entry
    → IsLegal (take place history)
legal_before history place entry legal stands =
    IsLegal-front (entry ∷ drop (suc place) history) (take place history)
    (subst IsLegal (around history place entry stands) legal)

-- what stands behind a beginning doesn't stand in it
pub not_yet : (begun rest : List Entry) (place : ℕ) (entry : Entry)
    → IsLegal (begun ++ rest)
    → StandsAt (begun ++ rest) place entry
    → length begun ≤ place
    → ¬ (Contains begun entry)
not_yet begun rest place entry legal stands behind among =
    let more : place ≡ length begun + (place - length begun) = omega arith in
    let same : take place (begun ++ rest) ≡ begun ++ take (place - length begun) rest =
    ap (λ (n : ℕ). take n (begun ++ rest)) more ∙ take-append-add begun rest (place - length begun) in
    never_again (take place (begun ++ rest)) entry
    (legal_before (begun ++ rest) place entry legal stands)
    (rw same (Contains-append_left begun (take (place - length begun) rest) entry among))
    (follows_before (begun ++ rest) place entry legal stands)

-- what stands right behind a beginning follows on it
pub follows_next : (begun rest : List Entry) (entry : Entry)
    → IsLegal (begun ++ rest)
    → StandsAt (begun ++ rest) (length begun) entry
    → Follows begun entry
follows_next begun rest entry legal stands =
    subst (λ (h : List Entry). Follows h entry) (take-append_seam begun rest)
    (follows_before (begun ++ rest) (length begun) entry legal stands)

-- and the rest begins with it
pub rest_next : (begun rest : List Entry) (entry : Entry)
    → StandsAt (begun ++ rest) (length begun) entry
    → begun ++ rest ≡ (begun ++ entry ∷ []) ++ drop (suc (length begun)) (begun ++ rest)
rest_next begun rest entry stands =
    around (begun ++ rest) (length begun) entry stands
    ∙ ap (λ (h : List Entry). h ++ entry ∷ drop (suc (length begun)) (begun ++ rest)) (take-append_seam begun rest)
    ∙ sym (append_assoc begun (entry ∷ []) (drop (suc (length begun)) (begun ++ rest)))

-- what stands at a place before the end of a beginning stands in it
pub stands_before : (begun rest : List Entry) (place : ℕ) (entry : Entry)
    → StandsAt (begun ++ rest) place entry
    → place < length begun
    → Contains begun entry
stands_before begun rest place entry stands before =
    (place, before, sym (get_or_append_left begun rest entry place before) ∙ stands.is)
