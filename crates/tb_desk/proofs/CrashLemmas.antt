-- What each crash since the opening left, and the groups that it may have left behind a beginning of the history.
use Rattle.std.proofs.Common.{◌≡◌, ◌⊎◌, inl, inr, ℕ, ◌+◌, ◌≤◌, List, [], ◌∷◌, ◌++◌, length, take, Some, None, refl, ap, sym, ◌∙◌, subst, arith, append-nil, length-append}
use Rattle.std.specs.Prelude.{Contains}
use Rattle.std.specs.List.{All}
use Rattle.std.proofs.lemmas.Bool.{cases_lt}
use Rattle.std.proofs.lemmas.List.{take_at, take-append-le}
use Rattle.std.proofs.lemmas.List.Elements.{All-append, All-contains, All-cons, All-nil, All-weaker, Contains-append_left, Contains-push}
use Rattle.tb_link.specs.Counts.{last_count}
use Rattle.tb_disk.specs.Disks.{DiskState}
use Rattle.tb_message.specs.declared.message.Entry.{Entry}
use Rattle.tb_message.specs.declared.message.Message.{Message}
use Rattle.tb_message.specs.declared.verdict.Verdict.{Verdict}
use Rattle.tb_history.specs.Legal.{IsLegal, running}
use Rattle.tb_desk.specs.Stands.{StandsForHistory, StandsForEither, CrashesLeave}
use Rattle.tb_desk.specs.Turn.{Held, Asked, Replies, IsTurn, IsOneOf, group}
use Rattle.tb_desk.specs.Desks.{CountsFault, CrashesSince, doubted_by, IsBeginning, IsBeginningOr, IsOneGroup, PlacedGroup, WasAccepted, with_group}
use Rattle.tb_desk.proofs.AnswerLemmas.{turn-sure}
use Rattle.tb_desk.proofs.JudgeLemmas.{group_on-all, group_on-length}
use Rattle.tb_desk.proofs.TurnLemmas.{CrashesLeave-weaker, CrashesLeave-both, Grows, Grows-not, Grows-turn, length-grows}

-- ---- one group

-- the entries that a list of messages adds are one group
IsOneGroup-on : (at : List Entry) (asked : Asked) → length asked.messages ≤ 64 → IsOneGroup (group at asked)
IsOneGroup-on at asked few =
    let moment = running at asked.moment in
    let OfAsked : Entry → Type 0 =
    λ (entry : Entry). (entry.submitter ≡ asked.submitter) × (entry.moment ≡ moment) in
    record {
      submitter = asked.submitter;
      moment = moment;
      few = omega (arith, few, group_on-length at asked.submitter moment asked.messages);
      each = group_on-all OfAsked (λ (message : ℕ × Message). Unit {0}) at asked.submitter moment asked.messages
          (λ message any. (refl, refl)) (λ place d within. tt);
    }

-- ---- while the history grows

-- what a beginning of a history was stays so
take-grows : (before : ℕ) (history after : List Entry)
    → Grows history after
    → before ≤ length history
    → take before after ≡ take before history
take-grows before history after grows within =
    ap (λ (entries : List Entry). take before entries) grows.1 ∙ take-append-le before history grows.0 within

-- the whole history is a beginning of what it grows to
take-whole : (history after : List Entry) → Grows history after → take (length history) after ≡ history
take-whole history after grows =
    ap (λ (entries : List Entry). take (length history) entries) grows.1
    ∙ take_at history grows.0 (length history) refl

-- so a group at its place stands behind the same entries
with_group-grows : (placed : PlacedGroup) (history after : List Entry)
    → Grows history after
    → placed.before ≤ length history
    → with_group after placed ≡ with_group history placed
with_group-grows placed history after grows within =
    ap (λ (entries : List Entry). entries ++ placed.group) (take-grows placed.before history after grows within)

-- and was accepted on a beginning of what the history grows to
WasAccepted-grows : (history after : List Entry) (recovered : ℕ) (placed : PlacedGroup)
    → Grows history after
    → WasAccepted history recovered placed
    → WasAccepted after recovered placed
WasAccepted-grows history after recovered placed grows was = record {
  one = was.one;
  enough = was.enough;
  within = omega (arith, was.within, length-grows history after grows);
  accepted = subst IsLegal (sym (with_group-grows placed history after grows was.within)) was.accepted;
}

-- a file that stands for a beginning of the history, with a group or without, stands for one of what it grows to
IsBeginningOr-grows : (history after : List Entry) (recovered : ℕ) (groups more : List PlacedGroup) (file : List ℕ)
    → Grows history after
    → All (WasAccepted history recovered) groups
    → IsBeginningOr groups history recovered file
    → IsBeginningOr (groups ++ more) after recovered file
IsBeginningOr-grows history after recovered groups more file grows each (inl begins) = inl (record {
  kept = begins.kept;
  enough = begins.enough;
  within = omega (arith, begins.within, length-grows history after grows);
  stands = subst (λ (entries : List Entry). StandsForHistory entries file)
      (sym (take-grows begins.kept history after grows begins.within)) begins.stands;
})
IsBeginningOr-grows history after recovered groups more file grows each (inr (placed, among, stands)) = inr (
  placed,
  Contains-append_left groups more placed among,
  subst (λ (entries : List Entry). StandsForHistory entries file)
      (sym (with_group-grows placed history after grows
      (All-contains (WasAccepted history recovered) groups placed each among).within)) stands,
)

-- a file that stands for the whole history
pub IsBeginning-whole : (history after : List Entry) (recovered : ℕ) (file : List ℕ)
    → Grows history after
    → recovered ≤ length history
    → StandsForHistory history file
    → IsBeginning after recovered file
IsBeginning-whole history after recovered file grows enough stands = record {
  kept = length history;
  enough = enough;
  within = length-grows history after grows;
  stands = subst (λ (entries : List Entry). StandsForHistory entries file) (sym (take-whole history after grows))
      stands;
}

-- and one that may have the group in doubt behind it
IsBeginningOr-either : (history doubt after : List Entry) (recovered : ℕ) (groups : List PlacedGroup) (file : List ℕ)
    → Grows history after
    → recovered ≤ length history
    → (1 ≤ length doubt → Contains groups (record { before = length history; group = doubt }))
    → StandsForEither history doubt file
    → IsBeginningOr groups after recovered file
IsBeginningOr-either history doubt after recovered groups file grows enough among (inl stands) =
    inl (IsBeginning-whole history after recovered file grows enough stands)
IsBeginningOr-either history [] after recovered groups file grows enough among (inr stands) =
    inl (IsBeginning-whole history after recovered file grows enough
    (subst (λ (entries : List Entry). StandsForHistory entries file) (append-nil history) stands))
IsBeginningOr-either history (entry ∷ entries) after recovered groups file grows enough among (inr stands) = inr (
  record { before = length history; group = entry ∷ entries },
  among (omega arith),
  subst (λ (first : List Entry). StandsForHistory (first ++ entry ∷ entries) file)
      (sym (take-whole history after grows)) stands,
)

-- ---- a turn

-- A turn of the desk that adds one group at most, with what its replies tell, and how many calls had met a fault before
-- it and have by now.
pub record TakesTurn (gate : ℕ) (disk : DiskState) (asked : Asked) (held after : Held) (replies : Replies)
    (at : List Entry) (recovered faults now : ℕ) : Type 0 where
  pub few : length asked.messages ≤ 64
  pub turn : IsTurn gate disk asked held after replies at
  pub accepted : IsLegal (after.history ++ after.doubt)
  pub recovers : recovered ≤ length held.history
  pub counts : CountsFault replies faults now
  pub limited : faults ≤ last_count
  pub now_limited : now ≤ last_count

-- the group in doubt, at its place
abbrev in_doubt : Held → PlacedGroup
in_doubt held = record { before = length held.history; group = held.doubt }

-- what a turn adds to the groups that a crash may have left: the one that it leaves in doubt, after a fault
record Gains (after : Held) (recovered faults now : ℕ) (old gained : List PlacedGroup) : Type 0 where
  pub each : All (WasAccepted after.history recovered) gained
  pub now_in : 1 ≤ length after.doubt → Contains (old ++ gained) (in_doubt after)
  pub few : (faults + length gained ≤ now) ⊎ (now ≡ last_count)

-- one more call has met a fault, unless the count stands at its last value
one-more : (faults now : ℕ) → CountsFault None faults now → (faults + 1 ≤ now) ⊎ (now ≡ last_count)
one-more faults now counted = elim (cases_lt faults last_count) [
  | inl more ↦ inl (omega (arith, counted, more))
  | inr end_ ↦ inr (omega (arith, counted, end_))
]

-- after verdicts it adds none, since nothing is in doubt
gained-verdicts : (after : Held) (verdicts : List Verdict) (recovered faults now : ℕ) (old : List PlacedGroup)
    → after.doubt ≡ []
    → CountsFault (Some verdicts) faults now
    → Gains after recovered faults now old (doubted_by (Some verdicts) after)
gained-verdicts after verdicts recovered faults now old sure counts = record {
  each = All-nil (WasAccepted after.history recovered);
  now_in = λ some. absurd (omega (arith, some, ap length sure));
  few = inl (omega (arith, counts));
}

-- after a fault it adds the group in doubt, which was accepted
gained-fault : (after : Held) (recovered faults now : ℕ) (old : List PlacedGroup)
    → WasAccepted after.history recovered (in_doubt after)
    → CountsFault None faults now
    → Gains after recovered faults now old (doubted_by None after)
gained-fault after recovered faults now old accepted counts = record {
  each = All-cons (WasAccepted after.history recovered) (in_doubt after) [] accepted
      (All-nil (WasAccepted after.history recovered));
  now_in = λ some. Contains-push old (in_doubt after);
  few = one-more faults now counts;
}

-- the group in doubt was accepted behind the history
accepted-now : (after : Held) (recovered : ℕ)
    → IsOneGroup after.doubt
    → IsLegal (after.history ++ after.doubt)
    → recovered ≤ length after.history
    → WasAccepted after.history recovered (in_doubt after)
accepted-now after recovered one accepted still = record {
  one = one;
  enough = still;
  within = omega arith;
  accepted = subst (λ (first : List Entry). IsLegal (first ++ after.doubt))
      (sym (take-whole after.history after.history (Grows-not after.history after.history refl))) accepted;
}

-- so a turn adds what its replies tell
gained_by : (gate : ℕ) (disk : DiskState) (asked : Asked) (held after : Held) (replies : Replies) (at : List Entry)
    (recovered faults now : ℕ) (old : List PlacedGroup)
    → TakesTurn gate disk asked held after replies at recovered faults now
    → recovered ≤ length after.history
    → All (WasAccepted held.history recovered) old
    → (1 ≤ length held.doubt → Contains old (in_doubt held))
    → Gains after recovered faults now old (doubted_by replies after)
gained_by gate disk asked held after (Some verdicts) at recovered faults now old takes still each among =
    gained-verdicts after verdicts recovered faults now old
    (turn-sure gate disk asked held after (Some verdicts) at takes.turn (λ is. absurd (cc))) takes.counts
gained_by gate disk asked held after None at recovered faults now old takes still each among =
    gained-fault after recovered faults now old
    (accepted-now after recovered (one-group takes.turn) takes.accepted still) takes.counts
  where
    one-group : IsTurn gate disk asked held after None at → IsOneGroup after.doubt
    one-group (inl stuck) =
        subst (λ (state : Held). IsOneGroup state.doubt) (sym stuck.0.same)
        (All-contains (WasAccepted held.history recovered) old (in_doubt held) each (among stuck.0.unsure)).one
    one-group (inr (is, inl answered)) = let wrong = answered.given in absurd (cc)
    one-group (inr (is, inr left)) = subst IsOneGroup (sym left.unsure) (IsOneGroup-on at asked takes.few)

-- every crash since the opening, after a turn
pub CrashesSince-turn : (gate : ℕ) (asked : Asked) (held after : Held) (replies : Replies) (at : List Entry)
    (recovered faults now : ℕ) (opened old new : DiskState) (doubted : List PlacedGroup)
    → TakesTurn gate old asked held after replies at recovered faults now
    → CrashesLeave (IsOneOf held after) old new
    → CrashesSince opened old held.history held.doubt recovered faults doubted
    → CrashesSince opened new after.history after.doubt recovered now (doubted ++ doubted_by replies after)
CrashesSince-turn gate asked held after replies at recovered faults now opened old new doubted takes crash since =
    record {
      each = All-append (WasAccepted after.history recovered) doubted gained
          (All-weaker (WasAccepted held.history recovered) (WasAccepted after.history recovered)
          (λ placed was. WasAccepted-grows held.history after.history recovered placed grows was) doubted since.each)
          gains.each;
      now = gains.now_in;
      few = fewer since.few gains.few;
      leaves = CrashesLeave-both Left opened old new
          (CrashesLeave-weaker (IsBeginningOr doubted held.history recovered) Left opened old
          (λ file is. IsBeginningOr-grows held.history after.history recovered doubted gained file grows since.each
          is) since.leaves)
          (CrashesLeave-weaker (IsOneOf held after) Left old new left crash);
    }
  where
    grows : Grows held.history after.history
    grows = Grows-turn gate old asked held after replies at takes.turn

    still : recovered ≤ length after.history
    still = omega (arith, takes.recovers, length-grows held.history after.history grows)

    gained : List PlacedGroup
    gained = doubted_by replies after

    gains : Gains after recovered faults now doubted gained
    gains = gained_by gate old asked held after replies at recovered faults now doubted takes still since.each since.now

    all : List PlacedGroup
    all = doubted ++ gained

    Left : List ℕ → Type 0
    Left = IsBeginningOr all after.history recovered

    -- a crash of the turn itself
    left : (file : List ℕ) → IsOneOf held after file → Left file
    left file (inl before) =
        IsBeginningOr-either held.history held.doubt after.history recovered all file grows takes.recovers
        (λ some. Contains-append_left doubted gained (in_doubt held) (since.now some)) before
    left file (inr behind) =
        IsBeginningOr-either after.history after.doubt after.history recovered all file
        (Grows-not after.history after.history refl) still gains.now_in behind

    -- there are no more of them than calls that met a fault
    fewer : (length doubted ≤ faults) ⊎ (faults ≡ last_count)
        → (faults + length gained ≤ now) ⊎ (now ≡ last_count)
        → (length all ≤ now) ⊎ (now ≡ last_count)
    fewer (inl was) (inl is) = inl (omega (arith, was, is, length-append doubted gained))
    fewer (inr last) (inl is) = inr (omega (arith, last, is, takes.now_limited))
    fewer was (inr last) = inr last

-- of a desk that was just opened
pub CrashesSince-opened : (disk : DiskState) (history : List Entry) (recovered : ℕ)
    → recovered ≡ length history
    → CrashesLeave (StandsForEither history []) disk disk
    → CrashesSince disk disk history [] recovered 0 []
CrashesSince-opened disk history recovered all leaves = record {
  each = All-nil (WasAccepted history recovered);
  now = λ some. absurd (omega (arith, some));
  few = inl (omega arith);
  leaves = CrashesLeave-weaker (StandsForEither history []) (IsBeginningOr [] history recovered) disk disk
      (λ file either. IsBeginningOr-either history [] history recovered [] file (Grows-not history history refl)
      (omega (arith, all)) (λ some. absurd (omega (arith, some))) either) leaves;
}
