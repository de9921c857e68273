-- A submitter's bid of a number is what its accepted message of that number says.
use Rattle.std.proofs.Common.{◌≡◌, ℕ, ◌&&◌, ◌==◌, Bool, true, false, cond, Option, Some, None, inl, inr, List, [], ◌∷◌, ◌++◌, refl, sym, ap, ◌∙◌, subst}
use Rattle.std.specs.List.{find}
use Rattle.std.proofs.lemmas.Bool.{and_parts, cases_Bool, eqb-true, false_from_ne_true}
use Rattle.tb_units.proofs.PlaceLemmas.{find-append_none, find-append_some, find_passes}
use Rattle.tb_message.specs.declared.message.Entry.{Entry}
use Rattle.tb_message.specs.declared.message.Message.{Message}
use Rattle.tb_message.specs.declared.message.Message.TheVariants as message
use Rattle.tb_history.specs.declared.bids.Bid.{Bid}
use Rattle.tb_history.specs.Entries.{is_same, bid_by}
use Rattle.tb_history.specs.Roster.{kept}
use Rattle.tb_history.specs.LiveBids.{bids, bid_of}
use Rattle.tb_history.specs.Legal.{IsLegal}
use Rattle.tb_history.proofs.SameLemmas.{is_same-equal}
use Rattle.tb_history.proofs.GrowthLemmas.{bids-snoc}
use Rattle.tb_history.proofs.AcceptedLemmas.{accepted-passes}
use Rattle.tb_history.proofs.LegalLemmas.{by_entries}

-- a bid is the submitter's of this number in the auction
abbrev is_bid : List ℕ → List ℕ → ℕ → Bid → Bool
is_bid submitter auction number bid =
    is_same bid.submitter submitter && is_same bid.auction auction && (bid.number == number)

-- an entry is the submitter's of this number
abbrev is_under : List ℕ → ℕ → Entry → Bool
is_under submitter number e = is_same e.submitter submitter && (e.number == number)

-- the bid that an entry is, if there is one
abbrev said : List ℕ → List ℕ → ℕ → Option Entry → Option Bid
said submitter auction number None = None
said submitter auction number (Some e) =
    bid_of (bid_by e.submitter e.number e.message) submitter auction number

-- where the first and the last of three don't both hold, not all do
and-fails : (one between last : Bool) → (one && last) ≡ false → (one && between && last) ≡ false
and-fails true true last fails = fails
and-fails true false last fails = refl
and-fails false between last fails = refl

-- of a list behind which none passes the same is found
find-append_front : {X : Type 0} (p : X → Bool) (xs ys : List X) → find p ys ≡ None → find p (xs ++ ys) ≡ find p xs
find-append_front p [] ys none = none
find-append_front p (x ∷ xs) ys none = ap (cond (p x) (Some x)) (find-append_front p xs ys none)

-- a message of another number is no bid of this one
other-says : (submitter auction : List ℕ) (number : ℕ) (sender : List ℕ) (n : ℕ) (m : Message)
    → (is_same sender submitter && (n == number)) ≡ false
    → bid_of (bid_by sender n m) submitter auction number ≡ None
other-says submitter auction number sender n (message.Bid place bidder rate amount) other =
    let fails : (is_same sender submitter && is_same place auction && (n == number)) ≡ false =
    and-fails (is_same sender submitter) (is_same place auction) (n == number) other in
    rw fails refl
other-says submitter auction number sender n m other = refl

-- a number that an entry stands under is unused by what follows
other-follows : (h : List Entry) (e x : Entry) (submitter : List ℕ) (number : ℕ)
    → kept h e.submitter e.number ≡ None
    → kept h submitter number ≡ Some x
    → is_under submitter number e ≡ false
other-follows h e x submitter number unused found =
    false_from_ne_true (is_under submitter number e) (λ own.
    let both = and_parts (is_same e.submitter submitter) (e.number == number) own in
    let name : e.submitter ≡ submitter = is_same-equal e.submitter submitter both.0 in
    let same : e.number ≡ number = eqb-true e.number number both.1 in
    let none : kept h submitter number ≡ None =
    subst (λ (s : List ℕ). kept h s number ≡ None) name
    (subst (λ (n : ℕ). kept h e.submitter n ≡ None) same unused) in
    let wrong : Some x ≡ None = sym found ∙ none in
    cc)

-- with one entry more, whatever stood under the number
said-push : (submitter auction : List ℕ) (number : ℕ) (h : List Entry) (e : Entry) (found : Option Entry)
    → kept h submitter number ≡ found
    → kept h e.submitter e.number ≡ None
    → bid_of (bids h) submitter auction number ≡ said submitter auction number found
    → bid_of (bids h ++ bid_by e.submitter e.number e.message) submitter auction number
    ≡ said submitter auction number (kept (h ++ e ∷ []) submitter number)
unfolding kept
said-push submitter auction number h e None is unused so_far =
    let says : List Bid = bid_by e.submitter e.number e.message in
    let now : kept (h ++ e ∷ []) submitter number ≡ cond (is_under submitter number e) (Some e) None =
    find-append_none (is_under submitter number) h (e ∷ []) is in
    find-append_none (is_bid submitter auction number) (bids h) says so_far
    ∙ elim (cases_Bool (is_under submitter number e)) [
      | inl own ↦
          ap (λ b. said submitter auction number (cond b (Some e) None)) (sym own)
          ∙ ap (said submitter auction number) (sym now)
      | inr other ↦
          other-says submitter auction number e.submitter e.number e.message other
          ∙ (ap (λ b. said submitter auction number (cond b (Some e) None)) (sym other)
          ∙ ap (said submitter auction number) (sym now))
    ]
said-push submitter auction number h e (Some x) is unused so_far =
    let says : List Bid = bid_by e.submitter e.number e.message in
    let now : kept (h ++ e ∷ []) submitter number ≡ Some x =
    find-append_some (is_under submitter number) h (e ∷ []) x is in
    find-append_front (is_bid submitter auction number) (bids h) says
    (other-says submitter auction number e.submitter e.number e.message
    (other-follows h e x submitter number unused is))
    ∙ (so_far ∙ ap (said submitter auction number) (sym now))

-- there is no bid in the empty history
said-nil : (submitter auction : List ℕ) (number : ℕ)
    → bid_of (bids []) submitter auction number ≡ said submitter auction number (kept [] submitter number)
unfolding bids kept
said-nil submitter auction number = refl

-- so it is in every legal history
said-kept : (submitter auction : List ℕ) (number : ℕ) (h : List Entry)
    → IsLegal h
    → bid_of (bids h) submitter auction number ≡ said submitter auction number (kept h submitter number)
said-kept submitter auction number h legal =
    by_entries
    (λ h. bid_of (bids h) submitter auction number ≡ said submitter auction number (kept h submitter number))
    (said-nil submitter auction number)
    (λ h e legal so_far follows.
    let passed = accepted-passes h e.submitter e.number e.moment e.message follows.accepted in
    rw (bids-snoc h e)
    (said-push submitter auction number h e (kept h submitter number) refl passed.unused so_far))
    h legal

-- where nothing is accepted under the number there is no bid
pub bid_of-none : (h : List Entry) (submitter auction : List ℕ) (number : ℕ)
    → IsLegal h
    → kept h submitter number ≡ None
    → bid_of (bids h) submitter auction number ≡ None
bid_of-none h submitter auction number legal none =
    said-kept submitter auction number h legal ∙ ap (said submitter auction number) none

-- and where a message is, the bid is that one, or there is none
pub bid_of-kept : (h : List Entry) (submitter auction : List ℕ) (number : ℕ) (e : Entry)
    → IsLegal h
    → kept h submitter number ≡ Some e
    → bid_of (bids h) submitter auction number ≡ bid_of (bid_by submitter number e.message) submitter auction number
unfolding kept
bid_of-kept h submitter auction number e legal found =
    let own : is_under submitter number e ≡ true = find_passes (is_under submitter number) h e found in
    let both = and_parts (is_same e.submitter submitter) (e.number == number) own in
    let name : e.submitter ≡ submitter = is_same-equal e.submitter submitter both.0 in
    let same : e.number ≡ number = eqb-true e.number number both.1 in
    said-kept submitter auction number h legal
    ∙ (ap (said submitter auction number) found
    ∙ (ap (λ s. bid_of (bid_by s e.number e.message) submitter auction number) name
    ∙ ap (λ n. bid_of (bid_by submitter n e.message) submitter auction number) same))
