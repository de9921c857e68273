-- Bids are told apart by their submitters and numbers, and each cancel is of an accepted message.
use Rattle.std.proofs.Common.{◌≡◌, ℕ, ◌+◌, ◌≤◌, ◌==◌, ◌&&◌, Bool, true, false, Option, Some, None, is_some, inl, inr, List, [], ◌∷◌, ◌++◌, length, length-append, append-nil, refl, ap, subst, arith}
use Rattle.std.specs.List.{AllByRecursion, filter}
use Rattle.std.proofs.lemmas.Bool.{and_from, and_parts, both_ways, cases_Bool, eqb-true, false_from_ne_true, leb-false}
use Rattle.tb_units.specs.declared.moment.Moment.{Moment}
use Rattle.tb_units.proofs.PlaceLemmas.{find_passes}
use Rattle.tb_terms.specs.declared.announcement.Announcement.{Announcement}
use Rattle.tb_message.specs.declared.message.Entry.{Entry}
use Rattle.tb_message.specs.declared.message.Message.{Message}
use Rattle.tb_message.specs.declared.message.Message.TheVariants as message
use Rattle.tb_history.specs.declared.bids.Bid.{Bid}
use Rattle.tb_history.specs.declared.bids.Cancel.{Cancel}
use Rattle.tb_history.specs.Entries.{is_same, enrolled_by, bid_by, cancelled_by}
use Rattle.tb_history.specs.Roster.{announcements, announcement_of, enrolments, kept}
use Rattle.tb_history.specs.LiveBids.{bids, bid_of, cancels, is_cancelled}
use Rattle.tb_history.specs.Tables.{cancel_rows, rows_of}
use Rattle.tb_history.specs.Legal.{Follows, IsLegal}
use Rattle.tb_history.proofs.PartLemmas.{AllByRecursion-append, AllByRecursion-weaker}
use Rattle.tb_history.proofs.SameLemmas.{is_same-equal}
use Rattle.tb_history.proofs.GrowthLemmas.{bids-snoc, cancels-snoc, enrolments-snoc, is_some-append}
use Rattle.tb_history.proofs.AcceptedLemmas.{IsClear, accepted-passes}
use Rattle.tb_history.proofs.LegalLemmas.{by_entries}
use Rattle.tb_history.proofs.HistoryLemmas.{kept-push}
use Rattle.tb_history.proofs.ClosedLemmas.{found-in}

-- a message stands under the submitter and the number
abbrev pub IsUsed : List Entry → List ℕ → ℕ → Type 0
IsUsed h s n = is_some (kept h s n) ≡ true

-- and still does with an entry more
IsUsed-snoc : (h : List Entry) (e : Entry) (s : List ℕ) (n : ℕ) → IsUsed h s n → IsUsed (h ++ e ∷ []) s n
unfolding kept
IsUsed-snoc h e s n used = is_some-append (λ (x : Entry). is_same x.submitter s && (x.number == n)) h (e ∷ []) used

-- an accepted entry stands under its own
IsUsed-last : (h : List Entry) (e : Entry)
    → kept h e.submitter e.number ≡ None → IsUsed (h ++ e ∷ []) e.submitter e.number
IsUsed-last h e unused = ap is_some (kept-push h [] e unused)

-- where none stands none is used
pub unused : (h : List Entry) (s : List ℕ) (n : ℕ) → kept h s n ≡ None → IsUsed h s n → ⊥
unused h s n none used = let wrong : false ≡ true = rw none at used in cc

-- a bid is of the submitter and the number
abbrev pub is_bid : List ℕ → ℕ → Bid → Bool
is_bid s n bid = is_same bid.submitter s && (bid.number == n)

-- of a used number it is of that one
pub is_bid-used : (h : List Entry) (s : List ℕ) (n : ℕ) (bid : Bid)
    → is_bid s n bid ≡ true
    → IsUsed h bid.submitter bid.number
    → IsUsed h s n
is_bid-used h s n bid is used =
    let both = and_parts (is_same bid.submitter s) (bid.number == n) is in
    subst (λ (name : List ℕ). IsUsed h name n) (is_same-equal bid.submitter s both.0)
    (subst (λ (number : ℕ). IsUsed h bid.submitter number) (eqb-true bid.number n both.1) used)

-- one element at most passes
abbrev pub IsOnce : {X : Type 0} → (X → Bool) → List X → Type 0
IsOnce test [] = Unit {0}
IsOnce test (x ∷ xs) = (test x ≡ true → AllByRecursion (λ y. test y ≡ false) xs) × IsOnce test xs

-- an element that doesn't pass where it can't
fails-where : (one other : Bool) → (one ≡ true → other ≡ false) → other ≡ true → one ≡ false
fails-where one other apart is = false_from_ne_true one (λ own. both_ways other (apart own) is)

-- so it is with one element more, where none before it passes if it does
IsOnce-push : {X : Type 0} (test : X → Bool) (xs : List X) (x : X)
    → IsOnce test xs
    → (test x ≡ true → AllByRecursion (λ y. test y ≡ false) xs)
    → IsOnce test (xs ++ x ∷ [])
IsOnce-push test [] x once none = ((λ is. tt), tt)
IsOnce-push test (y ∷ ys) x once none = (
  (λ is. AllByRecursion-append (λ z. test z ≡ false) ys (x ∷ []) (once.0 is)
      (fails-where (test x) (test y) (λ own. (none own).0) is, tt)),
  IsOnce-push test ys x once.1 (λ own. (none own).1),
)

-- what holds of those that pass a test, where nothing is kept of the others
none-kept : {X : Type 0} (test part : X → Bool) (xs : List X)
    → AllByRecursion (λ y. test y ≡ false) xs → AllByRecursion (λ y. test y ≡ false) (filter part xs)
none-kept test part [] none = tt
none-kept test part (x ∷ xs) none =
    elim (cases_Bool (part x)) [
      | inl is ↦ rw is (none.0, none-kept test part xs none.1)
      | inr isnt ↦ rw isnt (none-kept test part xs none.1)
    ]

-- of a part of the elements one at most passes too
pub IsOnce-filter : {X : Type 0} (test part : X → Bool) (xs : List X) → IsOnce test xs → IsOnce test (filter part xs)
IsOnce-filter test part [] once = tt
IsOnce-filter test part (x ∷ xs) once =
    elim (cases_Bool (part x)) [
      | inl is ↦ rw is ((λ own. none-kept test part xs (once.0 own)), IsOnce-filter test part xs once.1)
      | inr isnt ↦ rw isnt (IsOnce-filter test part xs once.1)
    ]

-- and by a test that fewer pass
pub IsOnce-stronger : {X : Type 0} (test fewer : X → Bool) (xs : List X)
    → ((x : X) → fewer x ≡ true → test x ≡ true)
    → IsOnce test xs
    → IsOnce fewer xs
IsOnce-stronger test fewer [] stronger once = tt
IsOnce-stronger test fewer (x ∷ xs) stronger once = (
  (λ is. AllByRecursion-weaker (λ y. test y ≡ false) (λ y. fewer y ≡ false)
      (λ y fails. false_from_ne_true (fewer y) (λ own. both_ways (test y) fails (stronger y own))) xs
      (once.0 (stronger x is))),
  IsOnce-stronger test fewer xs stronger once.1,
)

-- each bid and each cancel is of an accepted message, and no two bids are of one
pub record AreNumbered (h : List Entry) : Type 0 where
  pub bids_used : AllByRecursion (λ (b : Bid). IsUsed h b.submitter b.number) (bids h)
  pub cancels_used : AllByRecursion (λ (c : Cancel). IsUsed h c.submitter c.bid) (cancels h)
  pub once : (s : List ℕ) (n : ℕ) → IsOnce (is_bid s n) (bids h)

-- an accepted cancel finds its bid, which isn't cancelled
pub record FindsBid (found : Option Bid) (cancelled : Bool) : Type 0 where
  pub bid : Bid
  pub is : found ≡ Some bid
  pub still : cancelled ≡ false

-- as its rows say
pub cancel_rows-clear : (a : Option Announcement) (found : Option Bid) (cancelled : Bool) (moment : Moment)
    → AllByRecursion IsClear (cancel_rows a found cancelled moment)
    → FindsBid found cancelled
cancel_rows-clear None found cancelled moment clear = let wrong : true ≡ false = clear.0 in absurd cc
cancel_rows-clear (Some a) None cancelled moment clear = let wrong : true ≡ false = clear.0 in absurd cc
cancel_rows-clear (Some a) (Some bid) cancelled moment clear = record { bid = bid; is = refl; still = clear.0 }

-- what an accepted message cancels is of an accepted message
cancelled_by-used : (h : List Entry) (s : List ℕ) (moment : Moment) (m : Message)
    → AllByRecursion (λ (b : Bid). IsUsed h b.submitter b.number) (bids h)
    → AllByRecursion IsClear (rows_of h s moment m)
    → AllByRecursion (λ (c : Cancel). IsUsed h c.submitter c.bid) (cancelled_by s m)
cancelled_by-used h s moment (message.Cancel auction n) used clear =
    let found =
    cancel_rows-clear (announcement_of (announcements h) auction) (bid_of (bids h) s auction n)
    (is_cancelled (cancels h) s auction n) moment clear in
    let test : Bid → Bool = λ (b : Bid). is_same b.submitter s && is_same b.auction auction && (b.number == n) in
    let passes : test found.bid ≡ true = find_passes test (bids h) found.bid found.is in
    let both = and_parts (is_same found.bid.submitter s && is_same found.bid.auction auction)
    (found.bid.number == n) passes in
    let names = and_parts (is_same found.bid.submitter s) (is_same found.bid.auction auction) both.0 in
    let own : is_bid s n found.bid ≡ true =
    and_from (is_same found.bid.submitter s) (found.bid.number == n) names.0 both.1 in (
      is_bid-used h s n found.bid own
          (found-in (λ (b : Bid). IsUsed h b.submitter b.number) test (bids h) found.bid used found.is),
      tt,
    )
cancelled_by-used h s moment other used clear = tt

-- what an accepted message bids is of that message
bid_by-used : (h : List Entry) (s : List ℕ) (n : ℕ) (m : Message)
    → IsUsed h s n
    → AllByRecursion (λ (b : Bid). IsUsed h b.submitter b.number) (bid_by s n m)
bid_by-used h s n (message.Bid auction bidder rate amount) used = (used, tt)
bid_by-used h s n other used = tt

-- no bid is of a number that isn't used
pub none-of : (h : List Entry) (s : List ℕ) (n : ℕ) (all : List Bid)
    → kept h s n ≡ None
    → AllByRecursion (λ (b : Bid). IsUsed h b.submitter b.number) all
    → AllByRecursion (λ (b : Bid). is_bid s n b ≡ false) all
none-of h s n all none used =
    AllByRecursion-weaker (λ (b : Bid). IsUsed h b.submitter b.number) (λ (b : Bid). is_bid s n b ≡ false)
    (λ b is. false_from_ne_true (is_bid s n b) (λ own. unused h s n none (is_bid-used h s n b own is))) all used

-- a new bid is the only one of its number
once-message : (h : List Entry) (s : List ℕ) (n : ℕ) (m : Message) (name : List ℕ) (number : ℕ)
    → kept h s n ≡ None
    → AllByRecursion (λ (b : Bid). IsUsed h b.submitter b.number) (bids h)
    → IsOnce (is_bid name number) (bids h)
    → IsOnce (is_bid name number) (bids h ++ bid_by s n m)
once-message h s n (message.Bid auction bidder rate amount) name number none used once =
    IsOnce-push (is_bid name number) (bids h)
    (record { submitter = s; number = n; auction = auction; bidder = bidder; rate = rate; amount = amount }) once
    (λ own.
    let both = and_parts (is_same s name) (n == number) own in
    none-of h name number (bids h)
    (subst (λ (x : List ℕ). kept h x number ≡ None) (is_same-equal s name both.0)
    (subst (λ (x : ℕ). kept h s x ≡ None) (eqb-true n number both.1) none)) used)
once-message h s n other name number none used once = rw (append-nil (bids h)) once

-- nothing is bid yet
AreNumbered-nil : AreNumbered []
unfolding bids cancels
AreNumbered-nil = record { bids_used = tt; cancels_used = tt; once = λ s n. tt }

-- and stays so with an accepted entry
AreNumbered-push : (h : List Entry) (e : Entry) → IsLegal h → AreNumbered h → Follows h e → AreNumbered (h ++ e ∷ [])
AreNumbered-push h e legal numbered follows =
    let passed = accepted-passes h e.submitter e.number e.moment e.message follows.accepted in
    let now : List Entry = h ++ e ∷ [] in
    record {
      bids_used = rw (bids-snoc h e)
          (AllByRecursion-append (λ (b : Bid). IsUsed now b.submitter b.number) (bids h)
          (bid_by e.submitter e.number e.message)
          (AllByRecursion-weaker (λ (b : Bid). IsUsed h b.submitter b.number)
          (λ (b : Bid). IsUsed now b.submitter b.number)
          (λ b used. IsUsed-snoc h e b.submitter b.number used) (bids h) numbered.bids_used)
          (bid_by-used now e.submitter e.number e.message (IsUsed-last h e passed.unused)));
      cancels_used = rw (cancels-snoc h e)
          (AllByRecursion-weaker (λ (c : Cancel). IsUsed h c.submitter c.bid)
          (λ (c : Cancel). IsUsed now c.submitter c.bid)
          (λ c used. IsUsed-snoc h e c.submitter c.bid used) (cancels h ++ cancelled_by e.submitter e.message)
          (AllByRecursion-append (λ (c : Cancel). IsUsed h c.submitter c.bid) (cancels h)
          (cancelled_by e.submitter e.message) numbered.cancels_used
          (cancelled_by-used h e.submitter e.moment e.message numbered.bids_used passed.rows)));
      once = λ s n. rw (bids-snoc h e)
          (once-message h e.submitter e.number e.message s n passed.unused numbered.bids_used (numbered.once s n));
    }

-- so it is in every legal history
pub IsLegal-numbered : (h : List Entry) → IsLegal h → AreNumbered h
IsLegal-numbered h legal = by_entries AreNumbered AreNumbered-nil AreNumbered-push h legal

-- an enrolment is of one bidder more, and of few
enrolled-few : (h : List Entry) (s : List ℕ) (moment : Moment) (m : Message)
    → AllByRecursion IsClear (rows_of h s moment m)
    → length (enrolments h) ≤ 16384
    → length (enrolments h) + length (enrolled_by m) ≤ 16384
enrolled-few h s moment (message.Enrol bidder submitter) clear few =
    omega (arith, leb-false 16384 (length (enrolments h)) clear.1.1.1.0)
enrolled-few h s moment other clear few = omega (arith, few)

-- nobody is enrolled yet
few-nil : length (enrolments []) ≤ 16384
unfolding enrolments
few-nil = omega arith

-- there are few bidders in every legal history
pub IsLegal-bidders : (h : List Entry) → IsLegal h → length (enrolments h) ≤ 16384
IsLegal-bidders h legal =
    by_entries (λ h. length (enrolments h) ≤ 16384) few-nil
    (λ h e legal few follows.
    let passed = accepted-passes h e.submitter e.number e.moment e.message follows.accepted in
    rw (enrolments-snoc h e, length-append (enrolments h) (enrolled_by e.message))
    (enrolled-few h e.submitter e.moment e.message passed.rows few))
    h legal
