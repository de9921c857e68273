-- How the live bids of an auction go with one bid or one cancel more, and how bidders keep their places.
use Rattle.std.proofs.Common.{◌≡◌, ℕ, ◌+◌, ◌==◌, ◌&&◌, ◌||◌, Bool, true, false, not, cond, Option, Some, None, is_some, inl, inr, List, [], ◌∷◌, ◌++◌, map, get_or, append-nil, refl, sym, ap, ap₂, ◌∙◌, subst}
use Rattle.std.specs.Prelude.{IsPermutation}
use Rattle.std.specs.List.{AllByRecursion, filter, find, list_any, position_or_len}
use Rattle.std.proofs.lemmas.Bool.{and_from, and_parts, both_ways, cases_Bool, eq-eqb, eqb-true, false_from_ne_true}
use Rattle.std.proofs.lemmas.List.Elements.{All-filter, filter-append, filter_agree, filter_passes}
use Rattle.std.proofs.lemmas.List.Folds.{list_any-append}
use Rattle.std.proofs.lemmas.List.Sorted.{IsPermutation-cons, IsPermutation-middle, IsPermutation-refl, IsPermutation-trans}
use Rattle.tb_units.proofs.PlaceLemmas.{filter_all, find-filter_all}
use Rattle.tb_message.specs.declared.message.Entry.{Entry}
use Rattle.tb_history.specs.declared.roster.Enrolment.{Enrolment}
use Rattle.tb_history.specs.declared.bids.Bid.{Bid}
use Rattle.tb_history.specs.declared.bids.Cancel.{Cancel}
use Rattle.tb_history.specs.Entries.{is_same}
use Rattle.tb_history.specs.Roster.{announcement_of, announcements, enrolment_of, is_under}
use Rattle.tb_history.specs.LiveBids.{bid_of, bids, cancels, is_cancelled, is_live, live_bids_in}
use Rattle.tb_history.specs.Readings.{place_of}
use Rattle.tb_history.proofs.PartLemmas.{AllByRecursion-filter, AllByRecursion-weaker}
use Rattle.tb_history.proofs.SameLemmas.{is_same-equal}
use Rattle.tb_history.proofs.CreditedLemmas.{flipped}
use Rattle.tb_history.proofs.LegalLemmas.{IsOrderly, IsPlaced}
use Rattle.tb_history.proofs.StableLemmas.{filter-none}
use Rattle.tb_results.specs.Biddings.{book_line_of}
use Rattle.tb_shelving.proofs.NumberLemmas.{IsOnce, IsOnce-filter, IsOnce-stronger, is_bid}

-- what is found keeps its place among more
position-append : {X : Type 0} (test : X → Bool) (xs ys : List X)
    → is_some (find test xs) ≡ true
    → position_or_len test (xs ++ ys) ≡ position_or_len test xs
position-append test [] ys found = absurd cc
position-append test (x ∷ xs) ys found =
    elim (cases_Bool (test x)) [
      | inl is ↦ rw is refl
      | inr isnt ↦ rw isnt (ap (λ n. 1 + n) (position-append test xs ys (rw isnt at found)))
    ]

-- a bidder that is under somebody is enrolled
pub under-some : (submitter : List ℕ) (found : Option Enrolment) → is_under submitter found ≡ true
    → is_some found ≡ true
under-some submitter None under = absurd cc
under-some submitter (Some e) under = refl

-- so the lines of enrolled bidders' bids stay where more are enrolled
pub lines-enrolled : (enrolled more : List Enrolment) (live : List Bid)
    → AllByRecursion (λ (b : Bid). is_some (enrolment_of enrolled b.bidder) ≡ true) live
    → map (book_line_of (enrolled ++ more)) live ≡ map (book_line_of enrolled) live
lines-enrolled enrolled more [] known = refl
lines-enrolled enrolled more (b ∷ live) known =
    let place : place_of (enrolled ++ more) b.bidder ≡ place_of enrolled b.bidder =
    position-append (λ (e : Enrolment). is_same e.bidder b.bidder) enrolled more known.0 in
    ap₂ (λ n lines. (record { bidder = n; number = b.number; rate = b.rate; amount = b.amount }) ∷ lines) place
    (lines-enrolled enrolled more live known.1)

-- what follows for the live bids of an auction from what holds of all bids
pub All-live_with : (P Q : Bid → Type 0) (all : List Bid) (cancelled : List Cancel) (auction : List ℕ)
    → ((b : Bid) → P b → is_same b.auction auction ≡ true → is_live cancelled b ≡ true → Q b)
    → AllByRecursion P all
    → AllByRecursion Q (live_bids_in all cancelled auction)
All-live_with P Q all cancelled auction follows holds =
    let own : Bid → Bool = λ b. is_same b.auction auction in
    let Own : Bid → Type 0 = λ b. is_live cancelled b ≡ true → Q b in
    AllByRecursion-filter Q (is_live cancelled) (filter own all)
    (AllByRecursion-filter Own own all
    (AllByRecursion-weaker P (λ b. own b ≡ true → Own b) (λ b is there live. follows b is there live) all holds))

-- what holds of all bids holds of the live ones of an auction
pub All-live : (P : Bid → Type 0) (all : List Bid) (cancelled : List Cancel) (auction : List ℕ)
    → AllByRecursion P all → AllByRecursion P (live_bids_in all cancelled auction)
All-live P all cancelled auction holds = All-live_with P P all cancelled auction (λ b is there live. is) holds

-- an auction that isn't announced has no bids
pub live-unannounced : (h : List Entry) (auction : List ℕ)
    → IsOrderly h
    → is_some (announcement_of (announcements h) auction) ≡ false
    → live_bids_in (bids h) (cancels h) auction ≡ []
live-unannounced h auction orderly unknown =
    ap (filter (is_live (cancels h)))
    (filter-none (λ (b : Bid). is_same b.auction auction) (bids h)
    (AllByRecursion-weaker (IsPlaced h) (λ (b : Bid). is_same b.auction auction ≡ false)
    (λ b placed. false_from_ne_true (is_same b.auction auction) (λ same.
    both_ways (is_some (announcement_of (announcements h) auction)) unknown
    (subst (λ (x : List ℕ). is_some (announcement_of (announcements h) x) ≡ true)
    (is_same-equal b.auction auction same) placed.0)))
    (bids h) orderly.bidders))

-- one element more that passes, or doesn't
filter-push : {X : Type 0} (test : X → Bool) (xs : List X) (x : X)
    → filter test (xs ++ x ∷ []) ≡ filter test xs ++ cond (test x) (x ∷ []) []
filter-push test xs x = filter-append test xs (x ∷ [])

-- a bid in another auction changes nothing of this one
pub live-other : (all : List Bid) (cancelled : List Cancel) (bid : Bid) (auction : List ℕ)
    → is_same bid.auction auction ≡ false
    → live_bids_in (all ++ bid ∷ []) cancelled auction ≡ live_bids_in all cancelled auction
live-other all cancelled bid auction other =
    let own : Bid → Bool = λ b. is_same b.auction auction in
    ap (filter (is_live cancelled))
    (filter-push own all bid
    ∙ ap (λ b. filter own all ++ cond b (bid ∷ []) []) other
    ∙ append-nil (filter own all))

-- a live bid more
pub live-more : (all : List Bid) (cancelled : List Cancel) (bid : Bid) (auction : List ℕ)
    → is_same bid.auction auction ≡ true
    → is_live cancelled bid ≡ true
    → live_bids_in (all ++ bid ∷ []) cancelled auction ≡ live_bids_in all cancelled auction ++ bid ∷ []
live-more all cancelled bid auction own live =
    let theirs : Bid → Bool = λ b. is_same b.auction auction in
    ap (filter (is_live cancelled))
    (filter-push theirs all bid ∙ ap (λ b. filter theirs all ++ cond b (bid ∷ []) []) own)
    ∙ filter-push (is_live cancelled) (filter theirs all) bid
    ∙ ap (λ b. filter (is_live cancelled) (filter theirs all) ++ cond b (bid ∷ []) []) live

-- the bid is the one that the submitter cancels under the number
abbrev pub is_meant : List ℕ → List ℕ → ℕ → Bid → Bool
is_meant s auction n bid = is_same bid.submitter s && is_same bid.auction auction && (bid.number == n)

-- numbers are the same either way round
eqb_flip : (a b : ℕ) → (a == b) ≡ (b == a)
eqb_flip a b =
    elim (cases_Bool (a == b)) [
      | inl is ↦ is ∙ sym (eq-eqb b a (sym (eqb-true a b is)))
      | inr isnt ↦ isnt ∙ sym (false_from_ne_true (b == a)
          (λ back. both_ways (a == b) isnt (eq-eqb a b (sym (eqb-true b a back)))))
    ]

-- neither of two holds where the first doesn't and the second doesn't
neither : (a b : Bool) → not (a || (b || false)) ≡ (not a && not b)
neither true b = refl
neither false true = refl
neither false false = refl

-- after a cancel that bid is no longer live, and all others are as before
is_live-push : (cancelled : List Cancel) (c : Cancel) (bid : Bid)
    → is_live (cancelled ++ c ∷ []) bid ≡ (is_live cancelled bid && not (is_meant c.submitter c.auction c.bid bid))
is_live-push cancelled c bid =
    let test : Cancel → Bool =
    λ x. is_same x.submitter bid.submitter && is_same x.auction bid.auction && (x.bid == bid.number) in
    let flip : test c ≡ is_meant c.submitter c.auction c.bid bid =
    ap₂ (λ a b. a && b)
    (ap₂ (λ a b. a && b) (flipped c.submitter bid.submitter) (flipped c.auction bid.auction))
    (eqb_flip c.bid bid.number) in
    ap not (list_any-append test cancelled (c ∷ []))
    ∙ neither (list_any test cancelled) (test c)
    ∙ ap (λ b. not (list_any test cancelled) && not b) flip

-- two tests at once, or one after the other
filter-both : {X : Type 0} (one other : X → Bool) (xs : List X)
    → filter (λ x. one x && other x) xs ≡ filter other (filter one xs)
filter-both one other [] = refl
filter-both one other (x ∷ xs) =
    elim (cases_Bool (one x)) [
      | inl is ↦ rw is (ap (λ ys. cond (other x) (x ∷ ys) ys) (filter-both one other xs))
      | inr isnt ↦ rw isnt (filter-both one other xs)
    ]

-- so the live bids are those before but for that bid
pub live-cancel : (all : List Bid) (cancelled : List Cancel) (c : Cancel) (auction : List ℕ)
    → live_bids_in all (cancelled ++ c ∷ []) auction
    ≡ filter (λ (b : Bid). not (is_meant c.submitter c.auction c.bid b)) (live_bids_in all cancelled auction)
live-cancel all cancelled c auction =
    let theirs = filter (λ (b : Bid). is_same b.auction auction) all in
    filter_agree (is_live (cancelled ++ c ∷ []))
    (λ (b : Bid). is_live cancelled b && not (is_meant c.submitter c.auction c.bid b))
    (λ b. is_live-push cancelled c b) theirs
    ∙ filter-both (is_live cancelled) (λ (b : Bid). not (is_meant c.submitter c.auction c.bid b)) theirs

-- a test that fails where one of its parts does
meant-other : (s name : List ℕ) (n : ℕ) (auction : List ℕ) (bid : Bid)
    → is_same name auction ≡ false
    → is_same bid.auction auction ≡ true
    → not (is_meant s name n bid) ≡ true
meant-other s name n auction bid apart own =
    let theirs : is_same bid.auction name ≡ false =
    subst (λ (x : List ℕ). is_same x name ≡ false) (sym (is_same-equal bid.auction auction own))
    (flipped auction name ∙ apart) in
    ap (λ b. not (is_same bid.submitter s && b && (bid.number == n))) theirs
    ∙ never (is_same bid.submitter s) (bid.number == n)
  where
    -- a test with a part that fails fails
    never : (a b : Bool) → not (a && false && b) ≡ true
    never true b = refl
    never false b = refl

-- a cancel in another auction changes nothing of this one
pub live-cancel_other : (all : List Bid) (cancelled : List Cancel) (c : Cancel) (auction : List ℕ)
    → is_same c.auction auction ≡ false
    → live_bids_in all (cancelled ++ c ∷ []) auction ≡ live_bids_in all cancelled auction
live-cancel_other all cancelled c auction apart =
    let own : Bid → Bool = λ b. is_same b.auction auction in
    let P : Bid → Type 0 = λ b. not (is_meant c.submitter c.auction c.bid b) ≡ true in
    live-cancel all cancelled c auction
    ∙ filter_all (λ (b : Bid). not (is_meant c.submitter c.auction c.bid b)) (live_bids_in all cancelled auction)
    (All-filter (is_live cancelled) P (filter own all)
    (λ k d within.
    meant-other c.submitter c.auction c.bid auction (get_or (filter own all) k d) apart
    (filter_passes own all k d within)))

-- all pass where none fails
all-but : {X : Type 0} (test : X → Bool) (xs : List X)
    → AllByRecursion (λ x. test x ≡ false) xs → filter (λ x. not (test x)) xs ≡ xs
all-but test [] none = refl
all-but test (x ∷ xs) none = rw none.0 (ap (λ ys. x ∷ ys) (all-but test xs none.1))

-- where one at most passes, the list has the one that is found, and all others
pub but-one : {X : Type 0} (test : X → Bool) (xs : List X) (x : X)
    → IsOnce test xs
    → find test xs ≡ Some x
    → IsPermutation xs (x ∷ filter (λ y. not (test y)) xs)
but-one test [] x once found = absurd cc
but-one test (y ∷ xs) x once found =
    elim (cases_Bool (test y)) [
      | inl is ↦
          let first : Some y ≡ Some x = rw is at found in
          let same : y ≡ x = cc in
          rw (is, all-but test xs (once.0 is))
          (subst (λ z. IsPermutation (y ∷ xs) (z ∷ xs)) same (IsPermutation-refl (y ∷ xs)))
      | inr isnt ↦
          let rest = filter (λ z. not (test z)) xs in
          rw isnt
          (IsPermutation-trans (y ∷ xs) (y ∷ x ∷ rest) (x ∷ y ∷ rest)
          (IsPermutation-cons y xs (x ∷ rest) (but-one test xs x once.1 (rw isnt at found)))
          (IsPermutation-middle (y ∷ []) x rest))
    ]

-- a bid that is meant and isn't cancelled is live
meant-live : (cancelled : List Cancel) (s auction : List ℕ) (n : ℕ) (bid : Bid)
    → is_cancelled cancelled s auction n ≡ false
    → is_meant s auction n bid ≡ true
    → is_live cancelled bid ≡ true
meant-live cancelled s auction n bid still meant =
    let both = and_parts (is_same bid.submitter s && is_same bid.auction auction) (bid.number == n) meant in
    let names = and_parts (is_same bid.submitter s) (is_same bid.auction auction) both.0 in
    let one : is_cancelled cancelled bid.submitter bid.auction bid.number ≡ is_cancelled cancelled s auction n =
    ap (λ (x : List ℕ). is_cancelled cancelled x bid.auction bid.number) (is_same-equal bid.submitter s names.0)
    ∙ ap (λ (x : List ℕ). is_cancelled cancelled s x bid.number) (is_same-equal bid.auction auction names.1)
    ∙ ap (is_cancelled cancelled s auction) (eqb-true bid.number n both.1) in
    ap not (one ∙ still)

-- whoever is meant is of the auction and of the number
pub meant-parts : (s auction : List ℕ) (n : ℕ) (bid : Bid)
    → is_meant s auction n bid ≡ true
    → (is_same bid.auction auction ≡ true) × (is_bid s n bid ≡ true)
meant-parts s auction n bid meant =
    let both = and_parts (is_same bid.submitter s && is_same bid.auction auction) (bid.number == n) meant in
    let names = and_parts (is_same bid.submitter s) (is_same bid.auction auction) both.0 in
    (names.1, and_from (is_same bid.submitter s) (bid.number == n) names.0 both.1)

-- a bid that is still live after a cancel isn't the one that is meant
pub not_meant : (cancelled : List Cancel) (s auction : List ℕ) (n : ℕ) (bid : Bid)
    → is_live (cancelled ++ (record { submitter = s; auction = auction; bid = n }) ∷ []) bid ≡ true
    → is_same bid.auction auction ≡ true
    → is_bid s n bid ≡ false
not_meant cancelled s auction n bid live own =
    let c : Cancel = record { submitter = s; auction = auction; bid = n } in
    let parts =
    and_parts (is_live cancelled bid) (not (is_meant s auction n bid)) (sym (is_live-push cancelled c bid) ∙ live) in
    false_from_ne_true (is_bid s n bid) (λ is.
    let both = and_parts (is_same bid.submitter s) (bid.number == n) is in
    both_ways (not (is_meant s auction n bid))
    (ap not (and_from (is_same bid.submitter s && is_same bid.auction auction) (bid.number == n)
    (and_from (is_same bid.submitter s) (is_same bid.auction auction) both.0 own) both.1)) parts.1)

-- the live bids of the auction are the one that is cancelled, and those that stay live
pub live-taken : (all : List Bid) (cancelled : List Cancel) (s auction : List ℕ) (n : ℕ) (bid : Bid)
    → bid_of all s auction n ≡ Some bid
    → is_cancelled cancelled s auction n ≡ false
    → IsOnce (is_bid s n) all
    → IsPermutation (live_bids_in all cancelled auction)
    (bid ∷ live_bids_in all (cancelled ++ (record { submitter = s; auction = auction; bid = n }) ∷ []) auction)
live-taken all cancelled s auction n bid found still once =
    let own : Bid → Bool = λ b. is_same b.auction auction in
    let meant = is_meant s auction n in
    let live = live_bids_in all cancelled auction in
    let c : Cancel = record { submitter = s; auction = auction; bid = n } in
    let here : find meant live ≡ Some bid =
    find-filter_all meant (is_live cancelled) (λ b is. meant-live cancelled s auction n b still is) (filter own all)
    ∙ find-filter_all meant own (λ b is. (meant-parts s auction n b is).0) all
    ∙ found in
    let one : IsOnce meant live =
    IsOnce-filter meant (is_live cancelled) (filter own all)
    (IsOnce-filter meant own all
    (IsOnce-stronger (is_bid s n) meant all (λ b is. (meant-parts s auction n b is).1) once)) in
    subst (λ (rest : List Bid). IsPermutation live (bid ∷ rest)) (sym (live-cancel all cancelled c auction))
    (but-one meant live bid one here)
