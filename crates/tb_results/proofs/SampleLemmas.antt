-- A book of sound lines is the book of some bidding.
use Rattle.std.proofs.Common.{◌≡◌, ℕ, pos, zero, suc, ◌+◌, ◌%◌, ◌<◌, ◌≤◌, ◌==◌, ◌&&◌, true, nat_lt, Option, Some, None, List, [], ◌∷◌, length, map, get_or, All, refl, sym, ap, ap₂, ◌∙◌, subst, arith}
use Rattle.std.specs.Prelude.{IfSome, IsPermutation, replicate}
use Rattle.std.specs.List.{AllByRecursion}
use Rattle.std.proofs.lemmas.Bool.{and_parts, eqb-true, ltb-true}
use Rattle.std.proofs.lemmas.List.Elements.{All-head, All-tail}
use Rattle.std.proofs.lemmas.List.Sorted.{IsPermutation-refl}
use Rattle.tb_units.specs.declared.rate.Rate.{Rate}
use Rattle.tb_price.specs.Prices.{HasPrice}
use Rattle.tb_price.proofs.PriceLemmas.{HasPrice-test}
use Rattle.tb_terms.specs.declared.terms.Terms.{Terms}
use Rattle.tb_book.specs.declared.book_line.BookLine.{BookLine}
use Rattle.tb_history.specs.declared.roster.Enrolment.{Enrolment}
use Rattle.tb_history.specs.declared.bids.Bid.{Bid}
use Rattle.tb_history.specs.LiveBids.{position_of}
use Rattle.tb_history.specs.Awarded.{Bidding}
use Rattle.tb_history.specs.Readings.{AreDistinct, bidder_at, positions_of}
use Rattle.tb_history.proofs.CloseLemmas.{All-from}
use Rattle.tb_results.proofs.AwardedLemmas.{place_of-at}
use Rattle.tb_results.specs.Biddings.{IsBookOf, IsSoundBid, book_line_of, is_priced, is_sound_line}

-- a bidder of a number
abbrev pub bidder_of : ℕ → Enrolment
bidder_of number = record { bidder = number ∷ []; submitter = [] }

-- so many of them from a number on
abbrev pub numbered : ℕ → ℕ → List Enrolment
numbered from zero = []
numbered from (suc count) = bidder_of from ∷ numbered (from + 1) count

-- there are so many
pub length-numbered : (from count : ℕ) → length (numbered from count) ≡ count
length-numbered from zero = refl
length-numbered from (suc count) = ap suc (length-numbered (from + 1) count)

-- each is at its place
get_or-numbered : (from count k : ℕ) (d : Enrolment) → k < count
    → get_or (numbered from count) k d ≡ bidder_of (from + k)
get_or-numbered from zero k d below = absurd (omega (arith, below))
get_or-numbered from (suc count) zero d below = let same : from ≡ from + 0 = omega arith in ap bidder_of same
get_or-numbered from (suc count) (suc k) d below =
    let same : from + 1 + k ≡ from + suc k = omega arith in
    get_or-numbered (from + 1) count k d (omega (arith, below)) ∙ ap bidder_of same

-- by its name
name-at : (count k : ℕ) (d : Enrolment) → k < count → (get_or (numbered 0 count) k d).bidder ≡ k ∷ []
name-at count k d below =
    let same : 0 + k ≡ k = omega arith in
    ap (λ (e : Enrolment). e.bidder) (get_or-numbered 0 count k d below) ∙ ap (λ (n : ℕ). n ∷ []) same

-- names of numbers are apart
names-apart : (one other : ℕ) → one < other → one ∷ [] ≡ other ∷ [] → ⊥
names-apart one other less same = let equal : one ≡ other = cc in omega (arith, equal, less)

-- nobody is among them twice
pub distinct-numbered : (count : ℕ) → AreDistinct (numbered 0 count)
distinct-numbered count = λ j k d before within same.
    let size = length-numbered 0 count in
    names-apart j k before
    (sym (name-at count j d (omega (arith, before, within, size)))
    ∙ (same ∙ name-at count k d (omega (arith, within, size))))

-- no bidder
abbrev pub nobody : Enrolment
nobody = record { bidder = []; submitter = [] }

-- a line as a bid of the bidder of its number
abbrev pub bid_from : List Enrolment → BookLine → Bid
bid_from enrolled line = record {
  submitter = [];
  number = line.number;
  auction = [];
  bidder = bidder_at enrolled line.bidder nobody;
  rate = line.rate;
  amount = line.amount;
}

-- the line is sound
abbrev pub IsLine : ℕ → ℕ → BookLine → Type 0
IsLine bidders days line = is_sound_line bidders days line ≡ true

-- what a sound line is
pub line-parts : (bidders days : ℕ) (line : BookLine)
    → IsLine bidders days line
    → (line.bidder < bidders) × (0 < line.amount.value) × (line.amount.value % 100 ≡ 0)
    × (is_priced days line.rate ≡ true)
line-parts bidders days line is =
    let known = nat_lt line.bidder bidders in
    let some = nat_lt 0 line.amount.value in
    let hundreds = line.amount.value % 100 == 0 in
    let third = and_parts (known && some && hundreds) (is_priced days line.rate) is in
    let second = and_parts (known && some) hundreds third.0 in
    let first = and_parts known some second.0 in (
      ltb-true line.bidder bidders first.0,
      ltb-true 0 line.amount.value first.1,
      eqb-true (line.amount.value % 100) 0 second.1,
      third.1,
    )

-- the line with a number for its bidder
abbrev with_bidder : BookLine → ℕ → BookLine
with_bidder line bidder = record { bidder = bidder; number = line.number; rate = line.rate; amount = line.amount }

-- the bids of sound lines are booked as these lines
booked-same : (enrolled : List Enrolment) (days : ℕ) (lines : List BookLine)
    → AreDistinct enrolled
    → AllByRecursion (IsLine (length enrolled) days) lines
    → map (book_line_of enrolled) (map (bid_from enrolled) lines) ≡ lines
booked-same enrolled days [] distinct sound = refl
booked-same enrolled days (line ∷ lines) distinct sound =
    let known = (line-parts (length enrolled) days line sound.0).0 in
    ap₂ (λ one rest. one ∷ rest)
    (ap (with_bidder line) (place_of-at enrolled line.bidder nobody distinct known))
    (booked-same enrolled days lines distinct sound.1)

-- a rate with a price has one
price-given : (days : ℕ) (rate : Option Rate)
    → is_priced days rate ≡ true
    → IfSome rate (λ found. HasPrice found.steps days)
price-given days None priced = tt
price-given days (Some rate) priced = HasPrice-test rate.steps days priced

-- the bidding of sound lines, in which nobody reported a position
abbrev pub sample_of : Terms → List BookLine → List Enrolment → Bidding
sample_of terms lines enrolled = record {
  announcement = terms.announcement;
  enrolled = enrolled;
  live = map (bid_from enrolled) lines;
  reported = [];
}

-- its bids are sound
sample-bids : (terms : Terms) (all lines : List BookLine) (enrolled : List Enrolment)
    → AreDistinct enrolled
    → AllByRecursion (IsLine (length enrolled) terms.days.count) lines
    → AllByRecursion (IsSoundBid (sample_of terms all enrolled)) (map (bid_from enrolled) lines)
sample-bids terms all [] enrolled distinct sound = tt
sample-bids terms all (line ∷ lines) enrolled distinct sound =
    (one line sound.0, sample-bids terms all lines enrolled distinct sound.1)
  where
    one : (line : BookLine)
        → IsLine (length enrolled) terms.days.count line
        → IsSoundBid (sample_of terms all enrolled) (bid_from enrolled line)
    one line is =
        let parts = line-parts (length enrolled) terms.days.count line is in
        record {
          known = omega (arith, parts.0, place_of-at enrolled line.bidder nobody distinct parts.0);
          some = parts.1;
          hundreds = parts.2;
          priced = subst (λ (days : ℕ). IfSome line.rate (λ rate. HasPrice rate.steps days)) terms.days_are
              (price-given terms.days.count line.rate parts.3);
        }

-- and nobody has a position
positions-none : (auction : List ℕ) (enrolled : List Enrolment)
    → replicate (length enrolled) (pos 0) ≡ map (λ (e : Enrolment). position_of [] auction e.bidder) enrolled
positions-none auction [] = refl
positions-none auction (e ∷ enrolled) = ap (λ rest. pos 0 ∷ rest) (positions-none auction enrolled)

-- by place or by recursion
by-recursion : {X : Type 0} (P : X → Type 0) (xs : List X) → All P xs → AllByRecursion P xs
by-recursion P [] all = tt
by-recursion P (x ∷ xs) all = (All-head P x xs all, by-recursion P xs (All-tail P x xs all))

-- so the book of such lines is of a bidding
pub IsBookOf-sample : (terms : Terms) (lines : List BookLine) (enrolled : List Enrolment)
    → AreDistinct enrolled
    → terms.announcement.offering.value % 100 ≡ 0
    → 100 ≤ terms.announcement.competitive_floor.value
    → All (IsLine (length enrolled) terms.days.count) lines
    → IsBookOf (sample_of terms lines enrolled) terms lines (replicate (length enrolled) (pos 0))
unfolding positions_of
IsBookOf-sample terms lines enrolled distinct offering floor all =
    let sound = by-recursion (IsLine (length enrolled) terms.days.count) lines all in
    let live = map (bid_from enrolled) lines in
    record {
      sound = record {
        distinct = distinct;
        offering = offering;
        sought = omega (arith, floor);
        bids = All-from (IsSoundBid (sample_of terms lines enrolled)) live
            (sample-bids terms lines lines enrolled distinct sound);
      };
      announced = refl;
      booked = subst (λ (ls : List BookLine). IsPermutation (map (book_line_of enrolled) live) ls)
          (booked-same enrolled terms.days.count lines distinct sound)
          (IsPermutation-refl (map (book_line_of enrolled) live));
      reported = positions-none terms.announcement.auction enrolled;
    }
