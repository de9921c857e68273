-- What the lines of a book say of the bidding that they are the live bids of.
use Rattle.std.proofs.Common.{◌≡◌, ℕ, ◌+◌, ◌%◌, ◌<◌, ◌≤◌, ◌==◌, ◌&&◌, Bool, true, false, cond, Option, Some, None, is_none, List, [], ◌∷◌, ◌++◌, length, map, sum_by, All, refl, sym, ap, ap₂, ◌∙◌, subst, arith}
use Rattle.std.specs.Prelude.{IfSome}
use Rattle.std.specs.List.{flat_map}
use Rattle.std.proofs.lemmas.List.Elements.{All-map}
use Rattle.std.proofs.lemmas.List.Sorted.{All-permutation, sum_by-IsPermutation}
use Rattle.std.proofs.lemmas.List.Sums.{sum_by-cons, sum_by-append}
use Rattle.tb_units.specs.declared.amount.Dollars.{Dollars}
use Rattle.tb_units.specs.declared.rate.Rate.{Rate}
use Rattle.tb_units.specs.declared.lines.RateLine.{RateLine}
use Rattle.tb_units.proofs.SumLemmas.{sum_by-filter}
use Rattle.tb_price.specs.Prices.{HasPrice}
use Rattle.tb_award.specs.Awards.{IsInHundreds}
use Rattle.tb_award.specs.Cuts.{amount_of, total_of}
use Rattle.tb_award.specs.Recognition.{bid_in}
use Rattle.tb_book.specs.declared.book_line.BookLine.{BookLine}
use Rattle.tb_book.specs.Books as books
use Rattle.tb_book.specs.Books.{competitive_at, par_in, rate_line_of, rate_lines}
use Rattle.tb_book.proofs.CallerLemmas.{amounts-rate_lines, bidders-rate_lines, counts_as, rates-rate_lines, sum_by-rate_lines}
use Rattle.tb_history.specs.declared.roster.Enrolment.{Enrolment}
use Rattle.tb_history.specs.declared.bids.Bid.{Bid}
use Rattle.tb_history.specs.LiveBids.{par_of, noncompetitive_in}
use Rattle.tb_history.specs.Awarded.{Bidding}
use Rattle.tb_history.specs.Readings.{days_of, line_of, lines_of, place_of}
use Rattle.tb_results.specs.Biddings.{AreBooked, IsSound, book_line_of}

-- a sum over what a function gives of the elements
pub sum_by-mapped : {X Y : Type 0} (f : Y → ℕ) (g : X → Y) (xs : List X)
    → sum_by f (map g xs) ≡ sum_by (λ x. f (g x)) xs
sum_by-mapped f g [] = refl
sum_by-mapped f g (x ∷ xs) =
    sum_by-cons f (g x) (map g xs)
    ∙ ap (λ n. f (g x) + n) (sum_by-mapped f g xs)
    ∙ sym (sum_by-cons (λ y. f (g y)) x xs)

-- a sum over the lines is one over the live bids
pub sum_by-booked : (f : BookLine → ℕ) (bidding : Bidding) (lines : List BookLine)
    → AreBooked bidding lines
    → sum_by f lines ≡ sum_by (λ (bid : Bid). f (book_line_of bidding.enrolled bid)) bidding.live
sum_by-booked f bidding lines booked =
    sum_by-IsPermutation f (map (book_line_of bidding.enrolled) bidding.live) lines booked
    ∙ sum_by-mapped f (book_line_of bidding.enrolled) bidding.live

-- what holds of the line of each live bid holds of each line
pub All-booked : (P : BookLine → Type 0) (bidding : Bidding) (lines : List BookLine)
    → AreBooked bidding lines
    → All (λ (bid : Bid). P (book_line_of bidding.enrolled bid)) bidding.live
    → All P lines
All-booked P bidding lines booked all =
    All-permutation P (map (book_line_of bidding.enrolled) bidding.live) lines booked
    (All-map P (book_line_of bidding.enrolled) bidding.live all)

-- a bid's line of a rate is that of its line in the book
line_of-booked : (enrolled : List Enrolment) (bid : Bid) (rate : Option Rate)
    → rate_line_of (place_of enrolled bid.bidder) rate bid.amount ≡ line_of enrolled bid rate
line_of-booked enrolled bid None = refl
line_of-booked enrolled bid (Some rate) = refl

-- so are all of them
lines-mapped : (enrolled : List Enrolment) (live : List Bid)
    → rate_lines (map (book_line_of enrolled) live) ≡ flat_map (λ (bid : Bid). line_of enrolled bid bid.rate) live
lines-mapped enrolled [] = refl
lines-mapped enrolled (bid ∷ live) =
    ap₂ (λ one rest. one ++ rest) (line_of-booked enrolled bid bid.rate) (lines-mapped enrolled live)

-- the bidding's lines are the lines of rates of its live bids
pub lines_of-mapped : (bidding : Bidding)
    → rate_lines (map (book_line_of bidding.enrolled) bidding.live) ≡ lines_of bidding
unfolding lines_of
lines_of-mapped bidding = lines-mapped bidding.enrolled bidding.live

-- a sum over the book's lines of rates is one over the bidding's
pub sum_by-lines_of : (f : RateLine → ℕ) (bidding : Bidding) (lines : List BookLine)
    → AreBooked bidding lines
    → sum_by f (rate_lines lines) ≡ sum_by f (lines_of bidding)
sum_by-lines_of f bidding lines booked =
    let mapped = map (book_line_of bidding.enrolled) bidding.live in
    sum_by-rate_lines f lines
    ∙ sum_by-IsPermutation (counts_as f) mapped lines booked
    ∙ sym (sum_by-rate_lines f mapped)
    ∙ ap (sum_by f) (lines_of-mapped bidding)

-- so both bid the same for a bidder at a rate
pub bid_in-booked : (bidding : Bidding) (lines : List BookLine) (bidder steps : ℕ)
    → AreBooked bidding lines
    → bid_in (rate_lines lines) bidder steps ≡ bid_in (lines_of bidding) bidder steps
bid_in-booked bidding lines bidder steps booked =
    sum_by-lines_of (λ (line : RateLine). cond ((line.bidder == bidder) && (line.rate.steps == steps))
    line.amount.value 0)
    bidding lines booked

-- each line of a rate has a known bidder
pub known-booked : (bidding : Bidding) (lines : List BookLine)
    → IsSound bidding
    → AreBooked bidding lines
    → All (λ line. line.bidder < length bidding.enrolled) (rate_lines lines)
known-booked bidding lines sound booked =
    bidders-rate_lines (λ n. n < length bidding.enrolled) lines
    (All-booked (λ (line : BookLine). line.bidder < length bidding.enrolled) bidding lines booked
    (λ k d below. (sound.bids k d below).known))

-- and a price
pub priced-booked : (bidding : Bidding) (lines : List BookLine)
    → IsSound bidding
    → AreBooked bidding lines
    → All (λ line. HasPrice line.rate.steps (days_of bidding.announcement)) (rate_lines lines)
priced-booked bidding lines sound booked =
    rates-rate_lines (λ steps. HasPrice steps (days_of bidding.announcement)) lines
    (All-booked (λ (line : BookLine). IfSome line.rate (λ rate. HasPrice rate.steps (days_of bidding.announcement)))
    bidding lines booked (λ k d below. (sound.bids k d below).priced))

-- the bidding's lines are of whole hundreds
pub hundreds-lines_of : (bidding : Bidding) → IsSound bidding → All IsInHundreds (lines_of bidding)
hundreds-lines_of bidding sound =
    let mapped = map (book_line_of bidding.enrolled) bidding.live in
    subst (λ (ls : List RateLine). All IsInHundreds ls) (lines_of-mapped bidding)
    (amounts-rate_lines (λ n. n % 100 ≡ 0) mapped
    (All-map (λ (line : BookLine). line.amount.value % 100 ≡ 0) (book_line_of bidding.enrolled) bidding.live
    (λ k d below. (sound.bids k d below).hundreds)))

-- the noncompetitive lines are the noncompetitive live bids
pub noncompetitive-booked : (bidding : Bidding) (lines : List BookLine)
    → AreBooked bidding lines
    → books.noncompetitive_in lines ≡ par_of (noncompetitive_in bidding.live)
noncompetitive-booked bidding lines booked =
    sum_by-booked (λ (line : BookLine). cond (is_none line.rate) line.amount.value 0) bidding lines booked
    ∙ sym (sum_by-filter (λ (bid : Bid). bid.amount.value) (λ (bid : Bid). is_none bid.rate) bidding.live)

-- a line counts once: at its rate, or as a noncompetitive one of its bidder
share : (own : Bool) (bidder : ℕ) (rate : Option Rate) (amount : Dollars)
    → sum_by amount_of (rate_line_of bidder rate amount) + cond (own && is_none rate) amount.value 0 ≤ amount.value
share true bidder None amount = omega arith
share false bidder None amount = omega arith
share true bidder (Some rate) amount = omega arith
share false bidder (Some rate) amount = omega arith

-- so the lines of rates and a bidder's noncompetitive ones are within the par of all lines
pub par-shared : (bidder : ℕ) (lines : List BookLine)
    → total_of (rate_lines lines) + books.noncompetitive_of bidder lines ≤ par_in lines
par-shared bidder [] = omega arith
par-shared bidder (line ∷ lines) =
    omega (
      arith,
      sum_by-append amount_of (rate_line_of line.bidder line.rate line.amount) (rate_lines lines),
      sum_by-cons (λ (l : BookLine). cond ((l.bidder == bidder) && is_none l.rate) l.amount.value 0) line lines,
      sum_by-cons (λ (l : BookLine). l.amount.value) line lines,
      share (line.bidder == bidder) line.bidder line.rate line.amount,
      par-shared bidder lines,
    )
