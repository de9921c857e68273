-- Biddings that can be cut, and what is kept of one: its dated terms, a sealed book of its live bids, and positions.
use Rattle.std.specs.Prelude.{◌≡◌, ℕ, ℤ, ◌%◌, ◌<◌, ◌≤◌, ◌==◌, ◌&&◌, Bool, true, nat_lt, Option, Some, None, IfSome, List, length, map, All, IsPermutation}
use Rattle.tb_units.specs.declared.rate.Rate.{Rate}
use Rattle.tb_price.specs.Prices.{HasPrice, has_price}
use Rattle.tb_terms.specs.declared.terms.Terms.{Terms}
use Rattle.tb_book.specs.declared.book_line.BookLine.{BookLine}
use Rattle.tb_history.specs.declared.roster.Enrolment.{Enrolment}
use Rattle.tb_history.specs.declared.bids.Bid.{Bid}
use Rattle.tb_history.specs.Awarded.{Bidding, sought_in}
use Rattle.tb_history.specs.Readings.{AreDistinct, days_of, place_of, positions_of}

-- a bid of an enrolled bidder, for whole hundreds of par, with a price above zero at its rate
pub record IsSoundBid (bidding : Bidding) (bid : Bid) : Type 0 where
  pub known : place_of bidding.enrolled bid.bidder < length bidding.enrolled
  pub some : 0 < bid.amount.value
  pub hundreds : bid.amount.value % 100 ≡ 0
  pub priced : IfSome bid.rate (λ rate. HasPrice rate.steps (days_of bidding.announcement))

-- a bidding that can be cut: no bidder is enrolled twice, whole hundreds are offered, 100 dollars at least are sought,
-- and its bids are sound
pub record IsSound (bidding : Bidding) : Type 0 where
  pub distinct : AreDistinct bidding.enrolled
  pub offering : bidding.announcement.offering.value % 100 ≡ 0
  pub sought : 100 ≤ sought_in bidding
  pub bids : All (IsSoundBid bidding) bidding.live

-- a bid as a line of the book, where a bidder goes by its place in the order of enrolment
abbrev pub book_line_of : List Enrolment → Bid → BookLine
book_line_of enrolled bid =
    record { bidder = place_of enrolled bid.bidder; number = bid.number; rate = bid.rate; amount = bid.amount }

-- the lines of the book are the live bids, in some order
abbrev pub AreBooked : Bidding → List BookLine → Type 0
AreBooked bidding lines = IsPermutation (map (book_line_of bidding.enrolled) bidding.live) lines

-- the terms, the lines of the book and the positions are those of a bidding that can be cut
pub record IsBookOf (bidding : Bidding) (terms : Terms) (lines : List BookLine) (positions : List ℤ) : Type 0 where
  pub sound : IsSound bidding
  pub announced : terms.announcement ≡ bidding.announcement
  pub booked : AreBooked bidding lines
  pub reported : positions ≡ positions_of bidding

-- a rate has a price above zero for so many days
abbrev pub is_priced : ℕ → Option Rate → Bool
is_priced days None = true
is_priced days (Some rate) = has_price rate.steps days

-- a line that may stand in a book of so many bidders for a bill of so many days
abbrev pub is_sound_line : ℕ → ℕ → BookLine → Bool
is_sound_line bidders days line =
    nat_lt line.bidder bidders && nat_lt 0 line.amount.value && (line.amount.value % 100 == 0)
    && is_priced days line.rate
