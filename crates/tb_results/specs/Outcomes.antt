-- What becomes of a bidding: what is recognised of it, and where it is cut.
use Rattle.std.specs.Prelude.{◌≡◌, ℕ, ◌+◌, ◌<◌, ◌≤◌, List, [], length, map}
use Rattle.std.specs.List.{filter}
use Rattle.tb_units.specs.declared.lines.RateLine.{RateLine}
use Rattle.tb_award.specs.declared.outcome.Cut.{Cut}
use Rattle.tb_award.specs.declared.outcome.Outcome.{Outcome}
use Rattle.tb_award.specs.declared.outcome.Outcome.TheVariants as outcome
use Rattle.tb_award.specs.Cuts.{IsCutOf, total_of}
use Rattle.tb_award.specs.Awards.{AreAwardsOf, IsLowRate, IsMedianRate, awarded_to}
use Rattle.tb_book.specs.declared.book_line.BookLine.{BookLine}
use Rattle.tb_book.specs.Books.{most_bid, noncompetitive_of, par_in}
use Rattle.tb_history.specs.declared.roster.Enrolment.{Enrolment}
use Rattle.tb_history.specs.declared.readings.Figures.{Figures}
use Rattle.tb_history.specs.Entries.{is_same}
use Rattle.tb_history.specs.Awarded.{Bidding, awarded, sought_in}
use Rattle.tb_history.specs.Readings.{AreRecognisedOf, days_of, has_bid, lines_of}
use Rattle.tb_results.specs.Biddings.{AreBooked, IsSound}

-- nothing is recognised, or it is cut so
abbrev pub IsOutcome : Bidding → List RateLine → Outcome → Type 0
IsOutcome bidding recognised outcome.NoAwards = recognised ≡ []
IsOutcome bidding recognised (outcome.Cut cut) =
    (0 < length recognised) × IsCutOf recognised (sought_in bidding) (days_of bidding.announcement) cut

-- this is recognised of the bids that the book has, and becomes of them
pub record IsCutIn (bidding : Bidding) (lines : List BookLine) (recognised : List RateLine)
    (outcome : Outcome) : Type 0 where
  pub sound : IsSound bidding
  pub booked : AreBooked bidding lines
  pub limited : par_in lines ≤ most_bid
  pub recognition : AreRecognisedOf bidding recognised
  pub within : total_of recognised ≤ total_of (lines_of bidding)
  pub is : IsOutcome bidding recognised outcome

-- the figures of a cut and its awards
pub record AreFiguresOf (cut : Cut) (recognised : List RateLine) (figures : Figures) : Type 0 where
  pub awards : List RateLine
  pub awards_are : AreAwardsOf cut recognised awards
  pub cut_is : figures.cut ≡ cut
  pub competitive : figures.competitive.value ≡ total_of awards
  pub median : IsMedianRate awards figures.median.steps
  pub low : IsLowRate awards figures.low.steps

-- the awards of the lines that are a bidder's come to this sum
pub record AwardsComeTo (cut : Cut) (recognised : List RateLine) (bidder sum : ℕ) : Type 0 where
  pub awards : List RateLine
  pub are : AreAwardsOf cut recognised awards
  pub sum_is : sum ≡ awarded_to bidder awards

-- what some bidders are awarded
abbrev pub awards_of : Bidding → List Enrolment → List ℕ
awards_of bidding bidders = map (λ (e : Enrolment). awarded bidding e.bidder) bidders

-- so much is a number's amount more by its awards
abbrev pub IsRaisedBy : Cut → List RateLine → ℕ → ℕ → ℕ → Type 0
IsRaisedBy cut recognised bidder old new = (sum : ℕ) × AwardsComeTo cut recognised bidder sum × (new ≡ old + sum)

-- a number's amount is its noncompetitive par and its awards
abbrev pub IsAmountOf : Cut → List RateLine → List BookLine → ℕ → ℕ → Type 0
IsAmountOf cut recognised lines bidder amount = IsRaisedBy cut recognised bidder (noncompetitive_of bidder lines) amount

-- these are all bidders, and these the amounts that they are awarded by what becomes of the bidding
pub record AreAwardedIn (bidding : Bidding) (lines : List BookLine) (recognised : List RateLine) (outcome : Outcome)
    (bidders : List Enrolment) (amounts : List ℕ) : Type 0 where
  pub cut : IsCutIn bidding lines recognised outcome
  pub enrolled : bidders ≡ bidding.enrolled
  pub amounts_are : amounts ≡ awards_of bidding bidders

-- of some bidders those of a caller with a live bid, in order
abbrev pub bidders_among : Bidding → List ℕ → List Enrolment → List Enrolment
bidders_among bidding caller enrolled =
    filter (has_bid bidding) (filter (λ (e : Enrolment). is_same e.submitter caller) enrolled)
