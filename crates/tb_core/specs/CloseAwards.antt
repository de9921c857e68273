-- How close the awards come that results tell.
use Rattle.std.specs.Prelude.{◌≡◌, ◌<◌, ◌≤◌, Option, Some, None, List}
use Rattle.tb_units.specs.declared.lines.RateLine.{RateLine}
use Rattle.tb_award.specs.Cuts.{total_of}
use Rattle.tb_award.specs.Awards.{AreAwardsOf, AreClose, AreWithin}
use Rattle.tb_message.specs.declared.message.Entry.{Entry}
use Rattle.tb_message.specs.declared.query.Query.{Query}
use Rattle.tb_message.specs.declared.query.Query.TheVariants as query
use Rattle.tb_history.specs.declared.readings.Figures.{Figures}
use Rattle.tb_history.specs.declared.reading.Reading.{Reading}
use Rattle.tb_history.specs.declared.reading.Reading.TheVariants as reading
use Rattle.tb_history.specs.Awarded.{Bidding, sought_in}
use Rattle.tb_history.specs.Holdings.{bidding_in}
use Rattle.tb_history.specs.Readings.{AreRecognisedOf, OfAnnounced}

-- where the bids reach what is sought, the awards come to no less and to little more; where they fall short, all that
-- is recognised is awarded
pub record HasCloseAwards (bidding : Bidding) (figures : Figures) : Type 0 where
  pub recognised : List RateLine
  pub awards : List RateLine
  pub recognition : AreRecognisedOf bidding recognised
  pub awards_are : AreAwardsOf figures.cut recognised awards
  pub competitive : figures.competitive.value ≡ total_of awards
  pub reached : sought_in bidding ≤ total_of recognised
      → AreClose recognised (sought_in bidding) figures.cut.stop.steps awards
  pub short : total_of recognised < sought_in bidding → awards ≡ recognised
  pub within : AreWithin recognised awards

-- the figures, if there are any
abbrev pub AreCloseFigures : Bidding → Option Figures → Type 0
AreCloseFigures bidding None = Unit {0}
AreCloseFigures bidding (Some figures) = HasCloseAwards bidding figures

-- the reading, if it is of results
abbrev pub IsClose : List Entry → Query → Reading → Type 0
IsClose history (query.Results auction) (reading.Results results) =
    OfAnnounced history auction (λ a. AreCloseFigures (bidding_in history a) results.figures)
IsClose history query reading = Unit {0}
