-- What holds of every line that is read, whoever tells its bytes.
use Rattle.std.specs.Prelude.{ℕ, ◌≤◌, List}
use Rattle.tb_units.specs.declared.lines.RateLine.{RateLine}
use Rattle.tb_price.specs.Prices.{HasPrice}
use Rattle.tb_text_book.specs.BookLines.{IsMultiple, Spells, bid_unit, most_amount, offering_unit}
use Rattle.tb_text_book.specs.declared.book_line.BookLine.{BookLine}
use Rattle.tb_text_book.specs.declared.book_line.Offering.{Offering}

-- some text spells the line
abbrev pub IsLine : BookLine → Type 0
IsLine line = (text : List ℕ) × Spells text line

-- an offering of whole millions with a floor of whole hundreds within it
pub record IsSoundOffering (offering : Offering) : Type 0 where
  pub amount : IsMultiple offering_unit most_amount offering.amount.value
  pub floor : IsMultiple bid_unit offering.amount.value offering.floor.value

-- a competitive bid of at most 10^12 at a rate that has a price
pub record IsSoundLine (days : ℕ) (line : RateLine) : Type 0 where
  pub most : line.amount.value ≤ most_amount
  pub priced : HasPrice line.rate.steps days
