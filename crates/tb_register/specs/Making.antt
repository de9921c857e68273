-- The row of an auction, from its results.
use Rattle.std.specs.Prelude.{ℕ, ◌+◌, ◌^◌, ◌≤◌, Option, Some, None}
use Rattle.std.specs.Option.{option_map}
use Rattle.tb_history.specs.declared.readings.Results.{Results}
use Rattle.tb_history.specs.declared.readings.Figures.{Figures}
use Rattle.tb_register.specs.Rows.{Kept, KeptFigures}

-- the sum of all awards, the noncompetitive ones first and the add-on last; without figures nobody got one
abbrev pub awarded : Results → Option Figures → ℕ
awarded results None = 0
awarded results (Some figures) = results.noncompetitive.value + figures.competitive.value + results.addon.value

abbrev pub total_of : Results → ℕ
total_of results = awarded results results.figures

-- what was offered and what was awarded fit a row
pub record FitsRow (results : Results) : Type 0 where
  pub offering : results.terms.offering.value ≤ 10 ^ 17
  pub total : total_of results ≤ 10 ^ 17

abbrev pub figures_of : Figures → KeptFigures
figures_of figures = record {
  high = figures.cut.stop.steps;
  percent = figures.cut.percent.hundredths;
  price = figures.cut.price.millionths;
}

-- what the register has of an auction with these results
abbrev pub row_of : Results → Kept
row_of results = record {
  auction = results.terms.auction;
  cusip = results.terms.cusip.bytes;
  issue = results.terms.issue.number;
  maturity = results.terms.maturity.number;
  offering = results.terms.offering.value;
  total = total_of results;
  figures = option_map figures_of results.figures;
}
