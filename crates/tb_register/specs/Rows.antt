-- Rows of the register, as bytes and numbers.
use Rattle.std.specs.Prelude.{ℕ, List, Option}
use Rattle.std.specs.Option.{option_map}
use Rattle.tb_register.specs.declared.row.RowFigures.{RowFigures}
use Rattle.tb_register.specs.declared.row.Row.{Row}

-- the figures of an auction with awards: steps of the stop-out rate, hundredths of a percent, millionths of the price
pub record KeptFigures : Type 0 where
  pub high : ℕ
  pub percent : ℕ
  pub price : ℕ

-- a row as a table keeps it: the bytes and numbers that tell the row
pub record Kept : Type 0 where
  pub auction : List ℕ
  pub cusip : List ℕ
  pub issue : ℕ
  pub maturity : ℕ
  pub offering : ℕ
  pub total : ℕ
  pub figures : Option KeptFigures

abbrev pub kept_figures : RowFigures → KeptFigures
kept_figures figures = record {
  high = figures.high.steps;
  percent = figures.percent.hundredths;
  price = figures.price.millionths;
}

abbrev pub kept : Row → Kept
kept row = record {
  auction = row.auction;
  cusip = row.cusip.bytes;
  issue = row.issue.number;
  maturity = row.maturity.number;
  offering = row.offering.value;
  total = row.total.value;
  figures = option_map kept_figures row.figures;
}
