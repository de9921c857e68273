-- Lengths of the year for investment rates.
use Rattle.std.specs.Prelude.{ℕ}
use Rattle.tb_units.specs.declared.year.YearLength.{YearLength}
use Rattle.tb_units.specs.declared.year.YearLength.TheVariants.{Y365, Y366}

-- the days of such a year
abbrev pub days_of_year : YearLength → ℕ
days_of_year Y365 = 365
days_of_year Y366 = 366
