-- The cut of an auction (31 CFR 356.20 and 356.21): the stop-out rate (`stop`, printed as `high`), and the percentage
-- of what is recognised at it. `par` gives the par at the rates, in steps, that pass a test.
use Rattle.std.specs.Prelude.{◌≡◌, ℕ, ◌-◌, ◌*◌, ◌^◌, ◌<◌, ◌≤◌, ◌==◌, ◌⊎◌, List, Bool}
use Rattle.std.specs.Prelude.{nat_lt, nat_le, sum_by, if◌then◌else◌}
use Rattle.std.specs.List.Sorted.{IsNonDecreasingBy}
use Rattle.tb_units.specs.declared.lines.RateLine.{RateLine}
use Rattle.tb_price.specs.Prices.{IsPrice}
use Rattle.tb_award.specs.declared.outcome.Cut.{Cut}

-- the most that is recognised in an auction, in whole dollars
abbrev pub most_recognised : ℕ
most_recognised = 10 ^ 22

-- 100.00 percent, in hundredths of a percent
abbrev pub hundred_percent : ℕ
hundred_percent = 10000

-- tests of rates: up to the stop, under it, at it and over it
abbrev pub up_to : ℕ → ℕ → Bool
up_to stop steps = nat_le steps stop

abbrev pub under : ℕ → ℕ → Bool
under stop steps = nat_lt steps stop

abbrev pub at : ℕ → ℕ → Bool
at stop steps = steps == stop

abbrev pub over : ℕ → ℕ → Bool
over stop steps = nat_lt stop steps

-- the bids reach the amount sought: the stop is the least rate at or below which they do, and the percentage, in
-- hundredths of a percent, the least that does at it
pub record Reaches (par : (ℕ → Bool) → ℕ) (sought stop percent : ℕ) : Type 0 where
  pub reached : sought ≤ par (up_to stop)
  pub least : (steps : ℕ) → sought ≤ par (up_to steps) → stop ≤ steps
  pub enough : hundred_percent * (sought - par (under stop)) ≤ percent * par (at stop)
  pub least_percent : (other : ℕ)
      → hundred_percent * (sought - par (under stop)) ≤ other * par (at stop)
      → percent ≤ other

-- the bids fall short: the stop is the greatest rate at which something is recognised, and all is awarded (our choice)
pub record FallsShort (par : (ℕ → Bool) → ℕ) (sought stop percent : ℕ) : Type 0 where
  pub short : (steps : ℕ) → par (up_to steps) < sought
  pub bid : 0 < par (at stop)
  pub greatest : par (over stop) ≡ 0
  pub whole : percent ≡ hundred_percent

-- the stop and the percentage of an auction, where the bids reach the amount sought or fall short of it
abbrev pub IsCut : ((ℕ → Bool) → ℕ) → ℕ → ℕ → ℕ → Type 0
IsCut par sought stop percent = Reaches par sought stop percent ⊎ FallsShort par sought stop percent

-- the par of lines at the rates that pass
abbrev pub par_of : List RateLine → (ℕ → Bool) → ℕ
par_of lines passes = sum_by (λ line. if passes line.rate.steps then line.amount.value else 0) lines

-- a line's amount, and its rate in steps
abbrev pub amount_of : RateLine → ℕ
amount_of line = line.amount.value

abbrev pub steps_of : RateLine → ℕ
steps_of line = line.rate.steps

-- the par of all lines
abbrev pub total_of : List RateLine → ℕ
total_of lines = sum_by amount_of lines

-- in rising order of rate
abbrev pub AreByRate : List RateLine → Type 0
AreByRate lines = IsNonDecreasingBy steps_of lines

-- the figures of the cut of what is recognised, for an amount sought and the days of the bill
pub record IsCutOf (recognised : List RateLine) (sought days : ℕ) (cut : Cut) : Type 0 where
  pub is : IsCut (par_of recognised) sought cut.stop.steps cut.percent.hundredths
  pub price : IsPrice cut.stop.steps days cut.price.millionths
  pub below : cut.below.value ≡ par_of recognised (under cut.stop.steps)
  pub at_stop : cut.at_stop.value ≡ par_of recognised (at cut.stop.steps)
  pub sought_is : cut.sought.value ≡ sought
