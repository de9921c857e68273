-- Awards (31 CFR 356.20 and 356.21).
use Rattle.std.specs.Prelude.{◌≡◌, ℕ, ◌+◌, ◌-◌, ◌*◌, ◌^◌, ◌%◌, ◌<◌, ◌≤◌, ◌==◌, if◌then◌else◌, List, [], ◌∷◌, sum_by}
use Rattle.std.specs.List.{AllZip}
use Rattle.tb_units.specs.declared.lines.RateLine.{RateLine}
use Rattle.tb_award.specs.Cuts.{amount_of, at, hundred_percent, par_of, total_of, up_to}
use Rattle.tb_award.specs.declared.outcome.Cut.{Cut}

-- the least multiple of 100 that is at least the percentage, in hundredths of a percent, of what is recognised
pub record IsProrated (percent recognised award : ℕ) : Type 0 where
  pub hundreds : award % 100 ≡ 0
  pub enough : percent * recognised ≤ hundred_percent * award
  pub least : (other : ℕ) → other % 100 ≡ 0 → percent * recognised ≤ hundred_percent * other → award ≤ other

-- all of it under the stop, nothing above it, and the percentage of it at the stop
pub record IsAward (stop percent steps recognised award : ℕ) : Type 0 where
  pub whole : steps < stop → award ≡ recognised
  pub nothing : stop < steps → award ≡ 0
  pub prorated : steps ≡ stop → IsProrated percent recognised award

-- the lines are the awards of the recognised lines, one for one
abbrev pub AreAwards : ℕ → ℕ → List RateLine → List RateLine → Type 0
AreAwards stop percent [] [] = Unit {0}
AreAwards stop percent (line ∷ lines) (award ∷ awards) =
    (award.rate ≡ line.rate) × (award.bidder ≡ line.bidder)
    × IsAward stop percent line.rate.steps line.amount.value award.amount.value
    × AreAwards stop percent lines awards
AreAwards stop percent [] (award ∷ awards) = ⊥
AreAwards stop percent (line ∷ lines) [] = ⊥

-- the sum of a bidder's awards
abbrev pub awarded_to : ℕ → List RateLine → ℕ
awarded_to bidder awards = sum_by (λ award. if award.bidder == bidder then award.amount.value else 0) awards

-- the awards by a cut
abbrev pub AreAwardsOf : Cut → List RateLine → List RateLine → Type 0
AreAwardsOf cut lines awards = AreAwards cut.stop.steps cut.percent.hundredths lines awards

-- the least rate at or below which this part of all awards lies, as 2 for a half of them
pub record IsRateOfPart (parts : ℕ) (awards : List RateLine) (steps : ℕ) : Type 0 where
  pub reached : total_of awards ≤ parts * par_of awards (up_to steps)
  pub least : (other : ℕ) → total_of awards ≤ parts * par_of awards (up_to other) → steps ≤ other

-- the median rate, with half of the awards, and the low rate, with one twentieth (awards as the weight are our choice)
abbrev pub IsMedianRate : List RateLine → ℕ → Type 0
IsMedianRate awards steps = IsRateOfPart 2 awards steps

abbrev pub IsLowRate : List RateLine → ℕ → Type 0
IsLowRate awards steps = IsRateOfPart 20 awards steps

-- how many lines stand at a rate
abbrev pub lines_at : ℕ → List RateLine → ℕ
lines_at steps lines = sum_by (λ line. if line.rate.steps == steps then 1 else 0) lines

-- the awards come to no less than is sought, and to little more: ten-thousandths of what is recognised at the stop, for
-- the percentage, and less than 100 dollars for each line there
pub record AreClose (lines : List RateLine) (sought stop : ℕ) (awards : List RateLine) : Type 0 where
  pub enough : sought ≤ total_of awards
  pub close : hundred_percent * (total_of awards - sought) < par_of lines (at stop) + 10 ^ 6 * lines_at stop lines

-- an amount of whole hundreds
abbrev pub IsInHundreds : RateLine → Type 0
IsInHundreds line = amount_of line % 100 ≡ 0

-- no award is above what is recognised, line by line
abbrev pub AreWithin : List RateLine → List RateLine → Type 0
AreWithin lines awards = AllZip (λ line award. amount_of award ≤ amount_of line) lines awards
