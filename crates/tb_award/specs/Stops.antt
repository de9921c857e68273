-- Words of private contracts: where the code finds the stop and the percentage. No promise speaks of them.
use Rattle.std.specs.Prelude.{◌≡◌, ℕ, suc, ◌+◌, ◌*◌, ◌<◌, ◌≤◌, ◌⊎◌, Bool, List}
use Rattle.std.specs.Prelude.{All, filter, length, take, slice_index_or}
use Rattle.std.specs.declared.cmp.Ordering.{Ordering}
use Rattle.std.specs.declared.cmp.Ordering.TheVariants.{Less, Equal, Greater}
use Rattle.tb_units.specs.declared.lines.RateLine.{RateLine}
use Rattle.tb_award.specs.Awards.{AreAwardsOf}
use Rattle.tb_award.specs.Cuts.{AreByRate, amount_of, at, hundred_percent, most_recognised}
use Rattle.tb_award.specs.Cuts.{over, steps_of, total_of, under}
use Rattle.tb_award.specs.declared.outcome.Cut.{Cut}

-- the rates on one side of a stop, or at it
abbrev pub on_side : Ordering → ℕ → ℕ → Bool
on_side Less = under
on_side Equal = at
on_side Greater = over

-- the amounts of the lines there, added up
abbrev pub par_on : Ordering → ℕ → List RateLine → ℕ
par_on side stop lines = total_of (filter (λ line. on_side side stop (steps_of line)) lines)

-- lines of which there may be a cut
pub record AreCuttable (lines : List RateLine) : Type 0 where
  pub order : AreByRate lines
  pub amounts : All (λ line. 1 ≤ amount_of line) lines
  pub some : 0 < length lines
  pub fits : total_of lines ≤ most_recognised

-- the stop is the rate of the line with which the amounts, added up in order, reach the amount sought, or that of the
-- last line
pub record IsStop (lines : List RateLine) (sought stop : ℕ) : Type 0 where
  pub place : ℕ
  pub within : place < length lines
  pub rate : (d : RateLine) → steps_of (slice_index_or lines place d) ≡ stop
  pub before : total_of (take place lines) < sought
  pub reached : (sought ≤ total_of (take (place + 1) lines)) ⊎ (suc place ≡ length lines)

-- the least percentage of what is recognised at the stop that reaches what is missing, and 100.00 where all of it
-- doesn't
pub record IsPercentage (missing at_stop percent : ℕ) : Type 0 where
  pub enough : missing ≤ at_stop → hundred_percent * missing ≤ percent * at_stop
  pub least : missing ≤ at_stop → (other : ℕ) → hundred_percent * missing ≤ other * at_stop → percent ≤ other
  pub short : at_stop < missing → percent ≡ hundred_percent

-- the awards of the lines come to a sum
abbrev pub AwardsSumTo : Cut → List RateLine → ℕ → Type 0
AwardsSumTo cut lines sum = (awards : List RateLine) × AreAwardsOf cut lines awards × (sum ≡ total_of awards)
