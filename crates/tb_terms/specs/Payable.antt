-- When a bill that matures is paid: on the next business day (31 CFR 356.30).
use Rattle.std.specs.Prelude.{◌≡◌, ℕ, ◌+◌, ◌%◌, ◌<◌, ◌≤◌, List, map, Bool, false, true, not, ◌&&◌, ◌==◌, nat_le}
use Rattle.std.specs.List.{list_any}
use Rattle.tb_units.specs.declared.day.Day.{Day}

-- the numbers of days
abbrev pub numbers_of : List Day → List ℕ
numbers_of days = map (λ (day : Day). day.number) days

-- a Saturday or a Sunday; day 0 was a Thursday
abbrev pub is_weekend : ℕ → Bool
is_weekend day = nat_le 5 ((day + 3) % 7)

-- no Saturday, no Sunday and no holiday
abbrev pub is_business_day : List ℕ → ℕ → Bool
is_business_day holidays day = not (is_weekend day) && not (list_any (λ holiday. holiday == day) holidays)

-- the first business day from maturity on
pub record IsPaymentDate (holidays : List ℕ) (maturity day : ℕ) : Type 0 where
  pub from : maturity ≤ day
  pub business : is_business_day holidays day ≡ true
  pub first : (earlier : ℕ) → maturity ≤ earlier → earlier < day → is_business_day holidays earlier ≡ false

-- the first day from a day on that is no Saturday and no Sunday
pub record IsWeekdayFrom (number day : ℕ) : Type 0 where
  pub from : number ≤ day
  pub near : day ≤ number + 2
  pub weekday : is_weekend day ≡ false
  pub skipped : (earlier : ℕ) → number ≤ earlier → earlier < day → is_weekend earlier ≡ true
