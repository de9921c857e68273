-- Values are told by their numbers: equal numbers, equal values.
use Rattle.std.specs.Prelude.{◌≡◌, ◌≤◌, ◌^◌}
use Rattle.std.proofs.Math.Bridge.{le_prop}
use mathlib.Core.HLevel.{is_prop→PathP}
use Rattle.tb_units.specs.declared.amount.Dollars.{Dollars}
use Rattle.tb_units.specs.declared.cents.Cents.{Cents}
use Rattle.tb_units.specs.declared.rate.Rate.{Rate}
use Rattle.tb_units.specs.declared.term.Days.{Days}
use Rattle.tb_units.specs.declared.day.Day.{Day}
use Rattle.tb_units.specs.declared.moment.Moment.{Moment}

-- amounts of one number of dollars are one
pub same_dollars : (one other : Dollars) → one.value ≡ other.value → one ≡ other
same_dollars one other same = λ i. record {
  value = same i;
  in_range = is_prop→PathP (λ j. same j ≤ 10 ^ 27) (λ j. le_prop) one.in_range other.in_range i;
}

-- amounts of one number of cents are one
pub same_cents : (one other : Cents) → one.value ≡ other.value → one ≡ other
same_cents one other same = λ i. record {
  value = same i;
  in_range = is_prop→PathP (λ j. same j ≤ 10 ^ 27) (λ j. le_prop) one.in_range other.in_range i;
}

-- rates of one number of steps are one
pub same_rate : (one other : Rate) → one.steps ≡ other.steps → one ≡ other
same_rate one other same = λ i. record {
  steps = same i;
  in_range = is_prop→PathP (λ j. same j ≤ 199999) (λ j. le_prop) one.in_range other.in_range i;
}

-- terms of one number of days are one
pub same_days : (one other : Days) → one.count ≡ other.count → one ≡ other
same_days one other same = λ i. record {
  count = same i;
  above_zero = is_prop→PathP (λ j. 1 ≤ same j) (λ j. le_prop) one.above_zero other.above_zero i;
  in_range = is_prop→PathP (λ j. same j ≤ 366) (λ j. le_prop) one.in_range other.in_range i;
}

-- days of one number are one
pub same_day : (one other : Day) → one.number ≡ other.number → one ≡ other
same_day one other same = λ i. record {
  number = same i;
  not_before = is_prop→PathP (λ j. 10957 ≤ same j) (λ j. le_prop) one.not_before other.not_before i;
  not_after = is_prop→PathP (λ j. same j ≤ 47481) (λ j. le_prop) one.not_after other.not_after i;
}

-- moments of one second are one
pub same_moment : (one other : Moment) → one.seconds ≡ other.seconds → one ≡ other
same_moment one other same = λ i. record {
  seconds = same i;
  not_before = is_prop→PathP (λ j. 946702800 ≤ same j) (λ j. le_prop) one.not_before other.not_before i;
  not_after = is_prop→PathP (λ j. same j ≤ 4102444799) (λ j. le_prop) one.not_after other.not_after i;
}
