-- What is announced for a trial, field by field, and that it is in order.
use Rattle.std.proofs.Common.{◌≡◌, Some, None, Result, Ok, Err, refl}
use Rattle.std.specs.Prelude.{IsOk}
use Rattle.std.specs.Result.{result_err}
use Rattle.tb_units.specs.Amounts.{dollars_of}
use Rattle.tb_units.specs.Names.{is_name, name_of}
use Rattle.tb_terms.specs.Faults.{fault_of}
use Rattle.tb_history.specs.Values.{day_of}
use Rattle.tb_history.specs.Readings.{days_of}
use Rattle.tb_trial.specs.Trials.{trial_announcement, trial_name}

-- its name is one
pub trial_name-is : name_of trial_name ≡ Some trial_name
unfolding is_name
trial_name-is = refl

-- it has no fault
pub announcement-in_order : fault_of trial_announcement ≡ None
unfolding trial_announcement dollars_of day_of
announcement-in_order = refl

-- whole hundreds are offered
pub offering-is : trial_announcement.offering.value ≡ 1000000000
unfolding trial_announcement dollars_of
offering-is = refl

-- so much goes to competitive bids at least
pub floor-is : trial_announcement.competitive_floor.value ≡ 1000000
unfolding trial_announcement dollars_of
floor-is = refl

-- the bill has 91 days
pub days-are : days_of trial_announcement ≡ 91
unfolding trial_announcement day_of
days-are = refl

-- what has no error is done
pub ok-result : {T E : Type 0} (result : Result T E) → result_err result ≡ None → IsOk result
ok-result (Ok value) none = refl
ok-result (Err error) none = absurd cc
