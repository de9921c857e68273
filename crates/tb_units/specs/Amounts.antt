-- The amounts of a number of dollars and of a number of cents.
use Rattle.std.specs.Prelude.{◌≡◌, ℕ, ◌≤◌, ◌^◌, min}
use Rattle.std.proofs.Common.{arith}
use Rattle.tb_units.specs.declared.amount.Dollars.{Dollars}
use Rattle.tb_units.specs.declared.cents.Cents.{Cents}
use Rattle.tb_units.specs.Same.{same_dollars, same_cents}

-- a number of dollars that is kept in the range of amounts is in it
pub within_dollars : (value : ℕ) → min value (10 ^ 27) ≤ 10 ^ 27
within_dollars value = omega arith

-- the amount of so many dollars; a number above the range is taken to its end
unfoldable pub dollars_of : ℕ → Dollars
dollars_of value = record { value = min value (10 ^ 27); in_range = within_dollars value }

-- an amount's dollars are in the range
value_of-within : (amount : Dollars) → min amount.value (10 ^ 27) ≡ amount.value
value_of-within amount = omega (arith, amount.in_range)

-- the amount of an amount's dollars is that amount
pub dollars_of-value : (amount : Dollars) → dollars_of amount.value ≡ amount
unfolding dollars_of
dollars_of-value amount = same_dollars (dollars_of amount.value) amount (value_of-within amount)

-- the amount of so many cents; a number above the range is taken to its end
unfoldable pub cents_of : ℕ → Cents
cents_of value = record { value = min value (10 ^ 27); in_range = within_dollars value }

-- an amount's cents are in the range
cents-within : (amount : Cents) → min amount.value (10 ^ 27) ≡ amount.value
cents-within amount = omega (arith, amount.in_range)

-- the amount of an amount's cents is that amount
pub cents_of-value : (amount : Cents) → cents_of amount.value ≡ amount
unfolding cents_of
cents_of-value amount = same_cents (cents_of amount.value) amount (cents-within amount)
