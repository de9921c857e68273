-- Each figure is one number.
use Rattle.std.proofs.Common.{◌≡◌, ℕ, ◌+◌, ◌-◌, ◌*◌, ◌<◌, ◌≤◌, inl, inr, arith}
use Rattle.std.proofs.Math.Nat.{mul-le-mul, mul-le-mul_left}
use Rattle.std.proofs.lemmas.Bool.{cases_order}
use Rattle.tb_price.specs.Prices.{IsPrice}
use Rattle.tb_price.specs.Payments.{IsPayment}
use Rattle.tb_price.specs.Investments.{grown, IsShortRate, IsLongRate}

-- one number of millionths is nearest to the price
pub IsPrice-one : (steps days one other : ℕ) → IsPrice steps days one → IsPrice steps days other → one ≡ other
IsPrice-one steps days one other here there =
    omega (arith, here.below_half_more, here.above_half_less, there.below_half_more, there.above_half_less)

-- one number of cents is nearest to the payment
pub IsPayment-one : (par millionths one other : ℕ)
    → IsPayment par millionths one
    → IsPayment par millionths other
    → one ≡ other
IsPayment-one par millionths one other here there = omega (arith, here.lower, here.upper, there.lower, there.upper)

-- of two short rates the second is not the higher one
short_rate-no_higher : (millionths days year one other : ℕ)
    → IsShortRate millionths days year one
    → IsShortRate millionths days year other
    → ¬ (one < other)
short_rate-no_higher millionths days year one other here there higher =
    let cost = millionths * days in
    let next : (2 * one + 2) * cost ≤ (2 * other) * cost = mul-le-mul (omega arith) (omega arith) in
    absurd (omega (arith, here.upper, there.lower, next))

-- one number of thousandths is nearest to the rate of a short bill
pub IsShortRate-one : (millionths days year one other : ℕ)
    → IsShortRate millionths days year one
    → IsShortRate millionths days year other
    → one ≡ other
IsShortRate-one millionths days year one other here there = elim (cases_order one other) [
  | inl same ↦ same
  | inr (inl lower) ↦ absurd (short_rate-no_higher millionths days year one other here there lower)
  | inr (inr higher) ↦ absurd (short_rate-no_higher millionths days year other one there here higher)
]

-- at a higher rate more has grown
grown-mono : (millionths days year low high : ℕ)
    → low ≤ high
    → grown millionths days year low ≤ grown millionths days year high
grown-mono millionths days year low high rises =
    let share : (2 * days - year) * low ≤ (2 * days - year) * high = mul-le-mul_left (2 * days - year) rises in
    let at_the_end : millionths * (400000 * year + (2 * days - year) * low) ≤ millionths
    * (400000 * year + (2 * days - year) * high) =
    mul-le-mul_left millionths (omega (arith, share)) in
    mul-le-mul at_the_end (omega arith)

-- of two long rates the second is not the higher one
long_rate-no_higher : (millionths days year one other : ℕ)
    → IsLongRate millionths days year one
    → IsLongRate millionths days year other
    → ¬ (one < other)
long_rate-no_higher millionths days year one other here there higher =
    let before : other ≡ (other - 1) + 1 = omega arith in
    let grows : grown millionths days year (2 * one + 1) ≤ grown millionths days year (2 * (other - 1) + 1) =
    grown-mono millionths days year (2 * one + 1) (2 * (other - 1) + 1) (omega arith) in
    absurd (omega (arith, here.upper, there.lower (other - 1) before, grows))

-- one number of thousandths is nearest to the rate of a long bill
pub IsLongRate-one : (millionths days year one other : ℕ)
    → IsLongRate millionths days year one
    → IsLongRate millionths days year other
    → one ≡ other
IsLongRate-one millionths days year one other here there = elim (cases_order one other) [
  | inl same ↦ same
  | inr (inl lower) ↦ absurd (long_rate-no_higher millionths days year one other here there lower)
  | inr (inr higher) ↦ absurd (long_rate-no_higher millionths days year other one there here higher)
]
