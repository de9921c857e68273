-- Which discounts, in ninths of a millionth, leave a price above zero.
use Rattle.std.proofs.Common.{◌≡◌, ℕ, ◌-◌, ◌*◌, ◌/◌, ◌<◌, true, arith}
use Rattle.std.proofs.lemmas.Bool.Decides.{nat_tests}
use Rattle.tb_price.specs.Prices.{HasPrice, has_price}

-- a price above zero leaves so much of 100
pub HasPrice-below : (steps days : ℕ) → HasPrice steps days → 125 * steps * days < 900000000
HasPrice-below steps days has = omega (arith, has.1, has.2.below_half_more)

-- where so much is left, the nearest price is above zero
pub HasPrice-above : (steps days : ℕ) → 125 * steps * days < 900000000 → HasPrice steps days
HasPrice-above steps days below = (
  (900000004 - 125 * steps * days) / 9,
  omega arith,
  record { below_half_more = omega arith; above_half_less = omega arith },
)

-- where the test holds there is a price
pub HasPrice-test : (steps days : ℕ) → has_price steps days ≡ true → HasPrice steps days
HasPrice-test steps days passes = HasPrice-above steps days (grind (arith, nat_tests))

-- where there is a price the test holds
pub has_price-is : (steps days : ℕ) → HasPrice steps days → has_price steps days ≡ true
has_price-is steps days has = let below = HasPrice-below steps days has in grind (arith, nat_tests)
