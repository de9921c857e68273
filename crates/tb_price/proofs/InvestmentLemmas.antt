-- Sizes of what is compared in the search for an investment rate.
use Rattle.std.proofs.Common.{ℕ, ◌+◌, ◌-◌, ◌*◌, ◌^◌, ◌<◌, ◌≤◌, arith}
use Rattle.std.proofs.Math.Nat.{mul-le-mul}
use Rattle.tb_price.specs.Investments.{grown}

-- a product of three factors is no larger than that of their bounds
product_bound : (a b c p q r : ℕ) → a ≤ p → b ≤ q → c ≤ r → a * b * c ≤ p * q * r
product_bound a b c p q r a_in b_in c_in = mul-le-mul (mul-le-mul a_in b_in) c_in

-- so far as the search goes, what is compared is below 10^34
pub grown_bound : (millionths days year t : ℕ)
    → millionths ≤ 10 ^ 8
    → days ≤ 366
    → year ≤ 366
    → t ≤ 2 ^ 38
    → grown millionths days year t ≤ 10 ^ 35
grown_bound millionths days year t price days_in year_in small =
    let gap : 2 * days - year ≤ 732 = omega arith in
    let share : (2 * days - year) * t ≤ 732 * 2 ^ 38 = mul-le-mul gap small in
    let bound =
    product_bound millionths (400000 * year + (2 * days - year) * t) (400000 + t) (10 ^ 8) (10 ^ 15) (10 ^ 12)
    price (omega arith) (omega arith) in
    omega arith

-- where the search begins, even the lowest price has grown beyond 100
pub grown_at_the_top : (millionths days year : ℕ)
    → 1 ≤ millionths
    → year < 2 * days
    → 365 ≤ year
    → year ≤ 366
    → 16 * 10 ^ 18 * year < grown millionths days year (2 * 2 ^ 36 + 1)
grown_at_the_top millionths days year some long least most =
    let bound =
    product_bound 1 (2 ^ 37) (400000 + (2 * 2 ^ 36 + 1)) millionths
    (400000 * year + (2 * days - year) * (2 * 2 ^ 36 + 1)) (400000 + (2 * 2 ^ 36 + 1)) some (omega arith)
    (omega arith) in
    omega arith
