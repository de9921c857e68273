-- Shares that are split.
use Rattle.std.proofs.Common.{◌≡◌, ℕ, zero, suc, ◌-◌, ◌*◌, ◌/◌, ◌^◌, ◌<◌, ◌≤◌, ap, ◌∙◌, arith}

-- the next power of two is twice as much
power-more : (k : ℕ) → 2 ^ (suc k) ≡ 2 * 2 ^ k
power-more k = grind arith

-- a power of two is at least one
power-some : (k : ℕ) → 1 ≤ 2 ^ k
power-some zero = omega arith
power-some (suc k) = let some = power-some k in let more = power-more k in omega arith

-- a share that is enough for one gate more can be split, and what is left is enough for the others
pub two-left : (n k share : ℕ) → n ≡ suc k → 2 ^ n < 2 * share → (2 ≤ share) × (2 ^ k < 2 * (share - share / 2))
two-left n k share is enough =
    let power : 2 ^ n ≡ 2 * 2 ^ k = ap (λ (m : ℕ). 2 ^ m) is ∙ power-more k in
    let some = power-some k in
    (omega (arith, power, some, enough), omega (arith, power, enough))

-- powers of two rise with their exponents
power-rises : (k n : ℕ) → k ≤ n → 2 ^ k ≤ 2 ^ n
power-rises zero n less = power-some n
power-rises (suc k) zero less = absurd (let bad : ⊥ = omega arith in bad)
power-rises (suc k) (suc n) less =
    let rises = power-rises k n (omega arith) in
    let one = power-more k in
    let other = power-more n in
    omega arith

-- the whole share is enough for 64 gates
pub whole-enough : (n share : ℕ) → n ≤ 64 → share ≡ 2 ^ 64 - 1 → 2 ^ n < 2 * share
whole-enough n share few is = omega (arith, power-rises n 64 few, is)
