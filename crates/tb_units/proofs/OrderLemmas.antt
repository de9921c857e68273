-- What the order of two numbers tells of them.
use Rattle.std.proofs.Common.{◌≡◌, ℕ, ◌<◌, refl, sym, arith}
use Rattle.std.specs.Ordering.{nat_cmp}
use Rattle.std.specs.declared.cmp.Ordering.TheVariants.{Less, Equal, Greater}
use Rattle.std.proofs.lemmas.Cmp.{ranked, by_ranked}

-- of two numbers in the order Less the first is less
pub nat-less : (one other : ℕ) → nat_cmp one other ≡ Less → one < other
nat-less one other is = ranked one other Less (sym is)

-- numbers of which neither is less are equal
pub nat-equal : (one other : ℕ) → nat_cmp one other ≡ Equal → one ≡ other
nat-equal one other is = ranked one other Equal (sym is)

-- and the other way round: a number that is less has the order Less
pub less-nat : (one other : ℕ) → one < other → nat_cmp one other ≡ Less
less-nat one other below =
    by_ranked (one < other) (one ≡ other) (other < one) (nat_cmp one other) (ranked one other (nat_cmp one other) refl)
    (λ is _. is) (λ _ same. absurd (omega (arith, same, below))) (λ _ above. absurd (omega (arith, above, below)))

-- one that is greater has Greater
pub greater-nat : (one other : ℕ) → other < one → nat_cmp one other ≡ Greater
greater-nat one other above =
    by_ranked (one < other) (one ≡ other) (other < one) (nat_cmp one other) (ranked one other (nat_cmp one other) refl)
    (λ _ below. absurd (omega (arith, below, above))) (λ _ same. absurd (omega (arith, same, above))) (λ is _. is)

-- and of equal ones neither is less
pub equal-nat : (one other : ℕ) → one ≡ other → nat_cmp one other ≡ Equal
equal-nat one other same =
    by_ranked (one < other) (one ≡ other) (other < one) (nat_cmp one other) (ranked one other (nat_cmp one other) refl)
    (λ _ below. absurd (omega (arith, same, below))) (λ is _. is) (λ _ above. absurd (omega (arith, same, above)))
