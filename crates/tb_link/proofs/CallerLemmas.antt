-- Counts over two calls, one after the other.
use Rattle.std.proofs.Common.{◌≤◌, ℕ, inl, inr, arith}
use Rattle.tb_link.specs.Counts.{last_count, Rose, NeverFalls}

-- a count that falls in neither of two calls doesn't fall in both
pub NeverFalls-trans : (first second third : ℕ)
    → NeverFalls first second
    → NeverFalls second third
    → NeverFalls first third
NeverFalls-trans first second third one two = record {
  never_falls = omega (arith, one.never_falls, two.never_falls);
  bounded = λ low. two.bounded (one.bounded low);
}

-- a count that rose in the second of two calls rose in both
pub Rose-later : (first second third : ℕ) → NeverFalls first second → Rose second third → Rose first third
Rose-later first second third falls (inl more) = inl (omega (arith, falls.never_falls, more))
Rose-later first second third falls (inr last) = inr last

-- a count that rose in the first of two calls rose in both, as far as a count goes
pub Rose-earlier : (first second third : ℕ)
    → Rose first second
    → NeverFalls second third
    → third ≤ last_count
    → Rose first third
Rose-earlier first second third (inl more) falls low = inl (omega (arith, falls.never_falls, more))
Rose-earlier first second third (inr last) falls low = inr (omega (arith, falls.never_falls, last, low))
