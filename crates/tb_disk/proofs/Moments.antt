-- How a run of steps goes on: what crashes at its moments might have left.
use Rattle.std.proofs.Common.{◌≤◌, inl, inr, ⊎_elim, ℕ, ◌+◌, List, arith}
use Rattle.tb_disk.specs.Steps.{Step}
use Rattle.tb_disk.specs.Past.{Past, Began, Then, MayLeave, moment_of, LeftSince, Leaves}

-- there is no moment but those up to now
pub LeftSince-bound : (t : ℕ) (past : Past) (c : List ℕ) → LeftSince t past c → t ≤ moment_of past
LeftSince-bound t (Began first) c left = left.0
LeftSince-bound t (Then step older) c (inl now) = now.0
LeftSince-bound t (Then step older) c (inr left) = omega (arith, LeftSince-bound t older c left)

-- since now there is only now
pub LeftSince-now : (past : Past) (c : List ℕ) → LeftSince (moment_of past) past c → MayLeave past c
LeftSince-now (Began first) c left = left.1
LeftSince-now (Then step older) c (inl now) = now.1
LeftSince-now (Then step older) c (inr left) = absurd (let e = LeftSince-bound (moment_of older + 1) older c left in
    omega (arith, e))

-- now is one of the moments since an earlier one
pub LeftSince-counts_now : (t : ℕ) (past : Past) (c : List ℕ) → t ≤ moment_of past → MayLeave past c
    → LeftSince t past c
LeftSince-counts_now t (Began first) c le now = (le, now)
LeftSince-counts_now t (Then step older) c le now = inl (le, now)

-- no step yet
pub Leaves-start : (P : List ℕ → Type 0) (past : Past) → ((c : List ℕ) → MayLeave past c → P c) → Leaves P past past
Leaves-start P past here = record {
  later = omega arith;
  each = λ c left. here c (LeftSince-now past c left);
  earlier = λ t c le left. inl left;
}

-- one step more
pub Leaves-step : (P : List ℕ → Type 0) (before mid : Past) (step : Step) → Leaves P before mid
    → ((c : List ℕ) → MayLeave (Then step mid) c → P c) → Leaves P before (Then step mid)
Leaves-step P before mid step so_far here = record {
  later = omega (arith, so_far.later);
  each = λ c left. ⊎_elim (λ now. here c now.1) (so_far.each c) left;
  earlier = λ t c le left. ⊎_elim (λ now. inr (here c now.1)) (so_far.earlier t c le) left;
}

-- one run of steps after another
pub Leaves-both : (P : List ℕ → Type 0) (before mid now : Past) → Leaves P before mid → Leaves P mid now
    → Leaves P before now
Leaves-both P before mid now a b = record {
  later = omega (arith, a.later, b.later);
  each = λ c left. ⊎_elim (a.each c) (λ p. p) (b.earlier (moment_of before) c a.later left);
  earlier = λ t c le left. ⊎_elim (a.earlier t c le) (λ p. inr p) (b.earlier t c (omega (arith, le, a.later)) left);
}

-- what leaves less leaves no more
pub Leaves-weaker : (P Q : List ℕ → Type 0) (before now : Past) → ((c : List ℕ) → P c → Q c) → Leaves P before now
    → Leaves Q before now
Leaves-weaker P Q before now f a = record {
  later = a.later;
  each = λ c left. f c (a.each c left);
  earlier = λ t c le left. ⊎_elim (λ before. inl before) (λ p. inr (f c p)) (a.earlier t c le left);
}
