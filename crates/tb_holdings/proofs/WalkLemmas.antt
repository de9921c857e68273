-- Walks over a list: run by run, and from the last element to the first as those that fail a test are taken out.
use Rattle.std.proofs.Common.{◌≡◌, ℕ, ◌+◌, ◌<◌, ◌≤◌, Bool, false, List, ◌∷◌, ◌++◌, length, get_or, take, drop, suc, filter, remove, sum_by, ap, ap₂, sym, ◌∙◌, drop-cons, drop_at, length-append, arith}
use Rattle.std.proofs.Math.Seq.{take-add}
use Rattle.std.proofs.lemmas.Bool.{cond-false}
use Rattle.std.proofs.lemmas.List.{append_assoc, get_or_append_left, get_or-take, length-take-le, take-append-le, take-take}
use Rattle.std.proofs.lemmas.List.Elements.{filter-append}
use Rattle.std.proofs.lemmas.List.Sums.{sum_by-append, sum_by-take-drop}
use Rattle.tb_blocks.specs.Lists.{IsRun}

-- the elements up to the end of a run are those before it and the run
pub take-run : {X : Type 0} (place : ℕ) (xs run : List X)
    → IsRun place xs run
    → take (place + length run) xs ≡ take place xs ++ run
take-run place xs run is = take-add place (length run) xs ∙ ap (λ rest. take place xs ++ rest) (sym is.is)

-- a figure of a list is the sum of its elements' shares
pub record IsSum {X : Type 0} (share : X → ℕ) (figure : List X → ℕ) : Type 0 where
  pub is : (xs : List X) → figure xs ≡ sum_by share xs

-- what a walk counted once it passes a run at the place
pub record IsCounted {X : Type 0} (figure : List X → ℕ) (place : ℕ) (xs run : List X) : Type 0 where
  -- the run's figure is added
  pub more : figure (take (place + length run) xs) ≡ figure (take place xs) + figure run
  -- which makes no more than that of all
  pub part : figure (take (place + length run) xs) ≤ figure xs

-- a sum up to a place and from it on
pub figure-parts : {X : Type 0} (share : X → ℕ) (figure : List X → ℕ) (xs : List X) (place : ℕ)
    → IsSum share figure
    → figure (take place xs) + figure (drop place xs) ≡ figure xs
figure-parts share figure xs place sum =
    omega (
      arith,
      sum.is (take place xs),
      sum.is (drop place xs),
      sum.is xs,
      sum_by-take-drop share xs place,
    )

-- a sum is counted run by run
pub IsCounted-run : {X : Type 0} (share : X → ℕ) (figure : List X → ℕ) (place : ℕ) (xs run : List X)
    → IsSum share figure
    → IsRun place xs run
    → IsCounted figure place xs run
IsCounted-run share figure place xs run sum is = record {
  more = omega (
    arith,
    ap figure (take-run place xs run is),
    sum.is (take place xs ++ run),
    sum.is (take place xs),
    sum.is run,
    sum_by-append share (take place xs) run,
  );
  part = omega (arith, figure-parts share figure xs (place + length run) sum);
}

-- what passes the test up to the end of a run, put behind others
pub filter-run : {X : Type 0} (test : X → Bool) (place : ℕ) (others xs run : List X)
    → IsRun place xs run
    → (others ++ filter test (take place xs)) ++ filter test run ≡ others ++ filter test (take (place + length run) xs)
filter-run test place others xs run is =
    append_assoc others (filter test (take place xs)) (filter test run)
    ∙ ap (λ rest. others ++ rest)
    (sym (ap (filter test) (take-run place xs run is) ∙ filter-append test (take place xs) run))

-- the list once what fails the test is taken out from the place on
abbrev pub kept_from : {X : Type 0} → (X → Bool) → ℕ → List X → List X
kept_from test place xs = take place xs ++ filter test (drop place xs)

-- a walk from the end came down to the place, and took out what fails the test
pub record IsWalked {X : Type 0} (test : X → Bool) (place : ℕ) (xs left : List X) : Type 0 where
  pub is : left ≡ kept_from test place xs
  pub within : place ≤ length xs

-- what stands before the place is left
pub length-walked : {X : Type 0} (test : X → Bool) (place : ℕ) (xs left : List X)
    → IsWalked test place xs left
    → place ≤ length left
length-walked test place xs left walked =
    omega (
      arith,
      ap length walked.is,
      length-take-le place xs walked.within,
      length-append (take place xs) (filter test (drop place xs)),
    )

-- the walk reads the list's own element, the last before the place
walked-read : {X : Type 0} (test : X → Bool) (place after : ℕ) (xs left : List X) (d : X)
    → IsWalked test after xs left
    → after ≡ suc place
    → get_or left place d ≡ get_or xs place d
walked-read test place after xs left d walked next =
    let long = length-take-le after xs walked.within in
    ap (λ ys. get_or ys place d) walked.is
    ∙ (get_or_append_left (take after xs) (filter test (drop after xs)) d place (omega (arith, long, next))
    ∙ get_or-take after xs place d (omega (arith, next)))

-- and where it fails takes it out
pub walked-out : {X : Type 0} (test : X → Bool) (place after : ℕ) (xs left : List X) (d : X)
    → IsWalked test after xs left
    → after ≡ suc place
    → test (get_or left place d) ≡ false
    → remove left place ≡ kept_from test place xs
walked-out {X} test place after xs left d walked next fails =
    let front : List X = take (suc place) xs in
    let back : List X = filter test (drop (suc place) xs) in
    let x : X = get_or xs place d in
    let within : place < length xs = omega (arith, walked.within, next) in
    let long : length front ≡ suc place = length-take-le (suc place) xs (omega (arith, within)) in
    let before : take place (front ++ back) ≡ take place xs =
    take-append-le place front back (omega (arith, long)) ∙ take-take place (suc place) xs (omega arith) in
    let out : test x ≡ false = ap test (sym (walked-read test place after xs left d walked next)) ∙ fails in
    let behind : filter test (drop place xs) ≡ back =
    ap (filter test) (drop-cons xs place d within) ∙ cond-false (test x) (x ∷ back) back out in
    ap (λ ys. remove ys place) (walked.is ∙ ap (λ n. kept_from test n xs) next)
    ∙ ap₂ (λ (ys zs : List X). ys ++ zs) before (drop_at front back (suc place) long ∙ sym behind)
