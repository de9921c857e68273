-- The bytes that wait, as more come.
use Rattle.std.proofs.Common.{◌≡◌, ℕ, ◌+◌, ◌-◌, ◌≤◌, List, length, take, drop, ap, ◌∙◌, arith, length-drop, take_all}
use Rattle.std.specs.List.{copy_within}
use Rattle.std.proofs.lemmas.List.Edits.{take-paste}
use lib.Seq.{paste}

-- bytes whose end was moved to the front, and of which no more was kept
pub front-dropped : (at size : ℕ) (items moved after : List ℕ)
    → at ≤ size
    → size ≡ length items
    → moved ≡ copy_within items at size 0
    → after ≡ take (size - at) moved
    → after ≡ drop at items
front-dropped at size items moved after within long moves takes =
    let back : List ℕ = drop at items in
    let left : ℕ = size - at in
    let rest : length back ≡ left = omega (arith, length-drop at items) in
    let same : left ≡ 0 + left = omega arith in
    takes
    ∙ ap (take left) moves
    ∙ ap (λ k. take k (paste items 0 back left)) same
    ∙ take-paste items 0 back left (omega arith) (omega arith)
    ∙ take_all left back (omega arith)
