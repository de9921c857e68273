-- The bytes that wait, as more of them are read.
use Rattle.std.proofs.Common.{◌≡◌, ℕ, ◌+◌, ◌<◌, ◌≤◌, List, ◌++◌, length, take, drop, ap, sym, ◌∙◌, arith, subst}
use Rattle.std.specs.Prelude.{Option, Some, None}
use Rattle.std.proofs.lemmas.List.{take-append-le, drop-append-le, length-take-le, length-append}
use Rattle.std.proofs.Math.Seq.{take-append-add}
use Rattle.tb_link.specs.Sources.{before_left}

-- behind the bytes that were read before, so many of those that a read gave
pub waiting-more : (at filled count : ℕ) (space into rest : List ℕ)
    → at ≤ filled
    → filled ≤ length space
    → count ≤ length into
    → drop at (take (filled + count) (take filled space ++ (into ++ rest)))
    ≡ drop at (take filled space) ++ take count into
waiting-more at filled count space into rest given held within =
    let front : List ℕ = take filled space in
    let size : length front ≡ filled = length-take-le filled space held in
    let whole : take (filled + count) (front ++ (into ++ rest)) ≡ front ++ take count (into ++ rest) =
    subst (λ (n : ℕ). take (n + count) (front ++ (into ++ rest)) ≡ front ++ take count (into ++ rest)) size
    (take-append-add front (into ++ rest) count) in
    ap (λ (bytes : List ℕ). drop at bytes) (whole ∙ ap (λ (bytes : List ℕ). front ++ bytes)
    (take-append-le count into rest within))
    ∙ drop-append-le at front (take count into) (omega (arith, size))

-- more bytes wait than before
pub longer : (old new into : List ℕ) (count : ℕ)
    → new ≡ old ++ take count into
    → count ≤ length into
    → 0 < count
    → length old < length new
longer old new into count is within some =
    omega (arith, ap length is, length-append old (take count into), length-take-le count into within)

-- a read that gave no byte leaves what was left
pub none-taken : (old new : Option (List ℕ)) (into : List ℕ) (count : ℕ)
    → old ≡ before_left (take count into) new
    → count ≡ 0
    → new ≡ old
none-taken old None into count is none = sym is
none-taken old (Some rest) into count is none =
    sym (is ∙ ap (λ (n : ℕ). Some (take n into ++ rest)) none)
