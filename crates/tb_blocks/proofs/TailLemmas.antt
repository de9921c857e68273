-- Moving the end of one list to another, the last element first.
use Rattle.std.proofs.Common.{◌≡◌, ℕ, ◌+◌, ◌<◌, List, [], ◌∷◌, ◌++◌, length, take, drop, get_or, reverse, ap, sym, ◌∙◌, arith}
use Rattle.std.proofs.lemmas.List.{take_more, take_at, drop_more, get_or-take, length-take-le}
use mathlib.Core.List.{reverse-cons}

-- what the first list keeps
pub tail-kept : {X : Type 0} (old from new : List X) (m : ℕ) (x : X) → m < length old → from ≡ take (m + 1) old
    → new ≡ take m from → new ≡ take m old
tail-kept old from new m x within is rest =
    rest ∙ ap (λ l. take m l) (is ∙ take_more old m x within)
    ∙ take_at (take m old) (get_or old m x ∷ []) m (length-take-le m old (omega arith))

-- what the other list gets, the last element first
pub tail-moved : {X : Type 0} (old from into : List X) (m : ℕ) (x : X) → m < length old → from ≡ take (m + 1) old
    → x ≡ get_or from m x → into ≡ reverse (drop (m + 1) old) → into ++ x ∷ [] ≡ reverse (drop m old)
tail-moved old from into m x within is last moved =
    let x_is : x ≡ get_or old m x = last ∙ ap (λ l. get_or l m x) is ∙ get_or-take (m + 1) old m x (omega arith) in
    let parts : drop m old ≡ x ∷ drop (m + 1) old =
    drop_more old m x within ∙ ap (λ y. y ∷ drop (m + 1) old) (sym x_is) in
    ap (λ l. l ++ x ∷ []) moved ∙ sym (reverse-cons x (drop (m + 1) old)) ∙ ap (λ l. reverse l) (sym parts)
