-- What is kept ahead.
use Rattle.std.proofs.Common.{◌≡◌, ℕ, ◌+◌, ◌≤◌, List, [], ◌∷◌, ◌++◌, length, suc, zero, get_or, refl, ap, sym, ◌∙◌, arith, add-one}
use Rattle.std.specs.Prelude.{Option, Some, None}
use Rattle.std.specs.List.{count_by, filter}
use Rattle.std.specs.Option.{is_some}
use Rattle.std.proofs.lemmas.List.{length-append}
use Rattle.std.proofs.lemmas.List.Sums.{count_by-le-length, length-filter}
use Rattle.std.proofs.lemmas.List.{append-nil}
use Rattle.std.proofs.lemmas.List.Elements.{filter-append}
use Rattle.tb_replica.specs.Window.{shifted}

-- a place more at the end, where nothing is kept, changes nothing
pub get_or-push_none : {T : Type 0} (ahead : List (Option T)) (index : ℕ)
    → get_or (ahead ++ None ∷ []) index None ≡ get_or ahead index None
get_or-push_none [] zero = refl
get_or-push_none [] (suc index) = refl
get_or-push_none (x ∷ ahead) zero = refl
get_or-push_none (x ∷ ahead) (suc index) = get_or-push_none ahead index

get_or-nil : {T : Type 0} (index : ℕ) → get_or {A = Option T} [] index None ≡ None
get_or-nil zero = refl
get_or-nil (suc index) = refl

-- the places but the first
pub get_or-shifted : {T : Type 0} (ahead : List (Option T)) (index : ℕ)
    → get_or (shifted ahead) index None ≡ get_or ahead (index + 1) None
get_or-shifted [] index = get_or-push_none [] index ∙ get_or-nil index ∙ sym (get_or-nil (index + 1))
get_or-shifted (x ∷ ahead) index = rw add-one (get_or-push_none ahead index)

-- there are as many
pub length-shifted : {T : Type 0} (ahead : List (Option T)) → 1 ≤ length ahead → length (shifted ahead) ≡ length ahead
length-shifted [] some = absurd (omega arith)
length-shifted (x ∷ ahead) some = rw (length-append ahead (None ∷ [])) (omega arith)

-- a place more, for which nothing is kept
count-push_none : {T : Type 0} (places : List (Option T))
    → count_by is_some (places ++ None ∷ []) ≡ count_by is_some places
count-push_none {T} places =
    sym (length-filter is_some (places ++ None ∷ []))
    ∙ ap (λ (kept : List (Option T)). length kept)
    (filter-append is_some places (None ∷ []) ∙ append-nil (filter is_some places))
    ∙ length-filter is_some places

-- one fewer is kept once the first is given
pub count-shifted : {T : Type 0} (places : List (Option T)) (kept : T)
    → get_or places 0 None ≡ Some kept
    → count_by is_some (shifted places) + 1 ≡ count_by is_some places
count-shifted [] kept is = cc
count-shifted (None ∷ places) kept is = cc
count-shifted (Some x ∷ places) kept is =
    omega (arith, count-push_none places, length-filter is_some (Some x ∷ places), length-filter is_some places)

-- at most as many as there are places
pub count-most : {T : Type 0} (places : List (Option T)) → count_by is_some places ≤ length places
count-most places = count_by-le-length is_some places
