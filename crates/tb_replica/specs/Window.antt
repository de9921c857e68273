-- What is kept for a row of places: for each of them something or nothing, in their order.
use Rattle.std.specs.Prelude.{ℕ, List, [], ◌∷◌, ◌++◌, drop, Option, Some, None, slice_index_or, slice_set, if◌then◌else◌}
use Rattle.std.specs.Option.{is_some}

-- what is kept for the first of these places
abbrev pub first : {T : Type 0} → List (Option T) → Option T
first places = slice_index_or places 0 None

-- the same places but the first, and one more behind them
abbrev pub shifted : {T : Type 0} → List (Option T) → List (Option T)
shifted places = drop 1 places ++ None ∷ []

-- it is kept for this one of the places, unless something is kept for it already
abbrev pub keeping : {T : Type 0} → List (Option T) → ℕ → T → List (Option T)
keeping places index kept =
    if is_some (slice_index_or places index None) then places else slice_set places index (Some kept)
