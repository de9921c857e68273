-- A history of entries of any kind, and the movements that they mean on the entries before them.
use Rattle.std.specs.Prelude.{ℕ, ◌<◌, List, [], ◌∷◌, ◌++◌, Option, length, take, slice_index_or, IfSome, option_to_list}
use Rattle.tb_movements.specs.Movements.{Movement}
use Rattle.tb_movements.specs.Legal.{Passes}

-- the movements of the rest, where these entries stand before it
abbrev pub movements_after : {E : Type 0} → (List E → E → Option Movement) → List E → List E → List Movement
movements_after meaning before [] = []
movements_after meaning before (entry ∷ rest) =
    option_to_list (meaning before entry) ++ movements_after meaning (before ++ entry ∷ []) rest

-- the movements that the entries mean: most entries mean none, and none means more than one
abbrev pub movements_of : {E : Type 0} → (List E → E → Option Movement) → List E → List Movement
movements_of meaning entries = movements_after meaning [] entries

-- what an entry means passes on what the entries before it mean
abbrev pub EachPasses : {E : Type 0} → (List E → E → Option Movement) → List E → Type 0
EachPasses {E} meaning entries =
    (place : ℕ) (d : E) → place < length entries
    → IfSome (meaning (take place entries) (slice_index_or entries place d))
    (Passes (movements_of meaning (take place entries)))
