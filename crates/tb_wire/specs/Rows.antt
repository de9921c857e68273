-- The paths as matchit keeps them, and which row takes a path.
use Rattle.std.specs.Prelude.{ℕ, ◌+◌, ◌-◌, List, [], ◌∷◌, ◌++◌, length, codes, Option, Some, None, Bool, true, false, ◌==◌, ◌&&◌, not, nat_lt, if◌then◌else◌}
use Rattle.std.specs.List.{list_all}
use Rattle.matchit.specs.Rows.{RowsOf, param_token}
use Rattle.matchit.specs.Order.{placed}
use Rattle.matchit.specs.Router.{RouteOf}
use Rattle.matchit.specs.Seek.{has_slash}
use Rattle.tb_wire.specs.declared.paths.Route.{Route}
use Rattle.tb_wire.specs.declared.paths.Route.TheVariants as route
use Rattle.tb_wire.specs.Paths.{front_of}

-- a path with no parameter
abbrev pub plain : Route → List ℕ × RouteOf Route
plain r = (front_of r, record { pattern = front_of r; text = front_of r; names = []; value = r })

-- a path that ends in a parameter of this name, in braces
abbrev pub ending : List ℕ → Route → List ℕ × RouteOf Route
ending name r = (
  front_of r ++ param_token ∷ [],
  record {
    pattern = front_of r ++ param_token ∷ [];
    text = front_of r ++ name;
    names = (length (front_of r) + 1, length (front_of r) + length name - 1) ∷ [];
    value = r;
  },
)

-- the rows, in the order in which they go in
abbrev pub host_rows : RowsOf (RouteOf Route)
host_rows =
    placed (ending (codes "{cusip}") route.Redemption)
    (placed (ending (codes "{auction}") route.Bids)
    (placed (ending (codes "{auction}") route.Awards)
    (placed (ending (codes "{auction}") route.Results)
    (placed (ending (codes "{auction}") route.Terms)
    (placed (plain route.Funds)
    (placed (plain route.Holdings)
    (placed (plain route.Messages) [])))))))

-- the bytes in turn, and a parameter takes what is left, which is not empty and has no slash
unfoldable pub takes : List ℕ → List ℕ → Bool
takes [] [] = true
takes [] (b ∷ path) = false
takes (x ∷ t) [] = false
takes (x ∷ t) (b ∷ path) = if x == param_token then not (has_slash (b ∷ path)) else (x == b && takes t path)

-- the first row that takes the path
unfoldable pub pick : {K : Type 0} → RowsOf K → List ℕ → Option K
pick [] path = None
pick ((t, k) ∷ rest) path = if takes t path then Some k else pick rest path

-- bytes, and a parameter only at the end
abbrev pub is_shaped : List ℕ → Bool
is_shaped [] = true
is_shaped (x ∷ []) = nat_lt x 257
is_shaped (x ∷ y ∷ t) = nat_lt x 256 && is_shaped (y ∷ t)

-- two rows part at a byte, or one ends where the other goes on with a byte
abbrev pub part : List ℕ → List ℕ → Bool
part [] [] = false
part [] (y ∷ t) = not (y == param_token)
part (x ∷ s) [] = not (x == param_token)
part (x ∷ s) (y ∷ t) =
    if x == param_token then false
    else (if y == param_token then false else (if x == y then part s t else true))

unfoldable pub are_clean : {K : Type 0} → RowsOf K → Bool
are_clean [] = true
are_clean ((t, k) ∷ rest) = is_shaped t && (list_all (λ r. part t r.0) rest && are_clean rest)
