-- The row that takes a path is that of its route.
use Rattle.std.proofs.Common.{◌≡◌, ℕ, List, [], ◌∷◌, ◌++◌, length, take, drop, map, suc, Some, true, false, Bool, refl, ap, sym, ◌∙◌, inl, inr, arith}
use Rattle.std.specs.Prelude.{◌==◌, ◌&&◌, not, nat_lt, find, codes}
use Rattle.std.specs.List.{list_all}
use Rattle.std.specs.Option.{option_map}
use Rattle.std.specs.Str.{bytes_eq}
use Rattle.std.proofs.lemmas.Bool.{cases_Bool}
use Rattle.matchit.specs.Rows.{param_token}
use Rattle.matchit.specs.Router.{RouteOf}
use Rattle.tb_wire.specs.declared.paths.Route.{Route}
use Rattle.tb_wire.specs.declared.paths.Route.TheVariants as route
use Rattle.tb_wire.specs.Paths.{front_of, is_parameter, fits_front, fits, routes, route_of}
use Rattle.tb_wire.specs.Rows.{takes, pick, plain, ending, host_rows}
use Rattle.tb_wire.proofs.Picks.{both_true, not_true}

-- bytes with no parameter among them
abbrev are_bytes : List ℕ → Bool
are_bytes text = list_all (λ x. not (x == param_token)) text

-- three tests, in one order of brackets
and_assoc : (a b c : Bool) → (a && b && c) ≡ (a && (b && c))
and_assoc true b c = refl
and_assoc false b c = refl

-- a path with a byte is not empty
is_some_path : (path : List ℕ) → nat_lt 0 (suc (length path)) ≡ true
is_some_path path = grind arith

-- bytes alone take the path that they are
takes_plain : (text path : List ℕ) → are_bytes text ≡ true → takes text path ≡ bytes_eq text path
unfolding takes
takes_plain [] [] h = refl
takes_plain [] (b ∷ path) h = refl
takes_plain (x ∷ text) [] h = refl
takes_plain (x ∷ text) (b ∷ path) h =
    let (first, more) = both_true (not (x == param_token)) (are_bytes text) h in
    rw (not_true (x == param_token) first) (ap (λ (r : Bool). x == b && r) (takes_plain text path more))

-- and bytes before a parameter take what begins with them and goes on with a parameter
takes_front : (front path : List ℕ)
    → are_bytes front ≡ true
    → takes (front ++ param_token ∷ []) path ≡ fits_front front path
unfolding takes
takes_front [] [] h = refl
takes_front [] (b ∷ path) h = rw (is_some_path path) refl
takes_front (x ∷ front) [] h = refl
takes_front (x ∷ front) (b ∷ path) h =
    let (first, more) = both_true (not (x == param_token)) (are_bytes front) h in
    rw (not_true (x == param_token) first)
    (ap (λ (r : Bool). x == b && r) (takes_front front path more)
    ∙ sym (and_assoc (x == b) (bytes_eq front (take (length front) path)) (is_parameter (drop (length front) path))))

-- the row of each route
abbrev row_of : Route → List ℕ × RouteOf Route
row_of route.Messages = plain route.Messages
row_of route.Holdings = plain route.Holdings
row_of route.Funds = plain route.Funds
row_of route.Terms = ending (codes "{auction}") route.Terms
row_of route.Results = ending (codes "{auction}") route.Results
row_of route.Awards = ending (codes "{auction}") route.Awards
row_of route.Bids = ending (codes "{auction}") route.Bids
row_of route.Redemption = ending (codes "{cusip}") route.Redemption

-- the row of a route takes what fits the route
takes-fits : (r : Route) (path : List ℕ) → takes (row_of r).0 path ≡ fits path r
takes-fits route.Messages path = takes_plain (front_of route.Messages) path refl
takes-fits route.Holdings path = takes_plain (front_of route.Holdings) path refl
takes-fits route.Funds path = takes_plain (front_of route.Funds) path refl
takes-fits route.Terms path = takes_front (front_of route.Terms) path refl
takes-fits route.Results path = takes_front (front_of route.Results) path refl
takes-fits route.Awards path = takes_front (front_of route.Awards) path refl
takes-fits route.Bids path = takes_front (front_of route.Bids) path refl
takes-fits route.Redemption path = takes_front (front_of route.Redemption) path refl

-- and has the route as its value
value_is : (r : Route) → (row_of r).1.value ≡ r
value_is route.Messages = refl
value_is route.Holdings = refl
value_is route.Funds = refl
value_is route.Terms = refl
value_is route.Results = refl
value_is route.Awards = refl
value_is route.Bids = refl
value_is route.Redemption = refl

-- the first row that takes the path is that of the first route that it fits
picks : (rs : List Route) (path : List ℕ)
    → option_map (λ row. row.value) (pick (map row_of rs) path) ≡ find (fits path) rs
unfolding pick
picks [] path = refl
picks (r ∷ rs) path = elim (cases_Bool (fits path r)) [
  | inl e ↦ rw (takes-fits r path, e) (ap Some (value_is r))
  | inr e ↦ rw (takes-fits r path, e) (picks rs path)
]

-- so the row that takes a path leads to its route
pub picks-route : (path : List ℕ) → option_map (λ row. row.value) (pick host_rows path) ≡ route_of path
picks-route path = picks routes path
