-- The paths that are served (our choice).
use Rattle.std.specs.Prelude.{ℕ, List, [], ◌∷◌, length, take, drop, Bool, true, false, ◌&&◌, not, nat_lt, if◌then◌else◌, Option, find, codes}
use Rattle.std.specs.Str.{bytes_eq}
use Rattle.matchit.specs.Seek.{has_slash}
use Rattle.tb_wire.specs.declared.paths.Route.{Route}
use Rattle.tb_wire.specs.declared.paths.Route.TheVariants as route

-- the row of a route: what stands in front, and whether a parameter stands behind
abbrev pub path_of : Route → List ℕ × Bool
path_of route.Messages = (codes "/messages", false)
path_of route.Holdings = (codes "/holdings", false)
path_of route.Funds = (codes "/funds", false)
path_of route.Terms = (codes "/terms/", true)
path_of route.Results = (codes "/results/", true)
path_of route.Awards = (codes "/awards/", true)
path_of route.Bids = (codes "/bids/", true)
path_of route.Redemption = (codes "/redemption/", true)

abbrev pub front_of : Route → List ℕ
front_of r = (path_of r).0

abbrev pub has_parameter : Route → Bool
has_parameter r = (path_of r).1

abbrev pub routes : List Route
routes =
    route.Awards ∷ route.Bids ∷ route.Funds ∷ route.Holdings ∷ route.Messages ∷ route.Redemption ∷ route.Results
    ∷ route.Terms ∷ []

-- a parameter is what is left of the path: not nothing, and without a slash
abbrev pub is_parameter : List ℕ → Bool
is_parameter rest = nat_lt 0 (length rest) && not (has_slash rest)

abbrev pub fits_front : List ℕ → List ℕ → Bool
fits_front front path = bytes_eq front (take (length front) path) && is_parameter (drop (length front) path)

-- the path is of this row
abbrev pub fits : List ℕ → Route → Bool
fits path r = if has_parameter r then fits_front (front_of r) path else bytes_eq (front_of r) path

-- what a path leads to; no other path is served
abbrev pub route_of : List ℕ → Option Route
route_of path = find (fits path) routes
