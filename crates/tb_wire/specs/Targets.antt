-- Where a request leads, by its method and its target.
use Rattle.std.specs.Prelude.{ℕ, List, length, drop, ◌==◌, if◌then◌else◌, Option, Some, None, codes}
use Rattle.std.specs.List.{list_any}
use Rattle.std.specs.Option.{option_map}
use Rattle.std.specs.Str.{bytes_eq}
use Rattle.tb_units.specs.Names.{name_of}
use Rattle.tb_terms.specs.declared.cusip.Cusip.{Cusip}
use Rattle.tb_message.specs.declared.query.Query.{Query}
use Rattle.tb_message.specs.declared.query.Query.TheVariants as query
use Rattle.tb_wire.specs.declared.cutting.Target.{Target}
use Rattle.tb_wire.specs.declared.cutting.Target.TheVariants.{Messages, Read, NoRoute, GetOnly, PostOnly}
use Rattle.tb_wire.specs.declared.paths.Route.{Route}
use Rattle.tb_wire.specs.declared.paths.Route.TheVariants as route
use Rattle.tb_wire.specs.Paths.{front_of, route_of}

-- the bill that a path names, by nine bytes
abbrev pub bill_of : List ℕ → Option Cusip
bill_of bytes = if length bytes == 9 then Some (record { bytes = bytes }) else None

-- the query of a route and its parameter, which names an auction or a bill
abbrev pub query_at : Route → List ℕ → Option Query
query_at route.Messages parameter = None
query_at route.Holdings parameter = Some query.Holdings
query_at route.Funds parameter = Some query.Funds
query_at route.Terms parameter = option_map query.Terms (name_of parameter)
query_at route.Results parameter = option_map query.Results (name_of parameter)
query_at route.Awards parameter = option_map query.Awards (name_of parameter)
query_at route.Bids parameter = option_map query.Bids (name_of parameter)
query_at route.Redemption parameter = option_map query.Redemption (bill_of parameter)

-- messages are posted
abbrev pub to_messages : List ℕ → Target
to_messages method = if bytes_eq method (codes "POST") then Messages else PostOnly

-- queries are asked by GET; a parameter that is no name is no path
abbrev pub to_query : List ℕ → Option Query → Target
to_query method None = NoRoute
to_query method (Some asked) = if bytes_eq method (codes "GET") then Read asked else GetOnly

abbrev pub served : Route → List ℕ → List ℕ → Target
served route.Messages method path = to_messages method
served r method path = to_query method (query_at r (drop (length (front_of r)) path))

abbrev pub at_route : Option Route → List ℕ → List ℕ → Target
at_route None method path = NoRoute
at_route (Some r) method path = served r method path

-- where a request leads: a target with a question mark is no path
abbrev pub target_of : List ℕ → List ℕ → Target
target_of method target =
    if list_any (λ byte. byte == 63) target then NoRoute else at_route (route_of target) method target
