-- The order of lines: of rate, and at one rate of the bidder's number.
use Rattle.std.specs.Prelude.{◌≡◌, ◌<◌, ◌≤◌, ◌⊎◌, List}
use Rattle.std.specs.List.{AllPairs}
use Rattle.tb_units.specs.declared.lines.RateLine.{RateLine}

-- the one line stands at a lower rate, or at the same rate with a bidder's number that is no greater
abbrev pub IsNoLater : RateLine → RateLine → Type 0
IsNoLater one other =
    (one.rate.steps < other.rate.steps) ⊎ ((one.rate.steps ≡ other.rate.steps) × (one.bidder ≤ other.bidder))

-- each line stands before those that follow it
abbrev pub AreInOrder : List RateLine → Type 0
AreInOrder lines = AllPairs IsNoLater lines
