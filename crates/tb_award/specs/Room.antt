-- What a contract sees of recognised lines.
use Rattle.std.specs.Prelude.{ℕ, ◌≤◌, List}
use Rattle.tb_units.specs.declared.lines.RateLine.{RateLine}

-- the lines, and how many lines and bidders there is room for
pub record Recognition : Type 0 where
  pub lines : List RateLine
  pub line_room : ℕ
  pub bidder_room : ℕ

-- at least the room that was there is left
pub record KeepsRoom (old new : Recognition) : Type 0 where
  pub line_room : old.line_room ≤ new.line_room
  pub bidder_room : old.bidder_room ≤ new.bidder_room
