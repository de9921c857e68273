-- What is recognised of competitive bids (31 CFR 356.12 and 356.22; in which way and order the limit is applied is our
-- choice).
use Rattle.std.specs.Prelude.{◌≡◌, ℕ, zero, suc, ℤ, pos, ◌+◌, ◌-◌, ◌<◌, ◌==◌, ◌⊎◌, ◌&&◌, if◌then◌else◌}
use Rattle.std.specs.Prelude.{List, length, slice_index_or, All, min, sum_by}
use Rattle.std.specs.List.{AllPairs}
use Rattle.tb_units.specs.declared.lines.RateLine.{RateLine}
use Rattle.tb_award.specs.Limits.{cap_of, limit_of}

-- what the lines bid for a bidder at a rate, in steps
abbrev pub bid_in : List RateLine → ℕ → ℕ → ℕ
bid_in lines bidder steps =
    sum_by (λ line. if (line.bidder == bidder) && (line.rate.steps == steps) then line.amount.value else 0) lines

-- the sum of the numbers that a function has below a bound
abbrev pub sum_under : (ℕ → ℕ) → ℕ → ℕ
sum_under f zero = 0
sum_under f (suc n) = sum_under f n + f n

-- the bids of one bidder at one rate are added together and cut to the cap
abbrev pub capped : (ℕ → ℕ) → ℕ → ℕ → ℕ
capped bids cap steps = min (bids steps) cap

-- what the bidder's limit lets through of its capped bids at the rates under this one
abbrev pub let_through : (ℕ → ℕ) → ℕ → ℕ → ℕ → ℕ
let_through bids cap limit steps = min limit (sum_under (capped bids cap) steps)

-- the limit is applied from the lowest rate upward: recognised at a rate is what it lets through with the bids at that
-- rate, less what it lets through without them
abbrev pub recognised_at : (ℕ → ℕ) → ℕ → ℕ → ℕ → ℕ
recognised_at bids cap limit steps = let_through bids cap limit (suc steps) - let_through bids cap limit steps

-- the line is what is recognised of its bidder at its rate, and that is something
pub record IsRecognised (bids : ℕ → ℕ → ℕ) (cap : ℕ) (limits : ℕ → ℕ) (bidders : ℕ) (line : RateLine) : Type 0 where
  pub known : line.bidder < bidders
  pub some : 0 < line.amount.value
  pub amount : line.amount.value ≡ recognised_at (bids line.bidder) cap (limits line.bidder) line.rate.steps

-- at a lower rate, or at the same rate with a smaller bidder's number
abbrev pub IsEarlier : RateLine → RateLine → Type 0
IsEarlier one other =
    (one.rate.steps < other.rate.steps) ⊎ ((one.rate.steps ≡ other.rate.steps) × (one.bidder < other.bidder))

-- a line of the bidder at the rate is there
abbrev pub HasLineOf : ℕ → ℕ → List RateLine → Type 0
HasLineOf bidder steps lines =
    (place : ℕ) × (place < length lines)
    × ((d : RateLine)
    → ((slice_index_or lines place d).bidder ≡ bidder) × ((slice_index_or lines place d).rate.steps ≡ steps))

-- the lines are all that is recognised of so many bidders, in order
pub record AreRecognised (bids : ℕ → ℕ → ℕ) (cap : ℕ) (limits : ℕ → ℕ) (bidders : ℕ)
    (lines : List RateLine) : Type 0 where
  pub order : AllPairs IsEarlier lines
  pub each : All (IsRecognised bids cap limits bidders) lines
  pub all : (bidder steps : ℕ)
      → bidder < bidders
      → 0 < recognised_at (bids bidder) cap (limits bidder) steps
      → HasLineOf bidder steps lines

-- the limit of each bidder by its position
abbrev pub limits_by : ℕ → List ℤ → ℕ → ℕ
limits_by offering positions bidder = limit_of offering (slice_index_or positions bidder (pos 0))

-- what is recognised of lines of bids, where each bidder has a position
abbrev pub IsRecognitionOf : List RateLine → List ℤ → ℕ → List RateLine → Type 0
IsRecognitionOf lines positions offering recognised =
    AreRecognised (bid_in lines) (cap_of offering) (limits_by offering positions) (length positions) recognised

-- the sum of what is recognised of a bidder
abbrev pub recognised_of : ℕ → List RateLine → ℕ
recognised_of bidder lines = sum_by (λ line. if line.bidder == bidder then line.amount.value else 0) lines
