-- Words of private contracts: one pass over lines in order, what is recognised so far, and the bid that is being read.
-- No promise speaks of them.
use Rattle.std.specs.Prelude.{◌≡◌, ℕ, ℤ, ◌<◌, ◌≤◌, ◌==◌, if◌then◌else◌, List, []}
use Rattle.std.specs.Prelude.{◌∷◌, ◌++◌, length, slice_index, All, min}
use Rattle.tb_units.specs.declared.lines.RateLine.{RateLine}
use Rattle.tb_award.specs.Cuts.{total_of}
use Rattle.tb_award.specs.Limits.{cap_of}
use Rattle.tb_award.specs.Recognition.{bid_in, let_through, limits_by, recognised_at, AreRecognised, IsEarlier}

-- within what is recognised: the cap, the limit of each bidder, and how many bidders there are
pub record Bounds : Type 0 where
  pub cap : ℕ
  pub limits : ℕ → ℕ
  pub bidders : ℕ

-- those of an offering and of reported positions
abbrev pub bounds_of : List ℤ → ℕ → Bounds
bounds_of positions offering =
    record { cap = cap_of offering; limits = limits_by offering positions; bidders = length positions }

-- what is recognised of a bidder's lines at a rate, and what its limit lets through of them under a rate
abbrev pub recognised_in : List RateLine → Bounds → ℕ → ℕ → ℕ
recognised_in lines bounds bidder steps = recognised_at (bid_in lines bidder) bounds.cap (bounds.limits bidder) steps

abbrev pub through_in : List RateLine → Bounds → ℕ → ℕ → ℕ
through_in lines bounds bidder steps = let_through (bid_in lines bidder) bounds.cap (bounds.limits bidder) steps

-- the lines so far are settled: what is recognised of them, and how much of each bidder's limit they have taken
pub record AreSettled (lines : List RateLine) (bounds : Bounds) (recognised : List RateLine)
    (taken : List ℕ) : Type 0 where
  pub are : AreRecognised (bid_in lines) bounds.cap bounds.limits bounds.bidders recognised
  pub size : length taken ≡ bounds.bidders
  pub sums : (bidder above : ℕ)
      → bidder < bounds.bidders
      → All (λ line. line.rate.steps < above) lines
      → slice_index taken bidder ≡ through_in lines bounds bidder above
  pub within : total_of recognised ≤ total_of lines
  pub few : length recognised ≤ length lines

-- the lines are bids of one bidder at one rate
abbrev pub IsSameBid : RateLine → RateLine → Type 0
IsSameBid one other = (one.rate.steps ≡ other.rate.steps) × (one.bidder ≡ other.bidder)

-- the lines, and the line behind them if it has an amount
abbrev pub with_line : List RateLine → RateLine → List RateLine
with_line lines line = if line.amount.value == 0 then lines else lines ++ line ∷ []

-- all but the last lines are settled; the last ones are the bid that is being read
pub record IsReading (lines : List RateLine) (bounds : Bounds) (recognised : List RateLine) (taken : List ℕ)
    (bid : RateLine) : Type 0 where
  pub settled : List RateLine
  pub last : List RateLine
  pub lines_are : lines ≡ settled ++ last
  pub done : AreSettled settled bounds recognised taken
  pub earlier : All (λ line. IsEarlier line bid) settled
  pub same : All (λ line. IsSameBid line bid) last
  pub some : 0 < length last
  pub amount : bid.amount.value ≡ min (total_of last) bounds.cap
  pub known : bid.bidder < bounds.bidders

-- the same with the bounds of an offering and of reported positions
abbrev pub AreSettledOf : List RateLine → List ℤ → ℕ → List RateLine → List ℕ → Type 0
AreSettledOf lines positions offering recognised taken =
    AreSettled lines (bounds_of positions offering) recognised taken

abbrev pub IsReadingOf : List RateLine → List ℤ → ℕ → List RateLine → List ℕ → RateLine → Type 0
IsReadingOf lines positions offering recognised taken bid =
    IsReading lines (bounds_of positions offering) recognised taken bid
