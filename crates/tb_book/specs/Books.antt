-- The sealed book of one auction: its live bids.
use Rattle.std.specs.Prelude.{◌≡◌, ℕ, ◌^◌, ◌<◌, ◌≤◌, ◌==◌, ◌⊎◌, ◌&&◌, if◌then◌else◌, Bool, true, false, is_some, is_none, Option, Some, None, List, [], ◌∷◌, ◌++◌, length, slice_index_or, sum_by}
use Rattle.std.specs.List.{AllPairs}
use Rattle.tb_units.specs.Places.{HasOneMore}
use Rattle.tb_units.specs.declared.amount.Dollars.{Dollars}
use Rattle.tb_units.specs.declared.rate.Rate.{Rate}
use Rattle.tb_units.specs.declared.lines.RateLine.{RateLine}
use Rattle.tb_book.specs.declared.book_line.BookLine.{BookLine}

-- what a contract sees of a book: its lines, how many more may be added, and whether it is open
pub record Bids : Type 0 where
  pub lines : List BookLine
  pub spare : ℕ
  pub opened : Bool

-- a lower rate; a noncompetitive bid stands behind every rate
abbrev pub IsLower : Option Rate → Option Rate → Type 0
IsLower (Some one) (Some other) = one.steps < other.steps
IsLower (Some one) None = Unit {0}
IsLower None other = ⊥

-- by bidder, and for one bidder by the bid's number
abbrev pub IsSmaller : BookLine → BookLine → Type 0
IsSmaller one other = (one.bidder < other.bidder) ⊎ ((one.bidder ≡ other.bidder) × (one.number < other.number))

-- in order of rate, bidder and number
abbrev pub IsEarlier : BookLine → BookLine → Type 0
IsEarlier one other = IsLower one.rate other.rate ⊎ ((one.rate ≡ other.rate) × IsSmaller one other)

-- the lines are bids of different bidders, or have different numbers
abbrev pub AreApart : BookLine → BookLine → Type 0
AreApart one other = ¬ ((one.bidder ≡ other.bidder) × (one.number ≡ other.number))

-- the par of all lines
abbrev pub par_in : List BookLine → ℕ
par_in lines = sum_by (λ line. line.amount.value) lines

-- the most par of a book
abbrev pub most_bid : ℕ
most_bid = 10 ^ 22

-- the lines are in order, where the book is open
abbrev pub AreRanked : Bool → List BookLine → Type 0
AreRanked opened lines = opened ≡ true → AllPairs IsEarlier lines

-- the laws of a book's lines
pub record AreKept (opened : Bool) (lines : List BookLine) : Type 0 where
  pub order : AreRanked opened lines
  pub apart : AllPairs AreApart lines
  pub limited : par_in lines ≤ most_bid

-- the laws of a book
abbrev pub IsKept : Bids → Type 0
IsKept book = AreKept book.opened book.lines

-- the bidder's bid of this number is there
abbrev pub HasBid : ℕ → ℕ → List BookLine → Type 0
HasBid bidder number lines =
    (place : ℕ) × (place < length lines)
    × ((d : BookLine) → ((slice_index_or lines place d).bidder ≡ bidder)
    × ((slice_index_or lines place d).number ≡ number))

-- and at this rate, or with none
abbrev pub HasBidAt : Option Rate → ℕ → ℕ → List BookLine → Type 0
HasBidAt rate bidder number lines =
    (place : ℕ) × (place < length lines)
    × ((d : BookLine) → ((slice_index_or lines place d).rate ≡ rate)
    × ((slice_index_or lines place d).bidder ≡ bidder)
    × ((slice_index_or lines place d).number ≡ number))

-- the new lines are the old ones with the line among them, in order
pub record IsInserted (line : BookLine) (old new : List BookLine) : Type 0 where
  pub among : HasOneMore line old new
  pub order : AllPairs IsEarlier new

-- the new lines are the old ones without the line
abbrev pub IsTakenOut : BookLine → List BookLine → List BookLine → Type 0
IsTakenOut line old new = HasOneMore line new old

-- the par of a bidder's lines of a kind
abbrev pub competitive_of : ℕ → List BookLine → ℕ
competitive_of bidder lines =
    sum_by (λ line. if (line.bidder == bidder) && is_some line.rate then line.amount.value else 0) lines

abbrev pub noncompetitive_of : ℕ → List BookLine → ℕ
noncompetitive_of bidder lines =
    sum_by (λ line. if (line.bidder == bidder) && is_none line.rate then line.amount.value else 0) lines

-- the rate is there, and is this one in steps
abbrev pub is_at : ℕ → Option Rate → Bool
is_at steps None = false
is_at steps (Some rate) = rate.steps == steps

-- the par of a bidder's lines at a rate
abbrev pub competitive_at : ℕ → ℕ → List BookLine → ℕ
competitive_at bidder steps lines =
    sum_by (λ line. if (line.bidder == bidder) && is_at steps line.rate then line.amount.value else 0) lines

-- the par of all noncompetitive lines
abbrev pub noncompetitive_in : List BookLine → ℕ
noncompetitive_in lines = sum_by (λ line. if is_none line.rate then line.amount.value else 0) lines

-- a competitive line as a line in order of rate; a noncompetitive one is none
abbrev pub rate_line_of : ℕ → Option Rate → Dollars → List RateLine
rate_line_of bidder None amount = []
rate_line_of bidder (Some rate) amount = record { rate = rate; bidder = bidder; amount = amount } ∷ []

-- the competitive lines, in their order
abbrev pub rate_lines : List BookLine → List RateLine
rate_lines [] = []
rate_lines (line ∷ lines) = rate_line_of line.bidder line.rate line.amount ++ rate_lines lines

-- the lines that may be read as lines in order of rate: the competitive ones of a book that is open
abbrev pub open_lines : Bids → List RateLine
open_lines book = if book.opened then rate_lines book.lines else []
