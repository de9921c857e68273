-- The text of an auction, of what the program keeps.
use Rattle.std.specs.Prelude.{◌≡◌, ℕ, ◌+◌, ◌^◌, ◌<◌, ◌≤◌, List, ◌++◌, length, slice_index, slice_index_or, All, Bool}
use Rattle.tb_units.specs.declared.lines.RateLine.{RateLine}
use Rattle.tb_award.specs.declared.outcome.Cut.{Cut}
use Rattle.tb_award.specs.Awards.{AreAwards, awarded_to}
use Rattle.tb_text_book.specs.BookRun.{AreAwardLines, WhereFull, cut_text, no_awards_text, nothing_lines}

-- the amounts are what each bidder gets: its awards, and its noncompetitive bids
pub record HasAmounts (cut : Cut) (recognised : List RateLine) (sums : List ℕ) (amounts : List ℕ) : Type 0 where
  pub awards : List RateLine
  pub awarded : AreAwards cut.stop.steps cut.percent.hundredths recognised awards
  pub size : length amounts ≡ length sums
  pub are : (bidder : ℕ) (d : ℕ)
      → bidder < length sums
      → slice_index amounts bidder ≡ awarded_to bidder awards + slice_index_or sums bidder d
  pub fit : All (λ amount. amount ≤ 10 ^ 22) amounts

-- the lines are those of all bidders for these amounts
pub record HasAllLines (cut : Cut) (recognised : List RateLine) (names : List (List ℕ)) (sums : List ℕ)
    (text : List ℕ) : Type 0 where
  pub amounts : List ℕ
  pub has : HasAmounts cut recognised sums amounts
  pub lines : AreAwardLines (slice_index amounts) cut.price.millionths 0 names text

-- the text of a cut
pub record HasCutText (full : Bool) (cut : Cut) (recognised : List RateLine) (names : List (List ℕ)) (sums : List ℕ)
    (text : List ℕ) : Type 0 where
  pub bidders : List ℕ
  pub bidders_are : WhereFull full (HasAllLines cut recognised names sums) bidders
  pub is : text ≡ cut_text cut.stop.steps cut.percent.hundredths cut.price.millionths ++ bidders

-- the text where nobody gets an award
pub record HasNothingText (full : Bool) (names : List (List ℕ)) (text : List ℕ) : Type 0 where
  pub bidders : List ℕ
  pub bidders_are : WhereFull full (λ lines. lines ≡ nothing_lines names) bidders
  pub is : text ≡ no_awards_text ++ bidders
