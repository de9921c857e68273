-- How the sums of a book are kept beside its lines.
use Rattle.std.specs.Prelude.{◌≡◌, ℕ, ◌+◌, ◌≤◌, ◌==◌, if◌then◌else◌, Bool, true, Option, Some, None, List, [], ◌++◌, length, nat_eq}
use Rattle.std.specs.List.{AllPairs}
use Rattle.std.specs.HashMap.{HashMap, get, spare}
use Rattle.tb_blocks.specs.Lists.{Listed}
use Rattle.tb_units.specs.declared.rate.Rate.{Rate}
use Rattle.tb_book.specs.declared.book_line.BookLine.{BookLine}
use Rattle.tb_book.specs.declared.bidder.Sums.{Sums}
use Rattle.tb_book.specs.Books.{AreApart, AreKept, IsEarlier, competitive_of, noncompetitive_of, noncompetitive_in}

-- where a rate stands among rates; a noncompetitive bid stands behind every rate
abbrev pub rank_of : Option Rate → ℕ
rank_of (Some rate) = rate.steps
rank_of None = 200000

-- what an entry has of a kind, and nothing where there is none
abbrev pub part_of : (Sums → ℕ) → Option Sums → ℕ
part_of kind None = 0
part_of kind (Some sums) = kind sums

-- what a bidder has of a kind
unfoldable pub total_of : {S : Type 0} → (Sums → ℕ) → ℕ → HashMap ℕ Sums S → ℕ
total_of kind bidder bidders = part_of kind (get nat_eq bidders bidder)

-- the bidder has so much more of a kind, and any other what it had
abbrev pub IsRaised : {S : Type 0} → (Sums → ℕ) → ℕ → ℕ → HashMap ℕ Sums S → HashMap ℕ Sums S → Type 0
IsRaised kind bidder amount old new =
    (other : ℕ) → total_of kind other new ≡ total_of kind other old + (if bidder == other then amount else 0)

-- the lines that are in order, and those that wait, of which there are none once the book is open
pub record AreListed (opened : Bool) (sorted : Listed BookLine) (waiting : List BookLine) : Type 0 where
  pub order : AllPairs IsEarlier sorted.elements
  pub apart : AllPairs AreApart (sorted.elements ++ waiting)
  pub room : length waiting ≤ sorted.spare
  pub none : opened ≡ true → waiting ≡ []

-- what a book keeps beside its lines is what they say
pub record IsIndexed {S : Type 0} (opened : Bool) (lines : List BookLine) (bidders : HashMap ℕ Sums S)
    (noncompetitive : ℕ) : Type 0 where
  pub kept : AreKept opened lines
  pub competitive_are : (bidder : ℕ)
      → total_of (λ sums. sums.competitive) bidder bidders ≡ competitive_of bidder lines
  pub noncompetitive_are : (bidder : ℕ)
      → total_of (λ sums. sums.noncompetitive) bidder bidders ≡ noncompetitive_of bidder lines
  pub noncompetitive_is : noncompetitive ≡ noncompetitive_in lines

-- so many lines, and bidders, may be added
pub record HasSpare {S : Type 0} (more lines : ℕ) (bidders : HashMap ℕ Sums S) : Type 0 where
  pub of_lines : more ≤ lines
  pub of_bidders : more ≤ spare bidders
