-- Text books of bids (our own form): an offering, then the lines of the bidders, then the line `end`.
use Rattle.std.specs.Prelude.{
  ◌≡◌,
  ◌≢◌,
  ℕ,
  ◌+◌,
  ◌<◌,
  ◌≤◌,
  ◌==◌,
  ◌⊎◌,
  List,
  [],
  ◌∷◌,
  ◌++◌,
  length,
  slice_index_or,
  Option,
  Some,
  None,
  Bool,
  ◌&&◌,
  false,
  is_some,
  is_none,
  Contains,
}
use Rattle.std.specs.List.{list_any}
use Rattle.tb_units.specs.declared.rate.Rate.{Rate}
use Rattle.tb_price.specs.Prices.{HasPrice}
use Rattle.tb_text_book.specs.BookLines.{Spells}
use Rattle.tb_text_book.specs.Grammars.{LeavesGrammar}
use Rattle.tb_lines.specs.LineEnds.{most_lines}
use Rattle.tb_text_book.specs.declared.book_line.BookLine.TheVariants as kind
use Rattle.tb_text_book.specs.declared.book_line.Offering.{Offering}
use Rattle.tb_text_book.specs.declared.book_line.Entry.{Entry}
use Rattle.tb_text_book.specs.declared.book_line.Entry.TheVariants as entry

-- the name of an entry's bidder
abbrev pub name_of : Entry → List ℕ
name_of (entry.Bid bid) = bid.bidder
name_of (entry.Report report) = report.bidder

-- an entry with the number of its bidder
pub record Numbered : Type 0 where
  pub bidder : ℕ
  pub entry : Entry

-- the bidders in the order in which they are first seen, and the entries in their order
pub record Book : Type 0 where
  pub names : List (List ℕ)
  pub entries : List Numbered

-- no entry yet
abbrev pub empty_book : Book
empty_book = record { names = []; entries = [] }

-- the name stands at this place, and at none before it
pub record StandsFirstAt (name : List ℕ) (names : List (List ℕ)) (place : ℕ) : Type 0 where
  pub within : place < length names
  pub is : (d : List ℕ) → slice_index_or names place d ≡ name
  pub first : (k : ℕ) (d : List ℕ) → k < place → slice_index_or names k d ≢ name

-- bidders are numbered in the order in which they are first seen: one that was seen has its number, and a new one goes
-- last
abbrev pub GetsNumber : List ℕ → List (List ℕ) → ℕ → List (List ℕ) → Type 0
GetsNumber name old number new =
    (StandsFirstAt name old number × (new ≡ old))
    ⊎ ((¬ (Contains old name)) × (number ≡ length old) × (new ≡ old ++ name ∷ []))

-- a bid with a rate, and a bid without one
abbrev pub is_competitive : Entry → Bool
is_competitive (entry.Bid bid) = is_some bid.rate
is_competitive (entry.Report report) = false

abbrev pub is_noncompetitive : Entry → Bool
is_noncompetitive (entry.Bid bid) = is_none bid.rate
is_noncompetitive (entry.Report report) = false

-- one of the bidder's entries passes
abbrev pub has_entry : (Entry → Bool) → ℕ → List Numbered → Bool
has_entry passes bidder entries = list_any (λ numbered. (numbered.bidder == bidder) && passes numbered.entry) entries

-- a bidder doesn't bid both ways
abbrev pub IsOneWay : List Numbered → ℕ → Option Rate → Type 0
IsOneWay before bidder None = has_entry is_competitive bidder before ≡ false
IsOneWay before bidder (Some rate) = has_entry is_noncompetitive bidder before ≡ false

-- where the bid has a rate, that has a price above zero
abbrev pub IsPriced : Offering → Option Rate → Type 0
IsPriced offering None = Unit {0}
IsPriced offering (Some rate) = HasPrice rate.steps offering.days.count

-- the bidder's entry may stand behind these
abbrev pub MayFollow : Offering → List Numbered → ℕ → Entry → Type 0
MayFollow offering before bidder (entry.Bid bid) = IsOneWay before bidder bid.rate × IsPriced offering bid.rate
MayFollow offering before bidder (entry.Report report) = Unit {0}

-- the book with one entry more
abbrev pub with_entry : Book → ℕ → Entry → Book
with_entry book bidder entry = record {
  names = book.names;
  entries = book.entries ++ record { bidder = bidder; entry = entry } ∷ [];
}

-- the entry may stand behind a book, and brings it to the new one
pub record Adds (offering : Offering) (old : Book) (entry : Entry) (new : Book) : Type 0 where
  pub bidder : ℕ
  pub numbered : GetsNumber (name_of entry) old.names bidder new.names
  pub follows : MayFollow offering old.entries bidder entry
  pub entries : new.entries ≡ old.entries ++ record { bidder = bidder; entry = entry } ∷ []

-- the line is an entry that may stand behind a book, and brings it to the new one
abbrev pub IsEntry : Offering → Book → List ℕ → Book → Type 0
IsEntry offering old text new = (entry : Entry) × Spells text (kind.Entry entry) × Adds offering old entry new

-- the lines are entries that bring a book to the new one
abbrev pub AreEntries : Offering → Book → List (List ℕ) → Book → Type 0
AreEntries offering old [] new = new ≡ old
AreEntries offering old (text ∷ texts) new =
    (between : Book) × IsEntry offering old text between × AreEntries offering between texts new

-- the lines are a book without its end: the offering, and then the entries
abbrev pub IsFront : List (List ℕ) → Offering → Book → Type 0
IsFront [] offering book = ⊥
IsFront (first ∷ texts) offering book =
    Spells first (kind.Offering offering) × AreEntries offering empty_book texts book

-- the lines begin with the book of this offering, up to its end; nothing behind that is looked at
pub record BeginsWithBook (lines : List (List ℕ)) (offering : Offering) (book : Book) : Type 0 where
  pub front : List (List ℕ)
  pub last : List ℕ
  pub rest : List (List ℕ)
  pub lines_are : lines ≡ front ++ last ∷ rest
  pub front_is : IsFront front offering book
  pub end : Spells last kind.End
  pub few : length front < most_lines

-- the lines begin with a book
abbrev pub HasBook : List (List ℕ) → Type 0
HasBook lines = (offering : Offering) × (book : Book) × BeginsWithBook lines offering book

-- the line may stand behind the offering and the book so far
abbrev pub GoesOn : Offering → Book → List ℕ → Type 0
GoesOn offering book text = ((new : Book) × IsEntry offering book text new) ⊎ Spells text kind.End

-- no line stands first, or none that is an offering
abbrev pub IsBadFirst : List (List ℕ) → Type 0
IsBadFirst [] = Unit {0}
IsBadFirst (text ∷ texts) = (offering : Offering) → ¬ (Spells text (kind.Offering offering))

-- behind so many lines with this offering and this book no line stands, or one too many, or one that may not
abbrev pub IsBadNext : Offering → Book → ℕ → List (List ℕ) → Type 0
IsBadNext offering book count rest = LeavesGrammar (GoesOn offering book) count rest

-- the line of this number is the first outside the grammar, and stands behind the front of a book
pub record StopsBehindFront (number : ℕ) (lines : List (List ℕ)) : Type 0 where
  pub front : List (List ℕ)
  pub rest : List (List ℕ)
  pub offering : Offering
  pub book : Book
  pub lines_are : lines ≡ front ++ rest
  pub front_is : IsFront front offering book
  pub few : length front ≤ most_lines
  pub bad : IsBadNext offering book (length front) rest
  pub number_is : length front + 1 ≡ number

-- the line of this number, counted from 1, is the first outside the grammar: the first of all, or one behind the front
-- of a book
abbrev pub IsBadLine : ℕ → List (List ℕ) → Type 0
IsBadLine number lines = (IsBadFirst lines × (number ≡ 1)) ⊎ StopsBehindFront number lines

-- some line is the first outside the grammar
abbrev pub HasBadLine : List (List ℕ) → Type 0
HasBadLine lines = (number : ℕ) × IsBadLine number lines
