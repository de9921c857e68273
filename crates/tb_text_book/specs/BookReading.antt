-- What is read of a book, where the bytes of the input are told.
use Rattle.std.specs.Prelude.{◌≡◌, ℕ, ◌+◌, ◌<◌, ◌≤◌, List, [], ◌∷◌, ◌++◌, length, Option, Some}
use Rattle.std.specs.Str.Lines.{lines}
use Rattle.tb_text_book.specs.BookLines.{Spells}
use Rattle.tb_text_book.specs.Books.{AreEntries, BeginsWithBook, Book, empty_book, IsBadLine, IsBadNext, IsFront}
use Rattle.tb_lines.specs.LineEnds.{most_lines}
use Rattle.tb_lines.specs.Reads.{ReadsLines}
use Rattle.tb_text_book.specs.declared.book_line.BookLine.{BookLine}
use Rattle.tb_text_book.specs.declared.book_line.BookLine.TheVariants as kind
use Rattle.tb_text_book.specs.declared.book_line.Offering.{Offering}

-- the first line of a text is this line of a book, and so much of the text follows
pub record ReadsLine (line : BookLine) (behind : Option (List ℕ)) (text : List ℕ) : Type 0 where
  pub first : List ℕ
  pub rest : List ℕ
  pub behind_is : behind ≡ Some rest
  pub lines_are : lines text ≡ first ∷ lines rest
  pub spells : Spells first line

-- the first of these lines is no line of a book, or there is none
abbrev pub HasNoLine : List (List ℕ) → Type 0
HasNoLine [] = Unit {0}
HasNoLine (text ∷ texts) = (line : BookLine) → ¬ (Spells text line)

-- of the text behind the offering, the entries of this book have been read, up to line count, and so much follows
pub record HasEntries (count : ℕ) (offering : Offering) (book : Book) (behind : Option (List ℕ)) (text : List ℕ)
    : Type 0 where
  pub read : List (List ℕ)
  pub rest : List ℕ
  pub behind_is : behind ≡ Some rest
  pub lines_are : lines text ≡ read ++ lines rest
  pub are : AreEntries offering empty_book read book
  pub size : length read + 1 ≡ count

-- the text behind the offering is the entries of this book and its end, and so much follows
pub record EndsEntries (offering : Offering) (book : Book) (behind : Option (List ℕ)) (text : List ℕ) : Type 0 where
  pub read : List (List ℕ)
  pub last : List ℕ
  pub rest : List ℕ
  pub behind_is : behind ≡ Some rest
  pub lines_are : lines text ≡ read ++ last ∷ lines rest
  pub are : AreEntries offering empty_book read book
  pub end : Spells last kind.End
  pub few : length read + 1 < most_lines

-- behind the offering and some entries stands the first line outside the grammar, the line of this number in the
-- input, and nothing behind it was read
pub record StopsEntries (number before after : ℕ) (offering : Offering) (text : List ℕ) : Type 0 where
  pub book : Book
  pub read : List (List ℕ)
  pub rest : List (List ℕ)
  pub lines_are : lines text ≡ read ++ rest
  pub are : AreEntries offering empty_book read book
  pub few : length read + 1 ≤ most_lines
  pub bad : IsBadNext offering book (length read + 1) rest
  pub number_is : length read + 2 ≡ number
  pub reads : ReadsLines (length read + 1) before after text

-- a text begins with this book, and nothing behind the line that ends it was read
pub record ReadsBook (before after : ℕ) (offering : Offering) (book : Book) (text : List ℕ) : Type 0 where
  pub begins : BeginsWithBook (lines text) offering book
  pub reads : ReadsLines (length begins.front + 1) before after text

-- the line of this number is the first outside the grammar of books, and nothing behind it was read
pub record ReadsBadLine (number before after : ℕ) (text : List ℕ) : Type 0 where
  pub bad : IsBadLine number (lines text)
  pub reads : ReadsLines number before after text

-- the lines are entries behind an offering
abbrev pub AreSomeEntries : Offering → List (List ℕ) → Type 0
AreSomeEntries offering read = (book : Book) × AreEntries offering empty_book read book

-- the lines are a book without its end, or there is none yet
abbrev pub IsOpenBook : List (List ℕ) → Type 0
IsOpenBook [] = Unit {0}
IsOpenBook (first ∷ texts) = (offering : Offering) × (book : Book) × IsFront (first ∷ texts) offering book
