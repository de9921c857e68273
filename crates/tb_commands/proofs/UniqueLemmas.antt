-- A text has one book at its beginning at most, or one line outside the grammar.
use Rattle.std.proofs.Common.{◌≡◌, ℕ, ◌+◌, ◌≤◌, List, [], ◌∷◌, ◌++◌, length, sym, subst, ◌∙◌, refl, arith, inl, inr}
use Rattle.tb_text_book.specs.BookLines.{Spells}
use Rattle.tb_text_book.specs.Books.{AreEntries, BeginsWithBook, Book, IsBadLine, IsBadNext, IsEntry, IsFront, empty_book}
use Rattle.tb_lines.specs.LineEnds.{most_lines}
use Rattle.tb_text_book.specs.declared.book_line.BookLine.TheVariants as kind
use Rattle.tb_text_book.specs.declared.book_line.Offering.{Offering}
use Rattle.tb_commands.proofs.CompleteLemmas.{entry_one, first_good, goes_on, offering_one}
use Rattle.tb_text_book.proofs.SameLemmas.{Spells-one}

-- so many entries, and behind them the first line that is none, or the end
record Stops (offering : Offering) (old : Book) (count : ℕ) (texts rest : List (List ℕ)) : Type 0 where
  book : Book
  are : AreEntries offering old texts book
  bad : IsBadNext offering book (count + length texts) rest
  few : count + length texts ≤ most_lines

-- a line that may stand there isn't the first that may not
stops-not_here : (offering : Offering) (old : Book) (count : ℕ) (text : List ℕ) (texts rest rest' : List (List ℕ))
    → Stops offering old count [] rest
    → Stops offering old count (text ∷ texts) rest'
    → rest ≡ text ∷ (texts ++ rest')
    → ⊥
stops-not_here offering old count text texts rest rest' here later same =
    let bad : IsBadNext offering old (count + 0) rest =
    subst (λ (book : Book). IsBadNext offering book (count + 0) rest) here.are here.bad in
    let few = later.few in
    goes_on offering old later.are.0 (count + 0) text (texts ++ rest') rest (sym same) later.are.1 (omega arith) bad

-- it stands behind one number of entries
stops-one : (offering : Offering) (old : Book) (count : ℕ) (texts rest texts' rest' : List (List ℕ))
    → Stops offering old count texts rest
    → Stops offering old count texts' rest'
    → texts ++ rest ≡ texts' ++ rest'
    → length texts ≡ length texts'
stops-one offering old count [] rest [] rest' one other same = refl
stops-one offering old count [] rest (text ∷ texts') rest' one other same =
    absurd (stops-not_here offering old count text texts' rest rest' one other same)
stops-one offering old count (text ∷ texts) rest [] rest' one other same =
    absurd (stops-not_here offering old count text texts rest' rest other one (sym same))
stops-one offering old count (text ∷ texts) rest (text' ∷ texts') rest' one other same =
    let first : text ≡ text' = (cc) in
    let behind : texts ++ rest ≡ texts' ++ rest' = (cc) in
    let between : other.are.0 ≡ one.are.0 = entry_one offering old other.are.0 one.are.0 text
    (subst (λ (x : List ℕ). IsEntry offering old x other.are.0) (sym first) other.are.1) one.are.1 in
    let size : count + length (text ∷ texts) ≡ count + 1 + length texts = omega arith in
    let size' : count + length (text' ∷ texts') ≡ count + 1 + length texts' = omega arith in
    let few = one.few in
    let few' = other.few in
    let shorter : Stops offering one.are.0 (count + 1) texts rest = record {
      book = one.book;
      are = one.are.2;
      bad = subst (λ (n : ℕ). IsBadNext offering one.book n rest) size one.bad;
      few = omega arith;
    } in
    let shorter' : Stops offering one.are.0 (count + 1) texts' rest' = record {
      book = other.book;
      are = subst (λ (book : Book). AreEntries offering book texts' other.book) between other.are.2;
      bad = subst (λ (n : ℕ). IsBadNext offering other.book n rest') size' other.bad;
      few = omega arith;
    } in
    let rest_one = stops-one offering one.are.0 (count + 1) texts rest texts' rest' shorter shorter' behind in
    omega arith

-- and so behind one number of lines of a front
fronts-one : (front front' rest rest' : List (List ℕ)) (offering offering' : Offering) (book book' : Book)
    → IsFront front offering book
    → IsFront front' offering' book'
    → front ++ rest ≡ front' ++ rest'
    → IsBadNext offering book (length front) rest
    → IsBadNext offering' book' (length front') rest'
    → length front ≤ most_lines
    → length front' ≤ most_lines
    → length front ≡ length front'
fronts-one [] front' rest rest' offering offering' book book' is is' same bad bad' few few' = absurd is
fronts-one (text ∷ texts) [] rest rest' offering offering' book book' is is' same bad bad' few few' = absurd is'
fronts-one (text ∷ texts) (text' ∷ texts') rest rest' offering offering' book book' is is' same bad bad' few few' =
    let first : text ≡ text' = (cc) in
    let behind : texts ++ rest ≡ texts' ++ rest' = (cc) in
    let one : offering' ≡ offering = offering_one text offering' offering
    (subst (λ (x : List ℕ). Spells x (kind.Offering offering')) (sym first) is'.0) is.0 in
    let size : length (text ∷ texts) ≡ 1 + length texts = omega arith in
    let size' : length (text' ∷ texts') ≡ 1 + length texts' = omega arith in
    let stops : Stops offering empty_book 1 texts rest = record {
      book = book;
      are = is.1;
      bad = subst (λ (n : ℕ). IsBadNext offering book n rest) size bad;
      few = omega arith;
    } in
    let stops' : Stops offering empty_book 1 texts' rest' = record {
      book = book';
      are = subst (λ (o : Offering). AreEntries o empty_book texts' book') one is'.1;
      bad = subst (λ (o : Offering). IsBadNext o book' (1 + length texts') rest') one
          (subst (λ (n : ℕ). IsBadNext offering' book' n rest') size' bad');
      few = omega arith;
    } in
    let lengths = stops-one offering empty_book 1 texts rest texts' rest' stops stops' behind in
    omega arith

-- a text has at most one line that is the first outside the grammar
pub bad-line-one : (texts : List (List ℕ)) (one other : ℕ)
    → IsBadLine one texts
    → IsBadLine other texts
    → one ≡ other
bad-line-one texts one other (inl first) (inl first') = first.1 ∙ sym first'.1
bad-line-one texts one other (inl first) (inr stops) =
    absurd (first_good stops.front stops.offering stops.book stops.rest texts stops.front_is stops.lines_are first.0)
bad-line-one texts one other (inr stops) (inl first) =
    absurd (first_good stops.front stops.offering stops.book stops.rest texts stops.front_is stops.lines_are first.0)
bad-line-one texts one other (inr stops) (inr stops') =
    let lengths = fronts-one stops.front stops'.front stops.rest stops'.rest stops.offering stops'.offering
    stops.book stops'.book stops.front_is stops'.front_is (sym stops.lines_are ∙ stops'.lines_are)
    stops.bad stops'.bad stops.few stops'.few in
    let number = stops.number_is in
    let number' = stops'.number_is in
    omega arith

-- the end of a book is no entry
end-no_entry : (offering : Offering) (old new : Book) (last text : List ℕ)
    → Spells last kind.End
    → last ≡ text
    → IsEntry offering old text new
    → ⊥
end-no_entry offering old new last text ends same entry =
    let one : kind.End ≡ kind.Entry entry.0 = Spells-one last kind.End (kind.Entry entry.0) ends
    (subst (λ (x : List ℕ). Spells x (kind.Entry entry.0)) (sym same) entry.1) in
    absurd (cc)

-- entries up to an end bring a book to one
record Ends (offering : Offering) (old : Book) (texts : List (List ℕ)) (last : List ℕ) (book : Book) : Type 0 where
  are : AreEntries offering old texts book
  ends : Spells last kind.End

-- the book is one
ends-one : (offering : Offering) (old : Book) (texts texts' : List (List ℕ)) (last last' : List ℕ)
    (rest rest' : List (List ℕ)) (book book' : Book)
    → Ends offering old texts last book
    → Ends offering old texts' last' book'
    → texts ++ last ∷ rest ≡ texts' ++ last' ∷ rest'
    → book ≡ book'
ends-one offering old [] [] last last' rest rest' book book' one other same = one.are ∙ sym other.are
ends-one offering old [] (text ∷ texts') last last' rest rest' book book' one other same =
    absurd (end-no_entry offering old other.are.0 last text one.ends (cc) other.are.1)
ends-one offering old (text ∷ texts) [] last last' rest rest' book book' one other same =
    absurd (end-no_entry offering old one.are.0 last' text other.ends (cc) one.are.1)
ends-one offering old (text ∷ texts) (text' ∷ texts') last last' rest rest' book book' one other same =
    let first : text ≡ text' = (cc) in
    let behind : texts ++ last ∷ rest ≡ texts' ++ last' ∷ rest' = (cc) in
    let between : other.are.0 ≡ one.are.0 = entry_one offering old other.are.0 one.are.0 text
    (subst (λ (x : List ℕ). IsEntry offering old x other.are.0) (sym first) other.are.1) one.are.1 in
    ends-one offering one.are.0 texts texts' last last' rest rest' book book'
    record { are = one.are.2; ends = one.ends }
    record {
      are = subst (λ (b : Book). AreEntries offering b texts' book') between other.are.2;
      ends = other.ends;
    } behind

-- an offering and a book are one
pub record SameBook (offering offering' : Offering) (book book' : Book) : Type 0 where
  pub offering_is : offering ≡ offering'
  pub book_is : book ≡ book'

-- a front up to an end is of one offering and one book
books-one : (front front' : List (List ℕ)) (last last' : List ℕ) (rest rest' : List (List ℕ))
    (offering offering' : Offering) (book book' : Book)
    → IsFront front offering book
    → Spells last kind.End
    → IsFront front' offering' book'
    → Spells last' kind.End
    → front ++ last ∷ rest ≡ front' ++ last' ∷ rest'
    → SameBook offering offering' book book'
books-one [] front' last last' rest rest' offering offering' book book' is ends is' ends' same = absurd is
books-one (text ∷ texts) [] last last' rest rest' offering offering' book book' is ends is' ends' same = absurd is'
books-one (text ∷ texts) (text' ∷ texts') last last' rest rest' offering offering' book book' is ends is' ends' same =
    let first : text ≡ text' = (cc) in
    let behind : texts ++ last ∷ rest ≡ texts' ++ last' ∷ rest' = (cc) in
    let one : offering' ≡ offering = offering_one text offering' offering
    (subst (λ (x : List ℕ). Spells x (kind.Offering offering')) (sym first) is'.0) is.0 in
    record {
      offering_is = sym one;
      book_is = ends-one offering empty_book texts texts' last last' rest rest' book book'
          record { are = is.1; ends = ends }
          record {
            are = subst (λ (o : Offering). AreEntries o empty_book texts' book') one is'.1;
            ends = ends';
          } behind;
    }

-- a text begins with at most one book
pub BeginsWithBook-one : (texts : List (List ℕ)) (offering offering' : Offering) (book book' : Book)
    → BeginsWithBook texts offering book
    → BeginsWithBook texts offering' book'
    → SameBook offering offering' book book'
BeginsWithBook-one texts offering offering' book book' one other =
    books-one one.front other.front one.last other.last one.rest other.rest offering offering' book book'
    one.front_is one.end other.front_is other.end (sym one.lines_are ∙ other.lines_are)
