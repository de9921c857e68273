-- Lines that begin with no script leave its grammar at a line, and lines that begin with no book have a bad one.
use Rattle.std.proofs.Common.{◌≡◌, ℕ, ◌+◌, ◌≤◌, List, [], ◌∷◌, ◌++◌, length, refl, subst, sym, ◌∙◌, inl, inr, ⊎_elim}
use Rattle.std.proofs.Common.{arith, append_assoc, length-append}
use Rattle.std.specs.List.{AllByRecursion}
use Rattle.std.proofs.lemmas.Bool.{cases_lt}
use Rattle.tb_lines.specs.LineEnds.{most_lines}
use Rattle.tb_text_book.specs.BookLines.{Spells}
use Rattle.tb_text_book.specs.Books.{AreEntries, Book, HasBadLine, HasBook, IsEntry, empty_book}
use Rattle.tb_text_book.specs.declared.book_line.BookLine.TheVariants as kind
use Rattle.tb_text_book.specs.declared.book_line.Offering.{Offering}
use Rattle.tb_history.proofs.PartLemmas.{AllByRecursion-append}
use Rattle.tb_commands.specs.ScriptLines.{IsAsk, IsEnd}
use Rattle.tb_commands.specs.Scripts.{HasScript, LeavesScript}

-- one more is behind the first ones
one-more : (first rest : List (List ℕ)) (line : List ℕ) (lines : List (List ℕ))
    → lines ≡ first ++ line ∷ rest
    → lines ≡ (first ++ line ∷ []) ++ rest
one-more first rest line lines is = is ∙ sym (append_assoc first (line ∷ []) rest)

module _ (lines : List (List ℕ))
    (no_script : ¬ (HasScript lines))
    (no_line : (number : ℕ) → ¬ (LeavesScript number lines)) where
  -- behind lines that ask there is none, one too many, one that ends the script, one that may not stand there, or one
  -- more that asks
  none_asks : (asking rest : List (List ℕ))
      → lines ≡ asking ++ rest
      → AllByRecursion IsAsk asking
      → length asking ≤ most_lines
      → ⊥
  none_asks asking [] is ask few = no_line (length asking + 1) (
    asking,
    record {
      rest = [];
      lines_are = is;
      ask = ask;
      few = few;
      bad = tt;
      number_is = refl;
    },
  )
  none_asks asking (line ∷ rest) is ask few = no_line (length asking + 1) (
    asking,
    record {
      rest = line ∷ rest;
      lines_are = is;
      ask = ask;
      few = few;
      bad = elim (cases_lt (length asking) most_lines) [
        | inl room ↦ inr (⊎_elim
            (λ (asks : IsAsk line). none_asks (asking ++ line ∷ []) rest (one-more asking rest line lines is)
            (AllByRecursion-append IsAsk asking (line ∷ []) ask (asks, tt))
            (omega (arith, length-append asking (line ∷ []), room)))
            (λ (end : IsEnd line). no_script (
              asking,
              record {
                last = line;
                rest = rest;
                lines_are = is;
                ask = ask;
                end = end;
                few = room;
              },
            )))
        | inr full ↦ inl full
      ];
      number_is = refl;
    },
  )

-- lines that begin with no script leave its grammar
pub script-or-left : (lines : List (List ℕ))
    → ¬ (HasScript lines)
    → ¬ ((number : ℕ) → ¬ (LeavesScript number lines))
script-or-left lines no_script no_line = none_asks lines no_script no_line [] lines refl tt (omega arith)

-- entries with one more behind them
entries-more : (offering : Offering) (old between new : Book) (texts : List (List ℕ)) (text : List ℕ)
    → AreEntries offering old texts between
    → IsEntry offering between text new
    → AreEntries offering old (texts ++ text ∷ []) new
entries-more offering old between new [] text are is =
    (new, subst (λ (book : Book). IsEntry offering book text new) are is, refl)
entries-more offering old between new (first ∷ texts) text are is =
    (are.0, are.1, entries-more offering are.0 between new texts text are.2 is)

module _ (lines : List (List ℕ))
    (no_book : ¬ (HasBook lines))
    (no_line : ¬ (HasBadLine lines))
    (first : List ℕ)
    (offering : Offering)
    (spells : Spells first (kind.Offering offering)) where
  -- behind the offering and entries there is no line, one too many, one that ends the book, one that may not stand
  -- there, or one more entry
  none_enters : (seen rest : List (List ℕ)) (book : Book)
      → lines ≡ (first ∷ seen) ++ rest
      → AreEntries offering empty_book seen book
      → length (first ∷ seen) ≤ most_lines
      → ⊥
  none_enters seen [] book is entries few = no_line (
    length (first ∷ seen) + 1,
    inr (record {
      front = first ∷ seen;
      rest = [];
      offering = offering;
      book = book;
      lines_are = is;
      front_is = (spells, entries);
      few = few;
      bad = tt;
      number_is = refl;
    }),
  )
  none_enters seen (line ∷ rest) book is entries few = no_line (
    length (first ∷ seen) + 1,
    inr (record {
      front = first ∷ seen;
      rest = line ∷ rest;
      offering = offering;
      book = book;
      lines_are = is;
      front_is = (spells, entries);
      few = few;
      bad = elim (cases_lt (length (first ∷ seen)) most_lines) [
        | inl room ↦ inr (⊎_elim
            (λ (more : (new : Book) × IsEntry offering book line new). none_enters (seen ++ line ∷ []) rest more.0
            (one-more (first ∷ seen) rest line lines is)
            (entries-more offering empty_book book more.0 seen line entries more.1)
            (omega (arith, length-append seen (line ∷ []), room)))
            (λ (end : Spells line kind.End). no_book (
              offering,
              book,
              record {
                front = first ∷ seen;
                last = line;
                rest = rest;
                lines_are = is;
                front_is = (spells, entries);
                end = end;
                few = room;
              },
            )))
        | inr full ↦ inl full
      ];
      number_is = refl;
    }),
  )

-- lines that begin with no book have a bad line
pub book-or-bad : (lines : List (List ℕ)) → ¬ (HasBook lines) → ¬ (¬ (HasBadLine lines))
book-or-bad [] no_book no_line = no_line (1, inl (tt, refl))
book-or-bad (first ∷ rest) no_book no_line = no_line (
  1,
  inl (
    λ offering spells. none_enters (first ∷ rest) no_book no_line first offering spells [] rest empty_book refl refl
        (omega arith),
    refl,
  ),
)
