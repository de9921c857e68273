-- What has been read of a book, from line to line.
use Rattle.std.proofs.Common.{◌≡◌, ℕ, List, ◌∷◌, sym, subst, arith}
use Rattle.std.specs.Prelude.{Option}
use Rattle.std.specs.Str.Lines.{lines}
use Rattle.tb_text_book.specs.BookLines.{Spells}
use Rattle.tb_lines.specs.Lines.{Finds}
use Rattle.tb_text_book.specs.BookReading.{ReadsLine, HasNoLine}
use Rattle.tb_text_book.specs.declared.book_line.BookLine.{BookLine}
use Rattle.tb_lines.specs.declared.line_end.NextLine.TheVariants as next

-- a line that was found and spells a line of a book was read
pub ReadsLine-found : (text first : List ℕ) (behind : Option (List ℕ)) (line : BookLine)
    → Finds next.Line text first behind
    → Spells first line
    → ReadsLine line behind text
ReadsLine-found text first behind line found spells = record {
  first = first;
  rest = found.1.0;
  behind_is = found.1.1;
  lines_are = found.1.2;
  spells = spells;
}

-- a first line that spells no line of a book
no_line : (texts : List (List ℕ)) (first : List ℕ) (rest : List (List ℕ))
    → texts ≡ first ∷ rest
    → ((line : BookLine) → ¬ (Spells first line))
    → HasNoLine texts
no_line texts first rest is none = subst HasNoLine (sym is) none

-- a line that was found and spells none
pub HasNoLine-unread : (text first : List ℕ) (behind : Option (List ℕ))
    → Finds next.Line text first behind
    → ((line : BookLine) → ¬ (Spells first line))
    → HasNoLine (lines text)
HasNoLine-unread text first behind found none = no_line (lines text) first (lines found.1.0) found.1.2 none

-- no line was found
pub HasNoLine-end : (text first : List ℕ) (behind : Option (List ℕ))
    → Finds next.End text first behind
    → HasNoLine (lines text)
HasNoLine-end text first behind found = subst (λ (t : List ℕ). HasNoLine (lines t)) (sym found) tt

-- a line that is too long spells none
pub HasNoLine-long : (text first : List ℕ) (behind : Option (List ℕ))
    → Finds next.TooLong text first behind
    → HasNoLine (lines text)
HasNoLine-long text first behind found =
    no_line (lines text) found.0 found.1 found.2 (λ line spells. absurd (omega (arith, spells.short, found.3)))
