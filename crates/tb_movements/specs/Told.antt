-- The book of accounts tells the movements.
use Rattle.std.specs.Prelude.{◌≡◌, ℕ, true, List, [], ◌∷◌, ◌++◌, ◌↔◌}
use Rattle.std.specs.Option.{option_map}
use Rattle.tb_holdings.specs.declared.mark.KeptMark.{KeptMark}
use Rattle.tb_holdings.specs.Marks.{MarksAreInOrder}
use Rattle.tb_holdings.specs.Book.{Book, held_of, pledged_of, free_of, paid_of, total_of, mark_of as kept_mark_of, open_marks_of, IsRedeemed}
use Rattle.tb_movements.specs.Movements.{Movement}
use Rattle.tb_movements.specs.Holdings.{is_redeemed, held, paid, outstanding}
use Rattle.tb_movements.specs.Marks.{Mark, mark_of, left_of, pledged, free, open_marks}
use Rattle.tb_movements.specs.Legal.{IsLegal}

-- the mark as the book keeps it
abbrev pub as_kept : List Movement → Mark → KeptMark
as_kept history mark = record {
  holder = mark.holder;
  number = mark.number;
  pledgee = mark.pledgee;
  security = mark.security;
  left = left_of history mark;
}

-- the book has what the history tells of holdings, payments, redemptions and marks
pub record Tells (history : List Movement) (book : Book) : Type 0 where
  pub held : (holder security : ℕ) → held_of holder security book ≡ held holder security history
  pub total : (security : ℕ) → total_of security book ≡ outstanding security history
  pub paid : (holder security : ℕ) → paid_of holder security book ≡ paid holder security history
  pub redeemed : (security : ℕ) → IsRedeemed security book ↔ (is_redeemed security history ≡ true)
  pub mark : (holder number : ℕ)
      → kept_mark_of holder number book ≡ option_map (as_kept history) (mark_of holder number history)
  -- so that each mark is found in one place
  pub in_order : MarksAreInOrder book.marks

-- the history is legal, and the book tells it
pub record IsTold (history : List Movement) (book : Book) : Type 0 where
  pub legal : IsLegal history
  pub tells : Tells history book

-- a book that tells a history has its other figures too
pub record HasFigures (history : List Movement) (book : Book) : Type 0 where
  pub pledges : (holder security : ℕ) → pledged_of holder security book ≡ pledged holder security history
  pub frees : (holder security : ℕ) → free_of holder security book ≡ free holder security history
  pub opens : (holder : ℕ) → open_marks_of holder book ≡ open_marks holder history

-- whatever history the book told, it now tells it with one more movement
abbrev pub TellsMore : Movement → Book → Book → Type 0
TellsMore movement old new =
    (history : List Movement) → IsTold history old → IsTold (history ++ movement ∷ []) new
