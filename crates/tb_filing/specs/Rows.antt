-- The rows of a history's published auctions.
use Rattle.std.specs.Prelude.{◌≡◌, ℕ, List, [], ◌∷◌}
use Rattle.tb_message.specs.declared.message.Entry.{Entry}
use Rattle.tb_message.specs.declared.query.Query.TheVariants as query
use Rattle.tb_history.specs.Entries.{operator}
use Rattle.tb_history.specs.Readings.{IsReading}
use Rattle.tb_history.specs.declared.reading.Reading.TheVariants as reading
use Rattle.tb_history.specs.declared.readings.Results.{Results}
use Rattle.tb_register.specs.Rows.{Kept}
use Rattle.tb_register.specs.Making.{row_of}

-- the row of an auction: by its results, as the history tells them the operator
pub record IsRowOf (history : List Entry) (auction : List ℕ) (row : Kept) : Type 0 where
  pub results : Results
  pub told : IsReading history operator (query.Results auction) (reading.Results results)
  pub row_is : row ≡ row_of results

-- a row for each of these auctions, in order
abbrev pub AreRowsOf : List Entry → List (List ℕ) → List Kept → Type 0
AreRowsOf history [] [] = Unit {0}
AreRowsOf history (auction ∷ auctions) (row ∷ rows) = IsRowOf history auction row × AreRowsOf history auctions rows
AreRowsOf history [] (row ∷ rows) = ⊥
AreRowsOf history (auction ∷ auctions) [] = ⊥
