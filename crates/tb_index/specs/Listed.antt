-- What a contract sees of rows.
use Rattle.std.specs.Prelude.{ℕ, List}

-- the rows in the order of adding, and how many more may be added
pub record Listed (X : Type 0) : Type 0 where
  pub list : List X
  pub spare : ℕ
