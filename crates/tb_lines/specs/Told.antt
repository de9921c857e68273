-- What is said of bytes to come.
use Rattle.std.specs.Prelude.{◌≡◌, ℕ, List, Option, Some}

-- where the bytes to come are told, this is so of them
abbrev pub WhereTold : Option (List ℕ) → (List ℕ → Type 0) → Type 0
WhereTold told P = (text : List ℕ) → told ≡ Some text → P text
