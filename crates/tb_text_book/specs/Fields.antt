-- The fields of a line.
use Rattle.std.specs.Prelude.{ℕ, ◌==◌, List, [], Bool, Option, Some, None}
use Rattle.std.specs.Borrow.{Bor}
use Rattle.std.specs.List.{slice_split}
use Rattle.tb_units.specs.Bytes.{blank}

-- the byte that separates fields
abbrev pub is_blank : ℕ → Bool
is_blank byte = byte == blank

-- the fields of a text, which exactly one space separates
abbrev pub fields : List ℕ → List (List ℕ)
fields text = slice_split is_blank text

-- the fields behind a first one, where there are any
abbrev pub fields_of : Option (Bor (List ℕ)) → List (List ℕ)
fields_of None = []
fields_of (Some text) = fields text.now
