-- Tables of refusals: rows in the order in which they are tried, each a refusal and its cause.
use Rattle.std.specs.Prelude.{Bool, if◌then◌else◌, Option, Some, None, List, [], ◌∷◌}
use Rattle.tb_terms.specs.declared.refusal.Refusal.{Refusal}

-- a refusal, and whether its cause holds
abbrev pub Row : Type 0
Row = Refusal × Bool

-- the answer of the first row whose test holds, and this last one where none does
abbrev pub first_of : {V : Type 0} → List (V × Bool) → V → V
first_of [] last = last
first_of (row ∷ rows) last = if row.1 then row.0 else first_of rows last

-- the first refusal whose cause holds
abbrev pub refusal_in : List Row → Option Refusal
refusal_in [] = None
refusal_in (row ∷ rows) = if row.1 then Some row.0 else refusal_in rows
