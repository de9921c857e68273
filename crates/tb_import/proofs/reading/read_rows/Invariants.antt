use Rattle.std.proofs.Common.{◌≡◌, ◌+◌, List, ◌∷◌, length}
use Rattle.std.specs.List.{All}
use Rattle.tb_import.specs.declared.row.Row.{Row}
use Rattle.tb_import.specs.Rows.{Fields, AreRowsOf, first_seen}
use Rattle.tb_import.specs.Sent.{IsInRange}
use Rattle.tb_import.specs.Tables.{HasRead, header}
use Rattle.tb_import.proofs.reading.read_rows.Given as goal

-- the records so far are rows, and each that is the first of its kind is kept
abbrev pub invariant-loop-place : goal.invariant-loop-place
invariant-loop-place l =
    (records : List Fields) × (rows : List Row)
    × HasRead l.fn.bytes (header ∷ records) l.reader
    × AreRowsOf records rows
    × (length records + 2 ≡ l.place)
    × (l.rows.keys ≡ first_seen rows)
    × All IsInRange l.rows.keys
