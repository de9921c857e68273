use Rattle.std.proofs.Common.{◌≡◌, ◌++◌, map, take}
use Rattle.tb_register.specs.Rows.{kept}
use Rattle.tb_report.specs.Lines.{text_of}
use Rattle.tb_filing.specs.Texts.{row_words}
use Rattle.tb_filing.proofs.texts.push_rows.Given as goal

-- the lines of so many rows were put
abbrev pub invariant-loop-row : goal.invariant-loop-row
invariant-loop-row l =
    l.text.items ≡ l.fn.text.items ++ text_of (map row_words (map kept (take l.row-index l.rows)))
