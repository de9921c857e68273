use Rattle.std.proofs.Common.{take}
use Rattle.tb_import.specs.Exports.{bidders_table}
use Rattle.tb_import.specs.Writers.{HasWritten}
use Rattle.tb_import.proofs.export.write_bidders.Given as goal

-- the awards so far are written
abbrev pub invariant-loop-award : goal.invariant-loop-award
invariant-loop-award l = HasWritten (bidders_table (take l.award-index l.awards)) l.writer
