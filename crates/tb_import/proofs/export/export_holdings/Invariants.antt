use Rattle.std.proofs.Common.{take}
use Rattle.tb_import.specs.Exports.{holdings_table}
use Rattle.tb_import.specs.Writers.{HasWritten}
use Rattle.tb_import.proofs.export.export_holdings.Given as goal

-- the holdings so far are written
abbrev pub invariant-loop-holding : goal.invariant-loop-holding
invariant-loop-holding l = HasWritten (holdings_table (take l.holding-index l.holding-items)) l.writer
