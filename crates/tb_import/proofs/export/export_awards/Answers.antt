use Rattle.std.proofs.Common.{List, subst}
use Rattle.tb_history.specs.declared.readings.AwardLine.{AwardLine}
use Rattle.tb_import.specs.Exports.{awards_table, bidders_table}
use Rattle.tb_import.specs.Writers.{HasWritten}
use Rattle.tb_import.proofs.ExportLemmas.{in_other_words}
use Rattle.tb_import.proofs.export.export_awards.Goals as goal

-- the add-on is written behind the bidders
pub returns : goal.returns
returns c =
    let awards = c.args.awards.now in
    let bidders : HasWritten (bidders_table awards.lines) c.write_bidders.new.writer =
    subst (λ (lines : List AwardLine). HasWritten (bidders_table lines) c.write_bidders.new.writer) c.lines.ensures
    c.in_ok-write_bidders.ensures in
    let whole : HasWritten (awards_table awards) c.write_add_on.new.writer =
    c.in_ok-write_add_on.ensures (bidders_table awards.lines) bidders in
    in_other_words c.end.result _ _ (λ table written. written (awards_table awards) whole) c.end.ensures
