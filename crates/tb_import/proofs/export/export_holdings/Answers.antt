use Rattle.std.proofs.Common.{List, [], sym, subst, ◌∙◌, arith}
use Rattle.std.proofs.lemmas.List.{take_all}
use Rattle.tb_history.specs.declared.readings.HoldingLine.{HoldingLine}
use Rattle.tb_import.specs.Rows.{Fields}
use Rattle.tb_import.specs.Exports.{holding_fields, holdings_header, holdings_table}
use Rattle.tb_import.specs.Writers.{HasWritten}
use Rattle.tb_import.proofs.ExportLemmas.{in_other_words, one_more}
use Rattle.tb_import.proofs.export.export_holdings.Goals as goal

pub loop-holding-init : goal.loop-holding-init
loop-holding-init c = c.in_ok-write.ensures [] c.begin-writer.ensures

pub loop-holding-preserved : goal.loop-holding-preserved
loop-holding-preserved c =
    let more = one_more holding_fields holdings_header c.lines-holding-items.result.now c.loop-holding.holding-index
    c.holding-item.result c.holding-item.is (omega (arith, c.loop-holding-test.true)) in
    subst (λ (records : List Fields). HasWritten records c.write_holding.new.writer) (sym more)
    (c.in_ok-write_holding.ensures _ c.loop-holding.invariant)

pub returns : goal.returns
returns c =
    let all = take_all c.loop-holding.holding-index c.lines-holding-items.result.now
    (omega (arith, c.loop-holding-test.false)) in
    let whole : HasWritten (holdings_table c.args.holdings.now) c.loop-holding.writer =
    subst (λ (lines : List HoldingLine). HasWritten (holdings_table lines) c.loop-holding.writer)
    (all ∙ c.lines-holding-items.ensures) c.loop-holding.invariant in
    in_other_words c.end.result _ _ (λ table written. written (holdings_table c.args.holdings.now) whole) c.end.ensures
