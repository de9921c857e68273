use Rattle.std.proofs.Common.{List, [], ◌∷◌, ◌++◌, take, ap, sym, subst, ◌∙◌, arith}
use Rattle.std.proofs.lemmas.List.{take_all}
use Rattle.tb_history.specs.declared.readings.AwardLine.{AwardLine}
use Rattle.tb_import.specs.Rows.{Text, Fields}
use Rattle.tb_import.specs.Exports.{fields_of_award, award_fields, awards_header, bidders_table}
use Rattle.tb_import.specs.Writers.{HasWritten}
use Rattle.tb_import.proofs.ExportLemmas.{one_more}
use Rattle.tb_import.proofs.export.write_bidders.Goals as goal

pub loop-award-init : goal.loop-award-init
loop-award-init c = c.in_ok-write.ensures [] c.requires

pub loop-award-preserved : goal.loop-award-preserved
loop-award-preserved c =
    let award = c.award-item.result in
    let before : List Fields = bidders_table (take c.loop-award.award-index c.args.awards.now) in
    -- the record is told by the bytes of the bidder's name
    let named =
    ap (λ (whose : Text). before ++ fields_of_award whose award.amount.value award.payment.value ∷ [])
    c.bytes.ensures.bytes in
    let more = one_more award_fields awards_header c.args.awards.now c.loop-award.award-index award c.award-item.is
    (omega (arith, c.loop-award-test.true)) in
    subst (λ (records : List Fields). HasWritten records c.write_award.new.writer) (named ∙ sym more)
    (c.in_ok-write_award.ensures before c.loop-award.invariant)

pub returns : goal.returns
returns c =
    subst (λ (lines : List AwardLine). HasWritten (bidders_table lines) c.loop-award.writer)
    (take_all c.loop-award.award-index c.args.awards.now (omega (arith, c.loop-award-test.false)))
    c.loop-award.invariant
