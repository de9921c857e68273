-- Where the rows aren't given, or the text not made, all is filed.
use Rattle.std.proofs.Common.{ℕ, sym, ap, subst, ◌∙◌, Result}
use Rattle.std.specs.Prelude.{Err, IfErr}
use Rattle.std.specs.Global.{Vec}
use Rattle.std.proofs.lemmas.Result.{err_from_is_err_and}
use Rattle.tb_filing.specs.Filing.{LacksMemory}
use Rattle.tb_filing.specs.Telling.{TellingEnds}
use Rattle.tb_filing.specs.declared.filing.FilingFault.{FilingFault}
use Rattle.tb_filing.proofs.PutLemmas.{memory_of}
use Rattle.tb_filing.proofs.TellingLemmas.{TellingEnds-rows, TellingEnds-text}
use Rattle.tb_filing.proofs.telling.file_and_tell.Goals as goal

pub returns-in_err-rows-clause-ends : goal.returns-in_err-rows-clause-ends
returns-in_err-rows-clause-ends g c =
    let history = c.args.desk.now.host.history in
    let old = g.K.Keeper.keeper c.args.keeper.now in
    let filed = g.K.Keeper.keeper c.file_published.new.keeper in
    let new = g.K.Keeper.keeper c.rows_of.new.keeper in
    let failed = err_from_is_err_and c.from_residual-in_err-rows.result c.from_residual-in_err-rows.ensures.1 in
    subst (λ (r : Result (Vec ℕ) FilingFault). TellingEnds c.args.bill.now history r old new)
    (sym (failed.1 ∙ ap Err failed.2))
    (TellingEnds-rows c.args.bill.now history c.in_err-rows.field-0.0 c.in_ok-tally.tally old filed new
    c.in_ok-tally.ensures.ends.0 c.in_ok-tally.ensures.ends.1 c.in_err-rows.ensures.table c.in_err-rows.ensures.rose)

pub returns-in_err-rows-clause-lacked : goal.returns-in_err-rows-clause-lacked
returns-in_err-rows-clause-lacked g c sure =
    let old = g.K.Keeper.keeper c.args.keeper.now in
    let new = g.K.Keeper.keeper c.rows_of.new.keeper in
    let failed = err_from_is_err_and c.from_residual-in_err-rows.result c.from_residual-in_err-rows.ensures.1 in
    subst (λ (r : Result (Vec ℕ) FilingFault). IfErr r (LacksMemory old new)) (sym failed.1)
    (λ is. c.in_err-rows.ensures.lacked sure (memory_of c.in_err-rows.field-0.0 (sym failed.2 ∙ is))
    ∙ c.in_ok-tally.ensures.ends.1)

pub returns-in_err-register_text-clause-ends : goal.returns-in_err-register_text-clause-ends
returns-in_err-register_text-clause-ends g c =
    let history = c.args.desk.now.host.history in
    let old = g.K.Keeper.keeper c.args.keeper.now in
    let filed = g.K.Keeper.keeper c.file_published.new.keeper in
    let new = g.K.Keeper.keeper c.rows_of.new.keeper in
    let failed = err_from_is_err_and c.from_residual-in_err-register_text.result
    c.from_residual-in_err-register_text.ensures.1 in
    subst (λ (r : Result (Vec ℕ) FilingFault). TellingEnds c.args.bill.now history r old new)
    (sym (failed.1 ∙ ap Err failed.2))
    (TellingEnds-text c.args.bill.now history c.in_ok-tally.tally old filed new c.in_ok-tally.ensures.ends.0
    c.rows_of.ensures.table)
