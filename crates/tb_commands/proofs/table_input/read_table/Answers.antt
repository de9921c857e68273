use Rattle.std.proofs.Common.{ℕ, List, ap, subst, ◌∙◌}
use Rattle.std.specs.Prelude.{Err}
use Rattle.tb_import.specs.Answers.{AnswersBids}
use Rattle.tb_commands.proofs.TableLemmas.{HasRows-text, IsFirstBad-text}
use Rattle.tb_commands.proofs.table_input.read_table.Goals as goal

pub returns-in-Ok-read_table-clause-answers : goal.returns-in-Ok-read_table-clause-answers
returns-in-Ok-read_table-clause-answers g c =
    let read = subst (λ (bytes : List ℕ). AnswersBids bytes c.read_table.result) c.deref.ensures.value
    c.read_table.ensures in
    HasRows-text c.in-Ok.text.items (g.I.Source.source c.args.input.now) (g.I.Source.source c.read_text.new.input)
    c.in-Ok-read_table.table c.in-Ok.ensures.text
    (subst (AnswersBids c.in-Ok.text.items) c.in-Ok-read_table.is read) c.in-Ok.ensures.no_fault

pub returns-in-Err-BadRecord-clause-answers : goal.returns-in-Err-BadRecord-clause-answers
returns-in-Err-BadRecord-clause-answers g c =
    let read = subst (λ (bytes : List ℕ). AnswersBids bytes c.read_table.result) c.deref.ensures.value
    c.read_table.ensures in
    IsFirstBad-text c.in-Ok.text.items (g.I.Source.source c.args.input.now) (g.I.Source.source c.read_text.new.input)
    c.in-Err-BadRecord.record c.in-Ok.ensures.text
    (subst (AnswersBids c.in-Ok.text.items) (c.in-Err-BadRecord.is ∙ ap Err c.in-Err-BadRecord.field-0-is) read)
    c.in-Ok.ensures.no_fault
