use Rattle.tb_text_book.proofs.FieldLemmas.{fields_of-not_two}
use Rattle.tb_text_book.proofs.fields.two_fields.Goals as goal

pub returns-in-Some : goal.returns-in-Some
returns-in-Some c =
    fields_of-not_two c.args.others c.first_field.result.1 c.first_field-2.result.1 c.in_ok-others.field-0
    c.in_ok-others-2.field-0 c.in-Some.field-0
    c.first_field.result.0.now c.first_field-2.result.0.now c.in_ok-others.was c.first_field.ensures
    c.in_ok-others-2.was c.first_field-2.ensures c.in-Some.is
