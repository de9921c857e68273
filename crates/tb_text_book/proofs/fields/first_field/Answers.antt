use Rattle.std.proofs.Common.{◌≡◌, ℕ, ◌+◌, ◌-◌, List, ◌∷◌, length, take, drop, sym, ap, ◌∙◌, arith}
use Rattle.std.proofs.lemmas.List.{length-drop, take_all}
use Rattle.tb_text_book.specs.Fields.{fields}
use Rattle.tb_text_book.proofs.FieldLemmas.{fields-first, fields-only}
use Rattle.tb_text_book.proofs.fields.first_field.Goals as goal

-- a range without an end goes to the end
to_end : (text : List ℕ) (from : ℕ) → take (length text - from) (drop from text) ≡ drop from text
to_end text from = take_all (length text - from) (drop from text) (omega (arith, length-drop from text))

pub returns-in-Some : goal.returns-in-Some
returns-in-Some c =
    fields-first c.args.text.now c.in-Some.end (sym c.first_blank.ensures ∙ c.in-Some.is)
    ∙ ap (λ (rest : List ℕ). take c.in-Some.end c.args.text.now ∷ fields rest)
    (sym (to_end c.args.text.now (c.in-Some.end + 1)))

pub returns-in-None : goal.returns-in-None
returns-in-None c = fields-only c.args.text.now (sym c.first_blank.ensures ∙ c.in-None.is)
