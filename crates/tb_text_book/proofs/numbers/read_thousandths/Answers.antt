use Rattle.std.proofs.Common.{◌∙◌, sym, arith}
use Rattle.std.proofs.lemmas.Grind.{common_steps}
use Rattle.tb_text_book.proofs.DigitLemmas.{thousandths_of-no_point, thousandths_of-point}
use Rattle.tb_text_book.proofs.numbers.read_thousandths.Goals as goal

pub returns-in_err-read_short-in-None-clause-value : goal.returns-in_err-read_short-in-None-clause-value
returns-in_err-read_short-in-None-clause-value c =
    let e = thousandths_of-no_point c.args.text.now (sym c.first_point.ensures ∙ c.in-None.is) in
    grind (arith, common_steps)

pub returns-in_err-whole-in-Some-clause-value : goal.returns-in_err-whole-in-Some-clause-value
returns-in_err-whole-in-Some-clause-value c =
    let e = thousandths_of-point c.args.text.now c.in-Some.end (sym c.first_point.ensures ∙ c.in-Some.is) in
    grind (arith, common_steps)

pub returns-in_err-parts-in-Some-clause-value : goal.returns-in_err-parts-in-Some-clause-value
returns-in_err-parts-in-Some-clause-value c =
    let e = thousandths_of-point c.args.text.now c.in-Some.end (sym c.first_point.ensures ∙ c.in-Some.is) in
    grind (arith, common_steps)

pub returns-in_ok-read_short-in-None-clause-value : goal.returns-in_ok-read_short-in-None-clause-value
returns-in_ok-read_short-in-None-clause-value c =
    let e = thousandths_of-no_point c.args.text.now (sym c.first_point.ensures ∙ c.in-None.is) in
    grind (arith, common_steps)

pub returns-in_ok-parts-in-Some-clause-value : goal.returns-in_ok-parts-in-Some-clause-value
returns-in_ok-parts-in-Some-clause-value c =
    let e = thousandths_of-point c.args.text.now c.in-Some.end (sym c.first_point.ensures ∙ c.in-Some.is) in
    grind (arith, common_steps)
