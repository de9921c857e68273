use Rattle.std.proofs.Common.{arith, lit<}
use Rattle.std.proofs.lemmas.Grind.{common_steps}
use Rattle.tb_units.proofs.RateLemmas.{thousandths_of-whole, thousandths_of-parts}
use Rattle.tb_units.proofs.rate.thousandths.Goals as goal

pub returns-in_err-short_numeral-in-None-clause-value : goal.returns-in_err-short_numeral-in-None-clause-value
returns-in_err-short_numeral-in-None-clause-value c =
    let e = thousandths_of-whole c.args.text.now (c.in-None.ensures.byte (lit< tt) (λ w o found. found)) in
    grind (arith, common_steps)

pub returns-in_err-whole-in-Some-clause-value : goal.returns-in_err-whole-in-Some-clause-value
returns-in_err-whole-in-Some-clause-value c =
    let e = thousandths_of-parts c.args.text.now (c.in-Some.ensures.byte (lit< tt) (λ w o found. found)).2 in
    grind (arith, common_steps)

pub returns-in_err-parts-in-Some-clause-value : goal.returns-in_err-parts-in-Some-clause-value
returns-in_err-parts-in-Some-clause-value c =
    let e = thousandths_of-parts c.args.text.now (c.in-Some.ensures.byte (lit< tt) (λ w o found. found)).2 in
    grind (arith, common_steps)

pub returns-in_ok-short_numeral-in-None-clause-value : goal.returns-in_ok-short_numeral-in-None-clause-value
returns-in_ok-short_numeral-in-None-clause-value c =
    let e = thousandths_of-whole c.args.text.now (c.in-None.ensures.byte (lit< tt) (λ w o found. found)) in
    grind (arith, common_steps)

pub returns-in_ok-parts-in-Some-clause-value : goal.returns-in_ok-parts-in-Some-clause-value
returns-in_ok-parts-in-Some-clause-value c =
    let e = thousandths_of-parts c.args.text.now (c.in-Some.ensures.byte (lit< tt) (λ w o found. found)).2 in
    grind (arith, common_steps)
