use Rattle.std.proofs.Common.{arith, refl, ap, sym, ◌∙◌}
use Rattle.std.specs.Fmt.{decimal}
use Rattle.tb_text_book.proofs.DigitLemmas.{decimal-above, decimal-form, decimal-other, decimal-read}
use Rattle.tb_text_book.proofs.numbers.read_decimal.Goals as goal

pub returns-then-not-has_form-clause-none : goal.returns-then-not-has_form-clause-none
returns-then-not-has_form-clause-none c = decimal-form c.args.text.now (c.if-not-has_form.ensures.other refl)

pub returns-in_err-number-clause-none : goal.returns-in_err-number-clause-none
returns-in_err-number-clause-none c =
    rw c.from_residual.ensures (decimal-other c.args.text.now (c.in_err-number.ensures.none refl))

pub returns-then-number-gt-MOST_READ-clause-none : goal.returns-then-number-gt-MOST_READ-clause-none
returns-then-number-gt-MOST_READ-clause-none c =
    let value = c.in_ok-number.ensures.read.1 in
    decimal-above c.args.text.now (omega (arith, value, c.if-number-gt-MOST_READ.true))

pub returns-clause-read : goal.returns-clause-read
returns-clause-read c =
    let form = c.if-not-has_form.ensures.form refl in
    let read = c.in_ok-number.ensures.read in (
      omega arith,
      decimal-read c.args.text.now read.0 form.0 form.1 form.2 ∙ ap decimal (sym read.1),
    )
