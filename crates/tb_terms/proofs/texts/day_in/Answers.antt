use Rattle.tb_terms.proofs.TextFacts.{IsDated-written}
use Rattle.tb_terms.proofs.texts.day_in.Goals as goal

pub returns-in_default-clause-none : goal.returns-in_default-clause-none
returns-in_default-clause-none c = λ n from to is.
    let dated = IsDated-written c.args.bytes.now n from to is in
    c.in_default.ensures.none n from to
    (rw (c.two_digits.ensures, c.two_digits-2.ensures, c.two_digits-month.ensures, c.two_digits-3.ensures) dated)
