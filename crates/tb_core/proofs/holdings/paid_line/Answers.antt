-- The accounts tell what the history says the submitter was paid.
use Rattle.std.proofs.Common.{◌≡◌, ◌∙◌, refl, arith}
use Rattle.tb_history.specs.Holdings.{paid_to}
use Rattle.tb_core.proofs.ShownLemmas.{paid-shown, paid-tied, unpaid-hidden}
use Rattle.tb_core.proofs.holdings.paid_line.Goals as goal

pub returns-then-paid-eq0 : goal.returns-then-paid-eq0
returns-then-paid-eq0 c history cusip tied bill known same =
    let submitter = c.args.registration.now.submitter in
    let is : c.paid-paid.result.value ≡ paid_to history submitter cusip =
    (rw (c.holder_number-holder.ensures, same) at c.paid-paid.ensures.paid)
    ∙ paid-tied history c.args.tables.now submitter cusip tied known bill in
    unpaid-hidden history submitter cusip c.paid-paid.result.value is (omega arith)

pub returns : goal.returns
returns c history cusip tied bill known same =
    let submitter = c.args.registration.now.submitter in
    let is : c.paid-paid.result.value ≡ paid_to history submitter cusip =
    (rw (c.holder_number-holder.ensures, same) at c.paid-paid.ensures.paid)
    ∙ paid-tied history c.args.tables.now submitter cusip tied known bill in
    paid-shown history c.args.registration.now cusip _ refl is (omega arith)
