use Rattle.tb_text_book.proofs.BookLineLemmas.{AreOfferingFields-floor}
use Rattle.tb_text_book.proofs.read_line.read_offering.Goals as goal

pub returns-in_err-floor-clause-none : goal.returns-in_err-floor-clause-none
returns-in_err-floor-clause-none c = rw c.from_residual-in_err-floor.ensures (λ offering fields.
    let read = c.in_ok-amount-2.ensures.read in
    let floor = AreOfferingFields-floor _ c.in_ok-amount.amount.now c.in_ok-amount.floor.now c.in_ok-amount.days.now
    c.in_ok-amount-2.amount.value c.in_ok-amount.ensures read.1.within read.0 offering fields in
    c.in_err-floor.ensures.none _ floor.0 floor.1)
