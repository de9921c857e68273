-- Nothing of the funds changes.
use Rattle.tb_cashbook.proofs.CashbookLemmas.{tells-other}
use Rattle.tb_cashbook.proofs.MeaningLemmas.{is-other}
use Rattle.tb_cashbook.proofs.laws.other_entries_leave_funds.Goals as goal

pub returns : goal.returns
returns c money history entry next nothing = tells-other history entry money next (is-other history entry nothing)
