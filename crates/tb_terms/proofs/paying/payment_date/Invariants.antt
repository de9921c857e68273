use Rattle.tb_terms.specs.Payable.{numbers_of}
use Rattle.tb_terms.proofs.PayableFacts.{IsWalked}
use Rattle.tb_terms.proofs.paying.payment_date.Given as goal

abbrev pub invariant-loop-holiday : goal.invariant-loop-holiday
invariant-loop-holiday l = IsWalked (numbers_of l.holidays) l.fn.maturity.number l.number l.holiday-index
