-- The credits so far are given.
use Rattle.std.proofs.Common.{take}
use Rattle.tb_holdings.specs.Book.{TakesRoom}
use Rattle.tb_movements.specs.Credits.{CreditsBook, credits_of}
use Rattle.tb_movements.proofs.calls.credit_all.Given as goal

abbrev pub invariant-loop-award : goal.invariant-loop-award
invariant-loop-award l = record {
  credits : CreditsBook l.security (credits_of (take l.award-index l.awards)) l.fn.accounts l.accounts;
  room : TakesRoom l.award-index 0 0 l.fn.accounts l.accounts;
}
