-- the accounts of the security from the place on were taken out
use Rattle.std.proofs.Common.{◌≡◌, not}
use Rattle.tb_holdings.specs.Holdings.{AreInOrder, is_of}
use Rattle.tb_holdings.proofs.WalkLemmas.{IsWalked}
use Rattle.tb_holdings.proofs.account.close_accounts.Given as goal

abbrev pub invariant-loop-place : goal.invariant-loop-place
invariant-loop-place l = record {
  walked : IsWalked (λ account. not (is_of l.security account)) l.place l.initial.accounts.elements l.accounts.elements;
  in_order : AreInOrder l.accounts.elements;
  spare : l.accounts.spare ≡ l.initial.accounts.spare;
}
