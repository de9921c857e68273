-- the accounts of the security so far were paid, and there is room for the others
use Rattle.std.proofs.Common.{◌≡◌, ◌+◌, ◌≤◌, ◌++◌, take, filter, vec_len, vec_capacity}
use Rattle.tb_holdings.specs.Holdings.{is_of}
use Rattle.tb_holdings.proofs.account.pay_run.Given as goal

abbrev pub invariant-loop-account : goal.invariant-loop-account
invariant-loop-account l = record {
  paid : l.paid.items ≡ l.initial.paid.items ++ filter (is_of l.security) (take l.account-index l.accounts);
  room : vec_len l.paid ≤ vec_len l.initial.paid + l.account-index;
  capacity : vec_capacity l.paid ≡ vec_capacity l.initial.paid;
}
