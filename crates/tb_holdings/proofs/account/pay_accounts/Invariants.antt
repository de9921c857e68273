-- the accounts of the security up to the place were paid, and there is room for the others
use Rattle.std.proofs.Common.{◌≡◌, ◌+◌, ◌-◌, ◌≤◌, ◌++◌, length, take, filter, vec_len, vec_capacity}
use Rattle.tb_holdings.specs.Holdings.{is_of}
use Rattle.tb_holdings.proofs.account.pay_accounts.Given as goal

abbrev pub invariant-loop-place : goal.invariant-loop-place
invariant-loop-place l = record {
  paid : l.paid.items ≡ l.initial.paid.items ++ filter (is_of l.security) (take l.place l.accounts.elements);
  room : vec_len l.paid ≤ vec_len l.initial.paid + l.place;
  capacity : vec_capacity l.paid ≡ vec_capacity l.initial.paid;
  within : l.place ≤ length l.accounts.elements;
}

abbrev pub decreases-loop-place : goal.decreases-loop-place
decreases-loop-place l = length l.accounts.elements - l.place
