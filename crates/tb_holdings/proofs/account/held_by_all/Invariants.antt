-- what was counted is held up to the place, which is one of the list's, or its end
use Rattle.std.proofs.Common.{◌≡◌, ◌-◌, ◌≤◌, length, take}
use Rattle.tb_holdings.specs.Holdings.{total_in}
use Rattle.tb_holdings.proofs.account.held_by_all.Given as goal

abbrev pub invariant-loop-place : goal.invariant-loop-place
invariant-loop-place l = record {
  total : l.total ≡ total_in l.security (take l.place l.accounts.elements);
  within : l.place ≤ length l.accounts.elements;
}

abbrev pub decreases-loop-place : goal.decreases-loop-place
decreases-loop-place l = length l.accounts.elements - l.place
