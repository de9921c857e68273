-- so many bidders have nothing yet
use Rattle.std.proofs.Common.{◌≡◌, replicate, vec_capacity}
use Rattle.tb_results.proofs.amounts.award_nothing.Given as goal

abbrev pub invariant-loop : goal.invariant-loop
invariant-loop l = record {
  amounts : l.amounts.items ≡ replicate l.counter 0;
  room : vec_capacity l.amounts ≡ vec_capacity l.initial.amounts;
}
