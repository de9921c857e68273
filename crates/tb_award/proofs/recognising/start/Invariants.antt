-- so many bidders have nothing taken
use Rattle.std.proofs.Common.{◌≡◌, replicate, vec_capacity}
use Rattle.tb_award.proofs.recognising.start.Given as goal

abbrev pub invariant-loop : goal.invariant-loop
invariant-loop l = record {
  taken : l.taken.items ≡ replicate l.counter 0;
  room : vec_capacity l.taken ≡ vec_capacity l.initial.taken;
}
