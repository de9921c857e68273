-- so many books were added
use Rattle.std.proofs.Common.{◌≡◌, ◌+◌, vec_len}
use Rattle.tb_shelf.specs.Shelves.{AreReady}
use Rattle.tb_shelf.proofs.preparing.fill.Given as goal

abbrev pub invariant-loop : goal.invariant-loop
invariant-loop l = record {
  places : AreReady l.places l.ready.items;
  long : vec_len l.ready ≡ vec_len l.fn.ready + l.counter;
}
