-- A new run is inserted at its place.
use Rattle.std.proofs.Common.{sym, subst}
use Rattle.tb_units.specs.Places.{HasOneMore}
use Rattle.tb_holdings.specs.Runs.{RunsAreInOrder}
use Rattle.tb_holdings.proofs.RunLemmas.{HasOneMore-run, RunsAreInOrder-insert}
use Rattle.tb_holdings.proofs.runs.add_run.Goals as goal

pub returns-clause-runs : goal.returns-clause-runs
returns-clause-runs c =
    subst (HasOneMore c.args.run c.args.runs.now.items) (sym (rw c.unwrap.ensures at c.insert.ensures.items))
    (HasOneMore-run c.args.run c.args.runs.now.items c.run_place_of-place.result)

pub returns-clause-in_order : goal.returns-clause-in_order
returns-clause-in_order c =
    subst RunsAreInOrder (sym (rw c.unwrap.ensures at c.insert.ensures.items))
    (RunsAreInOrder-insert c.args.run c.args.runs.now.items c.run_place_of-place.result
    c.requires.in_order c.requires.new (rw c.deref.ensures.value at c.run_place_of-place.ensures))
