-- Both steps of a turn.
use Rattle.std.proofs.Common.{inl, inr, refl, ap}
use Rattle.tb_core.specs.House.{House}
use Rattle.tb_desk.proofs.AnswerLemmas.{held-same, sealed-one}
use Rattle.tb_desk.proofs.TurnLemmas.{crash-turn}
use Rattle.tb_desk.proofs.steps.turn.Goals as goal

pub returns-in-Err-clause-turn : goal.returns-in-Err-clause-turn
returns-in-Err-clause-turn g c = record {
  at = c.args.host.now.history;
  legal = c.requires.stands.legal;
  turn = inl (
    record {
      failed = refl;
      unsure = c.in-Err.ensures.unsure;
      same = held-same c.args.host.now.history c.settle.new.host.history c.args.doubt.now.items c.settle.new.doubt.items
          (ap (λ (house : House). house.history) c.in-Err.ensures.same.0) c.in-Err.ensures.same.1;
    },
    refl,
  );
  sealed = λ still. sealed-one c.args.host.now.history c.args.submitter.now c.args.number c.args.moment
      c.args.message.now c.requires.stands.legal still;
}

pub returns-in-Ok-clause-turn : goal.returns-in-Ok-clause-turn
returns-in-Ok-clause-turn g c = record {
  at = c.settle.new.host.history;
  legal = c.settle.ensures.stands.legal;
  turn = inr (c.in-Ok.ensures.resolves, c.answer.ensures.answered);
  sealed = λ still. sealed-one c.settle.new.host.history c.args.submitter.now c.args.number c.args.moment
      c.args.message.now c.settle.ensures.stands.legal still;
}

pub returns-in-Ok-clause-crash : goal.returns-in-Ok-clause-crash
returns-in-Ok-clause-crash g c =
    let d = g.D.Disk.disk in
    let old = c.args.journal.now in
    crash-turn old.gate (d old.disk) (record { history = c.args.host.now.history; doubt = c.args.doubt.now.items })
    (record { history = c.answer.new.host.history; doubt = c.answer.new.doubt.items }) c.settle.new.host.history
    (d old.disk) (d c.settle.new.journal.disk) (d c.answer.new.journal.disk) c.in-Ok.ensures.resolves
    c.settle.ensures.crash c.answer.ensures.crash
