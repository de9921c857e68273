-- Both steps of a turn.
use Rattle.std.proofs.Common.{◌≤◌, inl, inr, None, refl, ap, arith}
use Rattle.tb_core.specs.House.{House}
use Rattle.tb_history.specs.Legal.{running, last_of}
use Rattle.tb_history.proofs.HistoryLemmas.{running-seconds}
use Rattle.tb_desk.proofs.AnswerLemmas.{held-same}
use Rattle.tb_desk.proofs.JudgeLemmas.{sealed-all, group_on-legal}
use Rattle.tb_desk.proofs.TurnLemmas.{crash-turn}
use Rattle.tb_desk.proofs.steps.turn_group.Goals as goal

pub returns-in-Err-clause-turn : goal.returns-in-Err-clause-turn
returns-in-Err-clause-turn g c =
    let history = c.args.host.now.history in
    let submitter = c.args.submitter.now in
    let messages = c.args.messages.now in
    let now = running history c.args.moment in
    let in_time : last_of history ≤ now.seconds = omega (arith, running-seconds history c.args.moment) in (
      None,
      c.blank.ensures,
      record {
        at = history;
        legal = c.requires.stands.legal;
        turn = inl (
          record {
            failed = refl;
            unsure = c.in-Err.ensures.unsure;
            same = held-same history c.settle.new.host.history c.args.doubt.now.items c.settle.new.doubt.items
                (ap (λ (house : House). house.history) c.in-Err.ensures.same.0) c.in-Err.ensures.same.1;
          },
          refl,
        );
        sealed = λ still. sealed-all history submitter now messages
            (group_on-legal history submitter now messages c.requires.stands.legal c.bytes.ensures.name
            c.requires.numbered in_time) still;
      },
    )

pub returns-in-Ok-clause-turn : goal.returns-in-Ok-clause-turn
returns-in-Ok-clause-turn g c =
    let told = c.answer_group.ensures.answered in (
      told.0,
      told.1,
      record {
        at = c.settle.new.host.history;
        legal = c.settle.ensures.stands.legal;
        turn = inr (c.in-Ok.ensures.resolves, told.2);
        sealed = c.answer_group.ensures.sealed;
      },
    )

pub returns-in-Ok-clause-crash : goal.returns-in-Ok-clause-crash
returns-in-Ok-clause-crash g c =
    let d = g.D.Disk.disk in
    let old = c.args.journal.now in
    crash-turn old.gate (d old.disk) (record { history = c.args.host.now.history; doubt = c.args.doubt.now.items })
    (record { history = c.answer_group.new.host.history; doubt = c.answer_group.new.doubt.items })
    c.settle.new.host.history
    (d old.disk) (d c.settle.new.journal.disk) (d c.answer_group.new.journal.disk) c.in-Ok.ensures.resolves
    c.settle.ensures.crash c.answer_group.ensures.crash
