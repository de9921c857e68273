-- The entry can follow on the history.
use Rattle.std.proofs.Common.{◌++◌, ◌∷◌, [], List, ap, sym, ◌∙◌, subst, arith}
use Rattle.tb_message.specs.declared.message.Entry.{Entry}
use Rattle.tb_history.specs.Legal.{Follows}
use Rattle.tb_desk.proofs.JudgeLemmas.{entry-follows}
use Rattle.tb_desk.proofs.replay.enter.Goals as goal

pub apply-requires-clause-follows : goal.apply-requires-clause-follows
apply-requires-clause-follows c =
    let history = c.args.host.now.history in
    subst (λ (entries : List Entry). Follows entries c.args.entry.now) (sym c.make_room.ensures.history)
    (entry-follows history c.args.entry.now c.in-Accepted.number c.in-Accepted.moment c.requires.in_range
    (omega (arith, c.if-entry-last.false, c.last.ensures)) (sym c.in-Accepted.ensures.verdict))

pub returns-clause-entered : goal.returns-clause-entered
returns-clause-entered c =
    let history = c.args.host.now.history in
    let entry = c.args.entry.now in (
      entry-follows history entry c.in-Accepted.number c.in-Accepted.moment c.requires.in_range
          (omega (arith, c.if-entry-last.false, c.last.ensures)) (sym c.in-Accepted.ensures.verdict),
      c.apply.ensures.history ∙ ap (λ (entries : List Entry). entries ++ entry ∷ []) c.make_room.ensures.history,
    )
