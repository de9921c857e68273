-- Each entry can follow on those before it.
use Rattle.std.proofs.Common.{◌++◌, List, take, sym, subst}
use Rattle.tb_message.specs.declared.message.Entry.{Entry}
use Rattle.tb_history.specs.Legal.{Follows}
use Rattle.tb_desk.proofs.GroupLemmas.{follows-at}
use Rattle.tb_desk.proofs.groups.apply_all.Goals as goal

pub apply-requires-clause-follows : goal.apply-requires-clause-follows
apply-requires-clause-follows c =
    let history = c.args.host.now.history in
    let group = c.args.group.now in
    let entry = c.entry-item.result in
    subst (λ (entries : List Entry). Follows entries entry) (sym c.loop-entry.invariant.history)
    (subst (λ (e : Entry). Follows (history ++ take c.loop-entry.entry-index group) e) (sym c.entry-item.is)
    (follows-at history group c.loop-entry.entry-index entry c.loop-entry-test.true c.requires.legal))
