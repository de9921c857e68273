-- A name that the map lacks gets the end of the list.
use Rattle.std.specs.HashMap.{Updates}
use Rattle.std.proofs.Common.{Some, sym, ◌∙◌}
use Rattle.tb_index.proofs.FirstLemmas.{AreFirsts-new}
use Rattle.tb_index.proofs.KeyLemmas.{at-ok}
use Rattle.tb_index.proofs.firsts.add_first.Goals as goal

pub returns-then-not-contains_key-clause-firsts : goal.returns-then-not-contains_key-clause-firsts
returns-then-not-contains_key-clause-firsts g c keys long are =
    let same = g.K.PartialEq.eq in
    let firsts = c.args.firsts.now in
    let next = c.insert.new.self in
    let updates = at-ok (Updates same firsts next c.args.key (Some c.args.place)) c.insert.result
    (c.insert.ensures.succeeds c.requires) c.insert.ensures.updates in
    AreFirsts-new g.met.K.Eq.laws keys firsts next c.args.key c.args.place are
    (sym c.contains_key.ensures ∙ c.if-not-contains_key.true) updates.0 long
