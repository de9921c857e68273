-- The end of the name is that of the list, whether it was there or not.
use Rattle.std.specs.HashMap.{Updates}
use Rattle.std.proofs.Common.{Some}
use Rattle.tb_index.proofs.EndLemmas.{AreEnds-later}
use Rattle.tb_index.proofs.KeyLemmas.{at-ok}
use Rattle.tb_index.proofs.ends.add_end.Goals as goal

pub returns-in-Ok-Some-clause-ends : goal.returns-in-Ok-Some-clause-ends
returns-in-Ok-Some-clause-ends g c keys long are =
    let same = g.K.PartialEq.eq in
    let next = c.insert.new.self in
    let updates = at-ok (Updates same c.args.ends.now next c.args.key (Some c.args.end)) c.insert.result
    (c.insert.ensures.succeeds c.requires) c.insert.ensures.updates in
    AreEnds-later same keys c.args.ends.now next c.args.key c.args.end are updates.0 long

pub returns-in_default-clause-ends : goal.returns-in_default-clause-ends
returns-in_default-clause-ends g c keys long are =
    let same = g.K.PartialEq.eq in
    let next = c.insert.new.self in
    let updates = at-ok (Updates same c.args.ends.now next c.args.key (Some c.args.end)) c.insert.result
    (c.insert.ensures.succeeds c.requires) c.insert.ensures.updates in
    AreEnds-later same keys c.args.ends.now next c.args.key c.args.end are updates.0 long
