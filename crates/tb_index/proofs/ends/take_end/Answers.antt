-- The name has the end that it had before.
use Rattle.std.proofs.Common.{is_some, sym, ap}
use Rattle.tb_index.proofs.EndLemmas.{AreEnds-earlier, AreEnds-has}
use Rattle.tb_index.proofs.ends.take_end.Goals as goal

pub returns-in-Some-clause-ends : goal.returns-in-Some-clause-ends
returns-in-Some-clause-ends g c keys had are =
    let end = c.args.end in
    let updates = (c.get_mut.follows.holds end).3 (ap is_some (sym c.in-Some.ensures.value)) in
    AreEnds-earlier g.met.K.Eq.laws keys c.args.ends.now (c.get_mut.follows.lender end) c.args.key.now end are
    updates.0 had

pub returns-in_default-clause-ends : goal.returns-in_default-clause-ends
returns-in_default-clause-ends g c keys had are =
    absurd (AreEnds-has g.met.K.Eq.laws keys c.args.ends.now c.args.key.now are (sym c.in_default.ensures.value))
