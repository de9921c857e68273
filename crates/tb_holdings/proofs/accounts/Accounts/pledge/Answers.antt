-- What is pledged was free, and the holder had fewer open marks than the quota.
use Rattle.std.proofs.Common.{arith}
use Rattle.tb_holdings.proofs.KeptLemmas.{AreKept-with_mark}
use Rattle.tb_holdings.proofs.accounts.Accounts.pledge.Goals as goal

pub invariant_of-self : goal.invariant_of-self
invariant_of-self c =
    let inside = c.self.inside in
    let new = rw (← c.self.view_is) at c.requires.new in
    let whole = rw (← c.self.view_is) at c.free-free.ensures.whole in
    let few = rw (← c.self.view_is) at c.open_marks.ensures.open_marks in (
      rw c.add.ensures.list
          (AreKept-with_mark _
          inside.accounts.elements inside.marks.list inside.redeemed.items inside.paid.items c.self.invariant.0
          (record {
            new = new;
            free = omega (arith, whole, c.if-par-free.false);
            few = omega (arith, few, c.if-open_marks-ge-MOST_OPEN.false);
          })),
      c.self.invariant.1,
      c.self.invariant.2,
      c.self.invariant.3,
    )

pub returns-clause-laws : goal.returns-clause-laws
returns-clause-laws c = (invariant_of-self c).0
