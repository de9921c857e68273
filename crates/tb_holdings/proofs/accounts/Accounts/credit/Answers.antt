-- The holder has more than before, within the limit, and the room was there.
use Rattle.std.proofs.Common.{◌+◌, ◌∙◌, ap, arith}
use Rattle.tb_holdings.specs.Holdings.{total_in}
use Rattle.tb_holdings.proofs.HoldingLemmas.{total_in-with_held_same, total_in-with_held_other}
use Rattle.tb_holdings.proofs.KeptLemmas.{AreKept-with_held}
use Rattle.tb_holdings.proofs.accounts.Accounts.credit.Goals as goal

pub invariant_of-self : goal.invariant_of-self
invariant_of-self c =
    let inside = c.self.inside in
    let live = rw (← c.self.view_is) at c.requires.live in
    let limit = rw (← c.self.view_is) at c.requires.limit in
    let room = rw (← c.self.view_is) at c.requires.room in
    let held = rw (← c.self.view_is) at c.held-held.ensures.held in
    let covered = c.self.invariant.0.covered c.args.holder c.args.security in (
      rw c.set_held.ensures.accounts
          (AreKept-with_held c.args.holder c.args.security (c.held-held.result.value + c.args.par.value)
          inside.accounts.elements inside.marks.list inside.redeemed.items inside.paid.items c.self.invariant.0
          (record { live = live; fits = omega (arith, limit, held); enough = omega (arith, held, covered) })),
      omega (arith, room, c.set_held.ensures.one_more),
      c.self.invariant.2,
      c.self.invariant.3,
    )

pub returns-clause-total : goal.returns-clause-total
returns-clause-total c =
    let inside = c.self.inside in
    let held = rw (← c.self.view_is) at c.held-held.ensures.held in
    let sum = total_in-with_held_same c.args.holder c.args.security
    (c.held-held.result.value + c.args.par.value) inside.accounts.elements in
    rw (← c.self.view_is) (omega (arith, ap (total_in c.args.security) c.set_held.ensures.accounts, sum, held))

pub returns-clause-total_others : goal.returns-clause-total_others
returns-clause-total_others c = λ other differs.
    rw (← c.self.view_is)
    (ap (total_in other) c.set_held.ensures.accounts
    ∙ total_in-with_held_other c.args.holder c.args.security
    (c.held-held.result.value + c.args.par.value) other c.self.inside.accounts.elements differs)

pub returns-clause-laws : goal.returns-clause-laws
returns-clause-laws c = (invariant_of-self c).0
