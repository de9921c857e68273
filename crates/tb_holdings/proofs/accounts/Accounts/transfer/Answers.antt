-- The sender keeps what it has pledged, and the room was there.
use Rattle.std.proofs.Common.{ap, ◌∙◌, arith}
use Rattle.tb_holdings.specs.Holdings.{total_in}
use Rattle.tb_holdings.proofs.HoldingLemmas.{total_in-moved, total_in-moved_other}
use Rattle.tb_holdings.proofs.KeptLemmas.{AreKept-moved, held_in-limit}
use Rattle.tb_holdings.proofs.accounts.Accounts.transfer.Goals as goal

pub move_held-requires-clause-sent : goal.move_held-requires-clause-sent
move_held-requires-clause-sent c = omega (arith, held_in-limit c.self.invariant.0 c.args.from c.args.security)

pub move_held-requires-clause-received : goal.move_held-requires-clause-received
move_held-requires-clause-received c =
    let whole = rw (← c.self.view_is) at c.free-free.ensures.whole in
    omega (
      arith,
      held_in-limit c.self.invariant.0 c.args.to c.args.security,
      held_in-limit c.self.invariant.0 c.args.from c.args.security,
      whole,
      c.if-par-free.false,
    )

pub invariant_of-self : goal.invariant_of-self
invariant_of-self c =
    let inside = c.self.inside in
    let live = rw (← c.self.view_is) at c.requires.live in
    let room = rw (← c.self.view_is) at c.requires.room in
    let whole = rw (← c.self.view_is) at c.free-free.ensures.whole in (
      rw c.move_held.ensures.accounts
          (AreKept-moved c.args.from c.args.to c.args.security c.args.par.value
          inside.accounts.elements inside.marks.list inside.redeemed.items inside.paid.items c.self.invariant.0
          (record { live = live; apart = c.requires.apart; free = omega (arith, whole, c.if-par-free.false) })),
      omega (arith, room, c.move_held.ensures.one_more),
      c.self.invariant.2,
      c.self.invariant.3,
    )

pub returns-clause-total : goal.returns-clause-total
returns-clause-total c =
    let inside = c.self.inside in
    let whole = rw (← c.self.view_is) at c.free-free.ensures.whole in
    rw (← c.self.view_is)
    (ap (total_in c.args.security) c.move_held.ensures.accounts
    ∙ total_in-moved c.args.from c.args.to c.args.security c.args.par.value inside.accounts.elements c.requires.apart
    (omega (arith, whole, c.if-par-free.false)))

pub returns-clause-total_others : goal.returns-clause-total_others
returns-clause-total_others c = λ other differs.
    rw (← c.self.view_is)
    (ap (total_in other) c.move_held.ensures.accounts
    ∙ total_in-moved_other c.args.from c.args.to c.args.security c.args.par.value other
    c.self.inside.accounts.elements differs)

pub returns-clause-laws : goal.returns-clause-laws
returns-clause-laws c = (invariant_of-self c).0
