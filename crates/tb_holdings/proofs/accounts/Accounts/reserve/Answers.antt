-- Room that is taken leaves the lists as they are, and their laws.
use Rattle.std.proofs.Common.{ap, length, arith}
use Rattle.tb_holdings.proofs.accounts.Accounts.reserve.Goals as goal

pub invariant_of-self-in_err-reserve-2 : goal.invariant_of-self-in_err-reserve-2
invariant_of-self-in_err-reserve-2 c =
    let taken = c.reserve_accounts.ensures in (
      rw (taken.accounts, c.reserve.ensures.list, c.reserve-2.ensures.items, taken.paid.0) c.self.invariant.0,
      omega (arith, ap length taken.accounts, taken.paid.1, taken.capacity.1, c.self.invariant.1),
      rw taken.paid.0 c.self.invariant.2,
      rw c.reserve-2.ensures.items c.self.invariant.3,
    )

pub invariant_of-self-in_err-reserve-3 : goal.invariant_of-self-in_err-reserve-3
invariant_of-self-in_err-reserve-3 c =
    let taken = c.reserve_accounts.ensures in (
      rw (taken.accounts, c.reserve.ensures.list, c.reserve-2.ensures.items, taken.paid.0) c.self.invariant.0,
      omega (arith, ap length taken.accounts, taken.paid.1, taken.capacity.1, c.self.invariant.1),
      rw (taken.paid.0, c.reserve-3.ensures.items) c.self.invariant.2,
      rw (c.reserve-2.ensures.items, c.reserve-3.ensures.items) c.self.invariant.3,
    )

pub invariant_of-self-2 : goal.invariant_of-self-2
invariant_of-self-2 c =
    let taken = c.reserve_accounts.ensures in (
      rw (taken.accounts, c.reserve.ensures.list, c.reserve-2.ensures.items, taken.paid.0) c.self.invariant.0,
      omega (arith, ap length taken.accounts, taken.paid.1, taken.capacity.1, c.self.invariant.1),
      rw (taken.paid.0, c.reserve-3.ensures.items) c.self.invariant.2,
      rw (c.reserve-2.ensures.items, c.reserve-3.ensures.items) c.self.invariant.3,
    )
