-- The account at the place is the next of the holder.
use Rattle.std.proofs.Common.{◌<◌, length, arith}
use Rattle.tb_holdings.proofs.NextLemmas.{held_in-between, held_in-none, held_in-own_some, held_in-past, own_from}
use Rattle.tb_holdings.proofs.account.next_held.Goals as goal

pub returns-then-place-len-clause-none : goal.returns-then-place-len-clause-none
returns-then-place-len-clause-none c = λ _ security from.
    held_in-none c.args.holder c.args.from security c.args.accounts.now.elements c.place_of-place.result
    c.requires.in_order c.place_of-place.ensures from
    (λ d within. absurd (omega (arith, within, c.if-place-len.true, c.len.ensures.len)))

pub returns-then-account-holder-clause-next : goal.returns-then-account-holder-clause-next
returns-then-account-holder-clause-next c =
    let accounts = c.args.accounts.now.elements in
    let place = c.place_of-place.result in
    let account = c.at-account.result.now in
    let at = c.place_of-place.ensures in
    let own = c.if-account-holder.true in
    let within : place < length accounts = omega (arith, c.if-place-len.false, c.len.ensures.len, at.within) in (
      own_from c.args.holder c.args.from accounts place account at within c.at-account.ensures own,
      held_in-own_some c.args.holder accounts place account c.requires.in_order c.requires.none_empty within
          c.at-account.ensures own,
    )

pub returns-then-account-holder-clause-none_between :
    goal.returns-then-account-holder-clause-none_between
returns-then-account-holder-clause-none_between c = λ security from less.
    held_in-between c.args.holder c.args.from security c.args.accounts.now.elements c.place_of-place.result
    c.at-account.result.now c.requires.in_order c.place_of-place.ensures c.at-account.ensures
    c.if-account-holder.true from less

pub returns-else-account-holder-clause-none : goal.returns-else-account-holder-clause-none
returns-else-account-holder-clause-none c = λ _ security from.
    held_in-past c.args.holder c.args.from security c.args.accounts.now.elements c.place_of-place.result
    c.at-account.result.now c.requires.in_order c.place_of-place.ensures c.at-account.ensures
    c.if-account-holder.false from
