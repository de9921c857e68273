-- The numbers are places in the tables.
use Rattle.std.proofs.Common.{◌≡◌, [], Some, Option, refl, subst}
use Rattle.tb_movements.specs.Movements.{Movement, Transferred, Pledged, Released, Redeemed}
use Rattle.tb_history.specs.Moves.{movement_by}
use Rattle.tb_ledger.specs.Accounting.{numbers_in, TellsNext}
use Rattle.tb_ledger.proofs.accounts.account.Goals as goal

pub returns-in-Transfer-clause-told : goal.returns-in-Transfer-clause-told
returns-in-Transfer-clause-told c =
    let same : Some (Transferred c.holder_number-from.result c.holder_number-to.result c.bill_number-security.result
    c.in-Transfer.amount.value)
    ≡ movement_by (numbers_in c.args.submitters.now.list c.args.auctions.now.list) [] c.args.sender.now c.args.number
    c.args.message.now =
    rw (c.in-Transfer.is, c.holder_number-from.ensures, c.holder_number-to.ensures, c.bill_number-security.ensures)
    refl in
    subst (λ (m : Option Movement). TellsNext m c.args.accounts.now c.enter_transfer.new.accounts)
    same c.enter_transfer.ensures.told

pub returns-in-Pledge-clause-told : goal.returns-in-Pledge-clause-told
returns-in-Pledge-clause-told c =
    let same : Some (Pledged c.holder_number-holder.result c.args.number c.holder_number-pledgee.result
    c.bill_number-security-in-Pledge.result c.in-Pledge.amount.value)
    ≡ movement_by (numbers_in c.args.submitters.now.list c.args.auctions.now.list) [] c.args.sender.now c.args.number
    c.args.message.now =
    rw (
      c.in-Pledge.is,
      c.holder_number-holder.ensures,
      c.holder_number-pledgee.ensures,
      c.bill_number-security-in-Pledge.ensures,
    ) refl in
    subst (λ (m : Option Movement). TellsNext m c.args.accounts.now c.enter_pledge.new.accounts)
    same c.enter_pledge.ensures.told

pub returns-in-Release-clause-told : goal.returns-in-Release-clause-told
returns-in-Release-clause-told c =
    let same : Some (Released c.holder_number-holder-in-Release.result c.in-Release.pledge c.holder_number-caller.result
    c.in-Release.amount.value)
    ≡ movement_by (numbers_in c.args.submitters.now.list c.args.auctions.now.list) [] c.args.sender.now c.args.number
    c.args.message.now =
    rw (c.in-Release.is, c.holder_number-holder-in-Release.ensures, c.holder_number-caller.ensures) refl in
    subst (λ (m : Option Movement). TellsNext m c.args.accounts.now c.enter_release.new.accounts)
    same c.enter_release.ensures.told

pub returns-in-Redeem-clause-told : goal.returns-in-Redeem-clause-told
returns-in-Redeem-clause-told c =
    let same : Some (Redeemed c.bill_number-security-in-Redeem.result)
    ≡ movement_by (numbers_in c.args.submitters.now.list c.args.auctions.now.list) [] c.args.sender.now c.args.number
    c.args.message.now =
    rw (c.in-Redeem.is, c.bill_number-security-in-Redeem.ensures) refl in
    subst (λ (m : Option Movement). TellsNext m c.args.accounts.now c.enter_redemption.new.accounts)
    same c.enter_redemption.ensures.told
