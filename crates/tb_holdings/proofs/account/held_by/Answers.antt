-- What is held stands in the holder's account of the security.
use Rattle.std.proofs.Common.{ap, sym, refl, ◌∙◌}
use Rattle.tb_holdings.specs.declared.account.Account.{Account}
use Rattle.tb_holdings.proofs.AccountLemmas.{StandsAt-key, account_key}
use Rattle.tb_holdings.proofs.HoldingLemmas.{held_in-nothing, held_in-stands}
use Rattle.tb_holdings.proofs.KeyLemmas.{none-key}
use Rattle.tb_holdings.proofs.account.held_by.Goals as goal

pub returns-in-Some : goal.returns-in-Some
returns-in-Some c =
    let accounts = c.args.accounts.now.elements in
    let account = c.at_spot.result.now in
    ap (λ (one : Account). one.held) c.at_spot.ensures
    ∙ sym (held_in-stands c.args.holder c.args.security accounts c.in-Some.spot.place account c.requires.in_order
    c.requires.none_empty
    (StandsAt-key c.args.holder c.args.security accounts c.in-Some.spot.place c.requires.in_order
    c.in-Some.ensures.found))

pub returns-in-None : goal.returns-in-None
returns-in-None c =
    sym (held_in-nothing c.args.holder c.args.security c.args.accounts.now.elements
    (none-key account_key (c.args.holder, c.args.security) c.args.accounts.now.elements
    (c.in-None.ensures.none.0 refl)))
