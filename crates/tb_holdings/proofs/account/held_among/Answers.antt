-- What is held stands in the holder's account of the security, at its place.
use Rattle.std.proofs.Common.{◌≡◌, ◌<◌, true, ap, sym, ◌∙◌, length, arith}
use Rattle.std.specs.List.{HoldsAt}
use Rattle.std.proofs.lemmas.List.{get_or_default}
use Rattle.tb_holdings.specs.declared.account.Account.{Account}
use Rattle.tb_holdings.specs.Holdings.{is_account}
use Rattle.tb_holdings.proofs.AccountLemmas.{StandsAt-account}
use Rattle.tb_holdings.proofs.HoldingLemmas.{held_in-missing, held_in-stands}
use Rattle.tb_holdings.proofs.account.held_among.Goals as goal

-- no account
abbrev none : Account
none = record { holder = 0; security = 0; held = 0 }

pub returns-then-place-accounts : goal.returns-then-place-accounts
returns-then-place-accounts c =
    sym (held_in-missing c.args.holder c.args.security c.args.accounts.now c.place_among-place.result
    c.requires.in_order
    (record {
      first = c.place_among-place.ensures;
      other = λ d short. absurd (omega (arith, short, c.if-place-accounts.true));
    }))

pub returns-then-is_account : goal.returns-then-is_account
returns-then-is_account c =
    let accounts = c.args.accounts.now in
    let place = c.place_among-place.result in
    let at = c.place_among-place.ensures in
    let within : place < length accounts = omega (arith, at.within, c.if-place-accounts.false) in
    let own : HoldsAt (λ account. is_account c.args.holder c.args.security account ≡ true) accounts place = λ d.
    ap (is_account c.args.holder c.args.security) (get_or_default accounts place d none within)
    ∙ (sym c.is_account.ensures ∙ c.if-is_account.true) in
    sym (held_in-stands c.args.holder c.args.security accounts place none c.requires.in_order c.requires.none_empty
    (StandsAt-account c.args.holder c.args.security accounts place c.requires.in_order within own))

pub returns-else-is_account : goal.returns-else-is_account
returns-else-is_account c =
    let accounts = c.args.accounts.now in
    let place = c.place_among-place.result in
    sym (held_in-missing c.args.holder c.args.security accounts place c.requires.in_order
    (record {
      first = c.place_among-place.ensures;
      other = λ d short.
          ap (is_account c.args.holder c.args.security) (get_or_default accounts place d none short)
          ∙ (sym c.is_account.ensures ∙ c.if-is_account.false);
    }))
