-- What stands at the place is the account of the holder, and is written over or taken out, or else one is put in.
use Rattle.std.proofs.Common.{◌≡◌, ◌≤◌, false, All, refl, subst, ◌∙◌, arith}
use Rattle.tb_holdings.specs.Holdings.{AreInOrder, account_with, held_in, is_account}
use Rattle.tb_holdings.proofs.AccountLemmas.{StandsAt-key, account_key, with_held-insert, with_held-none, with_held-take_out, with_held-write}
use Rattle.tb_holdings.proofs.HoldingLemmas.{held_in-nothing}
use Rattle.tb_holdings.proofs.KeyLemmas.{AreKeyed-order, IsPlace-inserted, none-key, removed-at}
use Rattle.tb_holdings.proofs.account.set_held.Goals as goal

pub returns-in-Some-clause-accounts : goal.returns-in-Some-clause-accounts
returns-in-Some-clause-accounts c =
    let accounts = c.args.accounts.now.elements in
    c.replace_at.ensures.elements
    ∙ with_held-write c.args.holder c.args.security c.args.held accounts c.in-Some.spot.place c.requires.in_order
    (StandsAt-key c.args.holder c.args.security accounts c.in-Some.spot.place c.requires.in_order
    c.in-Some.ensures.found)
    c.if-held-gt0.true

pub returns-in-Some-2-clause-accounts : goal.returns-in-Some-2-clause-accounts
returns-in-Some-2-clause-accounts c =
    let accounts = c.args.accounts.now.elements in
    let place = c.in-Some-2.field-0.place in
    let found = c.in-Some-2.ensures.found in
    removed-at account_key (c.args.holder, c.args.security) accounts c.remove.new.self.elements place c.remove.result
    c.requires.in_order found
    (record { none = c.remove.ensures.none.0; removed = c.remove.ensures.removed; same = c.remove.ensures.key })
    ∙ with_held-take_out c.args.holder c.args.security c.args.held accounts place c.requires.in_order
    (StandsAt-key c.args.holder c.args.security accounts place c.requires.in_order found) c.if-held-gt0.false

-- who has no account has none of the security
others : (c : goal.After-insert)
    → All (λ account. is_account c.args.holder c.args.security account ≡ false) c.args.accounts.now.elements
others c =
    none-key account_key (c.args.holder, c.args.security) c.args.accounts.now.elements (c.in-None.ensures.none.0 refl)

pub returns-in-None-clause-accounts : goal.returns-in-None-clause-accounts
returns-in-None-clause-accounts c =
    let accounts = c.args.accounts.now.elements in
    let put = c.insert.ensures.inserted in
    let new = account_with c.args.holder c.args.security c.args.held in
    let in_order = AreKeyed-order account_key c.insert.new.self.elements c.insert.ensures.ordered in
    put.is
    ∙ with_held-insert c.args.holder c.args.security c.args.held accounts put.place c.requires.in_order
    (record {
      first = IsPlace-inserted account_key new accounts put.place put.within
          (subst AreInOrder put.is in_order);
      other = λ d short. others c put.place d short;
    }) c.if-held-gt0-2.true

-- and so no less than nothing
nothing_less : (c : goal.After-insert)
    → c.args.held ≤ held_in c.args.holder c.args.security c.args.accounts.now.elements
    → ⊥
nothing_less c = λ less.
    let none = held_in-nothing c.args.holder c.args.security c.args.accounts.now.elements (others c) in
    omega (arith, none, less, c.if-held-gt0-2.true)

pub returns-in-None-clause-no_more : goal.returns-in-None-clause-no_more
returns-in-None-clause-no_more c = λ less. absurd (nothing_less c less)

pub returns-in-None-clause-keeps_room : goal.returns-in-None-clause-keeps_room
returns-in-None-clause-keeps_room c = λ less. absurd (nothing_less c less)

pub returns-else-held-gt0-2-clause-accounts : goal.returns-else-held-gt0-2-clause-accounts
returns-else-held-gt0-2-clause-accounts c =
    let accounts = c.args.accounts.now.elements in
    with_held-none c.args.holder c.args.security c.args.held accounts c.requires.in_order
    (none-key account_key (c.args.holder, c.args.security) accounts (c.in-None.ensures.none.0 refl))
    c.if-held-gt0-2.false
