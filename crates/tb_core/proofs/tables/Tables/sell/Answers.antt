-- The par that moves is that of the offer that is found.
use Rattle.std.proofs.Common.{◌∙◌, ℕ, Option, refl, ap, subst, sym}
use Rattle.tb_movements.specs.Movements.{Movement}
use Rattle.tb_funds.specs.Funds.{offer_of}
use Rattle.tb_ledger.specs.Accounting.{IsReady, TellsNext}
use Rattle.tb_core.specs.Crediting.{sold_in}
use Rattle.tb_core.proofs.MoneyLemmas.{KeepsRows-money, sold-found, tells-still}
use Rattle.tb_core.proofs.tables.Tables.sell.Goals as goal

pub enter_transfer-requires-clause-ready : goal.enter_transfer-requires-clause-ready
enter_transfer-requires-clause-ready c =
    subst (λ (next : Option Movement). IsReady next c.args.self.now.accounts)
    (sym (sold-found (offer_of c.holder_number-seller.result c.args.number c.args.self.now.funds) c.in-Some.offer _
    (sym c.find.ensures.found ∙ c.in-Some.is)
    ∙ ap (λ (seller : ℕ). sold_in (offer_of seller c.args.number c.args.self.now.funds))
    c.holder_number-seller.ensures)) c.requires.ready

pub returns-in-Some-clause-keeps : goal.returns-in-Some-clause-keeps
returns-in-Some-clause-keeps c = KeepsRows-money c.args.self.now c.enter_transfer.new.accounts c.args.self.now.funds

pub returns-in-Some-clause-told : goal.returns-in-Some-clause-told
returns-in-Some-clause-told c =
    subst (λ (next : Option Movement). TellsNext next c.args.self.now.accounts c.enter_transfer.new.accounts)
    (sold-found (offer_of c.holder_number-seller.result c.args.number c.args.self.now.funds) c.in-Some.offer _
    (sym c.find.ensures.found ∙ c.in-Some.is)
    ∙ ap (λ (seller : ℕ). sold_in (offer_of seller c.args.number c.args.self.now.funds))
    c.holder_number-seller.ensures) c.enter_transfer.ensures.told

pub returns-in_default-clause-told : goal.returns-in_default-clause-told
returns-in_default-clause-told c =
    subst (λ (next : Option Movement). TellsNext next c.args.self.now.accounts c.args.self.now.accounts)
    (ap sold_in (sym (c.in_default.ensures.none refl))
    ∙ ap (λ (seller : ℕ). sold_in (offer_of seller c.args.number c.args.self.now.funds)) c.holder_number-seller.ensures)
    (tells-still c.args.self.now.accounts)
