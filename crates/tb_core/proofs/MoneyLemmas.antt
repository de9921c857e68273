-- What is kept where money moves, or where it doesn't.
use Rattle.std.proofs.Common.{◌≡◌, ℕ, Option, Some, None, List, append-nil, refl, sym, ap, subst, arith}
use Rattle.std.specs.Option.{option_map}
use Rattle.tb_message.specs.declared.message.Message.{Message}
use Rattle.tb_funds.specs.declared.offer.KeptOffer.{KeptOffer}
use Rattle.tb_funds.specs.declared.offer.Offer.{Offer as Offered}
use Rattle.tb_funds.specs.declared.offer.State.{State}
use Rattle.tb_movements.specs.Movements.{Movement, Transferred}
use Rattle.tb_movements.specs.Told.{IsTold}
use Rattle.tb_funds.specs.Funds.{Money}
use Rattle.tb_holdings.specs.Book.{Book}
use Rattle.tb_ledger.specs.Accounting.{TellsNext as TellsMoved}
use Rattle.tb_cashbook.specs.declared.cash.CashMovement.{CashMovement}
use Rattle.tb_cashbook.specs.Cashbook.{CanEnter, Means, TellsNext}
use Rattle.tb_core.specs.declared.tables.Tables.{Tables}
use Rattle.tb_core.specs.Crediting.{cash_in, sold_in}
use Rattle.tb_core.specs.Offered.{shown_offer}
use Rattle.tb_core.specs.House.{HasMoneyRoom, KeepsRows, with_accounts}

-- tables whose accounts or funds alone are changed keep their rows
pub KeepsRows-money : (old : Tables) (accounts : Book) (money : Money)
    → KeepsRows old (with_accounts old accounts money old.scratch)
KeepsRows-money old accounts money = record {
  same = refl;
  scratch = record {
    lasts = refl;
    lines = omega arith;
    bidders = omega arith;
    positions = omega arith;
    awards = omega arith;
  };
}

-- what a message does to the funds is the same by tables that keep their rows
cash-kept : (sender : List ℕ) (number : ℕ) (m : Message) (old new : Tables)
    → KeepsRows old new
    → cash_in new sender number m ≡ cash_in old sender number m
cash-kept sender number m old new keeps = ap (λ (tables : Tables). cash_in tables sender number m) keeps.same

-- so what can be done to the funds still can be where they stayed
pub CanEnter-kept : (sender : List ℕ) (number : ℕ) (m : Message) (old new : Tables)
    → KeepsRows old new
    → new.funds ≡ old.funds
    → CanEnter (Means (cash_in old sender number m)) old.funds
    → CanEnter (Means (cash_in new sender number m)) new.funds
CanEnter-kept sender number m old new keeps funds can =
    let same = sym (cash-kept sender number m old new keeps) in
    subst (λ (money : Money). CanEnter (Means (cash_in new sender number m)) money) (sym funds)
    (subst (λ (cash : Option CashMovement). CanEnter (Means cash) old.funds) same can)

-- and what they tell then, they tell after those before
pub TellsNext-kept : (sender : List ℕ) (number : ℕ) (m : Message) (old new : Tables) (money : Money)
    → KeepsRows old new
    → new.funds ≡ old.funds
    → TellsNext (Means (cash_in new sender number m)) new.funds money
    → TellsNext (Means (cash_in old sender number m)) old.funds money
TellsNext-kept sender number m old new money keeps funds told =
    let same = cash-kept sender number m old new keeps in
    subst (λ (kept : Money). TellsNext (Means (cash_in old sender number m)) kept money) funds
    (subst (λ (cash : Option CashMovement). TellsNext (Means cash) new.funds money) same told)

-- there is room for a message on the funds where the accounts alone were changed
pub HasMoneyRoom-kept : (room : ℕ) (old new : Money) → new ≡ old → HasMoneyRoom room old → HasMoneyRoom room new
HasMoneyRoom-kept room old new same has = subst (λ (money : Money). HasMoneyRoom room money) (sym same) has

-- what a purchase of the offer that is found moves
pub sold-found : (kept : Option KeptOffer) (offer : Offered) (became : State)
    → option_map shown_offer kept ≡ Some (offer, became)
    → Some (Transferred offer.seller offer.buyer offer.security offer.par.value) ≡ sold_in kept
sold-found None offer became is = absurd cc
sold-found (Some kept) offer became is =
    let same : shown_offer kept ≡ (offer, became) = cc in
    ap (λ (found : Offered × State).
    Some (Transferred found.0.seller found.0.buyer found.0.security found.0.par.value)) (sym same)

-- accounts that nothing moves tell what they told
pub tells-still : (book : Book) → TellsMoved None book book
tells-still book movements told = subst (λ (all : List Movement). IsTold all book) (sym (append-nil movements)) told
