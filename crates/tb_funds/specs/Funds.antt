-- Funds, as contracts see them (our choice).
use Rattle.std.specs.Prelude.{◌≡◌, ℕ, ◌+◌, ◌^◌, ◌≤◌, ◌==◌, true, List, Option, Some}
use Rattle.tb_funds.specs.declared.amount.Amount.{Amount}
use Rattle.tb_funds.specs.declared.offer.KeptOffer.{KeptOffer}
use Rattle.tb_funds.specs.declared.offer.Offer.{Offer}
use Rattle.tb_funds.specs.declared.offer.State.{State}
use Rattle.tb_funds.specs.Amounts.{AreInOrder, amount_in, total_in, part}
use Rattle.tb_funds.specs.Offers.{OffersAreInOrder, offer_in, open_in, is_open}

-- the balances by their holders, the offers, and how many more balances and offers there is room for
pub record Money : Type 0 where
  pub balances : List Amount
  pub offers : List KeptOffer
  pub spare_balances : ℕ
  pub spare_offers : ℕ

-- the holder's balance
abbrev pub balance_of : ℕ → Money → ℕ
balance_of holder money = amount_in holder money.balances

-- all balances together
abbrev pub total_of : Money → ℕ
total_of money = total_in money.balances

-- the offer of this seller and number, where there is one
abbrev pub offer_of : ℕ → ℕ → Money → Option KeptOffer
offer_of seller number money = offer_in seller number money.offers

-- how many of the seller's offers are open
abbrev pub open_of : ℕ → Money → ℕ
open_of seller money = open_in seller money.offers

-- all balances come to at most so many cents
abbrev pub most_funds : ℕ
most_funds = 10 ^ 22

-- the most open offers of one seller
abbrev pub most_offers : ℕ
most_offers = 1000

-- what holds of these lists in all funds
pub record AreKept (balances : List Amount) (total : ℕ) (offers : List KeptOffer) (opens : List Amount) : Type 0 where
  pub in_order : AreInOrder balances
  pub total_is : total ≡ total_in balances
  pub limited : total_in balances ≤ most_funds
  pub offers_in_order : OffersAreInOrder offers
  pub opens_in_order : AreInOrder opens
  pub opens_are : (seller : ℕ) → amount_in seller opens ≡ open_in seller offers
  pub few : (seller : ℕ) → open_in seller offers ≤ most_offers

-- the balances and the offers are as before
pub record SameMoney (old new : Money) : Type 0 where
  pub balances : new.balances ≡ old.balances
  pub offers : new.offers ≡ old.offers

-- the call took the room of at most so many balances and offers
pub record TakesRoom (balances offers : ℕ) (old new : Money) : Type 0 where
  pub spare_balances : old.spare_balances ≤ new.spare_balances + balances
  pub spare_offers : old.spare_offers ≤ new.spare_offers + offers

-- an offer as it is kept in a state
abbrev pub kept_as : Offer → State → KeptOffer
kept_as offer state = record {
  seller = offer.seller;
  number = offer.number;
  buyer = offer.buyer;
  security = offer.security;
  par = offer.par;
  price = offer.price;
  state = state;
}

-- and the offer that is kept
abbrev pub offered : KeptOffer → Offer
offered kept = record {
  seller = kept.seller;
  number = kept.number;
  buyer = kept.buyer;
  security = kept.security;
  par = kept.par;
  price = kept.price;
}

-- the offer of this seller and number is this one, and open
pub record IsOpenOffer (seller number : ℕ) (money : Money) (kept : KeptOffer) : Type 0 where
  pub there : offer_of seller number money ≡ Some kept
  pub unclosed : is_open kept.state ≡ true

-- there is such an offer
abbrev pub HasOpenOffer : ℕ → ℕ → Money → Type 0
HasOpenOffer seller number money = (kept : KeptOffer) × IsOpenOffer seller number money kept

-- each balance has the price less where it is the buyer's, and more where it is the seller's
abbrev pub MovesPrice : KeptOffer → Money → Money → Type 0
MovesPrice kept old new =
    (holder : ℕ)
    → balance_of holder new + part (kept.buyer == holder) kept.price.value
    ≡ balance_of holder old + part (kept.seller == holder) kept.price.value

-- the seller has one open offer less
abbrev pub ClosesOne : ℕ → Money → Money → Type 0
ClosesOne seller old new = (other : ℕ) → open_of other new + part (seller == other) 1 ≡ open_of other old
