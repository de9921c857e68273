-- What the funds tell of a history: balances and offers, by the numbers of participants and bills.
use Rattle.std.specs.Prelude.{◌≡◌, ℕ, ◌+◌, ◌≤◌, ◌++◌, List, [], ◌∷◌, length, if◌then◌else◌, Option, Some, None}
use Rattle.std.specs.List.{position_or_len}
use Rattle.std.specs.Option.{option_map}
use Rattle.tb_units.specs.declared.amount.Dollars.{Dollars}
use Rattle.tb_units.specs.declared.cents.Cents.{Cents}
use Rattle.tb_terms.specs.declared.announcement.Announcement.{Announcement}
use Rattle.tb_terms.specs.declared.cusip.Cusip.{Cusip}
use Rattle.tb_message.specs.declared.message.Entry.{Entry}
use Rattle.tb_message.specs.declared.message.Message.{Message}
use Rattle.tb_message.specs.declared.message.Message.TheVariants as message
use Rattle.tb_cashbook.specs.declared.cash.CashMovement.{CashMovement}
use Rattle.tb_cashbook.specs.declared.cash.CashMovement.TheVariants as cash
use Rattle.tb_funds.specs.declared.offer.KeptOffer.{KeptOffer}
use Rattle.tb_funds.specs.declared.offer.Offer.{Offer as Offered}
use Rattle.tb_funds.specs.declared.offer.State.{State}
use Rattle.tb_funds.specs.declared.offer.State.TheVariants as state
use Rattle.tb_funds.specs.Funds.{Money, balance_of as balance_in, total_of, offer_of as offer_in, open_of}
use Rattle.tb_history.specs.declared.roster.Registration.{Registration}
use Rattle.tb_history.specs.declared.accounts.Offer.{Offer}
use Rattle.tb_history.specs.Entries.{is_same}
use Rattle.tb_history.specs.Roster.{registrations, announcements}
use Rattle.tb_history.specs.Offers.{offers, purchases, retractions, offer_of, is_bought, is_retracted, open_offers}
use Rattle.tb_history.specs.Funds.{deposits, withdrawals, cents_in, balance_of}
use Rattle.tb_history.specs.Legal.{IsLegal, Follows}
use Rattle.tb_history.specs.Moves.{Numbering, numbering_of}

-- a participant's number is its place in the order of registration
abbrev pub holder_in : List Entry → List ℕ → ℕ
holder_in history name =
    position_or_len (λ (r : Registration). is_same r.submitter name) (registrations history)

-- a bill's the place of its first announcement
abbrev pub security_in : List Entry → List ℕ → ℕ
security_in history bytes =
    position_or_len (λ (a : Announcement). is_same a.cusip.bytes bytes) (announcements history)

-- what became of an offer
abbrev pub state_of : List Entry → Offer → State
state_of history o =
    if is_bought (purchases history) o.seller o.number then state.Bought
    else (if is_retracted (retractions history) o.seller o.number then state.Retracted else state.Open)

-- the offer as the funds keep it
abbrev pub kept_in : List Entry → Offer → KeptOffer
kept_in history o = record {
  seller = holder_in history o.seller;
  number = o.number;
  buyer = holder_in history o.buyer;
  security = security_in history o.cusip.bytes;
  par = o.amount;
  price = o.price;
  state = state_of history o;
}

-- a holder of this number has nothing, and offers nothing
pub record HasNothing (holder : ℕ) (money : Money) : Type 0 where
  pub balance : balance_in holder money ≡ 0
  pub opens : open_of holder money ≡ 0
  pub offers : (number : ℕ) → offer_in holder number money ≡ None

-- the funds tell the history: each balance, all of them together, each offer with what became of it, and how many of
-- whose are open. A number beyond those of the participants has nothing
pub record TellsFunds (history : List Entry) (money : Money) : Type 0 where
  pub balances : (participant : List ℕ)
      → balance_in (holder_in history participant) money ≡ balance_of history participant
  pub total : total_of money + cents_in (withdrawals history) ≡ cents_in (deposits history)
  pub offers : (seller : List ℕ) (number : ℕ)
      → offer_in (holder_in history seller) number money
      ≡ option_map (kept_in history) (offer_of (offers history) seller number)
  pub opens : (seller : List ℕ) → open_of (holder_in history seller) money ≡ open_offers history seller
  pub beyond : (holder : ℕ) → length (registrations history) ≤ holder → HasNothing holder money

-- the funds tell a legal history, on which the entry is accepted
pub record IsNext (history : List Entry) (entry : Entry) (money : Money) : Type 0 where
  pub legal : IsLegal history
  pub follows : Follows history entry
  pub told : TellsFunds history money

-- there are such a history and such an entry of a kind
abbrev pub CanEnter : (List Entry → Entry → Type 0) → Money → Type 0
CanEnter Is money = (history : List Entry) × (entry : Entry) × IsNext history entry money × Is history entry

-- and whatever they are, the funds then tell the entry too
abbrev pub TellsNext : (List Entry → Entry → Type 0) → Money → Money → Type 0
TellsNext Is old new =
    (history : List Entry) (entry : Entry)
    → IsNext history entry old
    → Is history entry
    → TellsFunds (history ++ entry ∷ []) new

-- the offer that a sell of a sender under a number makes
abbrev pub offer_as : Numbering → List ℕ → ℕ → Cusip → List ℕ → Dollars → Cents → Offered
offer_as numbers sender number cusip to amount price = record {
  seller = numbers.holder sender;
  number = number;
  buyer = numbers.holder to;
  security = numbers.security cusip.bytes;
  par = amount;
  price = price;
}

-- what a message of a sender under a number does to the funds: nothing of it depends on what stands before
abbrev pub cash_by : Numbering → List ℕ → ℕ → Message → Option CashMovement
cash_by numbers sender number (message.Deposit participant cents) =
    Some (cash.Deposited (numbers.holder participant) cents)
cash_by numbers sender number (message.Withdraw participant cents) =
    Some (cash.Withdrawn (numbers.holder participant) cents)
cash_by numbers sender number (message.Sell cusip to amount price) =
    Some (cash.Offered (offer_as numbers sender number cusip to amount price))
cash_by numbers sender number (message.Buy seller offer) = Some (cash.Bought (numbers.holder seller) offer)
cash_by numbers sender number (message.Retract offer) = Some (cash.Retracted (numbers.holder sender) offer)
cash_by numbers sender number other = None

-- and so an entry, by the numbers of the history before it
abbrev pub cash_of : List Entry → Entry → Option CashMovement
cash_of history entry =
    cash_by (numbering_of (registrations history) (announcements history)) entry.submitter entry.number entry.message

-- the entry does this to the funds, or nothing
abbrev pub Means : Option CashMovement → List Entry → Entry → Type 0
Means movement history entry = cash_of history entry ≡ movement
