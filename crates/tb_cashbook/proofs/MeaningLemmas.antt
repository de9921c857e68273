-- Which message means which movement of money.
use Rattle.std.proofs.Common.{◌≡◌, ℕ, false, List, [], Some, None, refl, ap, ◌∙◌}
use Rattle.tb_units.specs.declared.amount.Dollars.{Dollars}
use Rattle.tb_units.specs.declared.cents.Cents.{Cents}
use Rattle.tb_terms.specs.declared.cusip.Cusip.{Cusip}
use Rattle.tb_message.specs.declared.message.Entry.{Entry}
use Rattle.tb_message.specs.declared.message.Message.{Message}
use Rattle.tb_message.specs.declared.message.Message.TheVariants as message
use Rattle.tb_funds.specs.declared.offer.Offer.{Offer as Offered}
use Rattle.tb_history.specs.Moves.{Numbering, numbering_of}
use Rattle.tb_history.specs.Roster.{registrations, announcements}
use Rattle.tb_history.specs.Entries.{offered_by, retracted_by}
use Rattle.tb_history.specs.Trades.{is_cash, is_purchase}
use Rattle.tb_cashbook.specs.declared.cash.CashMovement.{CashMovement}
use Rattle.tb_cashbook.specs.declared.cash.CashMovement.TheVariants as cash
use Rattle.tb_cashbook.specs.Cashbook.{Means, cash_by, holder_in, offer_as}
use Rattle.tb_cashbook.proofs.CashbookLemmas.{IsOther, offer_by}

-- a deposit
is-deposit : (numbers : Numbering) (sender : List ℕ) (number : ℕ) (m : Message) (holder : ℕ) (cents : Cents)
    → cash_by numbers sender number m ≡ Some (cash.Deposited holder cents)
    → (participant : List ℕ) × (m ≡ message.Deposit participant cents) × (holder ≡ numbers.holder participant)
is-deposit numbers sender number (message.Deposit participant given) holder cents is = (participant, cc, cc)
is-deposit numbers sender number other holder cents is = absurd cc

-- a withdrawal
is-withdrawal : (numbers : Numbering) (sender : List ℕ) (number : ℕ) (m : Message) (holder : ℕ) (cents : Cents)
    → cash_by numbers sender number m ≡ Some (cash.Withdrawn holder cents)
    → (participant : List ℕ) × (m ≡ message.Withdraw participant cents) × (holder ≡ numbers.holder participant)
is-withdrawal numbers sender number (message.Withdraw participant given) holder cents is = (participant, cc, cc)
is-withdrawal numbers sender number other holder cents is = absurd cc

-- a sell
is-sell : (numbers : Numbering) (sender : List ℕ) (number : ℕ) (m : Message) (offer : Offered)
    → cash_by numbers sender number m ≡ Some (cash.Offered offer)
    → (cusip : Cusip) × (to : List ℕ) × (amount : Dollars) × (price : Cents)
    × (m ≡ message.Sell cusip to amount price) × (offer ≡ offer_as numbers sender number cusip to amount price)
is-sell numbers sender number (message.Sell cusip to amount price) offer is =
    (cusip, to, amount, price, refl, cc)
is-sell numbers sender number other offer is = absurd cc

-- a purchase
is-purchase : (numbers : Numbering) (sender : List ℕ) (number : ℕ) (m : Message) (seller offer : ℕ)
    → cash_by numbers sender number m ≡ Some (cash.Bought seller offer)
    → (name : List ℕ) × (m ≡ message.Buy name offer) × (seller ≡ numbers.holder name)
is-purchase numbers sender number (message.Buy name given) seller offer is = (name, cc, cc)
is-purchase numbers sender number other seller offer is = absurd cc

-- a retraction
is-retraction : (numbers : Numbering) (sender : List ℕ) (number : ℕ) (m : Message) (seller offer : ℕ)
    → cash_by numbers sender number m ≡ Some (cash.Retracted seller offer)
    → (m ≡ message.Retract offer) × (seller ≡ numbers.holder sender)
is-retraction numbers sender number (message.Retract given) seller offer is = (cc, cc)
is-retraction numbers sender number other seller offer is = absurd cc

-- so an entry that means a deposit is one
pub means-deposit : (h : List Entry) (e : Entry) (movement : CashMovement) (holder : ℕ) (cents : Cents)
    → Means (Some movement) h e
    → movement ≡ cash.Deposited holder cents
    → (participant : List ℕ) × (e.message ≡ message.Deposit participant cents) × (holder ≡ holder_in h participant)
means-deposit h e movement holder cents means is =
    is-deposit (numbering_of (registrations h) (announcements h)) e.submitter e.number e.message holder cents
    (means ∙ ap Some is)

-- and so is one that means a withdrawal
pub means-withdrawal : (h : List Entry) (e : Entry) (movement : CashMovement) (holder : ℕ) (cents : Cents)
    → Means (Some movement) h e
    → movement ≡ cash.Withdrawn holder cents
    → (participant : List ℕ) × (e.message ≡ message.Withdraw participant cents) × (holder ≡ holder_in h participant)
means-withdrawal h e movement holder cents means is =
    is-withdrawal (numbering_of (registrations h) (announcements h)) e.submitter e.number e.message holder cents
    (means ∙ ap Some is)

-- a sell
pub means-sell : (h : List Entry) (e : Entry) (movement : CashMovement) (offer : Offered)
    → Means (Some movement) h e
    → movement ≡ cash.Offered offer
    → (cusip : Cusip) × (to : List ℕ) × (amount : Dollars) × (price : Cents)
    × (e.message ≡ message.Sell cusip to amount price) × (offer ≡ offer_by h e cusip to amount price)
means-sell h e movement offer means is =
    is-sell (numbering_of (registrations h) (announcements h)) e.submitter e.number e.message offer (means ∙ ap Some is)

-- a purchase
pub means-purchase : (h : List Entry) (e : Entry) (movement : CashMovement) (seller offer : ℕ)
    → Means (Some movement) h e
    → movement ≡ cash.Bought seller offer
    → (name : List ℕ) × (e.message ≡ message.Buy name offer) × (seller ≡ holder_in h name)
means-purchase h e movement seller offer means is =
    is-purchase (numbering_of (registrations h) (announcements h)) e.submitter e.number e.message seller offer
    (means ∙ ap Some is)

-- or a retraction
pub means-retraction : (h : List Entry) (e : Entry) (movement : CashMovement) (seller offer : ℕ)
    → Means (Some movement) h e
    → movement ≡ cash.Retracted seller offer
    → (e.message ≡ message.Retract offer) × (seller ≡ holder_in h e.submitter)
means-retraction h e movement seller offer means is =
    is-retraction (numbering_of (registrations h) (announcements h)) e.submitter e.number e.message seller offer
    (means ∙ ap Some is)

-- a message that means nothing is none of these
means-nothing : (numbers : Numbering) (sender : List ℕ) (number : ℕ) (m : Message)
    → cash_by numbers sender number m ≡ None
    → (is_cash m ≡ false) × (is_purchase m ≡ false) × (offered_by sender number m ≡ []) × (retracted_by sender m ≡ [])
means-nothing numbers sender number (message.Deposit participant cents) is = absurd cc
means-nothing numbers sender number (message.Withdraw participant cents) is = absurd cc
means-nothing numbers sender number (message.Sell cusip to amount price) is = absurd cc
means-nothing numbers sender number (message.Buy seller offer) is = absurd cc
means-nothing numbers sender number (message.Retract offer) is = absurd cc
means-nothing numbers sender number other is = (refl, refl, refl, refl)

-- nor is an entry
pub is-other : (h : List Entry) (e : Entry) → Means None h e → IsOther h e
is-other h e nothing =
    let all = means-nothing _ e.submitter e.number e.message nothing in
    record { cash = all.0; purchase = all.1; offered = all.2; retracted = all.3 }
