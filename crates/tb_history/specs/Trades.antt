-- What an accepted purchase changes: par against money.
use Rattle.std.specs.Prelude.{◌≡◌, ℕ, ◌+◌, ◌&&◌, Bool, true, false, if◌then◌else◌, List}
use Rattle.tb_terms.specs.declared.cusip.Cusip.{Cusip}
use Rattle.tb_message.specs.declared.message.Entry.{Entry}
use Rattle.tb_message.specs.declared.message.Message.{Message}
use Rattle.tb_message.specs.declared.message.Message.TheVariants as message
use Rattle.tb_history.specs.declared.accounts.Offer.{Offer}
use Rattle.tb_history.specs.Entries.{is_same}
use Rattle.tb_history.specs.Holdings.{held_of}
use Rattle.tb_history.specs.Funds.{balance_of}

-- so much, where a test passes
abbrev pub given : Bool → ℕ → ℕ
given passes amount = if passes then amount else 0

-- par of the offer's bill goes from its seller to its buyer, its price from the buyer to the seller, who are two; all
-- else stays
pub record IsExchange (before after : List Entry) (offer : Offer) : Type 0 where
  pub apart : is_same offer.buyer offer.seller ≡ false
  pub par : (participant : List ℕ) (cusip : Cusip)
      → held_of after participant cusip
      + given (is_same offer.seller participant && is_same offer.cusip.bytes cusip.bytes) offer.amount.value
      ≡ held_of before participant cusip
      + given (is_same offer.buyer participant && is_same offer.cusip.bytes cusip.bytes) offer.amount.value
  pub money : (participant : List ℕ)
      → balance_of after participant + given (is_same offer.buyer participant) offer.price.value
      ≡ balance_of before participant + given (is_same offer.seller participant) offer.price.value

-- a deposit, or a withdrawal
abbrev pub is_cash : Message → Bool
is_cash (message.Deposit participant cents) = true
is_cash (message.Withdraw participant cents) = true
is_cash other = false

-- a purchase
abbrev pub is_purchase : Message → Bool
is_purchase (message.Buy seller offer) = true
is_purchase other = false
