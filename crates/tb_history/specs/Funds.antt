-- Money of participants (our choice): deposits, withdrawals, and what is paid for par that is bought.
use Rattle.std.specs.Prelude.{ℕ, ◌+◌, ◌-◌, List, sum_by}
use Rattle.std.specs.List.{filter, flat_map}
use Rattle.tb_message.specs.declared.message.Entry.{Entry}
use Rattle.tb_history.specs.declared.accounts.Offer.{Offer}
use Rattle.tb_history.specs.declared.accounts.Cash.{Cash}
use Rattle.tb_history.specs.Entries.{is_same, deposited_by, withdrawn_by}
use Rattle.tb_history.specs.Offers.{sales}

-- all accepted deposits
unfoldable pub deposits : List Entry → List Cash
deposits history = flat_map (λ (entry : Entry). deposited_by entry.message) history

-- all accepted withdrawals
unfoldable pub withdrawals : List Entry → List Cash
withdrawals history = flat_map (λ (entry : Entry). withdrawn_by entry.message) history

-- the cents of some deposits, or of some withdrawals
abbrev pub cents_in : List Cash → ℕ
cents_in cash = sum_by (λ (c : Cash). c.cents.value) cash

-- the participant's part of them
abbrev pub cents_for : List Cash → List ℕ → ℕ
cents_for cash participant = cents_in (filter (λ (c : Cash). is_same c.participant participant) cash)

-- the prices of offers
abbrev pub prices_of : List Offer → ℕ
prices_of offered = sum_by (λ (o : Offer). o.price.value) offered

-- what came to the participant: deposits, and the prices of its offers that were bought
unfoldable pub money_to : List Entry → List ℕ → ℕ
money_to history participant =
    cents_for (deposits history) participant
    + prices_of (filter (λ (o : Offer). is_same o.seller participant) (sales history))

-- what went from it: withdrawals, and the prices of the offers that it bought
unfoldable pub money_from : List Entry → List ℕ → ℕ
money_from history participant =
    cents_for (withdrawals history) participant
    + prices_of (filter (λ (o : Offer). is_same o.buyer participant) (sales history))

-- the participant's balance
unfoldable pub balance_of : List Entry → List ℕ → ℕ
balance_of history participant = money_to history participant - money_from history participant
