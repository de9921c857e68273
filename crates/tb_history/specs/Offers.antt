-- Offers of par for money, and which of them were bought (our choice).
use Rattle.std.specs.Prelude.{ℕ, Bool, not, ◌==◌, ◌&&◌, ◌||◌, Option, List, length, option_to_list}
use Rattle.std.specs.List.{find, filter, flat_map, list_any}
use Rattle.tb_message.specs.declared.message.Entry.{Entry}
use Rattle.tb_history.specs.declared.accounts.Offer.{Offer}
use Rattle.tb_history.specs.declared.accounts.Purchase.{Purchase}
use Rattle.tb_history.specs.declared.accounts.Retraction.{Retraction}
use Rattle.tb_history.specs.Entries.{is_same, offered_by, purchased_by, retracted_by}

-- all accepted sells
unfoldable pub offers : List Entry → List Offer
offers history = flat_map (λ (entry : Entry). offered_by entry.submitter entry.number entry.message) history

-- all accepted buys
unfoldable pub purchases : List Entry → List Purchase
purchases history = flat_map (λ (entry : Entry). purchased_by entry.submitter entry.message) history

-- all accepted retracts
unfoldable pub retractions : List Entry → List Retraction
retractions history = flat_map (λ (entry : Entry). retracted_by entry.submitter entry.message) history

-- the seller's offer of this number
abbrev pub offer_of : List Offer → List ℕ → ℕ → Option Offer
offer_of offered seller number = find (λ (o : Offer). is_same o.seller seller && (o.number == number)) offered

-- the offer that a purchase is of
abbrev pub sale_of : List Offer → Purchase → List Offer
sale_of offered p = option_to_list (offer_of offered p.seller p.offer)

-- the offers that were bought, in the order of the purchases
unfoldable pub sales : List Entry → List Offer
sales history = flat_map (sale_of (offers history)) (purchases history)

-- a purchase of the seller's offer of this number stands
abbrev pub is_bought : List Purchase → List ℕ → ℕ → Bool
is_bought purchased seller number =
    list_any (λ (p : Purchase). is_same p.seller seller && (p.offer == number)) purchased

-- a retraction of it stands
abbrev pub is_retracted : List Retraction → List ℕ → ℕ → Bool
is_retracted retracted seller number =
    list_any (λ (r : Retraction). is_same r.seller seller && (r.offer == number)) retracted

-- it is bought or retracted
abbrev pub is_closed : List Entry → List ℕ → ℕ → Bool
is_closed history seller number =
    is_bought (purchases history) seller number || is_retracted (retractions history) seller number

-- how many offers of the seller are neither bought nor retracted
unfoldable pub open_offers : List Entry → List ℕ → ℕ
open_offers history seller =
    length (filter (λ (o : Offer). is_same o.seller seller && not (is_closed history o.seller o.number))
    (offers history))
