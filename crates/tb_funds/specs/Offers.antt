-- Offers by their sellers and numbers.
use Rattle.std.specs.Prelude.{◌≡◌, ℕ, Bool, true, false, ◌&&◌, ◌||◌, ◌==◌, nat_lt, List, Option, Some, find, count_by}
use Rattle.std.specs.Prelude.{AllPairs, if◌then◌else◌}
use Rattle.tb_funds.specs.declared.offer.KeptOffer.{KeptOffer}
use Rattle.tb_funds.specs.declared.offer.State.{State}
use Rattle.tb_funds.specs.declared.offer.State.TheVariants as state

-- the offer is this seller's, under this number
abbrev pub is_offer : ℕ → ℕ → KeptOffer → Bool
is_offer seller number kept = kept.seller == seller && kept.number == number

-- the offer of this seller and number, where there is one
abbrev pub offer_in : ℕ → ℕ → List KeptOffer → Option KeptOffer
offer_in seller number offers = find (is_offer seller number) offers

-- the offers stand in order of seller and then number, and no two are of one seller and number
abbrev pub OffersAreInOrder : List KeptOffer → Type 0
OffersAreInOrder offers =
    AllPairs (λ one later. (nat_lt one.seller later.seller || (one.seller == later.seller
    && nat_lt one.number later.number)) ≡ true) offers

-- neither bought nor retracted
abbrev pub is_open : State → Bool
is_open state.Open = true
is_open state.Bought = false
is_open state.Retracted = false

-- the offer is the seller's, and open
abbrev pub is_open_of : ℕ → KeptOffer → Bool
is_open_of seller kept = kept.seller == seller && is_open kept.state

-- how many of the seller's offers are open
abbrev pub open_in : ℕ → List KeptOffer → ℕ
open_in seller offers = count_by (is_open_of seller) offers

-- the offers now have this one under its seller and number, and the others as before
abbrev pub Puts : KeptOffer → List KeptOffer → List KeptOffer → Type 0
Puts kept old new =
    (seller number : ℕ)
    → offer_in seller number new
    ≡ (if kept.seller == seller && kept.number == number then Some kept else offer_in seller number old)
