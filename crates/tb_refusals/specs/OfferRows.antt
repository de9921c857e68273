-- The rows of a buy and of a retract as the funds have the offer.
use Rattle.std.specs.Prelude.{ℕ, ◌==◌, Bool, true, not, nat_lt, Option, Some, None, List, [], ◌∷◌, ◌++◌}
use Rattle.tb_units.specs.declared.moment.Moment.{Moment}
use Rattle.tb_terms.specs.declared.announcement.Announcement.{Announcement}
use Rattle.tb_terms.specs.declared.refusal.Refusal.TheVariants as refusal
use Rattle.tb_terms.specs.Rows.{Row}
use Rattle.tb_funds.specs.declared.offer.Offer.{Offer}
use Rattle.tb_funds.specs.declared.offer.State.{State}
use Rattle.tb_funds.specs.Offers.{is_open}
use Rattle.tb_history.specs.Tables.{funds_row, matured_rows}

-- the par of an offer is free to its seller, and its price in the buyer's balance
abbrev pub covered_rows : Offer → ℕ → ℕ → List Row
covered_rows offer free balance =
    (refusal.OfferUncovered, nat_lt free offer.par.value) ∷ funds_row balance offer.price.value ∷ []

-- the offer that is found, the caller's number, whether the bill is redeemed and its announcement, what is free to the
-- seller, and the balance of the buyer
abbrev pub kept_buy_rows : Option (Offer × State) → ℕ → Bool → Option Announcement → ℕ → ℕ → Moment → List Row
kept_buy_rows None caller redeemed bill free balance moment = (refusal.UnknownOffer, true) ∷ []
kept_buy_rows (Some found) caller redeemed bill free balance moment =
    (refusal.NotBuyer, not (found.0.buyer == caller))
    ∷ (refusal.OfferClosed, not (is_open found.1))
    ∷ (refusal.AlreadyRedeemed, redeemed)
    ∷ matured_rows bill moment
    ++ covered_rows found.0 free balance

-- the offer of the sender that is found
abbrev pub kept_retract_rows : Option (Offer × State) → List Row
kept_retract_rows None = (refusal.UnknownOffer, true) ∷ []
kept_retract_rows (Some found) = (refusal.OfferClosed, not (is_open found.1)) ∷ []
