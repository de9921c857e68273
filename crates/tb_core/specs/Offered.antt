-- What the tables give of an offer, by the history.
use Rattle.std.specs.Prelude.{ℕ, Bool, false, List, Option, Some, None}
use Rattle.std.specs.Option.{option_map}
use Rattle.tb_message.specs.declared.message.Entry.{Entry}
use Rattle.tb_terms.specs.declared.announcement.Announcement.{Announcement}
use Rattle.tb_funds.specs.declared.offer.KeptOffer.{KeptOffer}
use Rattle.tb_funds.specs.declared.offer.Offer.{Offer}
use Rattle.tb_funds.specs.declared.offer.State.{State}
use Rattle.tb_funds.specs.Funds.{offered}
use Rattle.tb_history.specs.Offers as history
use Rattle.tb_history.specs.Roster.{is_redeemed, redemptions}
use Rattle.tb_cashbook.specs.Cashbook.{kept_in}

-- an offer, and what became of it
abbrev pub shown_offer : KeptOffer → Offer × State
shown_offer kept = (offered kept, kept.state)

-- the seller's offer of this number
abbrev pub found_offer : List Entry → List ℕ → ℕ → Option (Offer × State)
found_offer entries seller number =
    option_map shown_offer (option_map (kept_in entries) (history.offer_of (history.offers entries) seller number))

-- the bill of the announcement is redeemed
abbrev pub is_gone : List Entry → Option Announcement → Bool
is_gone entries None = false
is_gone entries (Some a) = is_redeemed (redemptions entries) a.cusip
