-- The rows of a message on money, on the funds that tell the history, are those on the history.
use Rattle.std.proofs.Common.{◌≡◌, ℕ, ◌==◌, ◌&&◌, ◌||◌, Bool, true, false, not, Option, Some, None, List, [], ◌∷◌, cond}
use Rattle.std.proofs.Common.{inl, inr, refl, sym, ap, ◌∙◌, find}
use Rattle.std.specs.Prelude.{slice_get}
use Rattle.std.specs.Option.{option_map}
use Rattle.std.proofs.lemmas.List.Folds.{find_at}
use Rattle.std.proofs.lemmas.Option.{slice_get-map}
use Rattle.std.proofs.lemmas.Bool.{and_parts, cases_Bool, eqb-true}
use Rattle.tb_units.proofs.PlaceLemmas.{find_passes}
use Rattle.tb_units.specs.declared.amount.Dollars.{Dollars}
use Rattle.tb_units.specs.declared.cents.Cents.{Cents}
use Rattle.tb_units.specs.declared.moment.Moment.{Moment}
use Rattle.tb_terms.specs.declared.announcement.Announcement.{Announcement}
use Rattle.tb_terms.specs.declared.cusip.Cusip.{Cusip}
use Rattle.tb_terms.specs.declared.terms.Terms.{Terms}
use Rattle.tb_terms.specs.declared.refusal.Refusal.TheVariants as refusal
use Rattle.tb_message.specs.declared.message.Entry.{Entry}
use Rattle.tb_message.specs.declared.message.Message.TheVariants as message
use Rattle.tb_funds.specs.declared.offer.Offer.{Offer as Offered}
use Rattle.tb_funds.specs.declared.offer.State.{State}
use Rattle.tb_funds.specs.declared.offer.State.TheVariants as state
use Rattle.tb_funds.specs.Offers.{is_open}
use Rattle.tb_funds.specs.Funds.{balance_of as balance_in, offer_of as offer_kept, open_of}
use Rattle.tb_holdings.specs.Book.{free_of as book_free}
use Rattle.tb_history.specs.declared.accounts.Offer.{Offer}
use Rattle.tb_history.specs.Entries.{is_same}
use Rattle.tb_history.specs.Roster.{announcements, redemptions, is_registered, is_redeemed, is_of_bill}
use Rattle.tb_history.specs.Roster.{bill_of}
use Rattle.tb_history.specs.Offers.{offers, purchases, retractions, offer_of, is_bought, is_retracted, is_closed}
use Rattle.tb_history.specs.Offers.{open_offers}
use Rattle.tb_history.specs.Funds.{balance_of}
use Rattle.tb_history.specs.Holdings.{free_of}
use Rattle.tb_history.specs.Tables.{rows_of, funds_row, sell_rows, buy_rows, retract_rows}
use Rattle.tb_history.specs.Moves.{Numbering, has_bill}
use Rattle.tb_history.proofs.ConservedLemmas.{places-numbered}
use Rattle.tb_history.proofs.CreditedLemmas.{flipped}
use Rattle.tb_history.proofs.OfferLemmas.{IsOffered, offer-known}
use Rattle.tb_history.proofs.SameLemmas.{is_same-equal}
use Rattle.tb_tables.specs.Auctions.{announced_in, announcement_in}
use Rattle.tb_ledger.specs.Accounting.{numbers_in}
use Rattle.tb_refusals.specs.OfferRows.{kept_buy_rows, kept_retract_rows}
use Rattle.tb_cashbook.specs.Cashbook.{holder_in, security_in, kept_in, state_of}
use Rattle.tb_core.specs.declared.tables.Tables.{Tables}
use Rattle.tb_core.specs.House.{AreTied}
use Rattle.tb_core.specs.Offered.{found_offer, is_gone, shown_offer}
use Rattle.tb_core.proofs.ParRowLemmas.{free_tied}
use Rattle.tb_core.proofs.TiedLemmas.{numbers-tied}

-- a balance in the funds is that of the history
pub balance_tied : (h : List Entry) (tables : Tables)
    → AreTied h tables
    → (name : List ℕ)
    → balance_in ((numbers_in tables.submitters.list tables.auctions.list).holder name) tables.funds ≡ balance_of h name
balance_tied h tables tied name =
    ap (λ (n : Numbering). balance_in (n.holder name) tables.funds) (numbers-tied h tables tied)
    ∙ tied.funds_tell.balances name

-- and so is how many offers are open
pub open_tied : (h : List Entry) (tables : Tables)
    → AreTied h tables
    → (name : List ℕ)
    → open_of ((numbers_in tables.submitters.list tables.auctions.list).holder name) tables.funds ≡ open_offers h name
open_tied h tables tied name =
    ap (λ (n : Numbering). open_of (n.holder name) tables.funds) (numbers-tied h tables tied)
    ∙ tied.funds_tell.opens name

-- and what is found of an offer
pub offer_tied : (h : List Entry) (tables : Tables)
    → AreTied h tables
    → (seller : List ℕ) (number : ℕ)
    → option_map shown_offer
    (offer_kept ((numbers_in tables.submitters.list tables.auctions.list).holder seller) number tables.funds)
    ≡ found_offer h seller number
offer_tied h tables tied seller number =
    ap (option_map shown_offer)
    (ap (λ (n : Numbering). offer_kept (n.holder seller) number tables.funds) (numbers-tied h tables tied)
    ∙ tied.funds_tell.offers seller number)

-- a deposit
pub tied_deposit : (h : List Entry) (tables : Tables) → AreTied h tables
    → (sender : List ℕ) (moment : Moment) (name : List ℕ) (cents : Cents) (known : Bool)
    → known ≡ is_registered tables.submitters.list name
    → (refusal.UnknownParticipant, not known) ∷ [] ≡ rows_of h sender moment (message.Deposit name cents)
tied_deposit h tables tied sender moment name cents known known_is = rw (known_is, tied.submitters_are) refl

-- a withdrawal
pub tied_withdraw : (h : List Entry) (tables : Tables) → AreTied h tables
    → (sender : List ℕ) (moment : Moment) (name : List ℕ) (cents : Cents) (known : Bool) (balance : ℕ)
    → known ≡ is_registered tables.submitters.list name
    → balance ≡ balance_of h name
    → (refusal.UnknownParticipant, not known) ∷ funds_row balance cents.value ∷ []
    ≡ rows_of h sender moment (message.Withdraw name cents)
tied_withdraw h tables tied sender moment name cents known balance known_is balance_is =
    rw (known_is, tied.submitters_are, balance_is) refl

-- a sell
pub tied_sell : (h : List Entry) (tables : Tables) → AreTied h tables
    → (sender : List ℕ) (moment : Moment) (cusip : Cusip) (to : List ℕ) (amount : Dollars) (price : Cents)
    → (found : Option Terms) (known own redeemed : Bool) (opens : ℕ)
    → announcement_in found ≡ bill_of (announced_in tables.auctions.list) cusip
    → known ≡ is_registered tables.submitters.list to
    → own ≡ is_same to sender
    → redeemed ≡ is_redeemed tables.redeemed.list cusip
    → opens ≡ open_offers h sender
    → sell_rows (announcement_in found) known own redeemed moment amount.value opens
    ≡ rows_of h sender moment (message.Sell cusip to amount price)
tied_sell h tables tied sender moment cusip to amount price found known own redeemed opens bill known_is own_is gone
    count =
    rw (
      bill,
      known_is,
      own_is,
      gone,
      count,
      tied.auctions_are,
      tied.submitters_are,
      tied.redeemed_are,
    ) refl

-- an offer is closed where it is bought or taken back
closed_kept : (h : List Entry) (o : Offer) → not (is_open (state_of h o)) ≡ is_closed h o.seller o.number
closed_kept h o =
    by (is_bought (purchases h) o.seller o.number) (is_retracted (retractions h) o.seller o.number)
  where
    -- by both
    by : (bought retracted : Bool)
        → not (is_open (cond bought state.Bought (cond retracted state.Retracted state.Open))) ≡ bought || retracted
    by true retracted = refl
    by false true = refl
    by false false = refl

-- the terms at a bill's number are those of its announcement
pub terms_tied : (h : List Entry) (tables : Tables)
    → AreTied h tables
    → (cusip : Cusip)
    → announcement_in (slice_get tables.auctions.list (security_in h cusip.bytes)) ≡ bill_of (announcements h) cusip
terms_tied h tables tied cusip =
    mapped (slice_get tables.auctions.list (security_in h cusip.bytes))
    ∙ (sym (slice_get-map (λ (terms : Terms). terms.announcement) tables.auctions.list (security_in h cusip.bytes))
    ∙ (ap (λ (all : List Announcement). slice_get all (security_in h cusip.bytes)) tied.auctions_are
    ∙ sym (find_at (is_of_bill cusip) (announcements h))))
  where
    -- the announcement of what is found
    mapped : (found : Option Terms)
        → announcement_in found ≡ option_map (λ (terms : Terms). terms.announcement) found
    mapped None = refl
    mapped (Some terms) = refl

-- whether it is redeemed is asked of the announcement that is found
gone_tied : (h : List Entry) (cusip : Cusip) (found : Option Announcement)
    → bill_of (announcements h) cusip ≡ found
    → has_bill (announcements h) cusip.bytes ≡ true
    → is_gone h found ≡ is_redeemed (redemptions h) cusip
gone_tied h cusip None is known = absurd (none_found (announcements h) is known)
  where
    -- a bill that is there is found
    none_found : (all : List Announcement) → find (is_of_bill cusip) all ≡ None → has_bill all cusip.bytes ≡ true → ⊥
    none_found [] none some = cc
    none_found (a ∷ all) none some =
        elim (cases_Bool (is_of_bill cusip a)) [
          | inl is ↦ let wrong : ◌≡◌ {A = Option Announcement} (Some a) None = rw is at none in cc
          | inr isnt ↦ none_found all (rw isnt at none) (rw isnt at some)
        ]
gone_tied h cusip (Some a) is known =
    let same : a.cusip.bytes ≡ cusip.bytes =
    is_same-equal a.cusip.bytes cusip.bytes (find_passes (is_of_bill cusip) (announcements h) a is) in
    ap (λ (bytes : List ℕ). is_redeemed (redemptions h) (record { bytes = bytes })) same

-- the rows of a purchase
pub tied_buy : (h : List Entry) (tables : Tables) → AreTied h tables
    → (sender : List ℕ) (moment : Moment) (o : Offer) (redeemed : Bool) (bill : Option Announcement)
    (free balance : ℕ)
    → IsOffered h o
    → bill ≡ bill_of (announcements h) o.cusip
    → redeemed ≡ is_gone h bill
    → free ≡ book_free (holder_in h o.seller) (security_in h o.cusip.bytes) tables.accounts
    → balance ≡ balance_of h sender
    → kept_buy_rows (Some (shown_offer (kept_in h o))) (holder_in h sender) redeemed bill free balance moment
    ≡ buy_rows h (Some o) sender moment
tied_buy h tables tied sender moment o redeemed bill free balance known bill_is gone free_is balance_is =
    let buyer : (holder_in h o.buyer == holder_in h sender) ≡ is_same o.buyer sender =
    (places-numbered h).names o.buyer known.buyer sender ∙ flipped sender o.buyer in
    let gone_too : redeemed ≡ is_redeemed (redemptions h) o.cusip =
    gone ∙ (ap (is_gone h) bill_is ∙ gone_tied h o.cusip (bill_of (announcements h) o.cusip) refl known.bill) in
    let numbered : book_free (holder_in h o.seller) (security_in h o.cusip.bytes) tables.accounts
    ≡ free_of h o.seller o.cusip =
    sym (ap (λ (n : Numbering). book_free (n.holder o.seller) (n.security o.cusip.bytes) tables.accounts)
    (numbers-tied h tables tied))
    ∙ free_tied h tables tied o.seller o.cusip known.seller known.bill in
    rw (buyer, closed_kept h o, gone_too, bill_is, free_is, numbered, balance_is) refl

-- and those of a retraction
pub tied_retract : (h : List Entry) (sender : List ℕ) (number : ℕ) (found : Option Offer)
    → offer_of (offers h) sender number ≡ found
    → kept_retract_rows (option_map shown_offer (option_map (kept_in h) found))
    ≡ retract_rows found (is_closed h sender number)
tied_retract h sender number None is = refl
tied_retract h sender number (Some o) is =
    let key = and_parts (is_same o.seller sender) (o.number == number)
    (find_passes (λ (x : Offer). is_same x.seller sender && (x.number == number)) (offers h) o is) in
    ap (λ (closed : Bool). (refusal.OfferClosed, closed) ∷ [])
    (closed_kept h o
    ∙ (ap (λ (name : List ℕ). is_closed h name o.number) (is_same-equal o.seller sender key.0)
    ∙ ap (λ (n : ℕ). is_closed h sender n) (eqb-true o.number number key.1)))

-- a purchase of an offer that isn't found
pub unknown_offer : (h : List Entry) (sender : List ℕ) (moment : Moment) (seller : List ℕ) (number : ℕ)
    → found_offer h seller number ≡ None
    → (refusal.UnknownOffer, true) ∷ [] ≡ rows_of h sender moment (message.Buy seller number)
unknown_offer h sender moment seller number none = by_found (offer_of (offers h) seller number) none
  where
    -- by the offer
    by_found : (found : Option Offer)
        → option_map shown_offer (option_map (kept_in h) found) ≡ None
        → (refusal.UnknownOffer, true) ∷ [] ≡ buy_rows h found sender moment
    by_found None none = refl
    by_found (Some o) none = absurd cc

-- and of one that is, by what is looked up of it
pub tied_purchase : (h : List Entry) (tables : Tables) → AreTied h tables
    → (sender : List ℕ) (moment : Moment) (seller : List ℕ) (number : ℕ) (found : Offered × State) (caller : ℕ)
    (redeemed : Bool) (terms : Option Terms) (free balance : ℕ)
    → found_offer h seller number ≡ Some found
    → caller ≡ holder_in h sender
    → terms ≡ slice_get tables.auctions.list found.0.security
    → redeemed ≡ is_gone h (announcement_in terms)
    → free ≡ book_free found.0.seller found.0.security tables.accounts
    → balance ≡ balance_of h sender
    → kept_buy_rows (Some found) caller redeemed (announcement_in terms) free balance moment
    ≡ rows_of h sender moment (message.Buy seller number)
tied_purchase h tables tied sender moment seller number found caller redeemed terms free balance there caller_is
    terms_are gone free_is balance_is =
    by_found (offer_of (offers h) seller number) refl there
  where
    -- by the offer
    by_found : (kept : Option Offer)
        → offer_of (offers h) seller number ≡ kept
        → option_map shown_offer (option_map (kept_in h) kept) ≡ Some found
        → kept_buy_rows (Some found) caller redeemed (announcement_in terms) free balance moment
        ≡ buy_rows h kept sender moment
    by_found None is shown = absurd cc
    by_found (Some o) is shown =
        let same : shown_offer (kept_in h o) ≡ found = cc in
        let bill : announcement_in terms ≡ bill_of (announcements h) o.cusip =
        ap announcement_in (terms_are
        ∙ ap (λ (x : Offered × State). slice_get tables.auctions.list x.0.security) (sym same))
        ∙ terms_tied h tables tied o.cusip in
        let free_too : free ≡ book_free (holder_in h o.seller) (security_in h o.cusip.bytes) tables.accounts =
        free_is ∙ ap (λ (x : Offered × State). book_free x.0.seller x.0.security tables.accounts) (sym same) in
        ap (λ (x : Offered × State).
        kept_buy_rows (Some x) caller redeemed (announcement_in terms) free balance moment) (sym same)
        ∙ (ap (λ (n : ℕ).
        kept_buy_rows (Some (shown_offer (kept_in h o))) n redeemed (announcement_in terms) free balance moment)
        caller_is
        ∙ tied_buy h tables tied sender moment o redeemed (announcement_in terms) free balance
        (offer-known h seller number o tied.legal is) bill gone free_too balance_is)
