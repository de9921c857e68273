-- Offers of a legal history, and what is bought of them.
use Rattle.std.proofs.Common.{◌≡◌, ℕ, ◌+◌, ◌≤◌, ◌==◌, ◌&&◌, Bool, true, false, Option, Some, None, is_some}
use Rattle.std.proofs.Common.{List, [], ◌∷◌, ◌++◌, sum_by, refl, sym, ap, ◌∙◌, append-nil}
use Rattle.std.specs.Prelude.{option_to_list}
use Rattle.std.specs.List.{AllByRecursion, find, filter, flat_map}
use Rattle.std.proofs.lemmas.Bool.{ltb-false, not-false}
use Rattle.std.proofs.lemmas.Grind.{flat_map-append}
use Rattle.std.proofs.lemmas.List.Elements.{filter-append}
use Rattle.std.proofs.lemmas.List.Sums.{sum_by-append}
use Rattle.tb_units.specs.declared.moment.Moment.{Moment}
use Rattle.tb_terms.specs.declared.announcement.Announcement.{Announcement}
use Rattle.tb_terms.specs.declared.cusip.Cusip.{Cusip}
use Rattle.tb_message.specs.declared.message.Entry.{Entry}
use Rattle.tb_message.specs.declared.message.Message.{Message}
use Rattle.tb_message.specs.declared.message.Message.TheVariants as message
use Rattle.tb_history.specs.declared.accounts.Offer.{Offer}
use Rattle.tb_history.specs.declared.accounts.Purchase.{Purchase}
use Rattle.tb_history.specs.Entries.{is_same, registered_by, announced_by, offered_by, purchased_by}
use Rattle.tb_history.specs.Roster.{registrations, announcements, redemptions, bill_of, is_of_bill, is_registered}
use Rattle.tb_history.specs.Roster.{is_redeemed}
use Rattle.tb_history.specs.Offers.{offers, purchases, sales, offer_of, sale_of, is_closed, open_offers}
use Rattle.tb_history.specs.Funds.{balance_of}
use Rattle.tb_history.specs.Holdings.{free_of}
use Rattle.tb_history.specs.Tables.{rows_of, sell_rows, buy_rows, matured_rows}
use Rattle.tb_history.specs.Legal.{IsLegal, Follows}
use Rattle.tb_history.specs.Moves.{has_bill}
use Rattle.tb_history.proofs.PartLemmas.{AllByRecursion-back}
use Rattle.tb_history.proofs.GrowthLemmas.{registrations-snoc, announcements-snoc, offers-snoc, purchases-snoc}
use Rattle.tb_history.proofs.GrowthLemmas.{find-append, is_some-append, registered-append, has_bill-append}
use Rattle.tb_history.proofs.AcceptedLemmas.{IsClear, Passes, sender-registered}
use Rattle.tb_history.proofs.ClosedLemmas.{found-in}
use Rattle.tb_history.proofs.EachLemmas.{IsLegal-each, offers-grow, purchases-grow}
use Rattle.tb_history.proofs.PassLemmas.{found_any}
use Rattle.tb_history.proofs.MovedLemmas.{newly_sold}

-- the parties of an offer are registered and two, and its bill is announced
pub record IsOffered (history : List Entry) (offer : Offer) : Type 0 where
  pub seller : is_registered (registrations history) offer.seller ≡ true
  pub buyer : is_registered (registrations history) offer.buyer ≡ true
  pub apart : is_same offer.buyer offer.seller ≡ false
  pub bill : has_bill (announcements history) offer.cusip.bytes ≡ true

-- an accepted sell is of an announced bill, to another who is registered
sell_rows-clear : (history : List Entry) (submitter to : List ℕ) (moment : Moment) (cusip : Cusip) (amount open_now : ℕ)
    (found : Option Announcement)
    → bill_of (announcements history) cusip ≡ found
    → AllByRecursion IsClear (sell_rows found (is_registered (registrations history) to) (is_same to submitter)
    (is_redeemed (redemptions history) cusip) moment amount open_now)
    → (has_bill (announcements history) cusip.bytes ≡ true)
    × (is_registered (registrations history) to ≡ true)
    × (is_same to submitter ≡ false)
sell_rows-clear history submitter to moment cusip amount open_now None is clear =
    absurd (let wrong : true ≡ false = clear.0 in cc)
sell_rows-clear history submitter to moment cusip amount open_now (Some a) is clear = (
  found_any (is_of_bill cusip) (announcements history) (rw is refl),
  not-false (is_registered (registrations history) to) clear.0,
  clear.1.1.0,
)

-- so what an accepted message offers is in order
pub offered-message : (history : List Entry) (submitter : List ℕ) (number : ℕ) (moment : Moment) (sent : Message)
    → Passes history submitter number moment sent
    → AllByRecursion (IsOffered history) (offered_by submitter number sent)
offered-message history submitter number moment (message.Sell cusip to amount price) passed =
    let clear = sell_rows-clear history submitter to moment cusip amount.value (open_offers history submitter)
    (bill_of (announcements history) cusip) refl passed.rows in (
      record {
        seller = sender-registered history submitter (message.Sell cusip to amount price) passed.caller
            passed.permitted refl;
        buyer = clear.1;
        apart = clear.2;
        bill = clear.0;
      },
      tt,
    )
offered-message history submitter number moment other passed = tt

-- and stays so
IsOffered-snoc : (history : List Entry) (entry : Entry) (offer : Offer)
    → IsOffered history offer
    → IsOffered (history ++ entry ∷ []) offer
IsOffered-snoc history entry offer is = record {
  seller = rw (registrations-snoc history entry)
      (registered-append (registrations history) (registered_by entry.message) offer.seller is.seller);
  buyer = rw (registrations-snoc history entry)
      (registered-append (registrations history) (registered_by entry.message) offer.buyer is.buyer);
  apart = is.apart;
  bill = rw (announcements-snoc history entry)
      (has_bill-append (announcements history) (announced_by entry.message) offer.cusip.bytes is.bill);
}

-- so all offers of a legal history are in order
pub IsLegal-offered : (history : List Entry) → IsLegal history → AllByRecursion (IsOffered history) (offers history)
IsLegal-offered =
    IsLegal-each IsOffered offers (λ (entry : Entry). offered_by entry.submitter entry.number entry.message)
    offers-grow
    (record {
      begins = λ history entry legal follows passed. offered-message history entry.submitter entry.number entry.moment
          entry.message passed;
      stays = IsOffered-snoc;
    })

-- and an offer that is found is
pub offer-known : (history : List Entry) (seller : List ℕ) (number : ℕ) (offer : Offer)
    → IsLegal history
    → offer_of (offers history) seller number ≡ Some offer
    → IsOffered history offer
offer-known history seller number offer legal found =
    found-in (IsOffered history) (λ (o : Offer). is_same o.seller seller && (o.number == number)) (offers history)
    offer (IsLegal-offered history legal) found

-- what an accepted purchase of an offer has passed
pub record IsBuyable (history : List Entry) (submitter : List ℕ) (offer : Offer) : Type 0 where
  pub buyer : is_same offer.buyer submitter ≡ true
  pub unclosed : is_closed history offer.seller offer.number ≡ false
  pub live : is_redeemed (redemptions history) offer.cusip ≡ false
  pub covered : offer.amount.value ≤ free_of history offer.seller offer.cusip
  pub funded : offer.price.value ≤ balance_of history submitter

-- by the table of purchases
pub buy_rows-clear : (history : List Entry) (submitter : List ℕ) (moment : Moment) (offer : Offer)
    → AllByRecursion IsClear (buy_rows history (Some offer) submitter moment)
    → IsBuyable history submitter offer
buy_rows-clear history submitter moment offer clear =
    let last = AllByRecursion-back IsClear (matured_rows (bill_of (announcements history) offer.cusip) moment) _
    clear.1.1.1 in
    record {
      buyer = not-false (is_same offer.buyer submitter) clear.0;
      unclosed = clear.1.0;
      live = clear.1.1.0;
      covered = ltb-false (free_of history offer.seller offer.cusip) offer.amount.value last.0;
      funded = ltb-false (balance_of history submitter) offer.price.value last.1.0;
    }

-- the offer of a purchase stands
abbrev pub HasOffer : List Entry → Purchase → Type 0
HasOffer history p = is_some (offer_of (offers history) p.seller p.offer) ≡ true

-- an accepted purchase is of an offer
purchased-message : (history : List Entry) (submitter : List ℕ) (moment : Moment) (sent : Message)
    → AllByRecursion IsClear (rows_of history submitter moment sent)
    → AllByRecursion (HasOffer history) (purchased_by submitter sent)
purchased-message history submitter moment (message.Buy seller offer) clear =
    (there (offer_of (offers history) seller offer) clear, tt)
  where
    -- without an offer there is no purchase
    there : (found : Option Offer)
        → AllByRecursion IsClear (buy_rows history found submitter moment)
        → is_some found ≡ true
    there None all = absurd (let wrong : true ≡ false = all.0 in cc)
    there (Some o) all = refl
purchased-message history submitter moment other clear = tt

-- which stays
HasOffer-snoc : (history : List Entry) (entry : Entry) (p : Purchase)
    → HasOffer history p
    → HasOffer (history ++ entry ∷ []) p
HasOffer-snoc history entry p has =
    rw (offers-snoc history entry)
    (is_some-append (λ (o : Offer). is_same o.seller p.seller && (o.number == p.offer)) (offers history)
    (offered_by entry.submitter entry.number entry.message) has)

-- so each purchase of a legal history is of an offer
pub IsLegal-purchased : (history : List Entry)
    → IsLegal history
    → AllByRecursion (HasOffer history) (purchases history)
IsLegal-purchased =
    IsLegal-each HasOffer purchases (λ (entry : Entry). purchased_by entry.submitter entry.message) purchases-grow
    (record {
      begins = λ history entry legal follows passed. purchased-message history entry.submitter entry.moment
          entry.message passed.rows;
      stays = HasOffer-snoc;
    })

-- what was sold stays so among more offers
sales-among : (offered more : List Offer) (purchased : List Purchase)
    → AllByRecursion (λ (p : Purchase). is_some (offer_of offered p.seller p.offer) ≡ true) purchased
    → flat_map (sale_of (offered ++ more)) purchased ≡ flat_map (sale_of offered) purchased
sales-among offered more [] has = refl
sales-among offered more (p ∷ purchased) has =
    let test : Offer → Bool = λ (o : Offer). is_same o.seller p.seller && (o.number == p.offer) in
    ap (λ (xs : List Offer). xs ++ flat_map (sale_of (offered ++ more)) purchased)
    (ap option_to_list (same test (find test offered) refl has.0))
    ∙ ap (λ (xs : List Offer). sale_of offered p ++ xs) (sales-among offered more purchased has.1)
  where
    -- the one that is found is found among more
    same : (test : Offer → Bool) (found : Option Offer)
        → find test offered ≡ found
        → is_some found ≡ true
        → find test (offered ++ more) ≡ find test offered
    same test None is some = absurd cc
    same test (Some o) is some = find-append test offered more o is ∙ sym is

-- what is sold grows by what the next message buys
pub sales-push : (history : List Entry) (entry : Entry)
    → IsLegal history
    → Follows history entry
    → sales (history ++ entry ∷ []) ≡ sales history ++ newly_sold history entry.message
unfolding sales
sales-push history entry legal follows =
    let more = offered_by entry.submitter entry.number entry.message in
    let next = purchased_by entry.submitter entry.message in
    ap (λ (offered : List Offer). flat_map (sale_of offered) (purchases (history ++ entry ∷ [])))
    (offers-snoc history entry)
    ∙ (ap (flat_map (sale_of (offers history ++ more))) (purchases-snoc history entry)
    ∙ (flat_map-append (sale_of (offers history ++ more)) (purchases history) next
    ∙ (ap (λ (xs : List Offer). xs ++ flat_map (sale_of (offers history ++ more)) next)
    (sales-among (offers history) more (purchases history) (IsLegal-purchased history legal))
    ∙ ap (λ (xs : List Offer). flat_map (sale_of (offers history)) (purchases history) ++ xs)
    (new_sale entry.message))))
  where
    -- a purchase offers nothing, and what isn't one buys nothing
    new_sale : (sent : Message)
        → flat_map (sale_of (offers history ++ offered_by entry.submitter entry.number sent))
        (purchased_by entry.submitter sent)
        ≡ newly_sold history sent
    new_sale (message.Buy seller offer) =
        ap (λ (offered : List Offer). option_to_list (offer_of offered seller offer) ++ [])
        (append-nil (offers history))
        ∙ append-nil (option_to_list (offer_of (offers history) seller offer))
    new_sale other = refl

-- and so do sums over some of it
pub sales-sum : (f : Offer → ℕ) (test : Offer → Bool) (history : List Entry) (entry : Entry)
    → IsLegal history
    → Follows history entry
    → sum_by f (filter test (sales (history ++ entry ∷ [])))
    ≡ sum_by f (filter test (sales history)) + sum_by f (filter test (newly_sold history entry.message))
sales-sum f test history entry legal follows =
    ap (λ (xs : List Offer). sum_by f (filter test xs)) (sales-push history entry legal follows)
    ∙ (ap (sum_by f) (filter-append test (sales history) (newly_sold history entry.message))
    ∙ sum_by-append f (filter test (sales history)) (filter test (newly_sold history entry.message)))
