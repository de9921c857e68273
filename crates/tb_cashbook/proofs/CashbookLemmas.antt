-- Funds that tell a history tell the next entry too.
use Rattle.std.proofs.Common.{◌≡◌, ℕ, ◌+◌, ◌<◌, ◌≤◌, ◌==◌, ◌&&◌, Bool, true, false, cond, Option, Some, None}
use Rattle.std.proofs.Common.{inl, inr, List, [], ◌∷◌, ◌++◌, length, sum_by, refl, sym, ap, ◌∙◌, subst, arith}
use Rattle.std.proofs.Common.{append-nil}
use Rattle.std.specs.Prelude.{◌↔◌, IsErr, OnOk, Result, Ok, Err, option_to_list, nat_le, ◌||◌, ◌^◌}
use Rattle.std.specs.List.{AllByRecursion, filter, list_any, position_or_len}
use Rattle.std.specs.Option.{option_map}
use Rattle.std.proofs.lemmas.Bool.{and_parts, cases_Bool, eqb-true, false_from_ne_true, leb-false, ltb-false, not-false}
use Rattle.std.proofs.lemmas.Bool.{or_left, or_parts, or_right}
use Rattle.std.proofs.lemmas.List.{length-append}
use Rattle.std.proofs.lemmas.List.Sums.{sum_by-append, sum_by-cons}
use Rattle.tb_units.specs.declared.amount.Dollars.{Dollars}
use Rattle.tb_units.specs.declared.cents.Cents.{Cents}
use Rattle.tb_terms.specs.declared.announcement.Announcement.{Announcement}
use Rattle.tb_terms.specs.declared.cusip.Cusip.{Cusip}
use Rattle.tb_message.specs.declared.message.Entry.{Entry}
use Rattle.tb_message.specs.declared.message.Message.{Message}
use Rattle.tb_message.specs.declared.message.Message.TheVariants as message
use Rattle.tb_funds.specs.declared.amount.Amount.{Amount}
use Rattle.tb_funds.specs.declared.offer.KeptOffer.{KeptOffer}
use Rattle.tb_funds.specs.declared.offer.Offer.{Offer as Offered}
use Rattle.tb_funds.specs.declared.offer.State.{State}
use Rattle.tb_funds.specs.declared.offer.State.TheVariants as state
use Rattle.tb_funds.specs.Amounts.{amount_in, total_in, part}
use Rattle.tb_funds.specs.Offers.{Puts, is_open, offer_in as find_in, open_in}
use Rattle.tb_funds.specs.Funds.{Money, balance_of as balance_in, total_of, offer_of as offer_in, open_of}
use Rattle.tb_funds.specs.Funds.{MovesPrice, ClosesOne, IsOpenOffer, kept_as, offered}
use Rattle.tb_history.specs.declared.roster.Registration.{Registration}
use Rattle.tb_history.specs.declared.accounts.Offer.{Offer}
use Rattle.tb_history.specs.declared.accounts.Cash.{Cash}
use Rattle.tb_history.specs.declared.accounts.Purchase.{Purchase}
use Rattle.tb_history.specs.declared.accounts.Retraction.{Retraction}
use Rattle.tb_history.specs.Entries.{is_same, registered_by, offered_by, purchased_by, retracted_by}
use Rattle.tb_history.specs.Entries.{deposited_by, withdrawn_by}
use Rattle.tb_history.specs.Roster.{registrations, announcements, redemptions, bill_of, is_registered, is_redeemed}
use Rattle.tb_history.specs.Offers.{offers, purchases, retractions, sales, offer_of, is_bought, is_retracted}
use Rattle.tb_history.specs.Offers.{is_closed}
use Rattle.tb_history.specs.Offers.{open_offers}
use Rattle.tb_history.specs.Funds.{deposits, withdrawals, cents_in, money_to, money_from, balance_of}
use Rattle.tb_history.specs.Tables.{rows_of, buy_rows, retract_rows, sell_rows}
use Rattle.tb_history.specs.Legal.{IsLegal, Longer, Follows}
use Rattle.tb_history.specs.Moves.{numbering_of}
use Rattle.tb_history.specs.Trades.{is_cash, is_purchase}
use Rattle.tb_units.proofs.PlaceLemmas.{find_passes}
use Rattle.tb_history.proofs.SameLemmas.{is_same-equal}
use Rattle.tb_history.proofs.GrowthLemmas.{registrations-snoc, deposits-snoc, withdrawals-snoc}
use Rattle.tb_history.proofs.GrowthLemmas.{offers-snoc, purchases-snoc, retractions-snoc}
use Rattle.tb_history.proofs.AcceptedLemmas.{IsClear, accepted-passes}
use Rattle.tb_history.proofs.CreditedLemmas.{flipped}
use Rattle.tb_history.proofs.NumberingLemmas.{Agree-places}
use Rattle.tb_history.proofs.StableLemmas.{or_false}
use Rattle.tb_history.proofs.OfferLemmas.{IsOffered, offered-message, offer-known, IsBuyable, buy_rows-clear}
use Rattle.tb_history.proofs.FundsLemmas.{price, is_sellers, is_buyers, newly_to, newly_from, money_to-push}
use Rattle.tb_history.proofs.FundsLemmas.{money_from-push, IsLegal-funded, deposits-most}
use Rattle.tb_history.proofs.ConservedLemmas.{places-numbered, place-within}
use Rattle.tb_history.proofs.TradeLemmas.{balance-stays, one_part}
use Rattle.tb_history.proofs.OpenLemmas.{is_offer, either_way, new-offer, none-closed, offer_of-push, newly_closed}
use Rattle.tb_history.proofs.OpenLemmas.{is_bought-push, is_retracted-push, is_closed-push, open_offers-still}
use Rattle.tb_history.proofs.OpenLemmas.{open_offers-sell, open_offers-closed}
use Rattle.tb_cashbook.specs.Cashbook.{holder_in, offer_as, state_of, kept_in, HasNothing, TellsFunds}
use Rattle.tb_cashbook.specs.Cashbook.{IsNext}

-- ---- numbers

-- where nothing passes the place is behind all
place-none : {X : Type 0} (test : X → Bool) (xs : List X)
    → list_any test xs ≡ false
    → position_or_len test xs ≡ length xs
place-none test [] none = refl
place-none test (x ∷ xs) none =
    let parts = or_parts (test x) (list_any test xs) none in
    rw parts.0 (omega (arith, place-none test xs parts.1))

-- who isn't registered has the number behind all
pub holder-unknown : (h : List Entry) (name : List ℕ)
    → is_registered (registrations h) name ≡ false
    → holder_in h name ≡ length (registrations h)
holder-unknown h name unknown =
    place-none (λ (r : Registration). is_same r.submitter name) (registrations h) unknown

-- who is has one among them
holder-within : (h : List Entry) (name : List ℕ)
    → is_registered (registrations h) name ≡ true
    → holder_in h name < length (registrations h)
holder-within h name known =
    place-within (λ (r : Registration). is_same r.submitter name) (registrations h) known

-- and it is no other's
own-number : (h : List Entry) (name other : List ℕ)
    → is_registered (registrations h) name ≡ true
    → (holder_in h name == holder_in h other) ≡ is_same name other
own-number h name other known = (places-numbered h).names name known other ∙ flipped other name

-- among more, who isn't there is behind all that were
place-behind : {X : Type 0} (test : X → Bool) (xs ys : List X)
    → list_any test xs ≡ false
    → length xs ≤ position_or_len test (xs ++ ys)
place-behind test [] ys none = omega arith
place-behind test (x ∷ xs) ys none =
    let parts = or_parts (test x) (list_any test xs) none in
    rw parts.0 (omega (arith, place-behind test xs ys parts.1))

-- what is alike for all numbers beyond those of the participants is the same of a name with one entry more
pub at-number : {X : Type 0} (h : List Entry) (e : Entry) (name : List ℕ) (f : ℕ → X) (z : X)
    → ((k : ℕ) → length (registrations h) ≤ k → f k ≡ z)
    → f (holder_in (h ++ e ∷ []) name) ≡ f (holder_in h name)
at-number h e name f z beyond =
    let test : Registration → Bool = λ (r : Registration). is_same r.submitter name in
    elim (cases_Bool (is_registered (registrations h) name)) [
      | inl known ↦ ap f ((Agree-places h e).holders name known)
      | inr unknown ↦
          let later : length (registrations h) ≤ holder_in (h ++ e ∷ []) name =
          subst (λ (rs : List Registration). length (registrations h) ≤ position_or_len test rs)
          (sym (registrations-snoc h e)) (place-behind test (registrations h) (registered_by e.message) unknown) in
          beyond (holder_in (h ++ e ∷ []) name) later
          ∙ sym (beyond (holder_in h name) (omega (arith, holder-unknown h name unknown)))
    ]

-- ---- offers as they are kept

-- the offer that a sell of a history makes
abbrev pub offer_by : List Entry → Entry → Cusip → List ℕ → Dollars → Cents → Offered
offer_by h e cusip to amount price =
    offer_as (numbering_of (registrations h) (announcements h)) e.submitter e.number cusip to amount price

-- what became of an offer, by two tests
abbrev state_by : Bool → Bool → State
state_by bought retracted = cond bought state.Bought (cond retracted state.Retracted state.Open)

-- an offer that an entry doesn't buy or take back is as it was
state-same : (h : List Entry) (e : Entry) (o : Offer)
    → purchased_by e.submitter e.message ≡ []
    → retracted_by e.submitter e.message ≡ []
    → state_of (h ++ e ∷ []) o ≡ state_of h o
state-same h e o unbought unretracted =
    let bought : purchases (h ++ e ∷ []) ≡ purchases h =
    purchases-snoc h e ∙ (ap (λ (ps : List Purchase). purchases h ++ ps) unbought ∙ append-nil (purchases h)) in
    let retracted : retractions (h ++ e ∷ []) ≡ retractions h =
    retractions-snoc h e
    ∙ (ap (λ (rs : List Retraction). retractions h ++ rs) unretracted ∙ append-nil (retractions h)) in
    ap (λ (ps : List Purchase). state_by (is_bought ps o.seller o.number)
    (is_retracted (retractions (h ++ e ∷ [])) o.seller o.number)) bought
    ∙ ap (λ (rs : List Retraction). state_by (is_bought (purchases h) o.seller o.number)
    (is_retracted rs o.seller o.number)) retracted

-- it is open where it isn't closed
state-open : (h : List Entry) (o : Offer) → is_closed h o.seller o.number ≡ false → state_of h o ≡ state.Open
state-open h o unclosed =
    let parts = or_parts (is_bought (purchases h) o.seller o.number) (is_retracted (retractions h) o.seller o.number)
    unclosed in
    rw (parts.0, parts.1) refl

-- an offer of known parties is kept alike, in whatever state
kept-as : (h : List Entry) (e : Entry) (o : Offer) (s : State)
    → IsOffered h o
    → state_of (h ++ e ∷ []) o ≡ s
    → kept_in (h ++ e ∷ []) o ≡ kept_as (offered (kept_in h o)) s
kept-as h e o s is same =
    let agree = Agree-places h e in
    λ i. record {
      seller = agree.holders o.seller is.seller i;
      number = o.number;
      buyer = agree.holders o.buyer is.buyer i;
      security = agree.bills o.cusip.bytes is.bill i;
      par = o.amount;
      price = o.price;
      state = same i;
    }

-- so is what is found, with an entry that leaves it as it was
found-stays : (h : List Entry) (e : Entry) (seller : List ℕ) (number : ℕ) (found : Option Offer)
    → IsLegal h
    → offer_of (offers h) seller number ≡ found
    → ((o : Offer) → found ≡ Some o → state_of (h ++ e ∷ []) o ≡ state_of h o)
    → option_map (kept_in (h ++ e ∷ [])) found ≡ option_map (kept_in h) found
found-stays h e seller number None legal is same = refl
found-stays h e seller number (Some o) legal is same =
    ap Some (kept-as h e o (state_of h o) (offer-known h seller number o legal is) (same o refl))

-- ---- sums

-- balances differ by what the next entry brings and takes
balance-push : (h : List Entry) (e : Entry) (participant : List ℕ)
    → IsLegal h
    → Follows h e
    → balance_of (h ++ e ∷ []) participant + newly_from h e.message participant
    ≡ balance_of h participant + newly_to h e.message participant
unfolding balance_of
balance-push h e participant legal follows =
    omega (
      arith,
      money_to-push h e participant legal follows,
      money_from-push h e participant legal follows,
      IsLegal-funded h legal participant,
      IsLegal-funded (h ++ e ∷ []) (Longer h e legal follows) participant,
    )

-- the sums of deposits
deposits-push : (h : List Entry) (e : Entry)
    → cents_in (deposits (h ++ e ∷ [])) ≡ cents_in (deposits h) + cents_in (deposited_by e.message)
deposits-push h e =
    ap cents_in (deposits-snoc h e)
    ∙ sum_by-append (λ (c : Cash). c.cents.value) (deposits h) (deposited_by e.message)

-- and of withdrawals
withdrawals-push : (h : List Entry) (e : Entry)
    → cents_in (withdrawals (h ++ e ∷ [])) ≡ cents_in (withdrawals h) + cents_in (withdrawn_by e.message)
withdrawals-push h e =
    ap cents_in (withdrawals-snoc h e)
    ∙ sum_by-append (λ (c : Cash). c.cents.value) (withdrawals h) (withdrawn_by e.message)

-- one sum of cash
one_cash : (participant : List ℕ) (cents : Cents)
    → cents_in (record { participant = participant; cents = cents } ∷ []) ≡ cents.value
one_cash participant cents =
    omega (
      arith,
      sum_by-cons (λ (c : Cash). c.cents.value) (record { participant = participant; cents = cents }) [],
    )

-- ---- entries that change nothing of the funds

-- what is neither cash nor a purchase brings and takes no cash
cash-none : (sent : Message) → is_cash sent ≡ false → (deposited_by sent ≡ []) × (withdrawn_by sent ≡ [])
cash-none (message.Deposit participant cents) none = absurd cc
cash-none (message.Withdraw participant cents) none = absurd cc
cash-none other none = (refl, refl)

-- what isn't a purchase buys nothing
purchase-none : (sender : List ℕ) (sent : Message) → is_purchase sent ≡ false → purchased_by sender sent ≡ []
purchase-none sender (message.Buy seller offer) none = absurd cc
purchase-none sender other none = refl

-- and closes nothing where it retracts nothing
closed-none : (sender : List ℕ) (sent : Message) (seller : List ℕ) (number : ℕ)
    → is_purchase sent ≡ false
    → retracted_by sender sent ≡ []
    → newly_closed sender sent seller number ≡ false
closed-none sender (message.Buy of offer) seller number none nothing = absurd cc
closed-none sender (message.Retract offer) seller number none nothing = absurd cc
closed-none sender other seller number none nothing = refl

-- ---- what the funds say by the numbers before the entry

-- the funds tell the entry too, by the numbers before it
pub record TellsAt (h : List Entry) (e : Entry) (money : Money) : Type 0 where
  pub balances : (participant : List ℕ)
      → balance_in (holder_in h participant) money ≡ balance_of (h ++ e ∷ []) participant
  pub total : total_of money + cents_in (withdrawals (h ++ e ∷ [])) ≡ cents_in (deposits (h ++ e ∷ []))
  pub offers : (seller : List ℕ) (number : ℕ)
      → offer_in (holder_in h seller) number money
      ≡ option_map (kept_in (h ++ e ∷ [])) (offer_of (offers (h ++ e ∷ [])) seller number)
  pub opens : (seller : List ℕ) → open_of (holder_in h seller) money ≡ open_offers (h ++ e ∷ []) seller
  pub beyond : (holder : ℕ) → length (registrations h) ≤ holder → HasNothing holder money

-- so they do by the numbers behind it
pub tells-at : (h : List Entry) (e : Entry) (money : Money) → TellsAt h e money → TellsFunds (h ++ e ∷ []) money
tells-at h e money at = record {
  balances = λ participant.
      at-number h e participant (λ (k : ℕ). balance_in k money) 0 (λ k far. (at.beyond k far).balance)
      ∙ at.balances participant;
  total = at.total;
  offers = λ seller number.
      at-number h e seller (λ (k : ℕ). offer_in k number money) None (λ k far. (at.beyond k far).offers number)
      ∙ at.offers seller number;
  opens = λ seller.
      at-number h e seller (λ (k : ℕ). open_of k money) 0 (λ k far. (at.beyond k far).opens)
      ∙ at.opens seller;
  beyond = λ holder far.
      at.beyond holder (omega (
        arith,
        far,
        ap length (registrations-snoc h e),
        length-append (registrations h) (registered_by e.message),
      ));
}

-- an entry that offers nothing leaves the offers
offers-same : (h : List Entry) (e : Entry)
    → offered_by e.submitter e.number e.message ≡ []
    → offers (h ++ e ∷ []) ≡ offers h
offers-same h e nothing =
    offers-snoc h e ∙ (ap (λ (xs : List Offer). offers h ++ xs) nothing ∙ append-nil (offers h))

-- so offers are told as before, where none of them is bought or taken back
offers-still : (h : List Entry) (e : Entry) (old new : Money) (seller : List ℕ) (number : ℕ)
    → IsNext h e old
    → offered_by e.submitter e.number e.message ≡ []
    → purchased_by e.submitter e.message ≡ []
    → retracted_by e.submitter e.message ≡ []
    → new.offers ≡ old.offers
    → offer_in (holder_in h seller) number new
    ≡ option_map (kept_in (h ++ e ∷ [])) (offer_of (offers (h ++ e ∷ [])) seller number)
offers-still h e old new seller number next nothing unbought unretracted same =
    ap (λ (kept : List KeptOffer). find_in (holder_in h seller) number kept) same
    ∙ (next.told.offers seller number
    ∙ (sym (found-stays h e seller number (offer_of (offers h) seller number) next.legal refl
    (λ o found. state-same h e o unbought unretracted))
    ∙ ap (λ (xs : List Offer). option_map (kept_in (h ++ e ∷ [])) (offer_of xs seller number))
    (sym (offers-same h e nothing))))

-- ---- the five kinds, and all others

-- the entry changes nothing of the funds
pub record IsOther (history : List Entry) (entry : Entry) : Type 0 where
  pub cash : is_cash entry.message ≡ false
  pub purchase : is_purchase entry.message ≡ false
  pub offered : offered_by entry.submitter entry.number entry.message ≡ []
  pub retracted : retracted_by entry.submitter entry.message ≡ []

-- so it leaves them
pub tells-other : (h : List Entry) (e : Entry) (money : Money)
    → IsNext h e money
    → IsOther h e
    → TellsFunds (h ++ e ∷ []) money
tells-other h e money next other =
    let cash = cash-none e.message other.cash in
    let unbought = purchase-none e.submitter e.message other.purchase in
    tells-at h e money (record {
      balances = λ participant.
          next.told.balances participant
          ∙ sym (balance-stays h e participant next.legal next.follows other.cash other.purchase);
      total = omega (
        arith,
        next.told.total,
        deposits-push h e,
        withdrawals-push h e,
        ap cents_in cash.0,
        ap cents_in cash.1,
      );
      offers = λ seller number.
          offers-still h e money money seller number next other.offered unbought other.retracted refl;
      opens = λ seller.
          next.told.opens seller
          ∙ sym (open_offers-still h e seller other.offered
          (λ of number. closed-none e.submitter e.message of number other.purchase other.retracted));
      beyond = next.told.beyond;
    })

-- and so it does backwards, where it names nobody and no bill: what is taken back changes nothing of the funds
pub tells-back : (h : List Entry) (e : Entry) (money : Money)
    → IsLegal h
    → Follows h e
    → IsOther h e
    → registered_by e.message ≡ []
    → TellsFunds (h ++ e ∷ []) money
    → TellsFunds h money
tells-back h e money legal follows other unnamed told =
    let roster : registrations (h ++ e ∷ []) ≡ registrations h =
    registrations-snoc h e
    ∙ (ap (λ (rs : List Registration). registrations h ++ rs) unnamed ∙ append-nil (registrations h)) in
    let same : (name : List ℕ) → holder_in h name ≡ holder_in (h ++ e ∷ []) name =
    λ name. ap (λ (rs : List Registration). position_or_len (λ (r : Registration). is_same r.submitter name) rs)
    (sym roster) in
    let cash = cash-none e.message other.cash in
    let unbought = purchase-none e.submitter e.message other.purchase in
    record {
      balances = λ participant.
          ap (λ (k : ℕ). balance_in k money) (same participant)
          ∙ (told.balances participant ∙ balance-stays h e participant legal follows other.cash other.purchase);
      total = omega (
        arith,
        told.total,
        deposits-push h e,
        withdrawals-push h e,
        ap cents_in cash.0,
        ap cents_in cash.1,
      );
      offers = λ seller number.
          ap (λ (k : ℕ). offer_in k number money) (same seller)
          ∙ (told.offers seller number
          ∙ (ap (λ (xs : List Offer). option_map (kept_in (h ++ e ∷ [])) (offer_of xs seller number))
          (offers-same h e other.offered)
          ∙ found-stays h e seller number (offer_of (offers h) seller number) legal refl
          (λ o found. state-same h e o unbought other.retracted)));
      opens = λ seller.
          ap (λ (k : ℕ). open_of k money) (same seller)
          ∙ (told.opens seller
          ∙ open_offers-still h e seller other.offered
          (λ of number. closed-none e.submitter e.message of number other.purchase other.retracted));
      beyond = λ holder far. told.beyond holder (omega (arith, far, ap length roster));
    }

-- one of two choices by a test
choose : {X : Type 0} (mine : Bool) (a b c : X) → (mine ≡ true → a ≡ c) → (mine ≡ false → b ≡ c) → cond mine a b ≡ c
choose true a b c first second = first refl
choose false a b c first second = second refl

-- choices that are alike either way
alike : {X Y : Type 0} (mine : Bool) (a b : Option Y) (f : X → Y) (one other : Option X)
    → a ≡ option_map f one
    → b ≡ option_map f other
    → cond mine a b ≡ option_map f (cond mine one other)
alike true a b f one other first second = first
alike false a b f one other first second = second

-- a number beyond is no participant's
other-number : (holder k length_of : ℕ) → holder < length_of → length_of ≤ k → (holder == k) ≡ false
other-number holder k length_of within far =
    false_from_ne_true _ (λ is. omega (arith, within, far, eqb-true holder k is))

-- so it has no part
apart : (holder k cents length_of : ℕ) → holder < length_of → length_of ≤ k → part (holder == k) cents ≡ 0
apart holder k cents length_of within far =
    ap (λ (b : Bool). part b cents) (other-number holder k length_of within far)

-- a deposit
pub tells-deposit : (h : List Entry) (e : Entry) (old new : Money) (participant : List ℕ) (cents : Cents)
    → IsNext h e old
    → e.message ≡ message.Deposit participant cents
    → ((k : ℕ) → balance_in k new ≡ balance_in k old + part (holder_in h participant == k) cents.value)
    → total_of new ≡ total_of old + cents.value
    → new.offers ≡ old.offers
    → TellsFunds (h ++ e ∷ []) new
tells-deposit h e old new participant cents next is balances total same =
    let passed = accepted-passes h e.submitter e.number e.moment e.message next.follows.accepted in
    let clear : AllByRecursion IsClear (rows_of h e.submitter e.moment (message.Deposit participant cents)) =
    rw is at passed.rows in
    let known = not-false (is_registered (registrations h) participant) clear.0 in
    let within = holder-within h participant known in
    tells-at h e new (record {
      balances = λ other.
          omega (
            arith,
            balances (holder_in h other),
            ap (λ (b : Bool). part b cents.value) (own-number h participant other known),
            next.told.balances other,
            balance-push h e other next.legal next.follows,
            ap (λ (m : Message). newly_to h m other) is,
            ap (λ (m : Message). newly_from h m other) is,
            one_part (λ (c : Cash). c.cents.value) (is_same participant other)
                (record { participant = participant; cents = cents }),
          );
      total = omega (
        arith,
        total,
        next.told.total,
        deposits-push h e,
        withdrawals-push h e,
        ap (λ (m : Message). cents_in (deposited_by m)) is,
        ap (λ (m : Message). cents_in (withdrawn_by m)) is,
        one_cash participant cents,
      );
      offers = λ seller number.
          offers-still h e old new seller number next (ap (offered_by e.submitter e.number) is)
          (ap (purchased_by e.submitter) is) (ap (retracted_by e.submitter) is) same;
      opens = λ seller.
          ap (λ (kept : List KeptOffer). open_in (holder_in h seller) kept) same
          ∙ (next.told.opens seller
          ∙ sym (open_offers-still h e seller (ap (offered_by e.submitter e.number) is)
          (λ of number. ap (λ (m : Message). newly_closed e.submitter m of number) is)));
      beyond = λ k far. record {
        balance = omega (
          arith,
          balances k,
          (next.told.beyond k far).balance,
          apart (holder_in h participant) k cents.value (length (registrations h)) within far,
        );
        opens = ap (λ (kept : List KeptOffer). open_in k kept) same ∙ (next.told.beyond k far).opens;
        offers = λ number.
            ap (λ (kept : List KeptOffer). find_in k number kept) same ∙ (next.told.beyond k far).offers number;
      };
    })

-- a withdrawal
pub tells-withdrawal : (h : List Entry) (e : Entry) (old new : Money) (participant : List ℕ) (cents : Cents)
    → IsNext h e old
    → e.message ≡ message.Withdraw participant cents
    → ((k : ℕ) → balance_in k new + part (holder_in h participant == k) cents.value ≡ balance_in k old)
    → total_of new + cents.value ≡ total_of old
    → new.offers ≡ old.offers
    → TellsFunds (h ++ e ∷ []) new
tells-withdrawal h e old new participant cents next is balances total same =
    let passed = accepted-passes h e.submitter e.number e.moment e.message next.follows.accepted in
    let clear : AllByRecursion IsClear (rows_of h e.submitter e.moment (message.Withdraw participant cents)) =
    rw is at passed.rows in
    let known = not-false (is_registered (registrations h) participant) clear.0 in
    tells-at h e new (record {
      balances = λ other.
          omega (
            arith,
            balances (holder_in h other),
            ap (λ (b : Bool). part b cents.value) (own-number h participant other known),
            next.told.balances other,
            balance-push h e other next.legal next.follows,
            ap (λ (m : Message). newly_to h m other) is,
            ap (λ (m : Message). newly_from h m other) is,
            one_part (λ (c : Cash). c.cents.value) (is_same participant other)
                (record { participant = participant; cents = cents }),
          );
      total = omega (
        arith,
        total,
        next.told.total,
        deposits-push h e,
        withdrawals-push h e,
        ap (λ (m : Message). cents_in (deposited_by m)) is,
        ap (λ (m : Message). cents_in (withdrawn_by m)) is,
        one_cash participant cents,
      );
      offers = λ seller number.
          offers-still h e old new seller number next (ap (offered_by e.submitter e.number) is)
          (ap (purchased_by e.submitter) is) (ap (retracted_by e.submitter) is) same;
      opens = λ seller.
          ap (λ (kept : List KeptOffer). open_in (holder_in h seller) kept) same
          ∙ (next.told.opens seller
          ∙ sym (open_offers-still h e seller (ap (offered_by e.submitter e.number) is)
          (λ of number. ap (λ (m : Message). newly_closed e.submitter m of number) is)));
      beyond = λ k far. record {
        balance = omega (arith, balances k, (next.told.beyond k far).balance);
        opens = ap (λ (kept : List KeptOffer). open_in k kept) same ∙ (next.told.beyond k far).opens;
        offers = λ number.
            ap (λ (kept : List KeptOffer). find_in k number kept) same ∙ (next.told.beyond k far).offers number;
      };
    })

-- a sell
pub tells-offer : (h : List Entry) (e : Entry) (old new : Money) (cusip : Cusip) (to : List ℕ) (amount : Dollars)
    (price : Cents)
    → IsNext h e old
    → e.message ≡ message.Sell cusip to amount price
    → Puts (kept_as (offer_by h e cusip to amount price) state.Open) old.offers new.offers
    → ((k : ℕ) → open_of k new ≡ open_of k old + part (holder_in h e.submitter == k) 1)
    → new.balances ≡ old.balances
    → TellsFunds (h ++ e ∷ []) new
tells-offer h e old new cusip to amount price next is puts opens same =
    let passed = accepted-passes h e.submitter e.number e.moment e.message next.follows.accepted in
    let o : Offer = record {
      seller = e.submitter;
      number = e.number;
      buyer = to;
      cusip = cusip;
      amount = amount;
      price = price;
    } in
    let all : AllByRecursion (IsOffered h) (o ∷ []) =
    subst (λ (m : Message). AllByRecursion (IsOffered h) (offered_by e.submitter e.number m)) is
    (offered-message h e.submitter e.number e.moment e.message passed) in
    let none : offer_of (offers h) e.submitter e.number ≡ None =
    new-offer h e.submitter e.number next.legal passed.unused in
    let more : offers (h ++ e ∷ []) ≡ offers h ++ o ∷ [] =
    offers-snoc h e ∙ ap (λ (m : Message). offers h ++ offered_by e.submitter e.number m) is in
    let unclosed : is_closed (h ++ e ∷ []) e.submitter e.number ≡ false =
    is_closed-push h e e.submitter e.number
    ∙ (ap (λ (m : Message). is_closed h e.submitter e.number || newly_closed e.submitter m e.submitter e.number) is
    ∙ (or_false _ ∙ none-closed h e.submitter e.number next.legal none)) in
    let kept = kept-as h e o state.Open all.0 (state-open (h ++ e ∷ []) o unclosed) in
    let within = holder-within h e.submitter all.0.seller in
    let plain : is_cash e.message ≡ false = ap is_cash is in
    let unbought : is_purchase e.message ≡ false = ap is_purchase is in
    tells-at h e new (record {
      balances = λ other.
          ap (λ (amounts : List Amount). amount_in (holder_in h other) amounts) same
          ∙ (next.told.balances other ∙ sym (balance-stays h e other next.legal next.follows plain unbought));
      total = omega (
        arith,
        ap total_in same,
        next.told.total,
        deposits-push h e,
        withdrawals-push h e,
        ap (λ (m : Message). cents_in (deposited_by m)) is,
        ap (λ (m : Message). cents_in (withdrawn_by m)) is,
      );
      offers = λ seller number.
          let k = holder_in h seller in
          let mine = is_same e.submitter seller && (e.number == number) in
          puts k number
          ∙ (ap (λ (b : Bool). cond (b && (e.number == number))
          (Some (kept_as (offer_by h e cusip to amount price) state.Open)) (offer_in k number old))
          (own-number h e.submitter seller all.0.seller)
          ∙ (alike mine (Some (kept_as (offer_by h e cusip to amount price) state.Open)) (offer_in k number old)
          (kept_in (h ++ e ∷ [])) (Some o) (offer_of (offers h) seller number) (ap Some (sym kept))
          (next.told.offers seller number
          ∙ sym (found-stays h e seller number (offer_of (offers h) seller number) next.legal refl
          (λ x found. state-same h e x (ap (purchased_by e.submitter) is) (ap (retracted_by e.submitter) is))))
          ∙ (ap (option_map (kept_in (h ++ e ∷ []))) (sym (offer_of-push (offers h) o seller number none))
          ∙ ap (λ (xs : List Offer). option_map (kept_in (h ++ e ∷ [])) (offer_of xs seller number)) (sym more))));
      opens = λ seller.
          omega (
            arith,
            opens (holder_in h seller),
            ap (λ (b : Bool). part b 1) (own-number h e.submitter seller all.0.seller),
            next.told.opens seller,
            open_offers-sell h e seller cusip to amount price next.legal next.follows is,
          );
      beyond = λ k far. record {
        balance = ap (λ (amounts : List Amount). amount_in k amounts) same ∙ (next.told.beyond k far).balance;
        opens = omega (
          arith,
          opens k,
          (next.told.beyond k far).opens,
          apart (holder_in h e.submitter) k 1 (length (registrations h)) within far,
        );
        offers = λ number.
            puts k number
            ∙ (ap (λ (b : Bool). cond (b && (e.number == number))
            (Some (kept_as (offer_by h e cusip to amount price) state.Open)) (offer_in k number old))
            (other-number (holder_in h e.submitter) k (length (registrations h)) within far)
            ∙ (next.told.beyond k far).offers number);
      };
    })

-- offers are told, where one of them is closed
closing-told : (h : List Entry) (e : Entry) (old new : Money) (closer : List ℕ) (number : ℕ) (o : Offer) (s : State)
    → IsNext h e old
    → offered_by e.submitter e.number e.message ≡ []
    → offer_of (offers h) closer number ≡ Some o
    → state_of (h ++ e ∷ []) o ≡ s
    → ((x : Offer) → (is_same closer x.seller && (number == x.number)) ≡ false
    → state_of (h ++ e ∷ []) x ≡ state_of h x)
    → Puts (kept_as (offered (kept_in h o)) s) old.offers new.offers
    → (seller : List ℕ) (n : ℕ)
    → offer_in (holder_in h seller) n new
    ≡ option_map (kept_in (h ++ e ∷ [])) (offer_of (offers (h ++ e ∷ [])) seller n)
closing-told h e old new closer number o s next nothing found closes others puts seller n =
    let known : IsOffered h o = offer-known h closer number o next.legal found in
    let key = and_parts (is_same o.seller closer) (o.number == number)
    (find_passes (is_offer closer number) (offers h) o found) in
    let its_seller = is_same-equal o.seller closer key.0 in
    let its_number = eqb-true o.number number key.1 in
    let k = holder_in h seller in
    puts k n
    ∙ (ap (λ (b : Bool). cond (b && (o.number == n)) (Some (kept_as (offered (kept_in h o)) s)) (offer_in k n old))
    (own-number h o.seller seller known.seller)
    ∙ (choose (is_same o.seller seller && (o.number == n)) (Some (kept_as (offered (kept_in h o)) s)) (offer_in k n old)
    (option_map (kept_in (h ++ e ∷ [])) (offer_of (offers h) seller n))
    (λ mine.
    let names = and_parts (is_same o.seller seller) (o.number == n) mine in
    let same : offer_of (offers h) seller n ≡ Some o =
    sym (ap (λ (name : List ℕ). offer_of (offers h) name n) (is_same-equal o.seller seller names.0))
    ∙ (sym (ap (offer_of (offers h) o.seller) (eqb-true o.number n names.1))
    ∙ (ap (λ (name : List ℕ). offer_of (offers h) name o.number) its_seller
    ∙ (ap (offer_of (offers h) closer) its_number ∙ found))) in
    sym (ap (option_map (kept_in (h ++ e ∷ []))) same ∙ ap Some (kept-as h e o s known closes)))
    (λ isnt.
    next.told.offers seller n
    ∙ sym (found-stays h e seller n (offer_of (offers h) seller n) next.legal refl
    (λ x is.
    let theirs =
    and_parts (is_same x.seller seller) (x.number == n) (find_passes (is_offer seller n) (offers h) x is) in
    others x
    (sym (ap (λ (name : List ℕ). is_same name x.seller && (number == x.number)) its_seller)
    ∙ (sym (ap (λ (m : ℕ). is_same o.seller x.seller && (m == x.number)) its_number)
    ∙ (ap (λ (name : List ℕ). is_same o.seller name && (o.number == x.number)) (is_same-equal x.seller seller theirs.0)
    ∙ (ap (λ (m : ℕ). is_same o.seller seller && (o.number == m)) (eqb-true x.number n theirs.1) ∙ isnt)))))))
    ∙ ap (λ (xs : List Offer). option_map (kept_in (h ++ e ∷ [])) (offer_of xs seller n))
    (sym (offers-same h e nothing))))

-- and a number beyond those of the participants still offers nothing
closing-beyond : (h : List Entry) (e : Entry) (old new : Money) (closer : List ℕ) (number : ℕ) (o : Offer) (s : State)
    (k : ℕ) (n : ℕ)
    → IsNext h e old
    → offer_of (offers h) closer number ≡ Some o
    → Puts (kept_as (offered (kept_in h o)) s) old.offers new.offers
    → length (registrations h) ≤ k
    → offer_in k n new ≡ None
closing-beyond h e old new closer number o s k n next found puts far =
    let known : IsOffered h o = offer-known h closer number o next.legal found in
    puts k n
    ∙ (ap (λ (b : Bool). cond (b && (o.number == n)) (Some (kept_as (offered (kept_in h o)) s)) (offer_in k n old))
    (other-number (holder_in h o.seller) k (length (registrations h)) (holder-within h o.seller known.seller) far)
    ∙ (next.told.beyond k far).offers n)

-- a purchase
pub tells-purchase : (h : List Entry) (e : Entry) (old new : Money) (name : List ℕ) (number : ℕ) (o : Offer)
    → IsNext h e old
    → e.message ≡ message.Buy name number
    → offer_of (offers h) name number ≡ Some o
    → is_closed h o.seller o.number ≡ false
    → MovesPrice (kept_in h o) old new
    → Puts (kept_as (offered (kept_in h o)) state.Bought) old.offers new.offers
    → ClosesOne (holder_in h name) old new
    → total_of new ≡ total_of old
    → TellsFunds (h ++ e ∷ []) new
tells-purchase h e old new name number o next is found unclosed moves puts closes total =
    let known : IsOffered h o = offer-known h name number o next.legal found in
    let key = and_parts (is_same o.seller name) (o.number == number)
    (find_passes (is_offer name number) (offers h) o found) in
    let registered : is_registered (registrations h) name ≡ true =
    subst (λ (n : List ℕ). is_registered (registrations h) n ≡ true) (is_same-equal o.seller name key.0) known.seller in
    let within = holder-within h name registered in
    let nothing : offered_by e.submitter e.number e.message ≡ [] = ap (offered_by e.submitter e.number) is in
    tells-at h e new (record {
      balances = λ other.
          omega (
            arith,
            moves (holder_in h other),
            ap (λ (b : Bool). part b o.price.value) (own-number h o.buyer other known.buyer),
            ap (λ (b : Bool). part b o.price.value) (own-number h o.seller other known.seller),
            next.told.balances other,
            balance-push h e other next.legal next.follows,
            ap (λ (m : Message). newly_to h m other) is,
            ap (λ (m : Message). newly_from h m other) is,
            ap (λ (f : Option Offer). sum_by price (filter (is_sellers other) (option_to_list f))) found,
            ap (λ (f : Option Offer). sum_by price (filter (is_buyers other) (option_to_list f))) found,
            one_part price (is_sellers other o) o,
            one_part price (is_buyers other o) o,
          );
      total = omega (
        arith,
        total,
        next.told.total,
        deposits-push h e,
        withdrawals-push h e,
        ap (λ (m : Message). cents_in (deposited_by m)) is,
        ap (λ (m : Message). cents_in (withdrawn_by m)) is,
      );
      offers = closing-told h e old new name number o state.Bought next nothing found
          (now_bought (is_bought-push h e o.seller o.number)
          (either_way name number o ∙ find_passes (is_offer name number) (offers h) o found))
          (λ x isnt. still_open x isnt) puts;
      opens = λ seller.
          omega (
            arith,
            closes (holder_in h seller),
            ap (λ (b : Bool). part b 1) (own-number h name seller registered),
            next.told.opens seller,
            open_offers-closed h e name number o seller next.legal nothing
                (λ of n. ap (λ (m : Message). newly_closed e.submitter m of n) is) found unclosed,
          );
      beyond = λ k far. record {
        balance = omega (
          arith,
          moves k,
          (next.told.beyond k far).balance,
          apart (holder_in h o.seller) k o.price.value (length (registrations h))
              (holder-within h o.seller known.seller) far,
        );
        opens = omega (arith, closes k, (next.told.beyond k far).opens);
        offers = λ n. closing-beyond h e old new name number o state.Bought k n next found puts far;
      };
    })
  where
    -- the offer is bought
    now_bought : is_bought (purchases (h ++ e ∷ [])) o.seller o.number
        ≡ (is_bought (purchases h) o.seller o.number || is_bought (purchased_by e.submitter e.message) o.seller
        o.number)
        → (is_same name o.seller && (number == o.number)) ≡ true
        → state_of (h ++ e ∷ []) o ≡ state.Bought
    now_bought push mine =
        let newly : is_bought (purchased_by e.submitter e.message) o.seller o.number ≡ true =
        ap (λ (m : Message). is_bought (purchased_by e.submitter m) o.seller o.number) is
        ∙ or_left (is_same name o.seller && (number == o.number)) false mine in
        let bought : is_bought (purchases (h ++ e ∷ [])) o.seller o.number ≡ true =
        push ∙ or_right (is_bought (purchases h) o.seller o.number)
        (is_bought (purchased_by e.submitter e.message) o.seller o.number) newly in
        ap (λ (b : Bool). state_by b (is_retracted (retractions (h ++ e ∷ [])) o.seller o.number)) bought

    -- and each other as it was
    still_open : (x : Offer) → (is_same name x.seller && (number == x.number)) ≡ false
        → state_of (h ++ e ∷ []) x ≡ state_of h x
    still_open x isnt =
        let bought : is_bought (purchases (h ++ e ∷ [])) x.seller x.number ≡ is_bought (purchases h) x.seller x.number =
        is_bought-push h e x.seller x.number
        ∙ (ap (λ (m : Message). is_bought (purchases h) x.seller x.number
        || is_bought (purchased_by e.submitter m) x.seller x.number) is
        ∙ (ap (λ (b : Bool). is_bought (purchases h) x.seller x.number || (b || false)) isnt ∙ or_false _)) in
        let retracted : is_retracted (retractions (h ++ e ∷ [])) x.seller x.number
        ≡ is_retracted (retractions h) x.seller x.number =
        is_retracted-push h e x.seller x.number
        ∙ (ap (λ (m : Message). is_retracted (retractions h) x.seller x.number
        || is_retracted (retracted_by e.submitter m) x.seller x.number) is ∙ or_false _) in
        ap (λ (b : Bool). state_by b (is_retracted (retractions (h ++ e ∷ [])) x.seller x.number)) bought
        ∙ ap (state_by (is_bought (purchases h) x.seller x.number)) retracted

-- a retraction
pub tells-retraction : (h : List Entry) (e : Entry) (old new : Money) (number : ℕ) (o : Offer)
    → IsNext h e old
    → e.message ≡ message.Retract number
    → offer_of (offers h) e.submitter number ≡ Some o
    → is_closed h o.seller o.number ≡ false
    → Puts (kept_as (offered (kept_in h o)) state.Retracted) old.offers new.offers
    → ClosesOne (holder_in h e.submitter) old new
    → new.balances ≡ old.balances
    → TellsFunds (h ++ e ∷ []) new
tells-retraction h e old new number o next is found unclosed puts closes same =
    let known : IsOffered h o = offer-known h e.submitter number o next.legal found in
    let key = and_parts (is_same o.seller e.submitter) (o.number == number)
    (find_passes (is_offer e.submitter number) (offers h) o found) in
    let registered : is_registered (registrations h) e.submitter ≡ true =
    subst (λ (n : List ℕ). is_registered (registrations h) n ≡ true) (is_same-equal o.seller e.submitter key.0)
    known.seller in
    let nothing : offered_by e.submitter e.number e.message ≡ [] = ap (offered_by e.submitter e.number) is in
    let plain : is_cash e.message ≡ false = ap is_cash is in
    let unbought : is_purchase e.message ≡ false = ap is_purchase is in
    tells-at h e new (record {
      balances = λ other.
          ap (λ (amounts : List Amount). amount_in (holder_in h other) amounts) same
          ∙ (next.told.balances other ∙ sym (balance-stays h e other next.legal next.follows plain unbought));
      total = omega (
        arith,
        ap total_in same,
        next.told.total,
        deposits-push h e,
        withdrawals-push h e,
        ap (λ (m : Message). cents_in (deposited_by m)) is,
        ap (λ (m : Message). cents_in (withdrawn_by m)) is,
      );
      offers = closing-told h e old new e.submitter number o state.Retracted next nothing found
          (now_retracted (or_parts (is_bought (purchases h) o.seller o.number)
          (is_retracted (retractions h) o.seller o.number) unclosed).0
          (either_way e.submitter number o ∙ find_passes (is_offer e.submitter number) (offers h) o found))
          (λ x isnt. still_open x isnt) puts;
      opens = λ seller.
          omega (
            arith,
            closes (holder_in h seller),
            ap (λ (b : Bool). part b 1) (own-number h e.submitter seller registered),
            next.told.opens seller,
            open_offers-closed h e e.submitter number o seller next.legal nothing
                (λ of n. ap (λ (m : Message). newly_closed e.submitter m of n) is) found unclosed,
          );
      beyond = λ k far. record {
        balance = ap (λ (amounts : List Amount). amount_in k amounts) same ∙ (next.told.beyond k far).balance;
        opens = omega (arith, closes k, (next.told.beyond k far).opens);
        offers = λ n. closing-beyond h e old new e.submitter number o state.Retracted k n next found puts far;
      };
    })
  where
    -- nothing is bought
    bought_as_before : (x : Offer)
        → is_bought (purchases (h ++ e ∷ [])) x.seller x.number ≡ is_bought (purchases h) x.seller x.number
    bought_as_before x =
        is_bought-push h e x.seller x.number
        ∙ (ap (λ (m : Message). is_bought (purchases h) x.seller x.number
        || is_bought (purchased_by e.submitter m) x.seller x.number) is ∙ or_false _)

    -- the offer is retracted
    now_retracted : is_bought (purchases h) o.seller o.number ≡ false
        → (is_same e.submitter o.seller && (number == o.number)) ≡ true
        → state_of (h ++ e ∷ []) o ≡ state.Retracted
    now_retracted free mine =
        let newly : is_retracted (retracted_by e.submitter e.message) o.seller o.number ≡ true =
        ap (λ (m : Message). is_retracted (retracted_by e.submitter m) o.seller o.number) is
        ∙ or_left (is_same e.submitter o.seller && (number == o.number)) false mine in
        let retracted : is_retracted (retractions (h ++ e ∷ [])) o.seller o.number ≡ true =
        is_retracted-push h e o.seller o.number
        ∙ or_right (is_retracted (retractions h) o.seller o.number)
        (is_retracted (retracted_by e.submitter e.message) o.seller o.number) newly in
        ap (λ (b : Bool). state_by b (is_retracted (retractions (h ++ e ∷ [])) o.seller o.number))
        (bought_as_before o ∙ free)
        ∙ ap (state_by false) retracted

    -- and each other as it was
    still_open : (x : Offer) → (is_same e.submitter x.seller && (number == x.number)) ≡ false
        → state_of (h ++ e ∷ []) x ≡ state_of h x
    still_open x isnt =
        let retracted : is_retracted (retractions (h ++ e ∷ [])) x.seller x.number
        ≡ is_retracted (retractions h) x.seller x.number =
        is_retracted-push h e x.seller x.number
        ∙ (ap (λ (m : Message). is_retracted (retractions h) x.seller x.number
        || is_retracted (retracted_by e.submitter m) x.seller x.number) is
        ∙ (ap (λ (b : Bool). is_retracted (retractions h) x.seller x.number || (b || false)) isnt ∙ or_false _)) in
        ap (λ (b : Bool). state_by b (is_retracted (retractions (h ++ e ∷ [])) x.seller x.number)) (bought_as_before x)
        ∙ ap (state_by (is_bought (purchases h) x.seller x.number)) retracted

-- ---- what the calls of the funds ask

-- a deposit fits
pub deposit-fits : (h : List Entry) (e : Entry) (money : Money) (participant : List ℕ) (cents : Cents)
    → IsNext h e money
    → e.message ≡ message.Deposit participant cents
    → total_of money + cents.value ≤ 10 ^ 22
deposit-fits h e money participant cents next is =
    omega (
      arith,
      next.told.total,
      deposits-push h e,
      ap (λ (m : Message). cents_in (deposited_by m)) is,
      one_cash participant cents,
      deposits-most (h ++ e ∷ []) (Longer h e next.legal next.follows),
    )

-- a withdrawal is covered
pub withdrawal-covered : (h : List Entry) (e : Entry) (money : Money) (participant : List ℕ) (cents : Cents)
    → IsNext h e money
    → e.message ≡ message.Withdraw participant cents
    → cents.value ≤ balance_in (holder_in h participant) money
withdrawal-covered h e money participant cents next is =
    let passed = accepted-passes h e.submitter e.number e.moment e.message next.follows.accepted in
    let clear : AllByRecursion IsClear (rows_of h e.submitter e.moment (message.Withdraw participant cents)) =
    rw is at passed.rows in
    omega (
      arith,
      next.told.balances participant,
      ltb-false (balance_of h participant) cents.value clear.1.0,
    )

-- the number of a sell is new, and its seller has fewer than 1,000 open offers
pub sell-fits : (h : List Entry) (e : Entry) (money : Money) (cusip : Cusip) (to : List ℕ) (amount : Dollars)
    (price : Cents)
    → IsNext h e money
    → e.message ≡ message.Sell cusip to amount price
    → (offer_in (holder_in h e.submitter) e.number money ≡ None) × (open_of (holder_in h e.submitter) money < 1000)
sell-fits h e money cusip to amount price next is =
    let passed = accepted-passes h e.submitter e.number e.moment e.message next.follows.accepted in
    let clear : AllByRecursion IsClear (rows_of h e.submitter e.moment (message.Sell cusip to amount price)) =
    rw is at passed.rows in
    let none : offer_of (offers h) e.submitter e.number ≡ None =
    new-offer h e.submitter e.number next.legal passed.unused in (
      next.told.offers e.submitter e.number ∙ ap (option_map (kept_in h)) none,
      omega (
        arith,
        next.told.opens e.submitter,
        leb-false 1000 (open_offers h e.submitter)
            (quota (bill_of (announcements h) cusip) (is_registered (registrations h) to) (is_same to e.submitter)
            (is_redeemed (redemptions h) cusip) amount.value (open_offers h e.submitter) clear),
      ),
    )
  where
    -- the last row of a sell
    quota : (bill : Option Announcement) (known self redeemed : Bool) (n open_now : ℕ)
        → AllByRecursion IsClear (sell_rows bill known self redeemed e.moment n open_now)
        → nat_le 1000 open_now ≡ false
    quota None known self redeemed n open_now all = absurd (let wrong : true ≡ false = all.0 in cc)
    quota (Some a) known self redeemed n open_now all = all.1.1.1.1.1.0

-- the offer of a purchase is there, and its buyer has the price
pub purchase-found : (h : List Entry) (e : Entry) (money : Money) (name : List ℕ) (number : ℕ)
    → IsNext h e money
    → e.message ≡ message.Buy name number
    → (o : Offer) × (offer_of (offers h) name number ≡ Some o) × IsBuyable h e.submitter o
purchase-found h e money name number next is =
    let passed = accepted-passes h e.submitter e.number e.moment e.message next.follows.accepted in
    let clear : AllByRecursion IsClear (buy_rows h (offer_of (offers h) name number) e.submitter e.moment) =
    rw is at passed.rows in
    by_found (offer_of (offers h) name number) refl clear
  where
    -- by the offer that is found
    by_found : (found : Option Offer)
        → offer_of (offers h) name number ≡ found
        → AllByRecursion IsClear (buy_rows h found e.submitter e.moment)
        → (o : Offer) × (offer_of (offers h) name number ≡ Some o) × IsBuyable h e.submitter o
    by_found None found all = absurd (let wrong : true ≡ false = all.0 in cc)
    by_found (Some o) found all = (o, found, buy_rows-clear h e.submitter e.moment o all)

-- so is that of a retraction, and it isn't closed
pub retraction-found : (h : List Entry) (e : Entry) (money : Money) (number : ℕ)
    → IsNext h e money
    → e.message ≡ message.Retract number
    → (o : Offer) × (offer_of (offers h) e.submitter number ≡ Some o) × (is_closed h o.seller o.number ≡ false)
retraction-found h e money number next is =
    let passed = accepted-passes h e.submitter e.number e.moment e.message next.follows.accepted in
    let clear : AllByRecursion IsClear (retract_rows (offer_of (offers h) e.submitter number)
    (is_closed h e.submitter number)) = rw is at passed.rows in
    by_found (offer_of (offers h) e.submitter number) refl clear
  where
    -- by the offer that is found
    by_found : (found : Option Offer)
        → offer_of (offers h) e.submitter number ≡ found
        → AllByRecursion IsClear (retract_rows found (is_closed h e.submitter number))
        → (o : Offer) × (offer_of (offers h) e.submitter number ≡ Some o) × (is_closed h o.seller o.number ≡ false)
    by_found None found all = absurd (let wrong : true ≡ false = all.0 in cc)
    by_found (Some o) found all =
        let key = and_parts (is_same o.seller e.submitter) (o.number == number)
        (find_passes (is_offer e.submitter number) (offers h) o found) in (
          o,
          found,
          ap (λ (name : List ℕ). is_closed h name o.number) (is_same-equal o.seller e.submitter key.0)
              ∙ (ap (is_closed h e.submitter) (eqb-true o.number number key.1) ∙ all.0),
        )

-- an offer that isn't closed is open in the funds
pub open-there : (h : List Entry) (money : Money) (seller : List ℕ) (number : ℕ) (o : Offer)
    → TellsFunds h money
    → offer_of (offers h) seller number ≡ Some o
    → is_closed h o.seller o.number ≡ false
    → IsOpenOffer (holder_in h seller) number money (kept_in h o)
open-there h money seller number o told found unclosed = record {
  there = told.offers seller number ∙ ap (option_map (kept_in h)) found;
  unclosed = ap is_open (state-open h o unclosed);
}

-- a call that isn't refused is done
pub not_refused : {T E : Type 0} (result : Result T E) (least most : ℕ) (Done : Type 0)
    → IsErr result ↔ (least < most)
    → most ≤ least
    → OnOk result Done
    → Done
not_refused (Ok x) least most Done refused enough done = done
not_refused (Err e) least most Done refused enough done = absurd (omega (arith, refused.0 refl, enough))

-- nor is one that has room for one more
pub not_full : {T E : Type 0} (result : Result T E) (most count : ℕ) (Done : Type 0)
    → IsErr result ↔ (most ≤ count)
    → count < most
    → OnOk result Done
    → Done
not_full (Ok x) most count Done refused few done = done
not_full (Err e) most count Done refused few done = absurd (omega (arith, refused.0 refl, few))

-- the buyer has the price in the funds
pub purchase-funded : (h : List Entry) (e : Entry) (money : Money) (o : Offer)
    → IsNext h e money
    → IsBuyable h e.submitter o
    → o.price.value ≤ balance_in (holder_in h o.buyer) money
purchase-funded h e money o next buyable =
    omega (
      arith,
      next.told.balances o.buyer,
      ap (balance_of h) (is_same-equal o.buyer e.submitter buyable.buyer),
      buyable.funded,
    )

-- funds without anything tell the empty history
pub tells-none : (money : Money) → money.balances ≡ [] → money.offers ≡ [] → TellsFunds [] money
unfolding balance_of money_to money_from deposits withdrawals sales purchases offers open_offers registrations
tells-none money balances nothing = record {
  balances = λ participant. ap (λ (amounts : List Amount). amount_in (holder_in [] participant) amounts) balances;
  total = ap (λ (n : ℕ). n + 0) (ap total_in balances);
  offers = λ seller number. ap (find_in (holder_in [] seller) number) nothing;
  opens = λ seller. ap (open_in (holder_in [] seller)) nothing;
  beyond = λ holder far. record {
    balance = ap (amount_in holder) balances;
    opens = ap (open_in holder) nothing;
    offers = λ number. ap (find_in holder number) nothing;
  };
}
