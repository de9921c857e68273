-- What an accepted entry changes of holdings and balances.
use Rattle.std.proofs.Common.{◌≡◌, ℕ, ◌+◌, ◌-◌, ◌≤◌, ◌&&◌, Bool, true, false, cond, Option, Some, None, inl, inr}
use Rattle.std.proofs.Common.{List, [], ◌∷◌, ◌++◌, sum_by, refl, sym, ap, ◌∙◌, subst, arith, append-nil}
use Rattle.std.specs.Prelude.{option_to_list}
use Rattle.std.specs.List.{AllByRecursion, filter}
use Rattle.std.proofs.lemmas.Bool.{cases_Bool, both_ways, and_parts, cond-true, cond-false, false_from_ne_true}
use Rattle.tb_terms.specs.declared.cusip.Cusip.{Cusip}
use Rattle.tb_terms.specs.Same.{same_cusip}
use Rattle.tb_movements.proofs.ConservationLemmas.{IsCovered-legal}
use Rattle.tb_message.specs.declared.message.Entry.{Entry}
use Rattle.tb_message.specs.declared.message.Message.{Message}
use Rattle.tb_message.specs.declared.message.Message.TheVariants as message
use Rattle.tb_history.specs.declared.accounts.Offer.{Offer}
use Rattle.tb_history.specs.Entries.{is_same, redeemed_by, transferred_by}
use Rattle.tb_history.specs.Roster.{redemptions, is_redeemed}
use Rattle.tb_history.specs.Holdings.{par_to, par_from, held_of, free_of}
use Rattle.tb_history.specs.Offers.{offers, offer_of}
use Rattle.tb_history.specs.Funds.{money_to, money_from, balance_of}
use Rattle.tb_history.specs.Tables.{buy_rows}
use Rattle.tb_history.specs.Legal.{IsLegal, Follows}
use Rattle.tb_history.specs.Trades.{given, IsExchange, is_cash, is_purchase}
use Rattle.tb_history.proofs.SameLemmas.{is_same-equal}
use Rattle.tb_history.proofs.GrowthLemmas.{redemptions-snoc}
use Rattle.tb_history.proofs.AcceptedLemmas.{IsClear, accepted-passes}
use Rattle.tb_history.proofs.CreditedLemmas.{newly_settled, par_settled-push, credited_to-settled}
use Rattle.tb_history.proofs.MovedLemmas.{transferred, goes_to, comes_from, received-push, sent-push, newly_sold}
use Rattle.tb_history.proofs.MovedLemmas.{offered_par, is_sold_by, is_bought_by}
use Rattle.tb_history.proofs.OfferLemmas.{IsOffered, offer-known, IsBuyable, buy_rows-clear, sales-sum}
use Rattle.tb_history.proofs.ConservedLemmas.{numbering_with, numbered-name, numbered-bill, tells-with}
use Rattle.tb_history.proofs.FundsLemmas.{price, is_sellers, is_buyers, newly_to, newly_from, money_to-push}
use Rattle.tb_history.proofs.FundsLemmas.{money_from-push, IsLegal-funded}

-- ---- money

-- a message that is neither cash nor a purchase brings no money
newly_to-none : (history : List Entry) (sent : Message) (participant : List ℕ)
    → is_cash sent ≡ false
    → is_purchase sent ≡ false
    → newly_to history sent participant ≡ 0
newly_to-none history (message.Deposit holder cents) participant cash bought = cc
newly_to-none history (message.Buy seller offer) participant cash bought = cc
newly_to-none history other participant cash bought = refl

-- and takes none
newly_from-none : (history : List Entry) (sent : Message) (participant : List ℕ)
    → is_cash sent ≡ false
    → is_purchase sent ≡ false
    → newly_from history sent participant ≡ 0
newly_from-none history (message.Withdraw holder cents) participant cash bought = cc
newly_from-none history (message.Buy seller offer) participant cash bought = cc
newly_from-none history other participant cash bought = refl

-- so balances stay
pub balance-stays : (history : List Entry) (entry : Entry) (participant : List ℕ)
    → IsLegal history
    → Follows history entry
    → is_cash entry.message ≡ false
    → is_purchase entry.message ≡ false
    → balance_of (history ++ entry ∷ []) participant ≡ balance_of history participant
unfolding balance_of
balance-stays history entry participant legal follows cash bought =
    omega (
      arith,
      money_to-push history entry participant legal follows,
      money_from-push history entry participant legal follows,
      newly_to-none history entry.message participant cash bought,
      newly_from-none history entry.message participant cash bought,
    )

-- ---- par

-- what a message brings the participant of the bill
abbrev par_newly_to : List Entry → List ℕ → Message → List ℕ → Cusip → ℕ
par_newly_to history sender sent participant cusip =
    newly_settled (λ name. is_same name participant) history cusip sent
    + (sum_by transferred (filter (goes_to participant cusip) (transferred_by sender sent))
    + sum_by offered_par (filter (is_bought_by participant cusip) (newly_sold history sent)))

-- and what it takes from it
abbrev par_newly_from : List Entry → List ℕ → Message → List ℕ → Cusip → ℕ
par_newly_from history sender sent participant cusip =
    sum_by transferred (filter (comes_from participant cusip) (transferred_by sender sent))
    + sum_by offered_par (filter (is_sold_by participant cusip) (newly_sold history sent))

-- what came to the participant grows by that
par_to-push : (history : List Entry) (entry : Entry) (participant : List ℕ) (cusip : Cusip)
    → IsLegal history
    → Follows history entry
    → par_to (history ++ entry ∷ []) participant cusip
    ≡ par_to history participant cusip + par_newly_to history entry.submitter entry.message participant cusip
par_to-push history entry participant cusip legal follows =
    omega (
      arith,
      received-push history entry participant cusip,
      sales-sum offered_par (is_bought_by participant cusip) history entry legal follows,
      credited_to-settled history participant cusip,
      credited_to-settled (history ++ entry ∷ []) participant cusip,
      par_settled-push (λ name. is_same name participant) history entry cusip legal
          follows,
    )

-- and so does what went from it
par_from-push : (history : List Entry) (entry : Entry) (participant : List ℕ) (cusip : Cusip)
    → IsLegal history
    → Follows history entry
    → par_from (history ++ entry ∷ []) participant cusip
    ≡ par_from history participant cusip + par_newly_from history entry.submitter entry.message participant cusip
par_from-push history entry participant cusip legal follows =
    omega (
      arith,
      sent-push history entry participant cusip,
      sales-sum offered_par (is_sold_by participant cusip) history entry legal follows,
    )

-- what is redeemed, with an entry that redeems nothing
redeemed-same : (history : List Entry) (entry : Entry) (cusip : Cusip)
    → redeemed_by entry.message ≡ []
    → is_redeemed (redemptions (history ++ entry ∷ [])) cusip ≡ is_redeemed (redemptions history) cusip
redeemed-same history entry cusip none =
    ap (λ (cs : List Cusip). is_redeemed cs cusip)
    (redemptions-snoc history entry
    ∙ (ap (λ (cs : List Cusip). redemptions history ++ cs) none ∙ append-nil (redemptions history)))

-- cash brings no par
cash-none : (history : List Entry) (sender : List ℕ) (sent : Message) (participant : List ℕ) (cusip : Cusip)
    → is_cash sent ≡ true
    → (par_newly_to history sender sent participant cusip ≡ 0)
    × (par_newly_from history sender sent participant cusip ≡ 0)
    × (redeemed_by sent ≡ [])
cash-none history sender (message.Deposit holder cents) participant cusip cash = (refl, refl, refl)
cash-none history sender (message.Withdraw holder cents) participant cusip cash = (refl, refl, refl)
cash-none history sender other participant cusip cash = cc

-- so holdings stay
pub held-stays : (history : List Entry) (entry : Entry) (participant : List ℕ) (cusip : Cusip)
    → IsLegal history
    → Follows history entry
    → is_cash entry.message ≡ true
    → held_of (history ++ entry ∷ []) participant cusip ≡ held_of history participant cusip
unfolding held_of
held-stays history entry participant cusip legal follows cash =
    let none = cash-none history entry.submitter entry.message participant cusip cash in
    let came : par_to (history ++ entry ∷ []) participant cusip ≡ par_to history participant cusip =
    omega (arith, par_to-push history entry participant cusip legal follows, none.0) in
    let went : par_from (history ++ entry ∷ []) participant cusip ≡ par_from history participant cusip =
    omega (arith, par_from-push history entry participant cusip legal follows, none.1) in
    rw (redeemed-same history entry cusip none.2, came, went) refl

-- ---- purchases

-- no more of a bill goes from a participant than came to it, while the bill isn't redeemed
par-covered : (history : List Entry) (participant : List ℕ) (cusip : Cusip)
    → IsLegal history
    → is_redeemed (redemptions history) cusip ≡ false
    → par_from history participant cusip ≤ par_to history participant cusip
par-covered history participant cusip legal live =
    let numbers = numbering_with participant cusip.bytes history in
    let told = (tells-with participant cusip.bytes history legal).told in
    let own = numbered-name participant cusip.bytes history in
    let bills = numbered-bill participant cusip.bytes history in
    omega (
      arith,
      IsCovered-legal _ told.legal (numbers.holder participant) (numbers.security cusip.bytes)
          (told.redeemed cusip bills ∙ live),
      told.brings participant cusip own bills,
      told.takes participant cusip own bills,
    )

-- a part of an amount by a test
pub one_part : {X : Type 0} (f : X → ℕ) (b : Bool) (x : X) → sum_by f (cond b (x ∷ []) []) ≡ given b (f x)
one_part f true x = omega arith
one_part f false x = refl

-- what differs by so much on one side and on the other
moved-by : (came went more less : ℕ) → less + went ≤ came
    → ((came + more) - (went + less)) + less ≡ (came - went) + more
moved-by came went more less enough = omega (arith, enough)

-- the seller has the par
seller-has : (history : List Entry) (offer : Offer) (participant : List ℕ) (cusip : Cusip)
    → par_from history participant cusip ≤ par_to history participant cusip
    → is_redeemed (redemptions history) cusip ≡ false
    → offer.amount.value ≤ free_of history offer.seller offer.cusip
    → ((is_same offer.seller participant && is_same offer.cusip.bytes cusip.bytes) ≡ true
    → held_of history offer.seller offer.cusip ≡ held_of history participant cusip)
    → given (is_same offer.seller participant && is_same offer.cusip.bytes cusip.bytes) offer.amount.value
    + par_from history participant cusip ≤ par_to history participant cusip
unfolding free_of held_of
seller-has history offer participant cusip covered live free same =
    let test : Bool = is_same offer.seller participant && is_same offer.cusip.bytes cusip.bytes in
    elim (cases_Bool test) [
      | inl is ↦
          omega (
            arith,
            cond-true {A = ℕ} test offer.amount.value 0 is,
            same is,
            free,
            cond-false {A = ℕ} (is_redeemed (redemptions history) cusip) 0
                (par_to history participant cusip - par_from history participant cusip) live,
            covered,
          )
      | inr isnt ↦ omega (arith, cond-false {A = ℕ} test offer.amount.value 0 isnt, covered)
    ]

-- one bill has one holding
held-same : (history : List Entry) (one other : List ℕ) (bill cusip : Cusip)
    → (is_same one other && is_same bill.bytes cusip.bytes) ≡ true
    → held_of history one bill ≡ held_of history other cusip
held-same history one other bill cusip same =
    let parts = and_parts (is_same one other) (is_same bill.bytes cusip.bytes) same in
    ap (λ (name : List ℕ). held_of history name bill) (is_same-equal one other parts.0)
    ∙ ap (held_of history other) (one_bill bill cusip (is_same-equal bill.bytes cusip.bytes parts.1))
  where
    -- bills of one CUSIP are one
    one_bill : (a b : Cusip) → a.bytes ≡ b.bytes → a ≡ b
    one_bill a b bytes = same_cusip a b bytes

-- a redeemed bill isn't the offer's
redeemed-other : (history : List Entry) (offer : Offer) (cusip : Cusip) (party : Bool)
    → is_redeemed (redemptions history) offer.cusip ≡ false
    → is_redeemed (redemptions history) cusip ≡ true
    → given (party && is_same offer.cusip.bytes cusip.bytes) offer.amount.value ≡ 0
redeemed-other history offer cusip party live redeemed =
    let apart : is_same offer.cusip.bytes cusip.bytes ≡ false =
    false_from_ne_true _ (λ is. both_ways (is_redeemed (redemptions history) offer.cusip) live
    (subst (λ (c : Cusip). is_redeemed (redemptions history) c ≡ true)
    (sym (same_cusip offer.cusip cusip (is_same-equal offer.cusip.bytes cusip.bytes is))) redeemed)) in
    rw apart (either party)
  where
    -- either way nothing
    either : (b : Bool) → given (b && false) offer.amount.value ≡ 0
    either true = refl
    either false = refl

-- what an entry that buys the offer changes
exchange-of : (history : List Entry) (entry : Entry) (seller : List ℕ) (number : ℕ) (offer : Offer)
    → IsLegal history
    → Follows history entry
    → entry.message ≡ message.Buy seller number
    → offer_of (offers history) seller number ≡ Some offer
    → IsBuyable history entry.submitter offer
    → IsExchange history (history ++ entry ∷ []) offer
unfolding held_of balance_of
exchange-of history entry seller number offer legal follows is found buyable =
    let known : IsOffered history offer = offer-known history seller number offer legal found in
    let bought : newly_sold history entry.message ≡ offer ∷ [] =
    ap (newly_sold history) is ∙ ap option_to_list found in
    let none : redeemed_by entry.message ≡ [] = ap redeemed_by is in
    record {
      apart = known.apart;
      par = λ participant cusip.
          let to = is_bought_by participant cusip in
          let from = is_sold_by participant cusip in
          let same = redeemed-same history entry cusip none in
          let came : par_to (history ++ entry ∷ []) participant cusip
          ≡ par_to history participant cusip + given (to offer) offer.amount.value =
          par_to-push history entry participant cusip legal follows
          ∙ (ap (λ (m : Message). par_to history participant cusip
          + par_newly_to history entry.submitter m participant cusip) is
          ∙ ap (λ (f : Option Offer). par_to history participant cusip
          + (0 + (0 + sum_by offered_par (filter to (option_to_list f))))) found
          ∙ omega (arith, one_part offered_par (to offer) offer)) in
          let went : par_from (history ++ entry ∷ []) participant cusip
          ≡ par_from history participant cusip + given (from offer) offer.amount.value =
          par_from-push history entry participant cusip legal follows
          ∙ (ap (λ (m : Message). par_from history participant cusip
          + par_newly_from history entry.submitter m participant cusip) is
          ∙ ap (λ (f : Option Offer). par_from history participant cusip
          + (0 + sum_by offered_par (filter from (option_to_list f)))) found
          ∙ omega (arith, one_part offered_par (from offer) offer)) in
          elim (cases_Bool (is_redeemed (redemptions history) cusip)) [
            | inl redeemed ↦
                let sold =
                redeemed-other history offer cusip (is_same offer.seller participant) buyable.live redeemed in
                let got =
                redeemed-other history offer cusip (is_same offer.buyer participant) buyable.live redeemed in
                rw (same, redeemed, sold, got) refl
            | inr live ↦
                let covered = par-covered history participant cusip legal live in
                let enough =
                seller-has history offer participant cusip covered live buyable.covered
                (held-same history offer.seller participant offer.cusip cusip) in
                rw (same, live, came, went)
                (moved-by (par_to history participant cusip) (par_from history participant cusip)
                (given (to offer) offer.amount.value) (given (from offer) offer.amount.value) enough)
          ];
      money = λ participant.
          omega (
            arith,
            money_to-push history entry participant legal follows,
            money_from-push history entry participant legal follows,
            ap (λ (m : Message). newly_to history m participant) is,
            ap (λ (m : Message). newly_from history m participant) is,
            ap (λ (f : Option Offer). sum_by price (filter (is_sellers participant) (option_to_list f))) found,
            ap (λ (f : Option Offer). sum_by price (filter (is_buyers participant) (option_to_list f))) found,
            one_part price (is_sellers participant offer) offer,
            one_part price (is_buyers participant offer) offer,
            IsLegal-funded history legal participant,
            buyer-has participant known.apart buyable,
          );
    }
  where
    -- the buyer has the price
    buyer-has : (participant : List ℕ)
        → is_same offer.buyer offer.seller ≡ false
        → IsBuyable history entry.submitter offer
        → given (is_same offer.buyer participant) offer.price.value + money_from history participant
        ≤ money_to history participant
    buyer-has participant apart can =
        elim (cases_Bool (is_same offer.buyer participant)) [
          | inl same ↦
              let whose : entry.submitter ≡ participant =
              sym (is_same-equal offer.buyer entry.submitter can.buyer) ∙ is_same-equal offer.buyer participant same in
              let enough : offer.price.value ≤ balance_of history participant =
              subst (λ (name : List ℕ). offer.price.value ≤ balance_of history name) whose can.funded in
              omega (
                arith,
                enough,
                IsLegal-funded history legal participant,
                cond-true {A = ℕ} (is_same offer.buyer participant) offer.price.value 0 same,
              )
          | inr isnt ↦
              omega (
                arith,
                IsLegal-funded history legal participant,
                cond-false {A = ℕ} (is_same offer.buyer participant) offer.price.value 0 isnt,
              )
        ]

-- an accepted purchase is of an offer to its sender, and exchanges
pub purchase-exchanges : (history : List Entry) (entry : Entry) (seller : List ℕ) (number : ℕ)
    → IsLegal history
    → Follows history entry
    → entry.message ≡ message.Buy seller number
    → (offer : Offer) × (offer_of (offers history) seller number ≡ Some offer)
    × (offer.buyer ≡ entry.submitter) × IsExchange history (history ++ entry ∷ []) offer
purchase-exchanges history entry seller number legal follows is =
    let passed = accepted-passes history entry.submitter entry.number entry.moment entry.message follows.accepted in
    let clear : AllByRecursion IsClear (buy_rows history (offer_of (offers history) seller number) entry.submitter
    entry.moment) = rw is at passed.rows in
    by_found (offer_of (offers history) seller number) refl clear
  where
    -- by the offer that is found
    by_found : (found : Option Offer)
        → offer_of (offers history) seller number ≡ found
        → AllByRecursion IsClear (buy_rows history found entry.submitter entry.moment)
        → (offer : Offer) × (offer_of (offers history) seller number ≡ Some offer)
        × (offer.buyer ≡ entry.submitter) × IsExchange history (history ++ entry ∷ []) offer
    by_found None found clear = absurd (let wrong : true ≡ false = clear.0 in cc)
    by_found (Some offer) found clear =
        let buyable : IsBuyable history entry.submitter offer =
        buy_rows-clear history entry.submitter entry.moment offer clear in (
          offer,
          found,
          is_same-equal offer.buyer entry.submitter buyable.buyer,
          exchange-of history entry seller number offer legal follows is found buyable,
        )
