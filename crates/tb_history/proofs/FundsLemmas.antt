-- Money in legal histories: nobody spends more than came to it, and all balances are what was deposited and not
-- withdrawn.
use Rattle.std.proofs.Common.{◌≡◌, ℕ, suc, ◌+◌, ◌*◌, ◌^◌, ◌≤◌, nat_le, Bool, true, false, cond}
use Rattle.std.proofs.Common.{Option, Some, None, inl, inr, List, [], ◌∷◌, ◌++◌, sum_by, All, refl, sym, ap}
use Rattle.std.proofs.Common.{◌∙◌, subst, arith}
use Rattle.std.specs.Prelude.{option_to_list}
use Rattle.std.specs.List.{AllByRecursion, filter, flat_map}
use Rattle.std.proofs.lemmas.Bool.{cases_Bool, cond-false, both_ways, and_parts, leb-true, ltb-false, not-false}
use Rattle.std.proofs.lemmas.Bool.{false_from_ne_true}
use Rattle.std.proofs.lemmas.List.Elements.{filter-append}
use Rattle.std.proofs.lemmas.List.Sums.{sum_by-cons, sum_by-append}
use Rattle.tb_units.proofs.ListLemmas.{AllPairs-head, AllPairs-tail}
use Rattle.tb_units.proofs.SumLemmas.{sum_by-filter-cons, sum_by_agree, sum_by_none}
use Rattle.tb_movements.proofs.SumLemmas.{sum_by_minus}
use Rattle.tb_units.specs.declared.moment.Moment.{Moment}
use Rattle.tb_message.specs.declared.message.Entry.{Entry}
use Rattle.tb_message.specs.declared.message.Message.{Message}
use Rattle.tb_message.specs.declared.message.Message.TheVariants as message
use Rattle.tb_message.specs.Spelling.{FitsFields}
use Rattle.tb_history.specs.declared.roster.Registration.{Registration}
use Rattle.tb_history.specs.declared.accounts.Offer.{Offer}
use Rattle.tb_history.specs.declared.accounts.Purchase.{Purchase}
use Rattle.tb_history.specs.declared.accounts.Cash.{Cash}
use Rattle.tb_history.specs.Entries.{is_same, operator, registered_by, deposited_by, withdrawn_by}
use Rattle.tb_history.specs.Roster.{registrations, is_registered, sent_by}
use Rattle.tb_history.specs.Offers.{offers, purchases, sales, offer_of, sale_of}
use Rattle.tb_history.specs.Funds.{deposits, withdrawals, cents_in, cents_for, prices_of, money_to, money_from}
use Rattle.tb_history.specs.Funds.{balance_of}
use Rattle.tb_history.specs.Tables.{buy_rows}
use Rattle.tb_history.specs.Verdict.{is_permitted}
use Rattle.tb_history.specs.Legal.{IsLegal, Follows}
use Rattle.tb_history.proofs.PartLemmas.{AllByRecursion-append, AllByRecursion-weaker}
use Rattle.tb_history.proofs.SameLemmas.{is_same-equal, is_same-refl}
use Rattle.tb_history.proofs.GrowthLemmas.{registrations-snoc, deposits-snoc, withdrawals-snoc, registered-append}
use Rattle.tb_history.proofs.AcceptedLemmas.{IsClear, Passes, accepted-passes}
use Rattle.tb_history.proofs.LegalLemmas.{by_entries, permitted-operators}
use Rattle.tb_history.proofs.LengthLemmas.{sum_by_plus, counts, sent_by-push, IsLegal-bounded}
use Rattle.tb_history.proofs.MovedLemmas.{newly_sold}
use Rattle.tb_history.proofs.ClosedLemmas.{found-in}
use Rattle.tb_history.proofs.EachLemmas.{IsLegal-each, deposits-grow, withdrawals-grow}
use Rattle.tb_history.proofs.OfferLemmas.{IsOffered, IsLegal-offered, IsBuyable, buy_rows-clear}
use Rattle.tb_history.proofs.OfferLemmas.{sales-sum}
use Rattle.tb_history.proofs.ConservedLemmas.{AreSubmitters, IsLegal-submitters}

-- the price of an offer
abbrev pub price : Offer → ℕ
price o = o.price.value

-- the offer is the participant's
abbrev pub is_sellers : List ℕ → Offer → Bool
is_sellers participant o = is_same o.seller participant

-- or is made to it
abbrev pub is_buyers : List ℕ → Offer → Bool
is_buyers participant o = is_same o.buyer participant

-- what a message brings the participant
abbrev pub newly_to : List Entry → Message → List ℕ → ℕ
newly_to history sent participant =
    cents_for (deposited_by sent) participant
    + prices_of (filter (is_sellers participant) (newly_sold history sent))

-- and what it takes from it
abbrev pub newly_from : List Entry → Message → List ℕ → ℕ
newly_from history sent participant =
    cents_for (withdrawn_by sent) participant + prices_of (filter (is_buyers participant) (newly_sold history sent))

-- deposits to a participant, or withdrawals from it, behind others
cents-append : (one other : List Cash) (participant : List ℕ)
    → cents_for (one ++ other) participant ≡ cents_for one participant + cents_for other participant
cents-append one other participant =
    let test : Cash → Bool = λ (c : Cash). is_same c.participant participant in
    ap cents_in (filter-append test one other)
    ∙ sum_by-append (λ (c : Cash). c.cents.value) (filter test one) (filter test other)

-- what came to a participant grows by what the next entry brings it
pub money_to-push : (history : List Entry) (entry : Entry) (participant : List ℕ)
    → IsLegal history
    → Follows history entry
    → money_to (history ++ entry ∷ []) participant
    ≡ money_to history participant + newly_to history entry.message participant
unfolding money_to
money_to-push history entry participant legal follows =
    omega (
      arith,
      ap (λ (cash : List Cash). cents_for cash participant) (deposits-snoc history entry),
      cents-append (deposits history) (deposited_by entry.message) participant,
      sales-sum price (is_sellers participant) history entry legal follows,
    )

-- and what went from it by what it takes
pub money_from-push : (history : List Entry) (entry : Entry) (participant : List ℕ)
    → IsLegal history
    → Follows history entry
    → money_from (history ++ entry ∷ []) participant
    ≡ money_from history participant + newly_from history entry.message participant
unfolding money_from
money_from-push history entry participant legal follows =
    omega (
      arith,
      ap (λ (cash : List Cash). cents_for cash participant) (withdrawals-snoc history entry),
      cents-append (withdrawals history) (withdrawn_by entry.message) participant,
      sales-sum price (is_buyers participant) history entry legal follows,
    )

-- so much more may go from the participant
abbrev pub MaySpend : List Entry → List ℕ → ℕ → Type 0
MaySpend history participant cents = cents + money_from history participant ≤ money_to history participant

-- nobody has spent more than came to it
abbrev pub IsFunded : List Entry → Type 0
IsFunded history = (participant : List ℕ) → money_from history participant ≤ money_to history participant

-- what is no more than a balance may go
of_balance : (history : List Entry) (one participant : List ℕ) (cents : ℕ)
    → IsFunded history
    → is_same one participant ≡ true
    → cents ≤ balance_of history one
    → MaySpend history participant cents
unfolding balance_of
of_balance history one participant cents funded same enough =
    let here : MaySpend history one cents = omega (arith, enough, funded one) in
    subst (λ (name : List ℕ). MaySpend history name cents) (is_same-equal one participant same) here

-- a part of an amount by a test
one_part : {X : Type 0} (f : X → ℕ) (b : Bool) (x : X) → sum_by f (cond b (x ∷ []) []) ≡ cond b (f x) 0
one_part f true x = omega arith
one_part f false x = refl

-- a purchase is paid by its buyer
bought-funded : (history : List Entry) (submitter : List ℕ) (moment : Moment) (found : Option Offer)
    (participant : List ℕ)
    → IsFunded history
    → AllByRecursion IsClear (buy_rows history found submitter moment)
    → MaySpend history participant (0 + prices_of (filter (is_buyers participant) (option_to_list found)))
bought-funded history submitter moment None participant funded clear = omega (arith, funded participant)
bought-funded history submitter moment (Some o) participant funded clear =
    let buyable : IsBuyable history submitter o = buy_rows-clear history submitter moment o clear in
    let enough : price o ≤ balance_of history o.buyer =
    subst (λ (name : List ℕ). price o ≤ balance_of history name) (sym (is_same-equal o.buyer submitter buyable.buyer))
    buyable.funded in
    let part = one_part price (is_buyers participant o) o in
    elim (cases_Bool (is_buyers participant o)) [
      | inl is ↦ rw is (omega (arith, of_balance history o.buyer participant (price o) funded is enough))
      | inr isnt ↦ rw isnt (omega (arith, funded participant))
    ]

-- no accepted message takes more than is there
newly-funded : (history : List Entry) (submitter : List ℕ) (number : ℕ) (moment : Moment) (sent : Message)
    (participant : List ℕ)
    → IsFunded history
    → Passes history submitter number moment sent
    → MaySpend history participant (newly_from history sent participant)
newly-funded history submitter number moment (message.Withdraw holder cents) participant funded passed =
    elim (cases_Bool (is_same holder participant)) [
      | inl is ↦
          let enough : cents.value ≤ balance_of history holder =
          ltb-false (balance_of history holder) cents.value passed.rows.1.0 in
          rw is (omega (arith, of_balance history holder participant cents.value funded is enough))
      | inr isnt ↦ rw isnt (omega (arith, funded participant))
    ]
newly-funded history submitter number moment (message.Buy seller offer) participant funded passed =
    bought-funded history submitter moment (offer_of (offers history) seller offer) participant funded passed.rows
newly-funded history submitter number moment other participant funded passed =
    omega (arith, funded participant)

-- so it stays with an accepted entry
funded-push : (history : List Entry) (entry : Entry)
    → IsLegal history
    → IsFunded history
    → Follows history entry
    → IsFunded (history ++ entry ∷ [])
funded-push history entry legal funded follows = λ participant.
    let passed = accepted-passes history entry.submitter entry.number entry.moment entry.message follows.accepted in
    omega (
      arith,
      money_to-push history entry participant legal follows,
      money_from-push history entry participant legal follows,
      newly-funded history entry.submitter entry.number entry.moment entry.message participant funded passed,
    )

-- no money has come or gone yet
funded-nil : IsFunded []
unfolding money_from withdrawals sales purchases
funded-nil = λ participant. omega arith

-- so it is in every legal history
pub IsLegal-funded : (history : List Entry) → IsLegal history → IsFunded history
IsLegal-funded history legal = by_entries IsFunded funded-nil funded-push history legal

-- ---- all balances

-- a name that is none of those counts for none
other-names : (registered : List Registration) (name : List ℕ) (n : ℕ)
    → All (λ (r : Registration). is_same r.submitter name ≡ false) registered
    → sum_by (λ (r : Registration). cond (is_same name r.submitter) n 0) registered ≡ 0
other-names [] name n apart = refl
other-names (r ∷ registered) name n apart =
    let f : Registration → ℕ = λ (x : Registration). cond (is_same name x.submitter) n 0 in
    let isnt : is_same name r.submitter ≡ false =
    false_from_ne_true _ (λ is. both_ways (is_same r.submitter name) (apart 0 r (omega arith))
    (subst (λ (x : List ℕ). is_same r.submitter x ≡ true) (sym (is_same-equal name r.submitter is))
    (is_same-refl r.submitter))) in
    let here : f r ≡ 0 = rw isnt refl in
    omega (
      arith,
      sum_by-cons f r registered,
      here,
      other-names registered name n (λ k d below. apart (suc k) d (omega (arith, below))),
    )

-- a registered name counts once
named-once : (registered : List Registration) (name : List ℕ) (n : ℕ)
    → AreSubmitters registered
    → is_registered registered name ≡ true
    → sum_by (λ (r : Registration). cond (is_same name r.submitter) n 0) registered ≡ n
named-once [] name n distinct known = cc
named-once (r ∷ registered) name n distinct known =
    let f : Registration → ℕ = λ (x : Registration). cond (is_same name x.submitter) n 0 in
    let R : Registration → Registration → Type 0 =
    λ (one other : Registration). is_same other.submitter one.submitter ≡ false in
    elim (cases_Bool (is_same r.submitter name)) [
      | inl is ↦
          let same : r.submitter ≡ name = is_same-equal r.submitter name is in
          let apart : All (λ (x : Registration). is_same x.submitter name ≡ false) registered =
          subst (λ (s : List ℕ). All (λ (x : Registration). is_same x.submitter s ≡ false) registered) same
          (AllPairs-head R r registered distinct) in
          let itself : is_same name r.submitter ≡ true =
          subst (λ (s : List ℕ). is_same name s ≡ true) (sym same) (is_same-refl name) in
          let here : f r ≡ n = rw itself refl in
          omega (arith, sum_by-cons f r registered, here, other-names registered name n apart)
      | inr isnt ↦
          let apart : is_same name r.submitter ≡ false =
          false_from_ne_true _ (λ is. both_ways (is_same r.submitter name) isnt
          (subst (λ (x : List ℕ). is_same r.submitter x ≡ true) (sym (is_same-equal name r.submitter is))
          (is_same-refl r.submitter))) in
          let here : f r ≡ 0 = rw apart refl in
          omega (
            arith,
            sum_by-cons f r registered,
            here,
            named-once registered name n (AllPairs-tail R r registered distinct) (rw isnt at known),
          )
    ]

-- the parts of all participants are the whole
all_parts : {X : Type 0} (f : X → ℕ) (whose : X → List ℕ) (registered : List Registration) (xs : List X)
    → AreSubmitters registered
    → AllByRecursion (λ x. is_registered registered (whose x) ≡ true) xs
    → sum_by (λ (r : Registration). sum_by f (filter (λ x. is_same (whose x) r.submitter) xs)) registered ≡ sum_by f xs
all_parts f whose registered [] distinct known = sum_by_none registered
all_parts {X} f whose registered (x ∷ xs) distinct known =
    let first : Registration → ℕ = λ (r : Registration). cond (is_same (whose x) r.submitter) (f x) 0 in
    let rest : Registration → ℕ =
    λ (r : Registration). sum_by f (filter (λ y. is_same (whose y) r.submitter) xs) in
    let both : Registration → ℕ =
    λ (r : Registration). sum_by f (filter (λ y. is_same (whose y) r.submitter) (x ∷ xs)) in
    let split : sum_by both registered ≡ sum_by (λ r. first r + rest r) registered =
    sum_by_agree both (λ r. first r + rest r) registered
    (λ r. sum_by-filter-cons f (λ y. is_same (whose y) r.submitter) x xs) in
    omega (
      arith,
      split,
      sum_by_plus first rest registered,
      named-once registered (whose x) (f x) distinct known.0,
      all_parts f whose registered xs distinct known.1,
      sum_by-cons f x xs,
    )

-- a participant that is named is registered
abbrev pub IsParticipant : List Entry → Cash → Type 0
IsParticipant history c = is_registered (registrations history) c.participant ≡ true

-- which stays
participant-stays : (history : List Entry) (entry : Entry) (c : Cash)
    → IsParticipant history c
    → IsParticipant (history ++ entry ∷ []) c
participant-stays history entry c known =
    rw (registrations-snoc history entry)
    (registered-append (registrations history) (registered_by entry.message) c.participant known)

-- deposits are to participants
deposited-message : (history : List Entry) (submitter : List ℕ) (number : ℕ) (moment : Moment) (sent : Message)
    → Passes history submitter number moment sent
    → AllByRecursion (IsParticipant history) (deposited_by sent)
deposited-message history submitter number moment (message.Deposit participant cents) passed =
    (not-false (is_registered (registrations history) participant) passed.rows.0, tt)
deposited-message history submitter number moment other passed = tt

-- and withdrawals from participants
withdrawn-message : (history : List Entry) (submitter : List ℕ) (number : ℕ) (moment : Moment) (sent : Message)
    → Passes history submitter number moment sent
    → AllByRecursion (IsParticipant history) (withdrawn_by sent)
withdrawn-message history submitter number moment (message.Withdraw participant cents) passed =
    (not-false (is_registered (registrations history) participant) passed.rows.0, tt)
withdrawn-message history submitter number moment other passed = tt

-- so it is in every legal history
IsLegal-deposited : (history : List Entry)
    → IsLegal history
    → AllByRecursion (IsParticipant history) (deposits history)
IsLegal-deposited =
    IsLegal-each IsParticipant deposits (λ (entry : Entry). deposited_by entry.message) deposits-grow
    (record {
      begins = λ history entry legal follows passed. deposited-message history entry.submitter entry.number entry.moment
          entry.message passed;
      stays = participant-stays;
    })

-- of withdrawals too
IsLegal-withdrawn : (history : List Entry)
    → IsLegal history
    → AllByRecursion (IsParticipant history) (withdrawals history)
IsLegal-withdrawn =
    IsLegal-each IsParticipant withdrawals (λ (entry : Entry). withdrawn_by entry.message) withdrawals-grow
    (record {
      begins = λ history entry legal follows passed. withdrawn-message history entry.submitter entry.number entry.moment
          entry.message passed;
      stays = participant-stays;
    })

-- what is sold is among the offers
sold-among : (Holds : Offer → Type 0) (offered : List Offer) (purchased : List Purchase)
    → AllByRecursion Holds offered
    → AllByRecursion Holds (flat_map (sale_of offered) purchased)
sold-among Holds offered [] all = tt
sold-among Holds offered (p ∷ purchased) all =
    AllByRecursion-append Holds (sale_of offered p) (flat_map (sale_of offered) purchased)
    (here (offer_of offered p.seller p.offer) refl)
    (sold-among Holds offered purchased all)
  where
    -- the one that is found
    here : (found : Option Offer)
        → offer_of offered p.seller p.offer ≡ found
        → AllByRecursion Holds (option_to_list found)
    here None is = tt
    here (Some o) is = (found-in Holds _ offered o all is, tt)

-- so its parties are registered
sold-offered : (history : List Entry) → IsLegal history → AllByRecursion (IsOffered history) (sales history)
unfolding sales
sold-offered history legal =
    sold-among (IsOffered history) (offers history) (purchases history) (IsLegal-offered history legal)

-- what came to all participants
all_to : (history : List Entry)
    → IsLegal history
    → sum_by (λ (r : Registration). money_to history r.submitter) (registrations history)
    ≡ cents_in (deposits history) + prices_of (sales history)
unfolding money_to
all_to history legal =
    let distinct = IsLegal-submitters history legal in
    sum_by_plus (λ (r : Registration). cents_for (deposits history) r.submitter)
    (λ (r : Registration). prices_of (filter (is_sellers r.submitter) (sales history))) (registrations history)
    ∙ omega (
      arith,
      all_parts (λ (c : Cash). c.cents.value) (λ (c : Cash). c.participant) (registrations history) (deposits history)
          distinct (IsLegal-deposited history legal),
      all_parts price (λ (o : Offer). o.seller) (registrations history) (sales history) distinct
          (AllByRecursion-weaker _ _ (λ o is. is.seller) (sales history) (sold-offered history legal)),
    )

-- and what went from them
all_from : (history : List Entry)
    → IsLegal history
    → sum_by (λ (r : Registration). money_from history r.submitter) (registrations history)
    ≡ cents_in (withdrawals history) + prices_of (sales history)
unfolding money_from
all_from history legal =
    let distinct = IsLegal-submitters history legal in
    sum_by_plus (λ (r : Registration). cents_for (withdrawals history) r.submitter)
    (λ (r : Registration). prices_of (filter (is_buyers r.submitter) (sales history))) (registrations history)
    ∙ omega (
      arith,
      all_parts (λ (c : Cash). c.cents.value) (λ (c : Cash). c.participant) (registrations history)
          (withdrawals history) distinct (IsLegal-withdrawn history legal),
      all_parts price (λ (o : Offer). o.buyer) (registrations history) (sales history) distinct
          (AllByRecursion-weaker _ _ (λ o is. is.buyer) (sales history) (sold-offered history legal)),
    )

-- what all participants have is what was deposited and not withdrawn
pub balances-sum : (history : List Entry)
    → IsLegal history
    → sum_by (λ (r : Registration). balance_of history r.submitter) (registrations history)
    + cents_in (withdrawals history)
    ≡ cents_in (deposits history)
unfolding balance_of
balances-sum history legal =
    omega (
      arith,
      sum_by_minus (λ (r : Registration). money_to history r.submitter)
          (λ (r : Registration). money_from history r.submitter)
          (λ (r : Registration). IsLegal-funded history legal r.submitter) (registrations history),
      all_to history legal,
      all_from history legal,
    )

-- nothing is of one who isn't registered
stranger-none : {X : Type 0} (f : X → ℕ) (whose : X → List ℕ) (registered : List Registration) (xs : List X)
    (stranger : List ℕ)
    → is_registered registered stranger ≡ false
    → AllByRecursion (λ x. is_registered registered (whose x) ≡ true) xs
    → sum_by f (filter (λ x. is_same (whose x) stranger) xs) ≡ 0
stranger-none f whose registered [] stranger unknown known = refl
stranger-none {X} f whose registered (x ∷ xs) stranger unknown known =
    let test : X → Bool = λ y. is_same (whose y) stranger in
    let isnt : test x ≡ false =
    false_from_ne_true _ (λ is. both_ways (is_registered registered stranger) unknown
    (subst (λ (name : List ℕ). is_registered registered name ≡ true) (is_same-equal (whose x) stranger is) known.0)) in
    omega (
      arith,
      sum_by-filter-cons f test x xs,
      cond-false {A = ℕ} (test x) (f x) 0 isnt,
      stranger-none f whose registered xs stranger unknown known.1,
    )

-- so it has no money
pub stranger-balance : (history : List Entry) (stranger : List ℕ)
    → IsLegal history
    → is_registered (registrations history) stranger ≡ false
    → balance_of history stranger ≡ 0
unfolding balance_of money_to
stranger-balance history stranger legal unknown =
    omega (
      arith,
      stranger-none (λ (c : Cash). c.cents.value) (λ (c : Cash). c.participant) (registrations history)
          (deposits history) stranger unknown (IsLegal-deposited history legal),
      stranger-none price (λ (o : Offer). o.seller) (registrations history) (sales history) stranger unknown
          (AllByRecursion-weaker _ _ (λ o is. is.seller) (sales history) (sold-offered history legal)),
    )

-- ---- how much there is

-- a deposit is the operator's, and no more than is deposited at once
deposited-most : (entry : Entry) (sent : Message)
    → FitsFields sent
    → is_permitted entry.submitter sent ≡ true
    → cents_in (deposited_by sent) ≤ 10 ^ 14 * counts entry operator
unfolding counts
deposited-most entry (message.Deposit participant cents) fits permitted =
    let theirs : is_same entry.submitter operator ≡ true =
    permitted-operators entry.submitter (message.Deposit participant cents) permitted refl in
    let range = (and_parts (nat_le 1 cents.value) (nat_le cents.value (10 ^ 14)) fits.1.0).1 in
    rw theirs (omega (arith, leb-true cents.value (10 ^ 14) range))
deposited-most entry other fits permitted = omega arith

-- so deposits come to no more than that for each message of the operator
abbrev IsDeposited : List Entry → Type 0
IsDeposited h = cents_in (deposits h) ≤ 10 ^ 14 * sent_by h operator

-- there are none yet
IsDeposited-nil : IsDeposited []
unfolding deposits
IsDeposited-nil = omega arith

-- and with an accepted entry
IsDeposited-push : (history : List Entry) (entry : Entry)
    → IsLegal history
    → IsDeposited history
    → Follows history entry
    → IsDeposited (history ++ entry ∷ [])
IsDeposited-push history entry legal few follows =
    let passed = accepted-passes history entry.submitter entry.number entry.moment entry.message follows.accepted in
    rw (deposits-snoc history entry)
    (omega (
      arith,
      sum_by-append (λ (c : Cash). c.cents.value) (deposits history) (deposited_by entry.message),
      sent_by-push history entry operator,
      few,
      deposited-most entry entry.message follows.in_range.body passed.permitted,
    ))

-- and so to at most 10^22
pub deposits-most : (history : List Entry) → IsLegal history → cents_in (deposits history) ≤ 10 ^ 22
deposits-most history legal =
    omega (
      arith,
      by_entries IsDeposited IsDeposited-nil IsDeposited-push history legal,
      (IsLegal-bounded history legal).quota operator,
    )
