-- Which offers are open, with one more entry: what a book of offers has to follow.
use Rattle.std.proofs.Common.{◌≡◌, ℕ, suc, ◌+◌, ◌==◌, ◌&&◌, ◌||◌, Bool, true, false, not, cond, Option, Some, None}
use Rattle.std.proofs.Common.{is_some, inl, inr, List, [], ◌∷◌, ◌++◌, get_or, All, AllPairs, refl, sym, ap, ◌∙◌}
use Rattle.std.proofs.Common.{arith, append-nil, eqb-true}
use Rattle.std.specs.List.{AllByRecursion, count_by, list_any}
use Rattle.std.proofs.lemmas.Bool.{cases_Bool, and_parts}
use Rattle.std.proofs.lemmas.Bool.Decides.{nat_tests}
use Rattle.std.proofs.lemmas.List.Folds.{list_any-append}
use Rattle.std.proofs.lemmas.List.Quantifiers.{all_pairs_push}
use Rattle.std.proofs.lemmas.List.Sums.{length-filter, sum_by-cons, sum_by-append}
use Rattle.tb_units.proofs.ListLemmas.{AllPairs-head, AllPairs-nil, AllPairs-tail}
use Rattle.tb_units.proofs.PlaceLemmas.{find_none, find_passes}
use Rattle.tb_terms.specs.declared.cusip.Cusip.{Cusip}
use Rattle.tb_units.specs.declared.amount.Dollars.{Dollars}
use Rattle.tb_units.specs.declared.cents.Cents.{Cents}
use Rattle.tb_units.specs.declared.moment.Moment.{Moment}
use Rattle.tb_message.specs.declared.message.Entry.{Entry}
use Rattle.tb_message.specs.declared.message.Message.{Message}
use Rattle.tb_message.specs.declared.message.Message.TheVariants as message
use Rattle.tb_history.specs.declared.accounts.Offer.{Offer}
use Rattle.tb_history.specs.declared.accounts.Purchase.{Purchase}
use Rattle.tb_history.specs.declared.accounts.Retraction.{Retraction}
use Rattle.tb_history.specs.Entries.{is_same, offered_by, purchased_by, retracted_by}
use Rattle.tb_history.specs.Roster.{kept}
use Rattle.tb_history.specs.Offers.{offers, purchases, retractions, offer_of, is_bought, is_retracted, is_closed}
use Rattle.tb_history.specs.Offers.{open_offers}
use Rattle.tb_history.specs.Tables.{rows_of, retract_rows}
use Rattle.tb_history.specs.Legal.{IsLegal, Follows}
use Rattle.tb_history.specs.Trades.{given}
use Rattle.tb_history.proofs.PartLemmas.{AllByRecursion-append, AllByRecursion-weaker}
use Rattle.tb_history.proofs.SameLemmas.{is_same-equal}
use Rattle.tb_history.proofs.GrowthLemmas.{offers-snoc, purchases-snoc, retractions-snoc, is_some-append}
use Rattle.tb_history.proofs.AcceptedLemmas.{IsClear, accepted-passes}
use Rattle.tb_history.proofs.LegalLemmas.{by_entries}
use Rattle.tb_history.proofs.HistoryLemmas.{kept-push}
use Rattle.tb_history.proofs.ClosedLemmas.{found-in}
use Rattle.tb_history.proofs.StableLemmas.{or_false}
use Rattle.tb_history.proofs.CreditedLemmas.{flipped}
use Rattle.tb_history.proofs.EachLemmas.{IsLegal-each, retractions-grow}
use Rattle.tb_history.proofs.OfferLemmas.{IsLegal-purchased}

-- the offer is the seller's, under this number
abbrev pub is_offer : List ℕ → ℕ → Offer → Bool
is_offer seller number o = is_same o.seller seller && (o.number == number)

-- numbers are compared either way
eqb_flipped : (one other : ℕ) → (one == other) ≡ (other == one)
eqb_flipped one other = grind (arith, nat_tests)

-- and so are sellers with their numbers
pub either_way : (seller : List ℕ) (number : ℕ) (o : Offer)
    → (is_same seller o.seller && (number == o.number)) ≡ is_offer seller number o
either_way seller number o =
    ap (λ (b : Bool). b && (number == o.number)) (flipped seller o.seller)
    ∙ ap (λ (b : Bool). is_same o.seller seller && b) (eqb_flipped number o.number)

-- ---- no two offers are of one seller and number

-- the sell of an offer stands under its number
abbrev pub IsKept : List Entry → Offer → Type 0
IsKept history o = is_some (kept history o.seller o.number) ≡ true

-- and stays
kept-stays : (history : List Entry) (entry : Entry) (o : Offer) → IsKept history o → IsKept (history ++ entry ∷ []) o
unfolding kept
kept-stays history entry o is =
    is_some-append (λ (e : Entry). is_same e.submitter o.seller && (e.number == o.number)) history (entry ∷ []) is

-- so does that of a new one
kept-offered : (history : List Entry) (entry : Entry) (sent : Message)
    → kept history entry.submitter entry.number ≡ None
    → AllByRecursion (IsKept (history ++ entry ∷ [])) (offered_by entry.submitter entry.number sent)
kept-offered history entry (message.Sell cusip to amount price) unused =
    (ap is_some (kept-push history [] entry unused), tt)
kept-offered history entry other unused = tt

-- with an accepted entry
offers_kept-push : (history : List Entry) (entry : Entry)
    → IsLegal history
    → AllByRecursion (IsKept history) (offers history)
    → Follows history entry
    → AllByRecursion (IsKept (history ++ entry ∷ [])) (offers (history ++ entry ∷ []))
offers_kept-push history entry legal so_far follows =
    let passed = accepted-passes history entry.submitter entry.number entry.moment entry.message follows.accepted in
    rw (offers-snoc history entry)
    (AllByRecursion-append (IsKept (history ++ entry ∷ [])) (offers history)
    (offered_by entry.submitter entry.number entry.message)
    (AllByRecursion-weaker (IsKept history) (IsKept (history ++ entry ∷ [])) (kept-stays history entry) (offers history)
    so_far)
    (kept-offered history entry entry.message passed.unused))

-- nothing is offered yet
offers_kept-nil : AllByRecursion (IsKept []) (offers [])
unfolding offers
offers_kept-nil = tt

-- so the sell of each offer stands under its number
pub IsLegal-kept : (history : List Entry) → IsLegal history → AllByRecursion (IsKept history) (offers history)
IsLegal-kept history legal =
    by_entries (λ history. AllByRecursion (IsKept history) (offers history)) offers_kept-nil offers_kept-push history
    legal

-- and under an unused number there is no offer
pub new-offer : (history : List Entry) (seller : List ℕ) (number : ℕ)
    → IsLegal history
    → kept history seller number ≡ None
    → offer_of (offers history) seller number ≡ None
new-offer history seller number legal unused = by_found (offer_of (offers history) seller number) refl
  where
    -- one that is found has its sell
    by_found : (found : Option Offer)
        → offer_of (offers history) seller number ≡ found
        → offer_of (offers history) seller number ≡ None
    by_found None is = is
    by_found (Some o) is =
        let key = and_parts (is_same o.seller seller) (o.number == number)
        (find_passes (is_offer seller number) (offers history) o is) in
        let known : is_some (kept history o.seller o.number) ≡ true =
        found-in (IsKept history) (is_offer seller number) (offers history) o (IsLegal-kept history legal) is in
        let same : kept history o.seller o.number ≡ kept history seller number =
        ap (λ (name : List ℕ). kept history name o.number) (is_same-equal o.seller seller key.0)
        ∙ ap (kept history seller) (eqb-true o.number number key.1) in
        let wrong : true ≡ false = sym known ∙ ap is_some (same ∙ unused) in
        absurd (cc)

-- no two offers are of one seller and number
abbrev pub AreOnce : List Offer → Type 0
AreOnce offered = AllPairs (λ (one later : Offer). is_offer one.seller one.number later ≡ false) offered

-- nor is what a message under a new number offers
once-message : (offered : List Offer) (submitter : List ℕ) (number : ℕ) (sent : Message)
    → AreOnce offered
    → offer_of offered submitter number ≡ None
    → AreOnce (offered ++ offered_by submitter number sent)
once-message offered submitter number (message.Sell cusip to amount price) once none =
    let next : Offer =
    record { seller = submitter; number = number; buyer = to; cusip = cusip; amount = amount; price = price } in
    all_pairs_push (λ (one later : Offer). is_offer one.seller one.number later ≡ false) offered next once
    (λ k d within. either_way submitter number (get_or offered k d)
    ∙ find_none (is_offer submitter number) offered none k d within)
once-message offered submitter number other once none = rw (append-nil offered) once

-- with an accepted entry
once-push : (history : List Entry) (entry : Entry)
    → IsLegal history
    → AreOnce (offers history)
    → Follows history entry
    → AreOnce (offers (history ++ entry ∷ []))
once-push history entry legal once follows =
    let passed = accepted-passes history entry.submitter entry.number entry.moment entry.message follows.accepted in
    rw (offers-snoc history entry)
    (once-message (offers history) entry.submitter entry.number entry.message once
    (new-offer history entry.submitter entry.number legal passed.unused))

-- nothing is offered yet
once-nil : AreOnce (offers [])
unfolding offers
once-nil = AllPairs-nil (λ (one later : Offer). is_offer one.seller one.number later ≡ false)

-- so it is in every legal history
pub IsLegal-once : (history : List Entry) → IsLegal history → AreOnce (offers history)
IsLegal-once history legal = by_entries (λ history. AreOnce (offers history)) once-nil once-push history legal

-- the offer of a new sell is found, and each other as before
pub offer_of-push : (offered : List Offer) (next : Offer) (seller : List ℕ) (number : ℕ)
    → offer_of offered next.seller next.number ≡ None
    → offer_of (offered ++ next ∷ []) seller number
    ≡ cond (is_same next.seller seller && (next.number == number)) (Some next) (offer_of offered seller number)
offer_of-push [] next seller number none = refl
offer_of-push (x ∷ offered) next seller number none =
    elim (cases_Bool (is_offer seller number x)) [
      | inl is ↦
          let apart : is_offer seller number next ≡ false = others x seller number is (find_none
          (is_offer next.seller next.number) (x ∷ offered) none 0 x (omega arith)) in
          rw (is, apart) refl
      | inr isnt ↦
          let head : is_offer next.seller next.number x ≡ false =
          find_none (is_offer next.seller next.number) (x ∷ offered) none 0 x (omega arith) in
          rw isnt (offer_of-push offered next seller number (rw head at none))
    ]
  where
    -- of what one offer is, another isn't
    others : (one : Offer) (of : List ℕ) (under : ℕ)
        → is_offer of under one ≡ true
        → is_offer next.seller next.number one ≡ false
        → is_offer of under next ≡ false
    others one of under is isnt =
        let key = and_parts (is_same one.seller of) (one.number == under) is in
        sym (ap (λ (name : List ℕ). is_same next.seller name && (next.number == under))
        (is_same-equal one.seller of key.0))
        ∙ (sym (ap (λ (n : ℕ). is_same next.seller one.seller && (next.number == n))
        (eqb-true one.number under key.1))
        ∙ (either_way next.seller next.number one ∙ isnt))

-- ---- offers that are closed

-- an accepted retraction is of an offer
retracted-message : (history : List Entry) (submitter : List ℕ) (moment : Moment) (sent : Message)
    → AllByRecursion IsClear (rows_of history submitter moment sent)
    → AllByRecursion (λ (r : Retraction). is_some (offer_of (offers history) r.seller r.offer) ≡ true)
    (retracted_by submitter sent)
retracted-message history submitter moment (message.Retract offer) clear =
    (there (offer_of (offers history) submitter offer) (is_closed history submitter offer) clear, tt)
  where
    -- without an offer there is no retraction
    there : (found : Option Offer) (closed : Bool)
        → AllByRecursion IsClear (retract_rows found closed)
        → is_some found ≡ true
    there None closed all = absurd (let wrong : true ≡ false = all.0 in cc)
    there (Some o) closed all = refl
retracted-message history submitter moment other clear = tt

-- so each retraction of a legal history is of an offer
pub IsLegal-retracted : (history : List Entry)
    → IsLegal history
    → AllByRecursion (λ (r : Retraction). is_some (offer_of (offers history) r.seller r.offer) ≡ true)
    (retractions history)
IsLegal-retracted =
    IsLegal-each (λ history (r : Retraction). is_some (offer_of (offers history) r.seller r.offer) ≡ true) retractions
    (λ (entry : Entry). retracted_by entry.submitter entry.message) retractions-grow
    (record {
      begins = λ history entry legal follows passed. retracted-message history entry.submitter entry.moment
          entry.message passed.rows;
      stays = λ history entry r has. rw (offers-snoc history entry)
          (is_some-append (is_offer r.seller r.offer) (offers history)
          (offered_by entry.submitter entry.number entry.message) has);
    })

-- what has its offer is none of one that isn't there
none_of : {X : Type 0} (seller_of : X → List ℕ) (number_of : X → ℕ) (offered : List Offer) (xs : List X)
    (seller : List ℕ) (number : ℕ)
    → AllByRecursion (λ x. is_some (offer_of offered (seller_of x) (number_of x)) ≡ true) xs
    → offer_of offered seller number ≡ None
    → list_any (λ x. is_same (seller_of x) seller && (number_of x == number)) xs ≡ false
none_of seller_of number_of offered [] seller number all none = refl
none_of {X} seller_of number_of offered (x ∷ xs) seller number all none =
    elim (cases_Bool (is_same (seller_of x) seller && (number_of x == number))) [
      | inl is ↦
          let key = and_parts (is_same (seller_of x) seller) (number_of x == number) is in
          let same : offer_of offered (seller_of x) (number_of x) ≡ offer_of offered seller number =
          ap (λ (name : List ℕ). offer_of offered name (number_of x)) (is_same-equal (seller_of x) seller key.0)
          ∙ ap (offer_of offered seller) (eqb-true (number_of x) number key.1) in
          let wrong : true ≡ false = sym all.0 ∙ ap is_some (same ∙ none) in
          absurd (cc)
      | inr isnt ↦ rw isnt (none_of seller_of number_of offered xs seller number all.1 none)
    ]

-- so an offer that isn't there isn't closed
pub none-closed : (history : List Entry) (seller : List ℕ) (number : ℕ)
    → IsLegal history
    → offer_of (offers history) seller number ≡ None
    → is_closed history seller number ≡ false
none-closed history seller number legal none =
    let bought : is_bought (purchases history) seller number ≡ false =
    none_of (λ (p : Purchase). p.seller) (λ (p : Purchase). p.offer) (offers history) (purchases history) seller number
    (IsLegal-purchased history legal) none in
    let retracted : is_retracted (retractions history) seller number ≡ false =
    none_of (λ (r : Retraction). r.seller) (λ (r : Retraction). r.offer) (offers history) (retractions history) seller
    number (IsLegal-retracted history legal) none in
    rw (bought, retracted) refl

-- what is bought grows by what the next message buys
pub is_bought-push : (history : List Entry) (entry : Entry) (seller : List ℕ) (number : ℕ)
    → is_bought (purchases (history ++ entry ∷ [])) seller number
    ≡ (is_bought (purchases history) seller number
    || is_bought (purchased_by entry.submitter entry.message) seller number)
is_bought-push history entry seller number =
    ap (λ (ps : List Purchase). is_bought ps seller number) (purchases-snoc history entry)
    ∙ list_any-append (λ (p : Purchase). is_same p.seller seller && (p.offer == number)) (purchases history)
    (purchased_by entry.submitter entry.message)

-- and so does what is retracted
pub is_retracted-push : (history : List Entry) (entry : Entry) (seller : List ℕ) (number : ℕ)
    → is_retracted (retractions (history ++ entry ∷ [])) seller number
    ≡ (is_retracted (retractions history) seller number
    || is_retracted (retracted_by entry.submitter entry.message) seller number)
is_retracted-push history entry seller number =
    ap (λ (rs : List Retraction). is_retracted rs seller number) (retractions-snoc history entry)
    ∙ list_any-append (λ (r : Retraction). is_same r.seller seller && (r.offer == number)) (retractions history)
    (retracted_by entry.submitter entry.message)

-- what a message of the sender closes
abbrev pub newly_closed : List ℕ → Message → List ℕ → ℕ → Bool
newly_closed sender (message.Buy of offer) seller number = is_same of seller && (offer == number)
newly_closed sender (message.Retract offer) seller number = is_same sender seller && (offer == number)
newly_closed sender other seller number = false

-- what is closed grows by that
pub is_closed-push : (history : List Entry) (entry : Entry) (seller : List ℕ) (number : ℕ)
    → is_closed (history ++ entry ∷ []) seller number
    ≡ (is_closed history seller number || newly_closed entry.submitter entry.message seller number)
is_closed-push history entry seller number =
    ap (λ (b : Bool). b || is_retracted (retractions (history ++ entry ∷ [])) seller number)
    (is_bought-push history entry seller number)
    ∙ (ap (λ (b : Bool). (is_bought (purchases history) seller number
    || is_bought (purchased_by entry.submitter entry.message) seller number) || b)
    (is_retracted-push history entry seller number)
    ∙ (in_pairs (is_bought (purchases history) seller number)
    (is_bought (purchased_by entry.submitter entry.message) seller number)
    (is_retracted (retractions history) seller number)
    (is_retracted (retracted_by entry.submitter entry.message) seller number)
    ∙ ap (λ (b : Bool). is_closed history seller number || b) (newly entry.submitter entry.message)))
  where
    -- four tests by twos
    in_pairs : (a b c d : Bool) → ((a || b) || (c || d)) ≡ ((a || c) || (b || d))
    in_pairs true b c d = refl
    in_pairs false true true d = refl
    in_pairs false true false d = refl
    in_pairs false false c d = refl

    -- a message buys or retracts, if either
    newly : (sender : List ℕ) (sent : Message)
        → (is_bought (purchased_by sender sent) seller number || is_retracted (retracted_by sender sent) seller number)
        ≡ newly_closed sender sent seller number
    newly sender (message.Buy of offer) = or_false _ ∙ or_false _
    newly sender (message.Retract offer) = or_false _
    newly sender other = refl

-- ---- how many are open

-- the seller's offers that a test doesn't close
abbrev pub counted : (Offer → Bool) → List ℕ → List Offer → ℕ
counted closed seller offered = count_by (λ (o : Offer). is_same o.seller seller && not (closed o)) offered

-- the offers that are closed in a history
abbrev pub closed_in : List Entry → Offer → Bool
closed_in history o = is_closed history o.seller o.number

-- those that are open are counted so
pub open_offers-counted : (history : List Entry) (seller : List ℕ)
    → open_offers history seller ≡ counted (closed_in history) seller (offers history)
unfolding open_offers
open_offers-counted history seller =
    length-filter (λ (o : Offer). is_same o.seller seller && not (closed_in history o)) (offers history)

-- an offer's part of the count, by whether it is the seller's, and whether it is closed
abbrev part_by : Bool → Bool → ℕ
part_by own closed = cond (own && not closed) 1 0

-- in the tests of offers
abbrev part_of : (Offer → Bool) → List ℕ → Offer → ℕ
part_of closed seller o = part_by (is_same o.seller seller) (closed o)

-- tests that agree count alike
counted-same : (closed now : Offer → Bool) (seller : List ℕ) (offered : List Offer)
    → All (λ (o : Offer). now o ≡ closed o) offered
    → counted now seller offered ≡ counted closed seller offered
counted-same closed now seller [] same = refl
counted-same closed now seller (x ∷ offered) same =
    omega (
      arith,
      sum_by-cons (part_of now seller) x offered,
      sum_by-cons (part_of closed seller) x offered,
      ap (part_by (is_same x.seller seller)) (same 0 x (omega arith)),
      counted-same closed now seller offered (λ k d short. same (suc k) d (omega (arith, short))),
    )

-- where one offer more is closed, its seller has one less
pub counted-closed : (closer : List ℕ) (number : ℕ) (closed now : Offer → Bool) (seller : List ℕ) (offered : List Offer)
    (o : Offer)
    → AreOnce offered
    → ((x : Offer) → now x ≡ (closed x || is_offer closer number x))
    → offer_of offered closer number ≡ Some o
    → closed o ≡ false
    → counted now seller offered + given (is_same closer seller) 1 ≡ counted closed seller offered
counted-closed closer number closed now seller [] o once tells found unclosed = absurd (cc)
counted-closed closer number closed now seller (x ∷ offered) o once tells found unclosed =
    let R : Offer → Offer → Type 0 = λ (one later : Offer). is_offer one.seller one.number later ≡ false in
    elim (cases_Bool (is_offer closer number x)) [
      | inl is ↦
          let first : Some x ≡ Some o = rw is at found in
          let same : x ≡ o = cc in
          let key = and_parts (is_same x.seller closer) (x.number == number) is in
          let rest : counted now seller offered ≡ counted closed seller offered =
          counted-same closed now seller offered (λ k d short.
          let later = get_or offered k d in
          let apart : is_offer closer number later ≡ false =
          sym (ap (λ (name : List ℕ). is_same later.seller name && (later.number == number))
          (is_same-equal x.seller closer key.0))
          ∙ (sym (ap (λ (n : ℕ). is_same later.seller x.seller && (later.number == n)) (eqb-true x.number number key.1))
          ∙ AllPairs-head R x offered once k d short) in
          tells later ∙ (ap (λ (b : Bool). closed later || b) apart ∙ or_false (closed later))) in
          let was : closed x ≡ false = ap closed same ∙ unclosed in
          let closes : now x ≡ true =
          tells x ∙ (ap (λ (b : Bool). b || is_offer closer number x) was ∙ is) in
          let after : part_of now seller x ≡ 0 =
          ap (part_by (is_same x.seller seller)) closes ∙ none_counted (is_same x.seller seller) in
          let before : part_of closed seller x ≡ given (is_same closer seller) 1 =
          ap (part_by (is_same x.seller seller)) was
          ∙ (one_counted (is_same x.seller seller)
          ∙ ap (λ (name : List ℕ). given (is_same name seller) 1) (is_same-equal x.seller closer key.0)) in
          omega (
            arith,
            sum_by-cons (part_of now seller) x offered,
            sum_by-cons (part_of closed seller) x offered,
            rest,
            after,
            before,
          )
      | inr isnt ↦
          let later : offer_of offered closer number ≡ Some o = rw isnt at found in
          let here : part_of now seller x ≡ part_of closed seller x =
          ap (part_by (is_same x.seller seller))
          (tells x ∙ (ap (λ (b : Bool). closed x || b) isnt ∙ or_false (closed x))) in
          omega (
            arith,
            sum_by-cons (part_of now seller) x offered,
            sum_by-cons (part_of closed seller) x offered,
            here,
            counted-closed closer number closed now seller offered o (AllPairs-tail R x offered once) tells later
                unclosed,
          )
    ]
  where
    -- what is closed doesn't count
    none_counted : (b : Bool) → part_by b true ≡ 0
    none_counted true = refl
    none_counted false = refl

    -- and what isn't counts once
    one_counted : (b : Bool) → part_by b false ≡ given b 1
    one_counted true = refl
    one_counted false = refl

-- with an entry that closes no offer, as many of those before are open
counted-still : (history : List Entry) (entry : Entry) (seller : List ℕ)
    → ((of : List ℕ) (number : ℕ) → newly_closed entry.submitter entry.message of number ≡ false)
    → counted (closed_in (history ++ entry ∷ [])) seller (offers history)
    ≡ counted (closed_in history) seller (offers history)
counted-still history entry seller none =
    counted-same (closed_in history) (closed_in (history ++ entry ∷ [])) seller (offers history)
    (λ k d short.
    let o = get_or (offers history) k d in
    is_closed-push history entry o.seller o.number
    ∙ (ap (λ (b : Bool). is_closed history o.seller o.number || b) (none o.seller o.number) ∙ or_false _))

-- an entry that offers nothing and closes nothing leaves how many are open
pub open_offers-still : (history : List Entry) (entry : Entry) (seller : List ℕ)
    → offered_by entry.submitter entry.number entry.message ≡ []
    → ((of : List ℕ) (number : ℕ) → newly_closed entry.submitter entry.message of number ≡ false)
    → open_offers (history ++ entry ∷ []) seller ≡ open_offers history seller
open_offers-still history entry seller nothing none =
    let same : offers (history ++ entry ∷ []) ≡ offers history =
    offers-snoc history entry ∙ (ap (λ (xs : List Offer). offers history ++ xs) nothing
    ∙ append-nil (offers history)) in
    open_offers-counted (history ++ entry ∷ []) seller
    ∙ (ap (counted (closed_in (history ++ entry ∷ [])) seller) same
    ∙ (counted-still history entry seller none ∙ sym (open_offers-counted history seller)))

-- a sell opens one of its sender
pub open_offers-sell : (history : List Entry) (entry : Entry) (seller : List ℕ) (cusip : Cusip) (to : List ℕ)
    (amount : Dollars) (price : Cents)
    → IsLegal history
    → Follows history entry
    → entry.message ≡ message.Sell cusip to amount price
    → open_offers (history ++ entry ∷ []) seller
    ≡ open_offers history seller + given (is_same entry.submitter seller) 1
open_offers-sell history entry seller cusip to amount price legal follows is =
    let passed = accepted-passes history entry.submitter entry.number entry.moment entry.message follows.accepted in
    let next : Offer = record {
      seller = entry.submitter;
      number = entry.number;
      buyer = to;
      cusip = cusip;
      amount = amount;
      price = price;
    } in
    let now = closed_in (history ++ entry ∷ []) in
    let nothing : (of : List ℕ) (number : ℕ) → newly_closed entry.submitter entry.message of number ≡ false =
    λ of number. ap (λ (m : Message). newly_closed entry.submitter m of number) is in
    let more : offers (history ++ entry ∷ []) ≡ offers history ++ next ∷ [] =
    offers-snoc history entry
    ∙ ap (λ (m : Message). offers history ++ offered_by entry.submitter entry.number m) is in
    let unclosed : now next ≡ false =
    is_closed-push history entry entry.submitter entry.number
    ∙ (ap (λ (b : Bool). is_closed history entry.submitter entry.number || b) (nothing entry.submitter entry.number)
    ∙ (or_false _
    ∙ none-closed history entry.submitter entry.number legal
    (new-offer history entry.submitter entry.number legal passed.unused))) in
    let here : part_of now seller next ≡ given (is_same entry.submitter seller) 1 =
    ap (λ (b : Bool). cond (is_same entry.submitter seller && not b) 1 0) unclosed
    ∙ one_more (is_same entry.submitter seller) in
    omega (
      arith,
      open_offers-counted (history ++ entry ∷ []) seller,
      ap (counted now seller) more,
      sum_by-append (part_of now seller) (offers history) (next ∷ []),
      sum_by-cons (part_of now seller) next [],
      here,
      counted-still history entry seller nothing,
      open_offers-counted history seller,
    )
  where
    -- an offer that isn't closed counts once
    one_more : (b : Bool) → cond (b && true) 1 0 ≡ given b 1
    one_more true = refl
    one_more false = refl

-- and what closes an open offer leaves its seller one less
pub open_offers-closed : (history : List Entry) (entry : Entry) (closer : List ℕ) (number : ℕ) (o : Offer)
    (seller : List ℕ)
    → IsLegal history
    → offered_by entry.submitter entry.number entry.message ≡ []
    → ((of : List ℕ) (n : ℕ)
    → newly_closed entry.submitter entry.message of n ≡ (is_same closer of && (number == n)))
    → offer_of (offers history) closer number ≡ Some o
    → is_closed history o.seller o.number ≡ false
    → open_offers (history ++ entry ∷ []) seller + given (is_same closer seller) 1 ≡ open_offers history seller
open_offers-closed history entry closer number o seller legal nothing closes found unclosed =
    let now = closed_in (history ++ entry ∷ []) in
    let same : offers (history ++ entry ∷ []) ≡ offers history =
    offers-snoc history entry ∙ (ap (λ (xs : List Offer). offers history ++ xs) nothing
    ∙ append-nil (offers history)) in
    let tells : (x : Offer) → now x ≡ (closed_in history x || is_offer closer number x) =
    λ x. is_closed-push history entry x.seller x.number
    ∙ ap (λ (b : Bool). closed_in history x || b) (closes x.seller x.number ∙ either_way closer number x) in
    omega (
      arith,
      open_offers-counted (history ++ entry ∷ []) seller,
      ap (counted now seller) same,
      counted-closed closer number (closed_in history) now seller (offers history) o (IsLegal-once history legal) tells
          found unclosed,
      open_offers-counted history seller,
    )
