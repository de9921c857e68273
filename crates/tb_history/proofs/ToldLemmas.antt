-- Every entry of a legal history moves what passes on the movements before it.
use Rattle.std.proofs.Common.{◌≡◌, ◌≢◌, ℕ, ◌+◌, ◌≤◌, ◌==◌, ◌&&◌, ◌||◌, Bool, true, false, nat_le}
use Rattle.std.proofs.Common.{Option, Some, None, inl, inr, List, [], ◌∷◌, ◌++◌, map, sum_by, All}
use Rattle.std.proofs.Common.{refl, sym, ap, ◌∙◌, subst, arith, append-nil}
use Rattle.std.specs.Prelude.{IfSome, IsSomeAnd, Contains, option_to_list, filter_map}
use Rattle.std.specs.Option.{option_map}
use Rattle.std.specs.List.{AllByRecursion, find, filter, flat_map, list_any}
use Rattle.std.proofs.lemmas.Bool.{cases_Bool, both_ways, or_left, or_right, eq-eqb, ltb-false, not-false}
use Rattle.std.proofs.lemmas.List.Elements.{All-push, All-nil, filter-append, filter_map-append}
use Rattle.std.proofs.lemmas.List.Folds.{list_any-append}
use Rattle.std.proofs.lemmas.List.Sums.{sum_by-append}
use Rattle.std.proofs.lemmas.List.{map-append}
use Rattle.tb_units.specs.declared.moment.Moment.{Moment}
use Rattle.tb_terms.specs.declared.announcement.Announcement.{Announcement}
use Rattle.tb_terms.specs.declared.cusip.Cusip.{Cusip}
use Rattle.tb_terms.specs.declared.refusal.Refusal.TheVariants as refusal
use Rattle.tb_rules.specs.BidRule.{is_no_par}
use Rattle.tb_movements.specs.Movements.{Movement, Credit, brought, taken, issues, redeems}
use Rattle.tb_movements.specs.Marks as pledges
use Rattle.tb_movements.specs.Legal as movements
use Rattle.tb_movements.proofs.HistoryLemmas.{IsLegal-none, IsLegal-push}
use Rattle.tb_movements.proofs.TranslationLemmas.{movements_of-push}
use Rattle.tb_message.specs.declared.message.Entry.{Entry}
use Rattle.tb_message.specs.declared.message.Message.{Message}
use Rattle.tb_message.specs.declared.message.Message.TheVariants as message
use Rattle.tb_history.specs.declared.roster.Enrolment.{Enrolment}
use Rattle.tb_history.specs.declared.accounts.Mark.{Mark}
use Rattle.tb_history.specs.declared.accounts.Release.{Release}
use Rattle.tb_history.specs.declared.accounts.Offer.{Offer}
use Rattle.tb_history.specs.declared.accounts.AddOn.{AddOn}
use Rattle.tb_history.specs.Entries.{is_same, registered_by, enrolled_by}
use Rattle.tb_history.specs.Entries.{announced_by, redeemed_by, pledged_by, released_by}
use Rattle.tb_history.specs.Roster.{registrations, enrolments, announcements, redemptions, announcement_of, bill_of}
use Rattle.tb_history.specs.Roster.{is_of_bill, is_registered, is_redeemed, is_settled, kept}
use Rattle.tb_history.specs.Holdings.{transfers, marks, releases, awarded_add_on, credited_to, issued}
use Rattle.tb_history.specs.Holdings.{mark_of, left_of, free_of, open_marks}
use Rattle.tb_history.specs.Offers.{offers, purchases, sales, offer_of}
use Rattle.tb_history.specs.Tables.{rows_of, transfer_rows, par_rows, buy_rows, mark_rows, left_in}
use Rattle.tb_history.specs.Legal.{IsLegal, Follows}
use Rattle.tb_history.specs.Moves.{Numbering, credit_of, add_on_credits, settled_as, bought_as, movement_by}
use Rattle.tb_history.specs.Moves.{movements_by, meaning_by, IsNumbered, as_moved, has_bill, AreNumbered}
use Rattle.tb_history.proofs.PartLemmas.{AllByRecursion-append, AllByRecursion-front}
use Rattle.tb_history.proofs.SameLemmas.{is_same-equal, is_same-refl}
use Rattle.tb_history.proofs.GrowthLemmas.{registrations-snoc, announcements-snoc}
use Rattle.tb_history.proofs.GrowthLemmas.{redemptions-snoc, marks-snoc, releases-snoc, registered-append}
use Rattle.tb_history.proofs.GrowthLemmas.{has_bill-append}
use Rattle.tb_history.proofs.AcceptedLemmas.{IsClear, Passes, accepted-passes, sender-registered}
use Rattle.tb_history.proofs.LegalLemmas.{by_entries}
use Rattle.tb_history.proofs.EachLemmas.{IsLegal-each, enrolments-grow}
use Rattle.tb_history.proofs.ClosedLemmas.{found-in}
use Rattle.tb_history.proofs.CloseLemmas.{All-from}
use Rattle.tb_history.proofs.SettledLemmas.{settled_by-published, redeem-clear, unsettled-live}
use Rattle.tb_history.proofs.CreditedLemmas.{par_settled-push, credited_to-settled, issued-settled}
use Rattle.tb_history.proofs.MovedLemmas.{sent-push, received-push, taken-message, brought-message, issues-message}
use Rattle.tb_history.proofs.MovedLemmas.{redeems-message, marks-message, is_release_of, releases-message}
use Rattle.tb_history.proofs.MovedLemmas.{offered_par, is_sold_by, is_bought_by}
use Rattle.tb_history.proofs.PassLemmas.{found_any, IsKnown, AreTold, IsToldBy, free-told, left-told, mark-told}
use Rattle.tb_history.proofs.AddOnLemmas.{awarded-known}
use Rattle.tb_history.proofs.OfferLemmas.{IsOffered, offer-known, IsBuyable, buy_rows-clear, sales-sum}

-- numbers for a longer history are numbers for its beginning
AreNumbered-front : (numbers : Numbering) (participants : List ℕ) (history : List Entry) (entry : Entry)
    → AreNumbered numbers participants (history ++ entry ∷ [])
    → AreNumbered numbers participants history
AreNumbered-front numbers participants history entry are =
    let names : (name : List ℕ) → is_registered (registrations history) name ≡ true
    → is_registered (registrations (history ++ entry ∷ [])) name ≡ true =
    λ name known. rw (registrations-snoc history entry)
    (registered-append (registrations history) (registered_by entry.message)
    name known) in
    record {
      names = λ name known. are.names name (names name known);
      listed = λ name known. are.listed name (names name known);
      bills = λ bytes known. are.bills bytes (rw (announcements-snoc history entry)
          (has_bill-append (announcements history) (announced_by entry.message) bytes known));
    }

-- what an accepted transfer has passed
pub record IsTransferable (history : List Entry) (submitter : List ℕ) (cusip : Cusip) (to : List ℕ)
    (amount : ℕ) : Type 0 where
  pub bill : has_bill (announcements history) cusip.bytes ≡ true
  pub known : is_registered (registrations history) to ≡ true
  pub apart : is_same to submitter ≡ false
  pub live : is_redeemed (redemptions history) cusip ≡ false
  pub par : is_no_par amount ≡ false
  pub enough : amount ≤ free_of history submitter cusip

-- by the table of transfers
pub transfer_rows-clear : (history : List Entry) (submitter : List ℕ) (moment : Moment) (cusip : Cusip) (to : List ℕ)
    (amount : ℕ)
    → AllByRecursion IsClear (par_rows history submitter moment cusip to amount)
    → IsTransferable history submitter cusip to amount
transfer_rows-clear history submitter moment cusip to amount clear =
    by_bill (bill_of (announcements history) cusip) refl clear
  where
    -- by the announcement that is found of the bill
    by_bill : (found : Option Announcement)
        → bill_of (announcements history) cusip ≡ found
        → AllByRecursion IsClear (transfer_rows found (is_registered (registrations history) to) (is_same to submitter)
        (is_redeemed (redemptions history) cusip) (free_of history submitter cusip) moment amount)
        → IsTransferable history submitter cusip to amount
    by_bill None is all = absurd (let wrong : true ≡ false = all.0 in cc)
    by_bill (Some a) is all = record {
      bill = found_any (is_of_bill cusip) (announcements history) (rw is refl);
      known = not-false (is_registered (registrations history) to) all.0;
      apart = all.1.1.0;
      live = all.1.1.1.0;
      par = all.1.0;
      enough = ltb-false (free_of history submitter cusip) amount all.1.1.1.1.1.0;
    }

-- another name has another number
pub other-number : (numbers : Numbering) (one other : List ℕ)
    → IsNumbered numbers one
    → is_same other one ≡ false
    → numbers.holder one ≢ numbers.holder other
other-number numbers one other own apart same =
    both_ways (is_same other one) apart (sym (own other) ∙ eq-eqb (numbers.holder one) (numbers.holder other) same)

-- no pledge has a number that no message of the holder has
unused-mark : (history : List Entry) (submitter : List ℕ) (number : ℕ)
    → kept history submitter number ≡ None
    → mark_of history submitter number ≡ None
unfolding kept mark_of marks
unused-mark [] submitter number none = refl
unused-mark (e ∷ history) submitter number none =
    let test : Entry → Bool = λ (entry : Entry). is_same entry.submitter submitter && (entry.number == number) in
    elim (cases_Bool (test e)) [
      | inl is ↦ absurd (let wrong : Some e ≡ None = rw is at none in cc)
      | inr isnt ↦ skip e.message isnt (unused-mark history submitter number (rw isnt at none))
    ]
  where
    -- an entry of another number pledges nothing under this one
    skip : (sent : Message)
        → (is_same e.submitter submitter && (e.number == number)) ≡ false
        → find (λ (mark : Mark). is_same mark.holder submitter && (mark.number == number))
        (flat_map (λ (entry : Entry). pledged_by entry.submitter entry.number entry.message) history) ≡ None
        → find (λ (mark : Mark). is_same mark.holder submitter && (mark.number == number))
        (pledged_by e.submitter e.number sent
        ++ flat_map (λ (entry : Entry). pledged_by entry.submitter entry.number entry.message)
        history) ≡ None
    skip (message.Pledge cusip to amount) isnt rest = rw isnt rest
    skip other isnt rest = rest

-- the bill of an announced auction is announced
pub bill-found : (announced : List Announcement) (announcement : Announcement) (auction : List ℕ)
    → announcement_of announced auction ≡ Some announcement
    → has_bill announced announcement.cusip.bytes ≡ true
bill-found [] announcement auction found = absurd cc
bill-found (x ∷ announced) announcement auction found =
    elim (cases_Bool (is_same x.auction auction)) [
      | inl is ↦
          let one : Some x ≡ Some announcement = rw is at found in
          let same : x ≡ announcement = cc in
          or_left (is_same x.cusip.bytes announcement.cusip.bytes) (has_bill announced announcement.cusip.bytes)
          (subst (λ (y : Announcement). is_same y.cusip.bytes announcement.cusip.bytes ≡ true) (sym same)
          (is_same-refl announcement.cusip.bytes))
      | inr isnt ↦
          or_right (is_same x.cusip.bytes announcement.cusip.bytes) (has_bill announced announcement.cusip.bytes)
          (bill-found announced announcement auction (rw isnt at found))
    ]

-- each kind of movement passes
passes-settled : (numbers : Numbering) (participants : List ℕ) (history : List Entry) (auction : List ℕ)
    (found : Option Announcement)
    → IsToldBy numbers participants history
    → announcement_of (announcements history) auction ≡ found
    → is_settled history auction ≡ false
    → IfSome (settled_as numbers history found) (movements.Passes (movements_by numbers history))
passes-settled numbers participants history auction None tells is unsettled = tt
passes-settled numbers participants history auction (Some a) tells is unsettled =
    tells.told.redeemed a.cusip (tells.numbered.bills a.cusip.bytes (bill-found (announcements history) a auction is))
    ∙ unsettled-live history auction a tells.legal is unsettled

-- a release is of a pledge, by its pledgee, and of no more than is left
passes-released : (numbers : Numbering) (participants : List ℕ) (history : List Entry) (submitter holder : List ℕ)
    (pledge amount : ℕ) (found : Option Mark)
    → AreTold numbers participants history
    → mark_of history holder pledge ≡ found
    → AllByRecursion IsClear (mark_rows found (left_in history found) submitter amount)
    → IsSomeAnd (pledges.mark_of (numbers.holder holder) pledge (movements_by numbers history))
    (λ mark. (mark.pledgee ≡ numbers.holder submitter) × (amount ≤ pledges.left_of (movements_by numbers history) mark))
unfolding mark_of
passes-released numbers participants history submitter holder pledge amount None told is clear =
    absurd (let wrong : true ≡ false = clear.0 in cc)
passes-released numbers participants history submitter holder pledge amount (Some mark) told is clear =
    let found : pledges.mark_of (numbers.holder holder) pledge (movements_by numbers history)
    ≡ Some (as_moved numbers mark) =
    mark-told numbers participants history holder pledge told
    ∙ ap (option_map {U = pledges.Mark} (as_moved numbers)) is in
    let known : IsKnown numbers mark = known_in is in
    let left = left-told numbers participants history mark told known in
    let caller : numbers.holder mark.pledgee ≡ numbers.holder submitter =
    ap numbers.holder (is_same-equal mark.pledgee submitter (not-false (is_same mark.pledgee submitter) clear.0)) in
    rw found (caller, omega (arith, left, ltb-false (left_of history mark) amount clear.1.0))
  where
    -- a pledge that is found is of a participant and a bill with numbers
    known_in : mark_of history holder pledge ≡ Some mark → IsKnown numbers mark
    known_in found =
        found-in (IsKnown numbers) (λ (m : Mark). is_same m.holder holder && (m.number == pledge)) (marks history)
        mark told.known found

-- a redemption that passes is of an announced bill
pub redeem-bill : (history : List Entry) (submitter : List ℕ) (moment : Moment) (cusip : Cusip)
    (found : Option Announcement)
    → bill_of (announcements history) cusip ≡ found
    → AllByRecursion IsClear (rows_of history submitter moment (message.Redeem cusip))
    → has_bill (announcements history) cusip.bytes ≡ true
redeem-bill history submitter moment cusip None is clear =
    let all = rw is at clear in let wrong : true ≡ false = all.0 in absurd cc
redeem-bill history submitter moment cusip (Some a) is clear =
    found_any (is_of_bill cusip) (announcements history) (rw is refl)

-- a purchase is of par that is free to its seller
passes-bought : (numbers : Numbering) (participants : List ℕ) (history : List Entry) (submitter seller : List ℕ)
    (offer : ℕ) (moment : Moment) (found : Option Offer)
    → IsToldBy numbers participants history
    → offer_of (offers history) seller offer ≡ found
    → AllByRecursion IsClear (buy_rows history found submitter moment)
    → IfSome (bought_as numbers found) (movements.Passes (movements_by numbers history))
passes-bought numbers participants history submitter seller offer moment None tells is clear = tt
passes-bought numbers participants history submitter seller offer moment (Some o) tells is clear =
    let known : IsOffered history o = offer-known history seller offer o tells.legal is in
    let buyable : IsBuyable history submitter o = buy_rows-clear history submitter moment o clear in
    let own = tells.numbered.names o.seller known.seller in
    let bills = tells.numbered.bills o.cusip.bytes known.bill in
    let free = free-told numbers participants history o.seller o.cusip tells.told own bills in (
      tells.told.redeemed o.cusip bills ∙ buyable.live,
      other-number numbers o.seller o.buyer own known.apart,
      omega (arith, free, buyable.covered),
    )

-- whatever the message moves passes
pub passes-message : (numbers : Numbering) (participants : List ℕ) (history : List Entry) (submitter : List ℕ)
    (number : ℕ) (moment : Moment) (sent : Message)
    → IsToldBy numbers participants history
    → Passes history submitter number moment sent
    → IfSome (movement_by numbers history submitter number sent) (movements.Passes (movements_by numbers history))
passes-message numbers participants history submitter number moment (message.Settle auction) tells passed =
    passes-settled numbers participants history auction
    (announcement_of (announcements history) auction) tells refl
    (settled_by-published history submitter moment (message.Settle auction) passed.rows).0.1
passes-message numbers participants history submitter number moment
    (message.Transfer cusip to amount) tells passed =
    let clear = transfer_rows-clear history submitter moment cusip to amount.value passed.rows in
    let own = tells.numbered.names submitter (sender-registered history submitter (message.Transfer cusip to amount)
    passed.caller passed.permitted refl) in
    let bills = tells.numbered.bills cusip.bytes clear.bill in
    let free = free-told numbers participants history submitter cusip tells.told own bills in (
      tells.told.redeemed cusip bills ∙ clear.live,
      other-number numbers submitter to own clear.apart,
      omega
          (arith, free, clear.enough),
    )
passes-message numbers participants history submitter number moment
    (message.Pledge cusip to amount) tells passed =
    let front =
    AllByRecursion-front IsClear (par_rows history submitter moment cusip to amount.value)
    ((refusal.PledgeQuota, nat_le 1000 (open_marks history submitter)) ∷ []) passed.rows in
    let clear = transfer_rows-clear history submitter moment cusip to amount.value front in
    let own =
    tells.numbered.names submitter (sender-registered history submitter
    (message.Pledge cusip to amount) passed.caller passed.permitted refl)
    in
    let bills = tells.numbered.bills cusip.bytes clear.bill in
    let free = free-told numbers participants history submitter cusip tells.told own bills in
    let new : pledges.mark_of (numbers.holder submitter) number (movements_by numbers history) ≡ None =
    mark-told numbers participants history submitter number tells.told
    ∙ ap (option_map {U = pledges.Mark} (as_moved numbers))
    (unused-mark history submitter number passed.unused) in
    (tells.told.redeemed cusip bills ∙ clear.live, new, omega (arith, free, clear.enough))
passes-message numbers participants history submitter number moment
    (message.Release holder pledge amount) tells passed =
    passes-released numbers participants history submitter holder pledge amount.value (mark_of history holder pledge)
    tells.told refl passed.rows.1
passes-message numbers participants history submitter number moment (message.Redeem cusip) tells passed =
    tells.told.redeemed cusip (tells.numbered.bills cusip.bytes (redeem-bill history submitter moment cusip
    (bill_of (announcements history) cusip) refl passed.rows))
    ∙ (redeem-clear history submitter moment cusip passed.rows).1
passes-message numbers participants history submitter number moment (message.Buy seller offer) tells passed =
    passes-bought numbers participants history submitter seller offer moment (offer_of (offers history) seller offer)
    tells refl passed.rows
passes-message numbers participants history submitter number moment other tells passed = tt

-- each bidder's participant is registered
enrolled-message : (history : List Entry) (sender : List ℕ) (moment : Moment) (sent : Message)
    → AllByRecursion IsClear (rows_of history sender moment sent)
    → AllByRecursion (λ (enrolment : Enrolment). is_registered (registrations history) enrolment.submitter ≡ true)
    (enrolled_by sent)
enrolled-message history sender moment (message.Enrol bidder submitter) clear =
    (not-false (is_registered (registrations history) submitter) clear.1.1.0, tt)
enrolled-message history sender moment other clear = tt

-- so it is in every legal history
pub IsLegal-enrolled : (history : List Entry)
    → IsLegal history
    → AllByRecursion (λ (enrolment : Enrolment). is_registered (registrations history) enrolment.submitter ≡ true)
    (enrolments history)
IsLegal-enrolled =
    IsLegal-each (λ history (enrolment : Enrolment). is_registered (registrations history) enrolment.submitter ≡ true)
    enrolments (λ (entry : Entry). enrolled_by entry.message) enrolments-grow
    (record {
      begins = λ history entry legal follows passed.
          enrolled-message history entry.submitter entry.moment entry.message passed.rows;
      stays = λ history entry enrolment known. rw (registrations-snoc history entry)
          (registered-append (registrations history) (registered_by entry.message) enrolment.submitter known);
    })

-- a movement reaches participants
credits-reach : (numbers : Numbering) (participants : List ℕ) (history : List Entry) (announcement : Announcement)
    (enrolled : List Enrolment)
    → AreNumbered numbers participants history
    → AllByRecursion (λ (enrolment : Enrolment). is_registered (registrations history) enrolment.submitter ≡ true)
    enrolled
    → AllByRecursion (λ (credit : Credit). Contains participants credit.holder)
    (map (credit_of numbers history announcement) enrolled)
credits-reach numbers participants history announcement [] are known = tt
credits-reach numbers participants history announcement (x ∷ enrolled) are known =
    (are.listed x.submitter known.0, credits-reach numbers participants history announcement enrolled are known.1)

-- a settlement credits participants
reaches-settled : (numbers : Numbering) (participants : List ℕ) (history : List Entry) (found : Option Announcement)
    → AreNumbered numbers participants history
    → IsLegal history
    → IfSome (settled_as numbers history found) (movements.Reaches participants)
reaches-settled numbers participants history None are legal = tt
reaches-settled numbers participants history (Some a) are legal =
    All-from (λ (credit : Credit). Contains participants credit.holder) _
    (AllByRecursion-append (λ (credit : Credit). Contains participants credit.holder) _ _
    (credits-reach numbers participants history a (enrolments history) are (IsLegal-enrolled history legal))
    (add_on-reaches (awarded_add_on history a) refl))
  where
    -- and the add-on's holder
    add_on-reaches : (found : Option AddOn)
        → awarded_add_on history a ≡ found
        → AllByRecursion (λ (credit : Credit). Contains participants credit.holder) (add_on_credits numbers found)
    add_on-reaches None is = tt
    add_on-reaches (Some x) is = (are.listed x.holder (awarded-known history a x legal is).holder, tt)

-- a purchase has participants
reaches-bought : (numbers : Numbering) (participants : List ℕ) (history : List Entry) (seller : List ℕ) (offer : ℕ)
    (found : Option Offer)
    → AreNumbered numbers participants history
    → IsLegal history
    → offer_of (offers history) seller offer ≡ found
    → IfSome (bought_as numbers found) (movements.Reaches participants)
reaches-bought numbers participants history seller offer None are legal is = tt
reaches-bought numbers participants history seller offer (Some o) are legal is =
    let known : IsOffered history o = offer-known history seller offer o legal is in
    (are.listed o.seller known.seller, are.listed o.buyer known.buyer)

-- so does what a message moves
reaches-message : (numbers : Numbering) (participants : List ℕ) (history : List Entry) (submitter : List ℕ) (number : ℕ)
    (moment : Moment) (sent : Message)
    → AreNumbered numbers participants history
    → IsLegal history
    → Passes history submitter number moment sent
    → IfSome (movement_by numbers history submitter number sent) (movements.Reaches participants)
reaches-message numbers participants history submitter number moment (message.Settle auction) are legal passed =
    reaches-settled numbers participants history (announcement_of (announcements history) auction) are legal
reaches-message numbers participants history submitter number moment
    (message.Transfer cusip to amount) are legal passed = (
      are.listed submitter (sender-registered history submitter
          (message.Transfer cusip to amount) passed.caller passed.permitted refl),
      are.listed to (transfer_rows-clear history submitter moment cusip to amount.value passed.rows).known,
    )
reaches-message numbers participants history submitter number moment (message.Pledge cusip to amount) are legal passed =
    tt
reaches-message numbers participants history submitter number moment
    (message.Release holder pledge amount) are legal passed = tt
reaches-message numbers participants history submitter number moment (message.Redeem cusip) are legal passed = tt
reaches-message numbers participants history submitter number moment (message.Buy seller offer) are legal passed =
    reaches-bought numbers participants history seller offer (offer_of (offers history) seller offer) are legal refl
reaches-message numbers participants history submitter number moment other are legal passed = tt

-- a pledge is of a participant and a bill with numbers
known-message : (numbers : Numbering) (participants : List ℕ) (history : List Entry) (submitter : List ℕ) (number : ℕ)
    (moment : Moment) (sent : Message)
    → AreNumbered numbers participants history
    → Passes history submitter number moment sent
    → AllByRecursion (IsKnown numbers) (pledged_by submitter number sent)
known-message numbers participants history submitter number moment (message.Pledge cusip to amount) are passed =
    let front =
    AllByRecursion-front IsClear (par_rows history submitter moment cusip to amount.value)
    ((refusal.PledgeQuota, nat_le 1000 (open_marks history submitter)) ∷ []) passed.rows in (
      (
        are.names submitter (sender-registered history submitter
            (message.Pledge cusip to amount) passed.caller passed.permitted refl),
        are.bills cusip.bytes (transfer_rows-clear history submitter moment cusip to amount.value front).bill,
      ),
      tt,
    )
known-message numbers participants history submitter number moment other are passed = tt

-- one movement more, or none
legal-more : (before : List Movement) (next : Option Movement)
    → movements.IsLegal before
    → IfSome next (movements.Passes before)
    → movements.IsLegal (before ++ option_to_list next)
legal-more before None legal passes = subst movements.IsLegal (sym (append-nil before)) legal
legal-more before (Some movement) legal passes = IsLegal-push before movement legal passes

-- and all of them reach participants
reaches-more : (participants : List ℕ) (before : List Movement) (next : Option Movement)
    → All (movements.Reaches participants) before
    → IfSome next (movements.Reaches participants)
    → All (movements.Reaches participants) (before ++ option_to_list next)
reaches-more participants before None all reaches =
    subst (All (movements.Reaches participants)) (sym (append-nil before)) all
reaches-more participants before (Some movement) all reaches =
    All-push (movements.Reaches participants) before movement all reaches

-- an accepted entry keeps all this
AreTold-push : (numbers : Numbering) (participants : List ℕ) (history : List Entry) (entry : Entry)
    → IsToldBy numbers participants history
    → Follows history entry
    → AreTold numbers participants (history ++ entry ∷ [])
AreTold-push numbers participants history entry tells follows =
    let passed = accepted-passes history entry.submitter entry.number entry.moment entry.message follows.accepted in
    let before = movements_by numbers history in
    let next = meaning_by numbers history entry in
    let grown : movements_by numbers (history ++ entry ∷ []) ≡ before ++ option_to_list next =
    movements_of-push (meaning_by numbers) history entry in
    let sums : (f : Movement → ℕ) → sum_by f (movements_by numbers (history ++ entry ∷ [])) ≡ sum_by f before
    + sum_by f (option_to_list next) =
    λ f. ap (sum_by f) grown ∙ sum_by-append f before (option_to_list next) in
    let released : Release → ℕ = λ (r : Release). r.amount.value in
    record {
      legal = subst movements.IsLegal (sym grown) (legal-more before next tells.told.legal
          (passes-message numbers participants history entry.submitter entry.number entry.moment entry.message
          tells passed));
      reaches = subst (All (movements.Reaches participants)) (sym grown)
          (reaches-more participants before next tells.told.reaches
          (reaches-message numbers participants history entry.submitter entry.number entry.moment entry.message
          tells.numbered tells.legal passed));
      brings = λ participant cusip own bills.
          omega (
            arith,
            sums (brought (numbers.holder participant) (numbers.security cusip.bytes)),
            tells.told.brings participant cusip own bills,
            brought-message numbers history entry.submitter entry.number entry.message participant cusip own bills,
            received-push history entry participant cusip,
            sales-sum offered_par (is_bought_by participant cusip) history entry tells.legal follows,
            credited_to-settled history participant cusip,
            credited_to-settled (history ++ entry ∷ []) participant cusip,
            par_settled-push (λ name. is_same name participant) history entry cusip
                tells.legal follows,
          );
      takes = λ participant cusip own bills.
          omega (
            arith,
            sums (taken (numbers.holder participant) (numbers.security cusip.bytes)),
            tells.told.takes participant cusip own bills,
            taken-message numbers history entry.submitter entry.number entry.message participant cusip own bills,
            sent-push history entry participant cusip,
            sales-sum offered_par (is_sold_by participant cusip) history entry tells.legal follows,
          );
      issued_is = λ cusip bills.
          omega (
            arith,
            sums (issues (numbers.security cusip.bytes)),
            tells.told.issued_is cusip bills,
            issues-message numbers history entry.submitter entry.number entry.message cusip bills,
            issued-settled history cusip,
            issued-settled (history ++ entry ∷ []) cusip,
            par_settled-push (λ name. true) history entry cusip tells.legal follows,
          );
      redeemed = λ cusip bills.
          ap (list_any (redeems (numbers.security cusip.bytes))) grown
          ∙ (list_any-append (redeems (numbers.security cusip.bytes)) before (option_to_list next)
          ∙ (ap (λ b. b || list_any (redeems (numbers.security cusip.bytes)) (option_to_list next))
          (tells.told.redeemed cusip bills)
          ∙ (ap (λ b. is_redeemed (redemptions history) cusip || b)
          (redeems-message numbers history entry.submitter entry.number entry.message cusip bills)
          ∙ (sym (list_any-append (λ (c : Cusip). is_same c.bytes cusip.bytes) (redemptions history)
          (redeemed_by entry.message))
          ∙ ap (λ (cs : List Cusip). is_redeemed cs cusip) (sym (redemptions-snoc history entry))))));
      marks_are =
          ap pledges.marks grown
          ∙ (filter_map-append pledges.mark_made before (option_to_list next)
          ∙ (ap (λ ms. ms ++ filter_map pledges.mark_made (option_to_list next)) tells.told.marks_are
          ∙ (ap (λ ms. map (as_moved numbers) (marks history) ++ ms)
          (marks-message numbers history entry.submitter entry.number entry.message)
          ∙ (sym (map-append (as_moved numbers) (marks history) (pledged_by entry.submitter entry.number entry.message))
          ∙ ap (map (as_moved numbers)) (sym (marks-snoc history entry))))));
      released = λ holder number own.
          sums (pledges.releases (numbers.holder holder) number)
          ∙ (omega (
            arith,
            tells.told.released holder number own,
            releases-message numbers history entry.submitter entry.number entry.message holder number own,
          )
          ∙ (sym (sum_by-append released (filter (is_release_of holder number) (releases history))
          (filter (is_release_of holder number) (released_by entry.message)))
          ∙ (ap (sum_by released) (sym (filter-append (is_release_of holder number) (releases history)
          (released_by entry.message)))
          ∙ ap (λ (rs : List Release). sum_by released (filter (is_release_of holder number) rs))
          (sym (releases-snoc history entry)))));
      known = rw (marks-snoc history entry) (AllByRecursion-append (IsKnown numbers) (marks history)
          (pledged_by entry.submitter entry.number entry.message) tells.told.known
          (known-message numbers participants history entry.submitter entry.number entry.moment entry.message
          tells.numbered passed));
    }

-- the empty history moves nothing
AreTold-nil : (numbers : Numbering) (participants : List ℕ) → AreTold numbers participants []
unfolding credited_to issued announcements transfers offers purchases sales marks releases redemptions
AreTold-nil numbers participants = record {
  legal = IsLegal-none;
  reaches = All-nil (movements.Reaches participants);
  brings = λ participant cusip own bills. refl;
  takes = λ participant cusip own bills. refl;
  issued_is = λ cusip bills. refl;
  redeemed = λ cusip bills. refl;
  marks_are = refl;
  released = λ holder number own. refl;
  known = tt;
}

-- so it is in every legal history, by numbers for all who are registered and announced in it
pub IsLegal-told : (numbers : Numbering) (participants : List ℕ) (history : List Entry)
    → IsLegal history
    → AreNumbered numbers participants history
    → AreTold numbers participants history
IsLegal-told numbers participants history legal =
    by_entries (λ history. AreNumbered numbers participants history → AreTold numbers participants history)
    (λ are. AreTold-nil numbers participants)
    (λ history e legal told follows are.
    let front = AreNumbered-front numbers participants history e are in
    AreTold-push numbers participants history e
    (record { legal = legal; numbered = front; told = told front }) follows)
    history legal
