-- Numbers by place stay those of who is registered and announced as the rosters grow, and so do the movements.
use Rattle.std.proofs.Common.{◌≡◌, ℕ, ◌+◌, ◌==◌, ◌&&◌, Bool, true, false, Option, Some, None, inl}
use Rattle.std.proofs.Common.{inr, List, [], ◌∷◌, ◌++◌, map, refl, sym, ap, ◌∙◌, subst}
use Rattle.std.specs.Prelude.{option_to_list}
use Rattle.std.specs.List.{AllByRecursion, list_any, position_or_len}
use Rattle.std.proofs.lemmas.Bool.{cases_Bool, and_parts}
use Rattle.tb_units.proofs.PlaceLemmas.{find_passes}
use Rattle.tb_units.specs.declared.moment.Moment.{Moment}
use Rattle.tb_terms.specs.declared.announcement.Announcement.{Announcement}
use Rattle.tb_movements.specs.Movements.{Credit, Movement}
use Rattle.tb_movements.proofs.TranslationLemmas.{movements_of-push}
use Rattle.tb_message.specs.declared.message.Entry.{Entry}
use Rattle.tb_message.specs.declared.message.Message.{Message}
use Rattle.tb_message.specs.declared.message.Message.TheVariants as message
use Rattle.tb_history.specs.declared.roster.Registration.{Registration}
use Rattle.tb_history.specs.declared.roster.Enrolment.{Enrolment}
use Rattle.tb_history.specs.declared.accounts.Mark.{Mark}
use Rattle.tb_history.specs.declared.accounts.Offer.{Offer}
use Rattle.tb_history.specs.declared.accounts.AddOn.{AddOn}
use Rattle.tb_history.specs.Entries.{is_same, registered_by, announced_by, pledged_by}
use Rattle.tb_history.specs.Roster.{registrations, enrolments, announcements, announcement_of, bill_of, is_registered}
use Rattle.tb_history.specs.Holdings.{award_in, awarded_add_on, marks, mark_of}
use Rattle.tb_history.specs.Tables.{mark_rows, left_in, par_rows}
use Rattle.tb_history.specs.Legal.{IsLegal, Follows}
use Rattle.tb_history.specs.Offers.{offers, offer_of}
use Rattle.tb_history.specs.Moves.{Numbering, numbering_of, credit_of, add_on_credits, settled_as, bought_as}
use Rattle.tb_history.specs.Moves.{movement_by}
use Rattle.tb_history.specs.Moves.{movements_by, meaning_by, has_bill}
use Rattle.tb_history.proofs.PartLemmas.{AllByRecursion-front}
use Rattle.tb_history.proofs.SameLemmas.{is_same-equal}
use Rattle.tb_history.proofs.GrowthLemmas.{registrations-snoc, announcements-snoc, registered-append, has_bill-append}
use Rattle.tb_history.proofs.AcceptedLemmas.{IsClear, Passes, accepted-passes, sender-registered}
use Rattle.tb_history.proofs.LegalLemmas.{by_entries}
use Rattle.tb_history.proofs.EachLemmas.{IsLegal-each, marks-grow}
use Rattle.tb_history.proofs.ClosedLemmas.{found-in}
use Rattle.tb_history.proofs.ToldLemmas.{transfer_rows-clear}
use Rattle.tb_history.proofs.ToldLemmas.{IsLegal-enrolled, bill-found, redeem-bill}
use Rattle.tb_history.proofs.AddOnLemmas.{awarded-known}
use Rattle.tb_history.proofs.OfferLemmas.{IsOffered, offer-known}

-- the place of what is there stays behind which more comes
place-append : {X : Type 0} (test : X → Bool) (xs ys : List X)
    → list_any test xs ≡ true
    → position_or_len test (xs ++ ys) ≡ position_or_len test xs
place-append test [] ys some = absurd cc
place-append test (x ∷ xs) ys some =
    elim (cases_Bool (test x)) [
      | inl is ↦ rw is refl
      | inr isnt ↦ rw isnt (ap (λ n. 1 + n) (place-append test xs ys (rw isnt at some)))
    ]

-- two numberings agree on who is registered and on what is announced
pub record Agree (one other : Numbering) (history : List Entry) : Type 0 where
  pub holders : (name : List ℕ)
      → is_registered (registrations history) name ≡ true
      → one.holder name ≡ other.holder name
  pub bills : (bytes : List ℕ)
      → has_bill (announcements history) bytes ≡ true
      → one.security bytes ≡ other.security bytes

-- and so they do on a beginning
Agree-front : (one other : Numbering) (history : List Entry) (entry : Entry)
    → Agree one other (history ++ entry ∷ [])
    → Agree one other history
Agree-front one other history entry agree = record {
  holders = λ name known. agree.holders name (rw (registrations-snoc history entry)
      (registered-append (registrations history) (registered_by entry.message) name known));
  bills = λ bytes known. agree.bills bytes (rw (announcements-snoc history entry)
      (has_bill-append (announcements history) (announced_by entry.message) bytes known));
}

-- places in a longer roster agree with those in the roster
pub Agree-places : (history : List Entry) (entry : Entry)
    → Agree (numbering_of (registrations (history ++ entry ∷ [])) (announcements (history ++ entry ∷ [])))
    (numbering_of (registrations history) (announcements history)) history
Agree-places history entry = record {
  holders = λ name known. rw (registrations-snoc history entry)
      (place-append (λ (registration : Registration). is_same registration.submitter name) (registrations history)
      (registered_by entry.message) known);
  bills = λ bytes known. rw (announcements-snoc history entry)
      (place-append (λ (announcement : Announcement). is_same announcement.cusip.bytes bytes) (announcements history)
      (announced_by entry.message) known);
}

-- the holder of each pledge is registered
holders-message : (history : List Entry) (submitter : List ℕ) (number : ℕ) (moment : Moment) (sent : Message)
    → Passes history submitter number moment sent
    → AllByRecursion (λ (mark : Mark). is_registered (registrations history) mark.holder ≡ true)
    (pledged_by submitter number sent)
holders-message history submitter number moment (message.Pledge cusip to amount) passed =
    (sender-registered history submitter (message.Pledge cusip to amount) passed.caller passed.permitted refl, tt)
holders-message history submitter number moment other passed = tt

-- so it is in every legal history
IsLegal-holders : (history : List Entry)
    → IsLegal history
    → AllByRecursion (λ (mark : Mark). is_registered (registrations history) mark.holder ≡ true) (marks history)
IsLegal-holders =
    IsLegal-each (λ history (mark : Mark). is_registered (registrations history) mark.holder ≡ true) marks
    (λ (entry : Entry). pledged_by entry.submitter entry.number entry.message) marks-grow
    (record {
      begins = λ history entry legal follows passed.
          holders-message history entry.submitter entry.number entry.moment entry.message passed;
      stays = λ history entry mark known. rw (registrations-snoc history entry)
          (registered-append (registrations history) (registered_by entry.message) mark.holder known);
    })

-- who made a pledge that is found is registered
mark-holder : (history : List Entry) (submitter holder : List ℕ) (pledge amount : ℕ) (found : Option Mark)
    → IsLegal history
    → mark_of history holder pledge ≡ found
    → AllByRecursion IsClear (mark_rows found (left_in history found) submitter amount)
    → is_registered (registrations history) holder ≡ true
unfolding mark_of
mark-holder history submitter holder pledge amount None legal is clear =
    absurd (let wrong : true ≡ false = clear.0 in cc)
mark-holder history submitter holder pledge amount (Some mark) legal is clear =
    let test : Mark → Bool = λ (m : Mark). is_same m.holder holder && (m.number == pledge) in
    let known : is_registered (registrations history) mark.holder ≡ true =
    found-in (λ (m : Mark). is_registered (registrations history) m.holder ≡ true) test (marks history) mark
    (IsLegal-holders history legal) is in
    let named : is_same mark.holder holder ≡ true =
    (and_parts (is_same mark.holder holder) (mark.number == pledge) (find_passes test (marks history) mark is)).0 in
    subst (λ (name : List ℕ). is_registered (registrations history) name ≡ true)
    (is_same-equal mark.holder holder named) known

-- credits by numberings that agree are the same
credits-agree : (one other : Numbering) (history : List Entry) (announcement : Announcement) (enrolled : List Enrolment)
    → Agree one other history
    → AllByRecursion (λ (enrolment : Enrolment). is_registered (registrations history) enrolment.submitter ≡ true)
    enrolled
    → map (credit_of one history announcement) enrolled ≡ map (credit_of other history announcement) enrolled
credits-agree one other history announcement [] agree known = refl
credits-agree one other history announcement (x ∷ enrolled) agree known =
    let here : credit_of one history announcement x ≡ credit_of other history announcement x =
    ap (λ (number : ℕ). credit_with number (award_in history announcement x.bidder))
    (agree.holders x.submitter known.0) in
    let rest : map (credit_of one history announcement) enrolled ≡ map (credit_of other history announcement) enrolled =
    credits-agree one other history announcement enrolled agree known.1 in
    cc
  where
    -- a credit of par to the holder of a number
    credit_with : ℕ → ℕ → Credit
    credit_with holder par = record { holder = holder; par = par }

-- and so is what a settlement moves
settled-agree : (one other : Numbering) (history : List Entry) (auction : List ℕ) (found : Option Announcement)
    → IsLegal history
    → Agree one other history
    → announcement_of (announcements history) auction ≡ found
    → settled_as one history found ≡ settled_as other history found
settled-agree one other history auction None legal agree is = refl
settled-agree one other history auction (Some a) legal agree is =
    let bill : one.security a.cusip.bytes ≡ other.security a.cusip.bytes =
    agree.bills a.cusip.bytes (bill-found (announcements history) a auction is) in
    let credits = credits-agree one other history a (enrolments history) agree (IsLegal-enrolled history legal) in
    rw (bill, credits, add_on-agree (awarded_add_on history a) refl) refl
  where
    -- and the credit of the add-on
    add_on-agree : (x : Option AddOn)
        → awarded_add_on history a ≡ x
        → add_on_credits one x ≡ add_on_credits other x
    add_on-agree None same = refl
    add_on-agree (Some x) same = rw (agree.holders x.holder (awarded-known history a x legal same).holder) refl

-- and so is what a purchase moves
bought-agree : (one other : Numbering) (history : List Entry) (seller : List ℕ) (offer : ℕ) (found : Option Offer)
    → IsLegal history
    → Agree one other history
    → offer_of (offers history) seller offer ≡ found
    → bought_as one found ≡ bought_as other found
bought-agree one other history seller offer None legal agree is = refl
bought-agree one other history seller offer (Some o) legal agree is =
    let known : IsOffered history o = offer-known history seller offer o legal is in
    rw (
      agree.holders o.seller known.seller,
      agree.holders o.buyer known.buyer,
      agree.bills o.cusip.bytes known.bill,
    ) refl

-- what an accepted message moves is the same by numberings that agree
movement-agree : (one other : Numbering) (history : List Entry) (submitter : List ℕ) (number : ℕ) (moment : Moment)
    (sent : Message)
    → IsLegal history
    → Agree one other history
    → Passes history submitter number moment sent
    → movement_by one history submitter number sent ≡ movement_by other history submitter number sent
movement-agree one other history submitter number moment (message.Settle auction) legal agree passed =
    settled-agree one other history auction (announcement_of (announcements history) auction) legal agree refl
movement-agree one other history submitter number moment (message.Transfer cusip to amount) legal agree passed =
    let clear = transfer_rows-clear history submitter moment cusip to amount.value passed.rows in
    rw (
      agree.holders submitter (sender-registered history submitter
          (message.Transfer cusip to amount) passed.caller passed.permitted refl),
      agree.holders to clear.known,
      agree.bills cusip.bytes clear.bill,
    )
    refl
movement-agree one other history submitter number moment (message.Pledge cusip to amount) legal agree passed =
    let clear = transfer_rows-clear history submitter moment cusip to amount.value
    (AllByRecursion-front IsClear (par_rows history submitter moment cusip to amount.value) _ passed.rows) in
    rw (
      agree.holders submitter (sender-registered history submitter
          (message.Pledge cusip to amount) passed.caller passed.permitted refl),
      agree.holders to clear.known,
      agree.bills cusip.bytes clear.bill,
    )
    refl
movement-agree one other history submitter number moment (message.Release holder pledge amount) legal agree passed =
    rw (
      agree.holders submitter (sender-registered history submitter
          (message.Release holder pledge amount) passed.caller passed.permitted
          refl),
      agree.holders holder (mark-holder history submitter holder pledge amount.value
          (mark_of history holder pledge) legal refl passed.rows.1),
    )
    refl
movement-agree one other history submitter number moment (message.Redeem cusip) legal agree passed =
    rw (agree.bills cusip.bytes (redeem-bill history submitter moment cusip
    (bill_of (announcements history) cusip) refl passed.rows)) refl
movement-agree one other history submitter number moment (message.Buy seller offer) legal agree passed =
    bought-agree one other history seller offer (offer_of (offers history) seller offer) legal agree refl
movement-agree one other history submitter number moment other_kind legal agree passed = refl

-- so the movements are, with an accepted entry more
movements-agree-push : (history : List Entry) (entry : Entry)
    → IsLegal history
    → ((one other : Numbering) → Agree one other history → movements_by one history ≡ movements_by other history)
    → Follows history entry
    → (one other : Numbering)
    → Agree one other (history ++ entry ∷ [])
    → movements_by one (history ++ entry ∷ []) ≡ movements_by other (history ++ entry ∷ [])
movements-agree-push history entry legal so_far follows one other agree =
    let passed = accepted-passes history entry.submitter entry.number entry.moment entry.message follows.accepted in
    let front = Agree-front one other history entry agree in
    let before : movements_by one history ≡ movements_by other history = so_far one other front in
    let next : meaning_by one history entry ≡ meaning_by other history entry =
    movement-agree one other history entry.submitter entry.number entry.moment entry.message legal front passed in
    movements_of-push (meaning_by one) history entry
    ∙ (ap (λ (ms : List Movement). ms ++ option_to_list (meaning_by one history entry)) before
    ∙ (ap (λ (m : Option Movement). movements_by other history ++ option_to_list m) next
    ∙ sym (movements_of-push (meaning_by other) history entry)))

-- in every legal history
movements-agree : (history : List Entry)
    → IsLegal history
    → (one other : Numbering)
    → Agree one other history
    → movements_by one history ≡ movements_by other history
movements-agree history legal =
    by_entries (λ history. (one other : Numbering) → Agree one other history
    → movements_by one history ≡ movements_by other history)
    (λ one other agree. refl) movements-agree-push history legal

-- an entry that is accepted moves what it means on those before it, by the places in their rosters
pub movements-grow : (history : List Entry) (entry : Entry)
    → IsLegal history
    → Follows history entry
    → movements_by (numbering_of (registrations (history ++ entry ∷ [])) (announcements (history ++ entry ∷ [])))
    (history ++ entry ∷ [])
    ≡ movements_by (numbering_of (registrations history) (announcements history)) history
    ++ option_to_list (meaning_by (numbering_of (registrations history) (announcements history)) history entry)
movements-grow history entry legal follows =
    let passed = accepted-passes history entry.submitter entry.number entry.moment entry.message follows.accepted in
    let one = numbering_of (registrations (history ++ entry ∷ [])) (announcements (history ++ entry ∷ [])) in
    let other = numbering_of (registrations history) (announcements history) in
    let agree = Agree-places history entry in
    movements_of-push (meaning_by one) history entry
    ∙ (ap (λ (ms : List Movement). ms ++ option_to_list (meaning_by one history entry))
    (movements-agree history legal one other agree)
    ∙ ap (λ (m : Option Movement). movements_by other history ++ option_to_list m)
    (movement-agree one other history entry.submitter entry.number entry.moment entry.message legal agree passed))
