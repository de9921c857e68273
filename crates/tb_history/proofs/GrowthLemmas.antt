-- What one more entry adds.
use Rattle.std.proofs.Common.{refl, ◌≡◌, ℕ, Bool, true, Some, inl, inr, List, []}
use Rattle.std.proofs.Common.{◌∷◌, ◌++◌, ap, ◌∙◌, append-nil, is_some}
use Rattle.std.specs.List.{find, flat_map}
use Rattle.std.proofs.lemmas.Bool.{cases_Bool, or_left}
use Rattle.std.proofs.lemmas.Grind.{flat_map-append}
use Rattle.std.proofs.lemmas.List.Folds.{list_any-append}
use Rattle.tb_terms.specs.declared.announcement.Announcement.{Announcement}
use Rattle.tb_message.specs.declared.message.Entry.{Entry}
use Rattle.tb_history.specs.declared.roster.Enrolment.{Enrolment}
use Rattle.tb_history.specs.declared.roster.Registration.{Registration}
use Rattle.tb_history.specs.Entries.{is_same, registered_by, enrolled_by, entered_by, announced_by}
use Rattle.tb_history.specs.Entries.{published_by, settled_by, redeemed_by, bid_by, cancelled_by, reported_by}
use Rattle.tb_history.specs.Entries.{transferred_by, pledged_by, released_by, added_by, deposited_by, withdrawn_by}
use Rattle.tb_history.specs.Entries.{offered_by, purchased_by, retracted_by}
use Rattle.tb_history.specs.Roster.{registrations, enrolments, holidays, announcements, publications, settlements}
use Rattle.tb_history.specs.Roster.{redemptions, add_ons, is_under, is_enrolled, is_registered, announcement_of}
use Rattle.tb_history.specs.LiveBids.{bids, cancels, reports}
use Rattle.tb_history.specs.Holdings.{transfers, marks, releases}
use Rattle.tb_history.specs.Offers.{offers, purchases, retractions}
use Rattle.tb_history.specs.Funds.{deposits, withdrawals}
use Rattle.tb_history.specs.Moves.{has_bill}

-- what the lists say of one more entry
flat_map-snoc : {X Y : Type 0} (says : X → List Y) (xs : List X) (x : X)
    → flat_map says (xs ++ x ∷ []) ≡ flat_map says xs ++ says x
flat_map-snoc says xs x = flat_map-append says xs (x ∷ []) ∙ ap (λ ys. flat_map says xs ++ ys) (append-nil (says x))

-- a registration is told behind those before
pub registrations-snoc : (history : List Entry) (next_entry : Entry)
    → registrations (history ++ next_entry ∷ []) ≡ registrations history ++ registered_by next_entry.message
unfolding registrations
registrations-snoc history next_entry =
    flat_map-snoc (λ (entry : Entry). registered_by entry.message) history next_entry

-- and so is an enrolment
pub enrolments-snoc : (history : List Entry) (next_entry : Entry)
    → enrolments (history ++ next_entry ∷ []) ≡ enrolments history ++ enrolled_by next_entry.message
unfolding enrolments
enrolments-snoc history next_entry = flat_map-snoc (λ (entry : Entry). enrolled_by entry.message) history next_entry

-- a holiday
pub holidays-snoc : (history : List Entry) (next_entry : Entry)
    → holidays (history ++ next_entry ∷ []) ≡ holidays history ++ entered_by next_entry.message
unfolding holidays
holidays-snoc history next_entry = flat_map-snoc (λ (entry : Entry). entered_by entry.message) history next_entry

-- an announcement
pub announcements-snoc : (history : List Entry) (next_entry : Entry)
    → announcements (history ++ next_entry ∷ []) ≡ announcements history ++ announced_by next_entry.message
unfolding announcements
announcements-snoc history next_entry = flat_map-snoc (λ (entry : Entry). announced_by entry.message) history next_entry

-- a publication
pub publications-snoc : (history : List Entry) (next_entry : Entry)
    → publications (history ++ next_entry ∷ []) ≡ publications history ++ published_by next_entry.message
unfolding publications
publications-snoc history next_entry = flat_map-snoc (λ (entry : Entry). published_by entry.message) history next_entry

-- a settlement
pub settlements-snoc : (history : List Entry) (next_entry : Entry)
    → settlements (history ++ next_entry ∷ []) ≡ settlements history ++ settled_by next_entry.message
unfolding settlements
settlements-snoc history next_entry = flat_map-snoc (λ (entry : Entry). settled_by entry.message) history next_entry

-- a redemption
pub redemptions-snoc : (history : List Entry) (next_entry : Entry)
    → redemptions (history ++ next_entry ∷ []) ≡ redemptions history ++ redeemed_by next_entry.message
unfolding redemptions
redemptions-snoc history next_entry = flat_map-snoc (λ (entry : Entry). redeemed_by entry.message) history next_entry

-- a bid
pub bids-snoc : (history : List Entry) (next_entry : Entry)
    → bids (history ++ next_entry ∷ []) ≡ bids history
    ++ bid_by next_entry.submitter next_entry.number next_entry.message
unfolding bids
bids-snoc history next_entry =
    flat_map-snoc (λ (entry : Entry). bid_by entry.submitter entry.number entry.message) history next_entry

-- a cancel
pub cancels-snoc : (history : List Entry) (next_entry : Entry)
    → cancels (history ++ next_entry ∷ []) ≡ cancels history ++ cancelled_by next_entry.submitter next_entry.message
unfolding cancels
cancels-snoc history next_entry =
    flat_map-snoc (λ (entry : Entry). cancelled_by entry.submitter entry.message) history next_entry

-- a report
pub reports-snoc : (history : List Entry) (next_entry : Entry)
    → reports (history ++ next_entry ∷ []) ≡ reports history ++ reported_by next_entry.submitter next_entry.message
unfolding reports
reports-snoc history next_entry =
    flat_map-snoc (λ (entry : Entry). reported_by entry.submitter entry.message) history next_entry

-- a transfer
pub transfers-snoc : (history : List Entry) (next_entry : Entry)
    → transfers (history ++ next_entry ∷ []) ≡ transfers history
    ++ transferred_by next_entry.submitter next_entry.message
unfolding transfers
transfers-snoc history next_entry =
    flat_map-snoc (λ (entry : Entry). transferred_by entry.submitter entry.message) history next_entry

-- a pledge
pub marks-snoc : (history : List Entry) (next_entry : Entry)
    → marks (history ++ next_entry ∷ []) ≡ marks history
    ++ pledged_by next_entry.submitter next_entry.number next_entry.message
unfolding marks
marks-snoc history next_entry =
    flat_map-snoc (λ (entry : Entry). pledged_by entry.submitter entry.number entry.message) history next_entry

-- a release
pub releases-snoc : (history : List Entry) (next_entry : Entry)
    → releases (history ++ next_entry ∷ []) ≡ releases history ++ released_by next_entry.message
unfolding releases
releases-snoc history next_entry = flat_map-snoc (λ (entry : Entry). released_by entry.message) history next_entry

-- an add-on
pub add_ons-snoc : (history : List Entry) (next_entry : Entry)
    → add_ons (history ++ next_entry ∷ []) ≡ add_ons history ++ added_by next_entry.message
unfolding add_ons
add_ons-snoc history next_entry =
    flat_map-snoc (λ (entry : Entry). added_by entry.message) history next_entry

-- a deposit
pub deposits-snoc : (history : List Entry) (next_entry : Entry)
    → deposits (history ++ next_entry ∷ []) ≡ deposits history ++ deposited_by next_entry.message
unfolding deposits
deposits-snoc history next_entry =
    flat_map-snoc (λ (entry : Entry). deposited_by entry.message) history next_entry

-- a withdrawal
pub withdrawals-snoc : (history : List Entry) (next_entry : Entry)
    → withdrawals (history ++ next_entry ∷ []) ≡ withdrawals history ++ withdrawn_by next_entry.message
unfolding withdrawals
withdrawals-snoc history next_entry =
    flat_map-snoc (λ (entry : Entry). withdrawn_by entry.message) history next_entry

-- an offer
pub offers-snoc : (history : List Entry) (next_entry : Entry)
    → offers (history ++ next_entry ∷ [])
    ≡ offers history ++ offered_by next_entry.submitter next_entry.number next_entry.message
unfolding offers
offers-snoc history next_entry =
    flat_map-snoc (λ (entry : Entry). offered_by entry.submitter entry.number entry.message) history next_entry

-- a purchase
pub purchases-snoc : (history : List Entry) (next_entry : Entry)
    → purchases (history ++ next_entry ∷ [])
    ≡ purchases history ++ purchased_by next_entry.submitter next_entry.message
unfolding purchases
purchases-snoc history next_entry =
    flat_map-snoc (λ (entry : Entry). purchased_by entry.submitter entry.message) history next_entry

-- a retraction
pub retractions-snoc : (history : List Entry) (next_entry : Entry)
    → retractions (history ++ next_entry ∷ [])
    ≡ retractions history ++ retracted_by next_entry.submitter next_entry.message
unfolding retractions
retractions-snoc history next_entry =
    flat_map-snoc (λ (entry : Entry). retracted_by entry.submitter entry.message) history next_entry

-- who is registered stays so among more
pub registered-append : (one other : List Registration) (name : List ℕ)
    → is_registered one name ≡ true
    → is_registered (one ++ other) name ≡ true
registered-append one other name known =
    rw (list_any-append (λ (registration : Registration). is_same registration.submitter name) one other)
    (or_left (is_registered one name) (is_registered other name) known)

-- and so does a bill that is announced
pub has_bill-append : (one other : List Announcement) (bytes : List ℕ)
    → has_bill one bytes ≡ true
    → has_bill (one ++ other) bytes ≡ true
has_bill-append one other bytes known =
    rw (list_any-append (λ (announcement : Announcement). is_same announcement.cusip.bytes bytes) one other)
    (or_left (has_bill one bytes) (has_bill other bytes) known)

-- what is found stays found among more
pub find-append : {X : Type 0} (test : X → Bool) (xs ys : List X) (x : X)
    → find test xs ≡ Some x
    → find test (xs ++ ys) ≡ Some x
find-append test [] ys x found = cc
find-append test (y ∷ xs) ys x found =
    elim (cases_Bool (test y)) [
      | inl is ↦ let first : Some y ≡ Some x = rw is at found in rw is first
      | inr not ↦ rw not (find-append test xs ys x (rw not at found))
    ]

-- an enrolment is found among more of them too
is_under-append : (submitter : List ℕ) (test : Enrolment → Bool) (xs ys : List Enrolment)
    → is_under submitter (find test xs) ≡ true
    → is_under submitter (find test (xs ++ ys)) ≡ true
is_under-append submitter test [] ys under = cc
is_under-append submitter test (x ∷ xs) ys under =
    elim (cases_Bool (test x)) [
      | inl is ↦ let first : is_under submitter (Some x) ≡ true = rw is at under in rw is first
      | inr not ↦ let later : is_under submitter (find test xs) ≡ true = rw not at under in
          rw not (is_under-append submitter test xs ys later)
    ]

-- a bidder stays enrolled
pub is_enrolled-snoc : (history : List Entry) (entry : Entry) (bidder submitter : List ℕ)
    → is_enrolled history bidder submitter ≡ true
    → is_enrolled (history ++ entry ∷ []) bidder submitter ≡ true
is_enrolled-snoc history entry bidder submitter enrolled =
    rw (enrolments-snoc history entry) (is_under-append submitter
    (λ (enrolment : Enrolment). is_same enrolment.bidder bidder) (enrolments history)
    (enrolled_by entry.message) enrolled)

-- what is there stays there among more
pub is_some-append : {X : Type 0} (test : X → Bool) (xs ys : List X)
    → is_some (find test xs) ≡ true
    → is_some (find test (xs ++ ys)) ≡ true
is_some-append test [] ys found = cc
is_some-append test (x ∷ xs) ys found =
    elim (cases_Bool (test x)) [
      | inl is ↦ rw is refl
      | inr fails ↦
          rw fails (is_some-append test xs ys (rw fails at found))
    ]

-- an auction stays announced
pub is_announced-snoc : (history : List Entry) (entry : Entry) (auction : List ℕ)
    → is_some (announcement_of (announcements history) auction) ≡ true
    → is_some (announcement_of (announcements (history ++ entry ∷ [])) auction) ≡ true
is_announced-snoc history entry auction announced =
    rw (announcements-snoc history entry) (is_some-append
    (λ (announcement : Announcement). is_same announcement.auction auction) (announcements history)
    (announced_by entry.message) announced)
