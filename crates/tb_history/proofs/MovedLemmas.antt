-- What the entries of a history move is what the history says of accounts.
use Rattle.std.proofs.Common.{◌≡◌, ℕ, ◌+◌, ◌==◌, ◌&&◌, Bool, true, false, cond, Option, Some, None, inl}
use Rattle.std.proofs.Common.{inr, List, [], ◌∷◌, ◌++◌, map, sum_by, refl, sym, ap, ◌∙◌, arith}
use Rattle.std.specs.Prelude.{filter_map, option_to_list}
use Rattle.std.specs.List.{filter, list_any}
use Rattle.std.proofs.lemmas.Bool.{cases_Bool, both_ways, eqb-true, eq-eqb, false_from_ne_true}
use Rattle.std.proofs.lemmas.List.Elements.{filter-append}
use Rattle.std.proofs.lemmas.List.Sums.{sum_by-cons, sum_by-append}
use Rattle.tb_units.proofs.SumLemmas.{sum_by-filter-cons}
use Rattle.tb_terms.specs.declared.announcement.Announcement.{Announcement}
use Rattle.tb_terms.specs.declared.cusip.Cusip.{Cusip}
use Rattle.tb_movements.specs.Movements.{Credit, brought, taken, issues, redeems, credited_in_all}
use Rattle.tb_movements.specs.Movements.{credited_to as credit_sum}
use Rattle.tb_movements.specs.Marks.{mark_made, releases as releases_of}
use Rattle.tb_message.specs.declared.message.Entry.{Entry}
use Rattle.tb_message.specs.declared.message.Message.{Message}
use Rattle.tb_message.specs.declared.message.Message.TheVariants as message
use Rattle.tb_history.specs.declared.roster.Enrolment.{Enrolment}
use Rattle.tb_history.specs.declared.accounts.Transfer.{Transfer}
use Rattle.tb_history.specs.declared.accounts.Release.{Release}
use Rattle.tb_history.specs.declared.accounts.Offer.{Offer}
use Rattle.tb_history.specs.declared.accounts.AddOn.{AddOn}
use Rattle.tb_history.specs.Entries.{is_same, redeemed_by, transferred_by, pledged_by, released_by}
use Rattle.tb_history.specs.Roster.{enrolments, announcements, announcement_of, is_redeemed}
use Rattle.tb_history.specs.Holdings.{award_in, awards_of, awarded_add_on, par_added, transfers, received_by, sent_from}
use Rattle.tb_history.specs.Offers.{offers, offer_of}
use Rattle.tb_history.specs.Moves.{Numbering, credit_of, add_on_credits, credits_of, settled_as, bought_as}
use Rattle.tb_history.specs.Moves.{movement_by, IsNumbered, IsBillNumbered, as_moved}
use Rattle.tb_history.proofs.GrowthLemmas.{transfers-snoc}
use Rattle.tb_history.proofs.CreditedLemmas.{awards_among, newly_of, newly_settled}

-- an amount, where a test passes
one_kept : {X : Type 0} (f : X → ℕ) (b : Bool) (x : X) → 0 + cond b (f x) 0 ≡ sum_by f (cond b (x ∷ []) [])
one_kept f true x = refl
one_kept f false x = refl

-- nothing before a number
before_none : (x : ℕ) → x ≡ 0 + x
before_none x = omega arith

-- or behind it
behind_none : (x : ℕ) → x ≡ x + 0
behind_none x = omega arith

-- the par of an offer
abbrev pub offered_par : Offer → ℕ
offered_par o = o.amount.value

-- the offer is the participant's, of the bill
abbrev pub is_sold_by : List ℕ → Cusip → Offer → Bool
is_sold_by participant cusip o = is_same o.seller participant && is_same o.cusip.bytes cusip.bytes

-- or is made to it
abbrev pub is_bought_by : List ℕ → Cusip → Offer → Bool
is_bought_by participant cusip o = is_same o.buyer participant && is_same o.cusip.bytes cusip.bytes

-- the offer that a message buys
abbrev pub newly_sold : List Entry → Message → List Offer
newly_sold history (message.Buy seller offer) = option_to_list (offer_of (offers history) seller offer)
newly_sold history other = []

-- the par of a transfer, a pledge or a release
abbrev pub transferred : Transfer → ℕ
transferred t = t.amount.value

-- the transfer goes to the participant, or comes from it
abbrev pub goes_to : List ℕ → Cusip → Transfer → Bool
goes_to participant cusip t = is_same t.to participant && is_same t.cusip.bytes cusip.bytes

-- the transfer comes from the participant
abbrev pub comes_from : List ℕ → Cusip → Transfer → Bool
comes_from participant cusip t = is_same t.from participant && is_same t.cusip.bytes cusip.bytes

-- what one more entry sends and brings
pub sent-push : (history : List Entry) (entry : Entry) (participant : List ℕ) (cusip : Cusip)
    → sent_from (history ++ entry ∷ []) participant cusip
    ≡ sent_from history participant cusip + sum_by transferred
    (filter (comes_from participant cusip) (transferred_by entry.submitter entry.message))
sent-push history entry participant cusip =
    let test = comes_from participant cusip in
    ap (λ (xs : List Transfer). sum_by transferred (filter test xs)) (transfers-snoc history entry)
    ∙ (ap (sum_by transferred) (filter-append test (transfers history) (transferred_by entry.submitter entry.message))
    ∙ sum_by-append transferred (filter test (transfers history))
    (filter test (transferred_by entry.submitter entry.message)))

-- and brings
pub received-push : (history : List Entry) (entry : Entry) (participant : List ℕ) (cusip : Cusip)
    → received_by (history ++ entry ∷ []) participant cusip
    ≡ received_by history participant cusip + sum_by transferred
    (filter (goes_to participant cusip) (transferred_by entry.submitter entry.message))
received-push history entry participant cusip =
    let test = goes_to participant cusip in
    ap (λ (xs : List Transfer). sum_by transferred (filter test xs)) (transfers-snoc history entry)
    ∙ (ap (sum_by transferred) (filter-append test (transfers history) (transferred_by entry.submitter entry.message))
    ∙ sum_by-append transferred (filter test (transfers history))
    (filter test (transferred_by entry.submitter entry.message)))

-- a movement of a message takes what the message sends
settled-takes : (numbers : Numbering) (history : List Entry) (found : Option Announcement) (holder security : ℕ)
    → sum_by (taken holder security) (option_to_list (settled_as numbers history found)) ≡ 0
settled-takes numbers history None holder security = refl
settled-takes numbers history (Some a) holder security = refl

-- a purchase takes from the seller
bought-takes : (numbers : Numbering) (found : Option Offer) (participant : List ℕ) (cusip : Cusip)
    → IsNumbered numbers participant
    → IsBillNumbered numbers cusip.bytes
    → sum_by (taken (numbers.holder participant) (numbers.security cusip.bytes))
    (option_to_list (bought_as numbers found))
    ≡ 0 + sum_by offered_par (filter (is_sold_by participant cusip) (option_to_list found))
bought-takes numbers None participant cusip own bills = refl
bought-takes numbers (Some o) participant cusip own bills =
    rw (own o.seller, bills o.cusip.bytes) (one_kept offered_par (is_sold_by participant cusip o) o ∙ before_none _)

-- and brings to the buyer
bought-brings : (numbers : Numbering) (found : Option Offer) (participant : List ℕ) (cusip : Cusip)
    → IsNumbered numbers participant
    → IsBillNumbered numbers cusip.bytes
    → sum_by (brought (numbers.holder participant) (numbers.security cusip.bytes))
    (option_to_list (bought_as numbers found))
    ≡ 0 + (0 + sum_by offered_par (filter (is_bought_by participant cusip) (option_to_list found)))
bought-brings numbers None participant cusip own bills = refl
bought-brings numbers (Some o) participant cusip own bills =
    rw (own o.buyer, bills o.cusip.bytes)
    (one_kept offered_par (is_bought_by participant cusip o) o ∙ (before_none _ ∙ before_none _))

-- it issues nothing
bought-issues : (numbers : Numbering) (found : Option Offer) (security : ℕ)
    → sum_by (issues security) (option_to_list (bought_as numbers found)) ≡ 0
bought-issues numbers None security = refl
bought-issues numbers (Some o) security = refl

-- redeems nothing
bought-redeems : (numbers : Numbering) (found : Option Offer) (security : ℕ)
    → list_any (redeems security) (option_to_list (bought_as numbers found)) ≡ false
bought-redeems numbers None security = refl
bought-redeems numbers (Some o) security = refl

-- makes no pledge
bought-marks : (numbers : Numbering) (found : Option Offer)
    → filter_map mark_made (option_to_list (bought_as numbers found)) ≡ []
bought-marks numbers None = refl
bought-marks numbers (Some o) = refl

-- and releases nothing
bought-releases : (numbers : Numbering) (found : Option Offer) (holder number : ℕ)
    → sum_by (releases_of holder number) (option_to_list (bought_as numbers found)) ≡ 0
bought-releases numbers None holder number = refl
bought-releases numbers (Some o) holder number = refl

-- whatever the message is
pub taken-message : (numbers : Numbering) (history : List Entry) (submitter : List ℕ) (number : ℕ) (sent : Message)
    (participant : List ℕ) (cusip : Cusip)
    → IsNumbered numbers participant
    → IsBillNumbered numbers cusip.bytes
    → sum_by (taken (numbers.holder participant) (numbers.security cusip.bytes))
    (option_to_list (movement_by numbers history submitter number sent))
    ≡ sum_by transferred (filter (comes_from participant cusip) (transferred_by submitter sent))
    + sum_by offered_par (filter (is_sold_by participant cusip) (newly_sold history sent))
taken-message numbers history submitter number (message.Transfer bill to amount) participant cusip own bills =
    rw (own submitter, bills bill.bytes)
    (one_kept transferred (is_same submitter participant && is_same bill.bytes cusip.bytes)
    (record { from = submitter; to = to; cusip = bill; amount = amount })
    ∙ behind_none _)
taken-message numbers history submitter number (message.Settle auction) participant cusip own bills =
    settled-takes numbers history (announcement_of (announcements history) auction) (numbers.holder participant)
    (numbers.security cusip.bytes)
taken-message numbers history submitter number (message.Buy seller offer) participant cusip own bills =
    bought-takes numbers (offer_of (offers history) seller offer) participant cusip own bills
taken-message numbers history submitter number other participant cusip own bills = refl

-- the credits of a settlement are the awards of the participant's bidders
credits-own : (numbers : Numbering) (history : List Entry) (announcement : Announcement) (participant : List ℕ)
    (enrolled : List Enrolment)
    → IsNumbered numbers participant
    → credit_sum (numbers.holder participant) (map (credit_of numbers history announcement) enrolled)
    ≡ awards_of history (filter (λ (enrolment : Enrolment). is_same enrolment.submitter participant) enrolled)
    announcement
credits-own numbers history announcement participant [] own = refl
credits-own numbers history announcement participant (e ∷ enrolled) own =
    let par : Credit → ℕ = λ (credit : Credit). credit.par in
    let theirs : Credit → Bool = λ (credit : Credit). numbers.holder participant == credit.holder in
    let award : Enrolment → ℕ = λ (enrolment : Enrolment). award_in history announcement enrolment.bidder in
    let test : Enrolment → Bool = λ (enrolment : Enrolment). is_same enrolment.submitter participant in
    let left = sum_by-filter-cons par theirs (credit_of numbers history announcement e)
    (map (credit_of numbers history announcement) enrolled) in
    let right = sum_by-filter-cons award test e enrolled in
    let same : cond (theirs (credit_of numbers history announcement e)) (award e) 0 ≡ cond (test e) (award e) 0 =
    ap (λ b. cond b (award e) 0) (own e.submitter) in
    left ∙ (omega (arith, same, credits-own numbers history announcement participant enrolled own) ∙ sym right)

-- and all of them are all awards
credits-all : (numbers : Numbering) (history : List Entry) (announcement : Announcement) (enrolled : List Enrolment)
    → credited_in_all (map (credit_of numbers history announcement) enrolled)
    ≡ awards_of history (filter (λ (enrolment : Enrolment). true) enrolled) announcement
credits-all numbers history announcement [] = refl
credits-all numbers history announcement (e ∷ enrolled) =
    let par : Credit → ℕ = λ (credit : Credit). credit.par in
    let award : Enrolment → ℕ = λ (enrolment : Enrolment). award_in history announcement enrolment.bidder in
    let left = sum_by-cons par (credit_of numbers history announcement e)
    (map (credit_of numbers history announcement) enrolled) in
    let right = sum_by-cons award e (filter (λ (enrolment : Enrolment). true) enrolled) in
    left ∙ (ap (λ enrolment. award e + enrolment) (credits-all numbers history announcement enrolled) ∙ sym right)

-- the credit of an add-on is its par, for its holder
add_on-own : (numbers : Numbering) (found : Option AddOn) (participant : List ℕ)
    → IsNumbered numbers participant
    → credit_sum (numbers.holder participant) (add_on_credits numbers found)
    ≡ par_added (λ name. is_same name participant) found
add_on-own numbers None participant own = refl
add_on-own numbers (Some x) participant own =
    rw (own x.holder)
    (sym (one_kept (λ (credit : Credit). credit.par) (is_same x.holder participant)
    (record { holder = numbers.holder x.holder; par = x.amount.value }))
    ∙ sym (before_none _))

-- and in all its par
add_on-all : (numbers : Numbering) (found : Option AddOn)
    → credited_in_all (add_on_credits numbers found) ≡ par_added (λ name. true) found
add_on-all numbers None = refl
add_on-all numbers (Some x) = omega arith

-- credits behind others
credit_sum-append : (holder : ℕ) (one other : List Credit)
    → credit_sum holder (one ++ other) ≡ credit_sum holder one + credit_sum holder other
credit_sum-append holder one other =
    let theirs : Credit → Bool = λ (credit : Credit). holder == credit.holder in
    ap (sum_by (λ (credit : Credit). credit.par)) (filter-append theirs one other)
    ∙ sum_by-append (λ (credit : Credit). credit.par) (filter theirs one) (filter theirs other)

-- a settlement credits a participant with its awards and its add-on
settled-own : (numbers : Numbering) (history : List Entry) (a : Announcement) (participant : List ℕ)
    → IsNumbered numbers participant
    → credit_sum (numbers.holder participant) (credits_of numbers history a)
    ≡ awards_among (λ name. is_same name participant) history a
settled-own numbers history a participant own =
    omega (
      arith,
      credit_sum-append (numbers.holder participant) (map (credit_of numbers history a) (enrolments history))
          (add_on_credits numbers (awarded_add_on history a)),
      credits-own numbers history a participant (enrolments history) own,
      add_on-own numbers (awarded_add_on history a) participant own,
    )

-- and all of them with all
settled-all : (numbers : Numbering) (history : List Entry) (a : Announcement)
    → credited_in_all (credits_of numbers history a) ≡ awards_among (λ name. true) history a
settled-all numbers history a =
    omega (
      arith,
      sum_by-append (λ (credit : Credit). credit.par) (map (credit_of numbers history a) (enrolments history))
          (add_on_credits numbers (awarded_add_on history a)),
      credits-all numbers history a (enrolments history),
      add_on-all numbers (awarded_add_on history a),
    )

-- a movement of a message brings what the message settles and transfers
settled-brings : (numbers : Numbering) (history : List Entry) (found : Option Announcement) (participant : List ℕ)
    (cusip : Cusip)
    → IsNumbered numbers participant
    → IsBillNumbered numbers cusip.bytes
    → sum_by (brought (numbers.holder participant) (numbers.security cusip.bytes))
    (option_to_list (settled_as numbers history found))
    ≡ newly_of (λ name. is_same name participant) history cusip found + 0
settled-brings numbers history None participant cusip own bills = refl
settled-brings numbers history (Some a) participant cusip own bills =
    rw (bills a.cusip.bytes, settled-own numbers history a participant own) (omega arith)

-- whatever the message is
pub brought-message : (numbers : Numbering) (history : List Entry) (submitter : List ℕ) (number : ℕ) (sent : Message)
    (participant : List ℕ) (cusip : Cusip)
    → IsNumbered numbers participant
    → IsBillNumbered numbers cusip.bytes
    → sum_by (brought (numbers.holder participant) (numbers.security cusip.bytes))
    (option_to_list (movement_by numbers history submitter number sent))
    ≡ newly_settled (λ name. is_same name participant) history cusip sent
    + (sum_by transferred (filter (goes_to participant cusip) (transferred_by submitter sent))
    + sum_by offered_par (filter (is_bought_by participant cusip) (newly_sold history sent)))
brought-message numbers history submitter number (message.Transfer bill to amount) participant cusip own bills =
    rw (own to, bills bill.bytes)
    (one_kept transferred (is_same to participant && is_same bill.bytes cusip.bytes)
    (record { from = submitter; to = to; cusip = bill; amount = amount })
    ∙ (behind_none _ ∙ before_none _))
brought-message numbers history submitter number (message.Settle auction) participant cusip own bills =
    settled-brings numbers history (announcement_of (announcements history) auction) participant cusip own bills
brought-message numbers history submitter number (message.Buy seller offer) participant cusip own bills =
    bought-brings numbers (offer_of (offers history) seller offer) participant cusip own bills
brought-message numbers history submitter number other participant cusip own bills = refl

-- it issues what the message settles
settled-issues : (numbers : Numbering) (history : List Entry) (found : Option Announcement) (cusip : Cusip)
    → IsBillNumbered numbers cusip.bytes
    → sum_by (issues (numbers.security cusip.bytes)) (option_to_list (settled_as numbers history found))
    ≡ newly_of (λ name. true) history cusip found
settled-issues numbers history None cusip bills = refl
settled-issues numbers history (Some a) cusip bills =
    rw (bills a.cusip.bytes, settled-all numbers history a) (omega arith)

-- whatever the message is
pub issues-message : (numbers : Numbering) (history : List Entry) (submitter : List ℕ) (number : ℕ) (sent : Message)
    (cusip : Cusip)
    → IsBillNumbered numbers cusip.bytes
    → sum_by (issues (numbers.security cusip.bytes)) (option_to_list
    (movement_by numbers history submitter number sent))
    ≡ newly_settled (λ name. true) history cusip sent
issues-message numbers history submitter number (message.Settle auction) cusip bills =
    settled-issues numbers history (announcement_of (announcements history) auction) cusip bills
issues-message numbers history submitter number (message.Buy seller offer) cusip bills =
    bought-issues numbers (offer_of (offers history) seller offer) (numbers.security cusip.bytes)
issues-message numbers history submitter number other cusip bills = refl

-- it redeems what the message redeems
settled-redeems : (numbers : Numbering) (history : List Entry) (found : Option Announcement) (security : ℕ)
    → list_any (redeems security) (option_to_list (settled_as numbers history found)) ≡ false
settled-redeems numbers history None security = refl
settled-redeems numbers history (Some a) security = refl

-- whatever the message is
pub redeems-message : (numbers : Numbering) (history : List Entry) (submitter : List ℕ) (number : ℕ) (sent : Message)
    (cusip : Cusip)
    → IsBillNumbered numbers cusip.bytes
    → list_any (redeems (numbers.security cusip.bytes))
    (option_to_list (movement_by numbers history submitter number sent))
    ≡ is_redeemed (redeemed_by sent) cusip
redeems-message numbers history submitter number (message.Redeem bill) cusip bills = rw (bills bill.bytes) refl
redeems-message numbers history submitter number (message.Settle auction) cusip bills =
    settled-redeems numbers history (announcement_of (announcements history) auction) (numbers.security cusip.bytes)
redeems-message numbers history submitter number (message.Buy seller offer) cusip bills =
    bought-redeems numbers (offer_of (offers history) seller offer) (numbers.security cusip.bytes)
redeems-message numbers history submitter number other cusip bills = refl

-- a settlement makes no pledge
settled-marks : (numbers : Numbering) (history : List Entry) (found : Option Announcement)
    → filter_map mark_made (option_to_list (settled_as numbers history found)) ≡ []
settled-marks numbers history None = refl
settled-marks numbers history (Some a) = refl

-- a movement of a message makes the pledge that the message does
pub marks-message : (numbers : Numbering) (history : List Entry) (submitter : List ℕ) (number : ℕ) (sent : Message)
    → filter_map mark_made (option_to_list (movement_by numbers history submitter number sent))
    ≡ map (as_moved numbers) (pledged_by submitter number sent)
marks-message numbers history submitter number (message.Settle auction) =
    settled-marks numbers history (announcement_of (announcements history) auction)
marks-message numbers history submitter number (message.Pledge cusip to amount) = refl
marks-message numbers history submitter number (message.Buy seller offer) =
    bought-marks numbers (offer_of (offers history) seller offer)
marks-message numbers history submitter number other = refl

-- the release is of the holder's pledge of this number
abbrev pub is_release_of : List ℕ → ℕ → Release → Bool
is_release_of holder number r = is_same r.holder holder && (r.pledge == number)

-- a settlement releases nothing
settled-releases : (numbers : Numbering) (history : List Entry) (found : Option Announcement) (holder number : ℕ)
    → sum_by (releases_of holder number) (option_to_list (settled_as numbers history found)) ≡ 0
settled-releases numbers history None holder number = refl
settled-releases numbers history (Some a) holder number = refl

-- numbers are the same either way round
eqb_flip : (a b : ℕ) → (a == b) ≡ (b == a)
eqb_flip a b =
    elim (cases_Bool (a == b)) [
      | inl is ↦ is ∙ sym (eq-eqb b a (sym (eqb-true a b is)))
      | inr isnt ↦ isnt ∙ sym (false_from_ne_true _
          (λ back. both_ways (a == b) isnt (eq-eqb a b (sym (eqb-true b a back)))))
    ]

-- a movement of a message releases what the message does
pub releases-message : (numbers : Numbering) (history : List Entry) (submitter : List ℕ) (n : ℕ) (sent : Message)
    (holder : List ℕ) (number : ℕ)
    → IsNumbered numbers holder
    → sum_by (releases_of (numbers.holder holder) number)
    (option_to_list (movement_by numbers history submitter n sent))
    ≡ sum_by (λ (r : Release). r.amount.value) (filter (is_release_of holder number) (released_by sent))
releases-message numbers history submitter n (message.Release of pledge amount) holder number own =
    rw (own of, eqb_flip number pledge)
    (one_kept (λ (r : Release). r.amount.value) (is_same of holder && (pledge == number))
    (record { holder = of; pledge = pledge; amount = amount }))
releases-message numbers history submitter n (message.Settle auction) holder number own =
    settled-releases numbers history (announcement_of (announcements history) auction) (numbers.holder holder) number
releases-message numbers history submitter n (message.Buy seller offer) holder number own =
    bought-releases numbers (offer_of (offers history) seller offer) (numbers.holder holder) number
releases-message numbers history submitter n other holder number own = refl
