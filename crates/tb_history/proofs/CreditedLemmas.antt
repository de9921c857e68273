-- What settlements credit, and how it grows with a history.
use Rattle.std.proofs.Common.{◌≡◌, ◌≢◌, ℕ, ◌+◌, suc, ◌&&◌, ◌||◌, Bool, true, false, cond, Option, Some, None, is_some}
use Rattle.std.proofs.Common.{inl, inr, List, [], ◌∷◌, ◌++◌, sum_by, All, refl, sym, ap, ◌∙◌, subst, arith, append-nil}
use Rattle.std.specs.List.{AllByRecursion, filter}
use Rattle.std.proofs.lemmas.Bool.{cases_Bool, both_ways, false_from_ne_true}
use Rattle.std.proofs.lemmas.List.Elements.{filter-append}
use Rattle.std.proofs.lemmas.List.Folds.{list_any-append}
use Rattle.std.proofs.lemmas.List.Sums.{sum_by-cons, sum_by-append}
use Rattle.tb_units.specs.declared.moment.Moment.{Moment}
use Rattle.tb_units.proofs.ListLemmas.{AllPairs-head, AllPairs-tail}
use Rattle.tb_units.proofs.SumLemmas.{sum_by-filter, sum_by_agree}
use Rattle.tb_terms.specs.declared.announcement.Announcement.{Announcement}
use Rattle.tb_terms.specs.declared.cusip.Cusip.{Cusip}
use Rattle.tb_message.specs.declared.message.Entry.{Entry}
use Rattle.tb_message.specs.declared.message.Message.{Message}
use Rattle.tb_message.specs.declared.message.Message.TheVariants as message
use Rattle.tb_history.specs.declared.roster.Enrolment.{Enrolment}
use Rattle.tb_history.specs.declared.bids.Bid.{Bid}
use Rattle.tb_history.specs.Entries.{is_same, enrolled_by, announced_by, settled_by}
use Rattle.tb_history.specs.Roster.{enrolments, announcements, settlements, announcement_of}
use Rattle.tb_history.specs.Roster.{is_of_bill, is_named, is_settled, is_published}
use Rattle.tb_history.specs.LiveBids.{par_of, noncompetitive_in}
use Rattle.tb_history.specs.Tables.{rows_of}
use Rattle.tb_history.specs.Legal.{IsLegal, Follows}
use Rattle.tb_history.specs.Awarded.{Bidding, rates, recognised_for, stop_of, percent_of, award_at}
use Rattle.tb_history.specs.Awarded.{awards_under, noncompetitive_of, awarded}
use Rattle.tb_history.specs.Holdings.{bidding_in, award_in, settled_auctions, awards_of, awarded_add_on, par_added}
use Rattle.tb_history.specs.Holdings.{credited_to, issued}
use Rattle.tb_history.proofs.PartLemmas.{AllByRecursion-weaker, AllByRecursion-filter}
use Rattle.tb_history.proofs.SameLemmas.{is_same-equal, is_same-sym}
use Rattle.tb_history.proofs.GrowthLemmas.{enrolments-snoc, announcements-snoc, settlements-snoc}
use Rattle.tb_history.proofs.AcceptedLemmas.{IsClear, accepted-passes}
use Rattle.tb_history.proofs.ClosedLemmas.{IsClosed, published-closed, named-in}
use Rattle.tb_history.proofs.StableLemmas.{IsSilent, IsClosed-steady, recognised-silent}
use Rattle.tb_history.proofs.StableLemmas.{silent-unknown, filter-none, or_false}
use Rattle.tb_history.proofs.LengthLemmas.{sum_by_plus}
use Rattle.tb_history.proofs.GridLemmas.{sum_under_none}
use Rattle.tb_history.proofs.AwardFigureLemmas.{award_cell, award_cell-zero}
use Rattle.tb_history.proofs.SettledLemmas.{HaveNames, IsLegal-names, settled_by-published, settled-closed}

-- a silent bidder is awarded nothing
award_at-silent : (bidding : Bidding) (bidder : List ℕ) (steps : ℕ)
    → IsSilent bidding bidder
    → award_at bidding bidder steps ≡ 0
award_at-silent bidding bidder steps silent =
    let none : recognised_for bidding bidder steps ≡ 0 =
    omega (
      arith,
      recognised-silent bidding bidder (suc steps)
          silent,
      recognised-silent bidding bidder steps silent,
    ) in
    ap (award_cell (stop_of bidding) (percent_of bidding) steps) none
    ∙ award_cell-zero (stop_of bidding) (percent_of bidding) steps

-- at any rate
awards_under-silent : (bidding : Bidding) (bidder : List ℕ)
    → IsSilent bidding bidder
    → awards_under bidding bidder rates ≡ 0
unfolding awards_under
awards_under-silent bidding bidder silent =
    sum_under_none (award_at bidding bidder) rates (λ steps below. award_at-silent bidding bidder steps silent)

-- and has no noncompetitive bid
noncompetitive-silent : (bidding : Bidding) (bidder : List ℕ)
    → IsSilent bidding bidder
    → noncompetitive_of bidding bidder ≡ 0
noncompetitive-silent bidding bidder silent =
    let test : Bid → Bool = λ (bid : Bid). is_same bid.bidder bidder in
    ap par_of (filter-none test (noncompetitive_in bidding.live)
    (AllByRecursion-filter (λ bid. test bid ≡ false) _ bidding.live
    (AllByRecursion-weaker _ _ (λ bid apart kind. apart) bidding.live silent)))

-- so it has no award
pub awarded-silent : (bidding : Bidding) (bidder : List ℕ) → IsSilent bidding bidder → awarded bidding bidder ≡ 0
unfolding awarded
awarded-silent bidding bidder silent =
    rw (awards_under-silent bidding bidder silent, noncompetitive-silent bidding bidder silent) (either _)
  where
    -- either way nothing
    either : (b : Bool) → ◌≡◌ {A = ℕ} (cond b 0 0) 0
    either true = refl
    either false = refl

-- the bidder's submitter passes a test
abbrev pub is_among : (List ℕ → Bool) → Enrolment → Bool
is_among test e = test e.submitter

-- the awards of those bidders whose submitters pass a test, and the add-on of such a holder
abbrev pub awards_among : (List ℕ → Bool) → List Entry → Announcement → ℕ
awards_among test h a =
    awards_of h (filter (is_among test) (enrolments h)) a + par_added test (awarded_add_on h a)

-- a bidder that an accepted message enrols has no award in an announced auction
new-award : (history : List Entry) (announcement : Announcement) (sender : List ℕ) (moment : Moment) (sent : Message)
    (test : Enrolment → Bool)
    → IsLegal history
    → AllByRecursion IsClear (rows_of history sender moment sent)
    → sum_by (λ (enrolment : Enrolment). award_in history announcement enrolment.bidder)
    (filter test (enrolled_by sent)) ≡ 0
new-award history announcement sender moment (message.Enrol bidder submitter) test legal clear =
    let n : Enrolment = record { bidder = bidder; submitter = submitter } in
    let none : award_in history announcement bidder ≡ 0 =
    awarded-silent (bidding_in history announcement) bidder
    (silent-unknown history announcement bidder legal clear.1.0) in
    elim (cases_Bool (test n)) [ inl is ↦ rw is (omega (arith, none)) | inr isnt ↦ rw isnt refl ]
new-award history announcement sender moment other test legal clear = refl

-- awards in a closed auction stay
bidders_among-push : (test : Enrolment → Bool) (history : List Entry) (entry : Entry) (announcement : Announcement)
    → IsLegal history
    → Follows history entry
    → IsClosed history announcement.auction
    → awards_of (history ++ entry ∷ []) (filter test (enrolments (history ++ entry ∷ []))) announcement
    ≡ awards_of history (filter test (enrolments history)) announcement
bidders_among-push test history entry announcement legal follows closed =
    let passed = accepted-passes history entry.submitter entry.number entry.moment entry.message follows.accepted in
    let steady = IsClosed-steady history entry announcement legal follows closed in
    let now : Enrolment → ℕ =
    λ (enrolment : Enrolment). award_in (history ++ entry ∷ []) announcement enrolment.bidder in
    let before : Enrolment → ℕ = λ (enrolment : Enrolment). award_in history announcement enrolment.bidder in
    let all = filter test (enrolments history ++ enrolled_by entry.message) in
    ap (λ (xs : List Enrolment). sum_by now (filter test xs)) (enrolments-snoc history entry)
    ∙ (sum_by_agree now before all (λ enrolment. steady.awards enrolment.bidder)
    ∙ (ap (sum_by before) (filter-append test (enrolments history) (enrolled_by entry.message))
    ∙ (sum_by-append before (filter test (enrolments history)) (filter test (enrolled_by entry.message))
    ∙ omega (arith, new-award history announcement entry.submitter entry.moment entry.message test legal passed.rows))))

-- and so does the add-on
awards_among-push : (test : List ℕ → Bool) (history : List Entry) (entry : Entry) (announcement : Announcement)
    → IsLegal history
    → Follows history entry
    → IsClosed history announcement.auction
    → awards_among test (history ++ entry ∷ []) announcement ≡ awards_among test history announcement
awards_among-push test history entry announcement legal follows closed =
    omega (
      arith,
      bidders_among-push (is_among test) history entry announcement legal follows closed,
      ap (par_added test) (IsClosed-steady history entry announcement legal follows closed).add_on,
    )

-- what settlements of the bill credit those bidders
pub par_settled : (List ℕ → Bool) → List Entry → Cusip → ℕ
par_settled test h cusip = sum_by (awards_among test h) (settled_auctions h cusip)

-- a value of what is found, and nothing where nothing is
abbrev pub value_in : (Announcement → ℕ) → Option Announcement → ℕ
value_in value None = 0
value_in value (Some a) = value a

-- what a settlement of the auction that is found credits them
abbrev pub newly_of : (List ℕ → Bool) → List Entry → Cusip → Option Announcement → ℕ
newly_of test h cusip None = 0
newly_of test h cusip (Some a) = cond (is_of_bill cusip a) (awards_among test h a) 0

-- what a message settles
abbrev pub newly_settled : (List ℕ → Bool) → List Entry → Cusip → Message → ℕ
newly_settled test h cusip (message.Settle auction) = newly_of test h cusip (announcement_of (announcements h) auction)
newly_settled test h cusip other = 0

-- names are the same either way round
pub flipped : (one other : List ℕ) → is_same one other ≡ is_same other one
flipped one other =
    elim (cases_Bool (is_same one other)) [
      | inl is ↦ is ∙ sym (is_same-sym one other is)
      | inr isnt ↦ isnt ∙ sym (false_from_ne_true _
          (λ back. both_ways (is_same one other) isnt (is_same-sym other one back)))
    ]

-- no auction of another name counts
other-names : (announced : List Announcement) (name : List ℕ) (value : Announcement → ℕ)
    → All (λ (announcement : Announcement). name ≢ announcement.auction) announced
    → sum_by (λ (announcement : Announcement). cond (is_same announcement.auction name) (value announcement) 0)
    announced ≡ 0
other-names [] name value apart = refl
other-names (a ∷ announced) name value apart =
    let f : Announcement → ℕ =
    λ (announcement : Announcement). cond (is_same announcement.auction name) (value announcement) 0 in
    let isnt : is_same a.auction name ≡ false =
    false_from_ne_true _ (λ is. apart 0 a (omega arith) (sym (is_same-equal a.auction name is))) in
    let here : f a ≡ 0 = rw isnt refl in
    omega (
      arith,
      sum_by-cons f a announced,
      here,
      other-names announced name value
          (λ k d below. apart (suc k) d (omega (arith, below))),
    )

-- an auction that is found counts once
found-sum : (announced : List Announcement) (name : List ℕ) (value : Announcement → ℕ)
    → HaveNames announced
    → sum_by (λ (announcement : Announcement). cond (is_same announcement.auction name) (value announcement) 0)
    announced
    ≡ value_in value (announcement_of announced name)
found-sum [] name value names = refl
found-sum (a ∷ announced) name value names =
    let f : Announcement → ℕ =
    λ (announcement : Announcement). cond (is_same announcement.auction name) (value announcement) 0 in
    let R : Announcement → Announcement → Type 0 = λ (one other : Announcement). one.auction ≢ other.auction in
    elim (cases_Bool (is_same a.auction name)) [
      | inl is ↦
          let same : a.auction ≡ name = is_same-equal a.auction name is in
          let apart : All (λ (announcement : Announcement). name ≢ announcement.auction) announced =
          subst (λ (n : List ℕ). All (λ (announcement : Announcement). n ≢ announcement.auction) announced) same
          (AllPairs-head R a announced names) in
          let here : f a ≡ value a = rw is refl in
          let found : announcement_of (a ∷ announced) name ≡ Some a = rw is refl in
          let whole : sum_by f (a ∷ announced) ≡ value a =
          omega (arith, sum_by-cons f a announced, here, other-names announced name value apart) in
          whole ∙ sym (ap (value_in value) found)
      | inr isnt ↦
          let here : f a ≡ 0 = rw isnt refl in
          let found : announcement_of (a ∷ announced) name ≡ announcement_of announced name = rw isnt refl in
          let whole : sum_by f (a ∷ announced) ≡ sum_by f announced = omega (arith, sum_by-cons f a announced, here) in
          whole ∙ (found-sum announced name value (AllPairs-tail R a announced names) ∙ sym (ap (value_in value) found))
    ]

-- what an accepted settlement adds to an auction that was announced
abbrev pub part_of : (List ℕ → Bool) → List Entry → Cusip → Announcement → ℕ
part_of test h cusip a = cond (is_of_bill cusip a && is_settled h a.auction) (awards_among test h a) 0

-- what an accepted settlement adds to an auction's part
abbrev pub added_to : (List ℕ → Bool) → List Entry → Cusip → Message → Announcement → ℕ
added_to test h cusip m a =
    cond (is_named (settled_by m) a.auction) (cond (is_of_bill cusip a) (awards_among test h a) 0) 0

-- by whether the auction was settled, and whether it is settled now
parts : (bill old new : Bool) (before now : ℕ)
    → (old ≡ true → new ≡ false)
    → (old ≡ true → now ≡ before)
    → (new ≡ true → now ≡ before)
    → cond (bill && (old || new)) now 0 ≡ cond (bill && old) before 0 + cond new (cond bill before 0) 0
parts true true true before now apart stays newly = absurd (let wrong : true ≡ false = apart refl in cc)
parts true true false before now apart stays newly = omega (arith, stays refl)
parts true false true before now apart stays newly = omega (arith, newly refl)
parts true false false before now apart stays newly = refl
parts false true true before now apart stays newly = refl
parts false true false before now apart stays newly = refl
parts false false true before now apart stays newly = refl
parts false false false before now apart stays newly = refl

-- so an auction's part grows by what is settled now
part_of-push : (test : List ℕ → Bool) (history : List Entry) (entry : Entry) (cusip : Cusip)
    (announcement : Announcement)
    → IsLegal history
    → Follows history entry
    → part_of test (history ++ entry ∷ []) cusip announcement
    ≡ part_of test history cusip announcement + added_to test history cusip entry.message announcement
part_of-push test history entry cusip announcement legal follows =
    let passed = accepted-passes history entry.submitter entry.number entry.moment entry.message follows.accepted in
    let newly = settled_by-published history entry.submitter entry.moment entry.message passed.rows in
    let old = is_settled history announcement.auction in
    let new = is_named (settled_by entry.message) announcement.auction in
    let settled_now : is_settled (history ++ entry ∷ []) announcement.auction ≡ (old || new) =
    ap (λ (names : List (List ℕ)). is_named names announcement.auction) (settlements-snoc history entry)
    ∙ list_any-append (λ name. is_same name announcement.auction) (settlements history) (settled_by entry.message) in
    let both : new ≡ true → (is_published history announcement.auction ≡ true) × (old ≡ false) =
    λ named. named-in (λ name. (is_published history name ≡ true) × (is_settled history name ≡ false))
    (settled_by entry.message)
    announcement.auction newly named in
    rw settled_now
    (parts (is_of_bill cusip announcement) old new (awards_among test history announcement)
    (awards_among test (history ++ entry ∷ []) announcement)
    (λ settled. false_from_ne_true new (λ named. both_ways old (both named).1 settled))
    (λ settled. awards_among-push test history entry announcement legal follows
    (settled-closed history announcement.auction legal settled))
    (λ named. awards_among-push test history entry announcement legal follows
    (published-closed history announcement.auction legal (both named).0)))

-- a new announcement is of no settled auction
announced-part : (test : List ℕ → Bool) (history : List Entry) (entry : Entry) (cusip : Cusip) (sent : Message)
    → IsLegal history
    → Follows history entry
    → AllByRecursion IsClear (rows_of history entry.submitter entry.moment sent)
    → settled_by sent ≡ settled_by entry.message
    → sum_by (part_of test (history ++ entry ∷ []) cusip) (announced_by sent) ≡ 0
announced-part test history entry cusip (message.Announce a) legal follows clear same =
    let unsettled : is_settled history a.auction ≡ false = false_from_ne_true _ (λ settled.
    unknown (announcement_of (announcements history) a.auction)
    (settled-closed history a.auction legal settled).announced clear.0) in
    let nothing : is_settled (history ++ entry ∷ []) a.auction ≡ false =
    ap (λ (names : List (List ℕ)). is_named names a.auction)
    (settlements-snoc history entry
    ∙ (ap (λ names. settlements history ++ names) (sym same) ∙ append-nil (settlements history)))
    ∙ unsettled in
    let none : part_of test (history ++ entry ∷ []) cusip a ≡ 0 = rw nothing (either (is_of_bill cusip a)) in
    omega (arith, none)
  where
    -- what is there is not none
    unknown : {b : Announcement} (found : Option Announcement) → found ≡ Some b → is_some found ≡ false → ⊥
    unknown None is lacks = cc
    unknown (Some x) is lacks = cc

    -- either way nothing
    either : (b : Bool) → cond (b && false) (awards_among test (history ++ entry ∷ []) a) 0 ≡ 0
    either true = refl
    either false = refl
announced-part test history entry cusip other legal follows clear same = refl

-- what was newly settled is the part that was added
newly-sum : (test : List ℕ → Bool) (history : List Entry) (cusip : Cusip) (sent : Message)
    → IsLegal history
    → sum_by (added_to test history cusip sent) (announcements history) ≡ newly_settled test history cusip sent
newly-sum test history cusip (message.Settle auction) legal =
    let value : Announcement → ℕ =
    λ (announcement : Announcement). cond (is_of_bill cusip announcement)
    (awards_among test history announcement) 0 in
    sum_by_agree (added_to test history cusip (message.Settle auction))
    (λ (announcement : Announcement). cond (is_same announcement.auction auction) (value announcement) 0)
    (announcements history)
    (λ announcement. ap (λ b. cond b (value announcement) 0)
    (or_false (is_same auction announcement.auction) ∙ flipped auction announcement.auction))
    ∙ (found-sum (announcements history) auction value (IsLegal-names history legal)
    ∙ value_newly (announcement_of (announcements history) auction))
  where
    -- what is found for the settlement has the value that it newly brings
    value_newly : (found : Option Announcement)
        → value_in (λ (announcement : Announcement). cond (is_of_bill cusip announcement)
        (awards_among test history announcement) 0) found
        ≡ newly_of test history cusip found
    value_newly None = refl
    value_newly (Some announcement) = refl
newly-sum test history cusip other legal = sum_by_nothing (announcements history)
  where
    -- nothing adds up to nothing
    sum_by_nothing : (xs : List Announcement) → sum_by (λ (announcement : Announcement). 0) xs ≡ 0
    sum_by_nothing [] = refl
    sum_by_nothing (x ∷ xs) = omega (arith, sum_by-cons (λ (announcement : Announcement). 0) x xs, sum_by_nothing xs)

-- what settlements credit grows by what the next entry settles
pub par_settled-push : (test : List ℕ → Bool) (history : List Entry) (entry : Entry) (cusip : Cusip)
    → IsLegal history
    → Follows history entry
    → par_settled test (history ++ entry ∷ []) cusip
    ≡ par_settled test history cusip + newly_settled test history cusip entry.message
unfolding par_settled
par_settled-push test history entry cusip legal follows =
    let passed = accepted-passes history entry.submitter entry.number entry.moment entry.message follows.accepted in
    let now = part_of test (history ++ entry ∷ []) cusip in
    let before = part_of test history cusip in
    let added = added_to test history cusip entry.message in
    let one : par_settled test (history ++ entry ∷ []) cusip ≡ sum_by now (announcements (history ++ entry ∷ [])) =
    sum_by-filter (awards_among test (history ++ entry ∷ []))
    (λ (announcement : Announcement). is_of_bill cusip announcement
    && is_settled (history ++ entry ∷ []) announcement.auction)
    (announcements (history ++ entry ∷ [])) in
    let two : par_settled test history cusip ≡ sum_by before (announcements history) =
    sum_by-filter (awards_among test history)
    (λ (announcement : Announcement). is_of_bill cusip announcement && is_settled history announcement.auction)
    (announcements history) in
    let split : sum_by now (announcements (history ++ entry ∷ [])) ≡ sum_by now (announcements history)
    + sum_by now (announced_by entry.message) =
    ap (sum_by now) (announcements-snoc history entry)
    ∙ sum_by-append now (announcements history) (announced_by entry.message) in
    let grown : sum_by now (announcements history) ≡ sum_by (λ a. before a + added a) (announcements history) =
    sum_by_agree now (λ a. before a + added a) (announcements history)
    (λ a. part_of-push test history entry cusip a legal follows) in
    omega (
      arith,
      one,
      two,
      split,
      grown,
      sum_by_plus before added (announcements history),
      announced-part test history entry cusip entry.message legal follows passed.rows refl,
      newly-sum test history cusip entry.message legal,
    )

-- what a participant was credited, and what was issued, are such parts
pub credited_to-settled : (history : List Entry) (participant : List ℕ) (cusip : Cusip)
    → credited_to history participant cusip
    ≡ par_settled (λ name. is_same name participant) history cusip
unfolding credited_to par_settled
credited_to-settled history participant cusip = refl

-- a test that all pass keeps all
filter-all : {X : Type 0} (xs : List X) → filter (λ (x : X). true) xs ≡ xs
filter-all [] = refl
filter-all (x ∷ xs) = ap (λ ys. x ∷ ys) (filter-all xs)

-- what was issued is the part of all bidders
pub issued-settled : (history : List Entry) (cusip : Cusip)
    → issued history cusip ≡ par_settled (λ name. true) history cusip
unfolding issued par_settled
issued-settled history cusip =
    ap (λ (xs : List Enrolment). sum_by (λ (a : Announcement). awards_of history xs a
    + par_added (λ name. true) (awarded_add_on history a)) (settled_auctions history cusip))
    (sym (filter-all (enrolments history)))
