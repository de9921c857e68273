-- What is awarded in a closed auction stays.
use Rattle.std.proofs.Common.{◌≡◌, ℕ, suc, zero, ◌≤◌, ◌==◌, ◌&&◌, ◌||◌, Bool, true, false, not, nat_le}
use Rattle.std.proofs.Common.{Option, Some, None, is_some, List, [], ◌∷◌, ◌++◌, sum_by, refl, sym}
use Rattle.std.proofs.Common.{ap, ◌∙◌, subst, arith, append_assoc, append-nil}
use Rattle.std.specs.Prelude.{if◌then◌else◌}
use Rattle.std.specs.List.{find, filter, list_any, AllByRecursion}
use Rattle.std.proofs.lemmas.Bool.{leb-false, false_from_ne_true}
use Rattle.std.proofs.lemmas.List.Elements.{filter-append}
use Rattle.std.proofs.lemmas.List.Folds.{list_any-append}
use Rattle.std.proofs.lemmas.List.Sums.{sum_by_push}
use Rattle.tb_units.specs.declared.moment.Moment.{Moment}
use Rattle.tb_units.proofs.PlaceLemmas.{find_passes}
use Rattle.tb_units.specs.declared.rate.Rate.{Rate}
use Rattle.tb_terms.specs.Closings.{c_closing}
use Rattle.tb_terms.specs.declared.announcement.Announcement.{Announcement}
use Rattle.tb_rules.specs.BidRule.{Standing, closing_for}
use Rattle.tb_award.specs.Limits.{cap_of}
use Rattle.tb_award.specs.Recognition.{sum_under, capped}
use Rattle.tb_message.specs.declared.message.Entry.{Entry}
use Rattle.tb_message.specs.declared.message.Message.{Message}
use Rattle.tb_message.specs.declared.message.Message.TheVariants as message
use Rattle.tb_history.specs.declared.roster.Enrolment.{Enrolment}
use Rattle.tb_history.specs.declared.bids.Bid.{Bid}
use Rattle.tb_history.specs.declared.bids.Cancel.{Cancel}
use Rattle.tb_history.specs.declared.bids.Report.{Report}
use Rattle.tb_history.specs.declared.accounts.AddOn.{AddOn}
use Rattle.tb_history.specs.Entries.{is_same, enrolled_by, bid_by, cancelled_by, reported_by, added_by}
use Rattle.tb_history.specs.Roster.{enrolments, announcements, enrolment_of, is_under}
use Rattle.tb_history.specs.Roster.{is_enrolled, announcement_of, is_published, registrations, is_registered}
use Rattle.tb_history.specs.Roster.{add_ons, add_on_of}
use Rattle.tb_history.specs.LiveBids.{bids, cancels, reports, is_cancelled, is_live, live_bids_in, bid_of, standing_of}
use Rattle.tb_history.specs.Tables.{rows_of, bid_rows, cancel_rows, position_rows, add_on_rows}
use Rattle.tb_history.specs.Legal.{IsLegal, Follows, last_of}
use Rattle.tb_history.specs.Awarded.{Bidding, rates, bid_at, recognised_under, par_under, par_in_all, sought_in}
use Rattle.tb_history.specs.Awarded.{wanted_in, stop_of, percent_of, award_at, awards_under, awarded}
use Rattle.tb_history.specs.Holdings.{bidding_in, award_in, awarded_add_on}
use Rattle.tb_history.proofs.PartLemmas.{filter-agree, AllByRecursion-filter, AllByRecursion-from}
use Rattle.tb_history.proofs.PartLemmas.{AllByRecursion-weaker}
use Rattle.tb_history.proofs.SameLemmas.{is_same-equal}
use Rattle.tb_history.proofs.GrowthLemmas.{enrolments-snoc, bids-snoc, cancels-snoc, reports-snoc, add_ons-snoc}
use Rattle.tb_history.proofs.AcceptedLemmas.{IsClear, accepted-passes}
use Rattle.tb_history.proofs.LegalLemmas.{IsLegal-orderly, IsPlaced}
use Rattle.tb_history.proofs.HistoryLemmas.{IsLegal-front, IsLegal-last}
use Rattle.tb_history.proofs.ClosedLemmas.{IsInOrder, IsLegal-in_order, found-in, closing_for-le}
use Rattle.tb_history.proofs.ClosedLemmas.{IsClosed, IsClosed-push, published-closed}

-- the entry bids, cancels, reports and adds on nothing in the auction
pub record IsQuiet (auction : List ℕ) (entry : Entry) : Type 0 where
  pub bid : AllByRecursion (λ (b : Bid). is_same b.auction auction ≡ false)
      (bid_by entry.submitter entry.number entry.message)
  pub cancel : AllByRecursion (λ (c : Cancel). is_same c.auction auction ≡ false)
      (cancelled_by entry.submitter entry.message)
  pub report : AllByRecursion (λ (r : Report). is_same r.auction auction ≡ false)
      (reported_by entry.submitter entry.message)
  pub add_on : AllByRecursion (λ (x : AddOn). is_same x.auction auction ≡ false) (added_by entry.message)

-- the moment comes at or after the last closing of an announcement that is in order
record IsPastClosing (announcement : Announcement) (moment : Moment) : Type 0 where
  pub in_order : IsInOrder announcement
  pub past : (c_closing announcement).seconds ≤ moment.seconds

-- a moment at or after a closing is late
is_late : (closing moment : ℕ) → closing ≤ moment → nat_le closing moment ≡ false → ⊥
is_late closing moment past in_time = omega (arith, leb-false closing moment in_time, past)

-- no bid is accepted then
bid_rows-late : (announcement : Announcement) (enrolled : Bool) (standing : Standing) (moment : Moment)
    (rate : Option Rate) (amount : ℕ)
    → IsPastClosing announcement moment
    → AllByRecursion IsClear (bid_rows (Some announcement) enrolled standing moment rate amount)
    → ⊥
bid_rows-late announcement enrolled standing moment rate amount late clear =
    let past : (closing_for announcement rate).seconds ≤ moment.seconds =
    omega (arith, closing_for-le announcement rate late.in_order, late.past) in
    is_late (closing_for announcement rate).seconds moment.seconds past clear.1.1.1.1.0

-- nor is a cancel
cancel_rows-late : (announcement : Announcement) (bid : Option Bid) (cancelled : Bool) (moment : Moment)
    → IsPastClosing announcement moment
    → AllByRecursion IsClear (cancel_rows (Some announcement) bid cancelled moment)
    → ⊥
cancel_rows-late announcement None cancelled moment late clear = let wrong : true ≡ false = clear.0 in cc
cancel_rows-late announcement (Some bid) cancelled moment late clear =
    let past : (closing_for announcement bid.rate).seconds ≤ moment.seconds =
    omega (arith, closing_for-le announcement bid.rate late.in_order, late.past) in
    is_late (closing_for announcement bid.rate).seconds moment.seconds past clear.1.0

-- nor is a report
position_rows-late : (announcement : Announcement) (enrolled : Bool) (moment : Moment)
    → IsPastClosing announcement moment
    → AllByRecursion IsClear (position_rows (Some announcement) enrolled moment)
    → ⊥
position_rows-late announcement enrolled moment late clear =
    is_late (c_closing announcement).seconds moment.seconds late.past clear.1.0

-- nor is an add-on
add_on_rows-late : (announcement : Announcement) (known standing : Bool) (moment : Moment) (amount : ℕ)
    → IsPastClosing announcement moment
    → AllByRecursion IsClear (add_on_rows (Some announcement) known standing moment amount)
    → ⊥
add_on_rows-late announcement known standing moment amount late clear =
    is_late (c_closing announcement).seconds moment.seconds late.past clear.1.1.1.0

-- two tests of one name
other_name : (name auction : List ℕ) → (is_same name auction ≡ true → ⊥) → is_same name auction ≡ false
other_name name auction apart = false_from_ne_true (is_same name auction) apart

-- so an accepted message says nothing in the closed auction
quiet_message : (history : List Entry) (auction : List ℕ) (closed : IsClosed history auction) (submitter : List ℕ)
    (number : ℕ) (moment : Moment) (sent : Message)
    → IsPastClosing closed.a moment
    → AllByRecursion IsClear (rows_of history submitter moment sent)
    → AllByRecursion (λ (b : Bid). is_same b.auction auction ≡ false) (bid_by submitter number sent)
    × AllByRecursion (λ (cancel : Cancel). is_same cancel.auction auction ≡ false) (cancelled_by submitter sent)
    × AllByRecursion (λ (report : Report). is_same report.auction auction ≡ false) (reported_by submitter sent)
    × AllByRecursion (λ (x : AddOn). is_same x.auction auction ≡ false) (added_by sent)
quiet_message history auction closed submitter number moment
    (message.Bid name bidder rate amount) late clear =
    let standing = standing_of (bids history) (cancels history) (reports history) name bidder in
    let apart : is_same name auction ≡ true → ⊥ = λ same.
    let found : announcement_of (announcements history) name ≡ Some closed.a =
    subst (λ (x : List ℕ). announcement_of (announcements history) x ≡ Some closed.a)
    (sym (is_same-equal name auction same)) closed.announced in
    bid_rows-late closed.a (is_enrolled history bidder submitter) standing moment rate amount.value late
    (rw found at clear) in
    ((other_name name auction apart, tt), tt, tt, tt)
quiet_message history auction closed submitter number moment (message.Cancel name bid) late clear =
    let apart : is_same name auction ≡ true → ⊥ = λ same.
    let found : announcement_of (announcements history) name ≡ Some closed.a =
    subst (λ (x : List ℕ). announcement_of (announcements history) x ≡ Some closed.a)
    (sym (is_same-equal name auction same)) closed.announced in
    cancel_rows-late closed.a (bid_of (bids history) submitter name bid)
    (is_cancelled (cancels history) submitter name bid) moment late (rw found at clear) in
    (tt, (other_name name auction apart, tt), tt, tt)
quiet_message history auction closed submitter number moment
    (message.Position name bidder position) late clear =
    let apart : is_same name auction ≡ true → ⊥ = λ same.
    let found : announcement_of (announcements history) name ≡ Some closed.a =
    subst (λ (x : List ℕ). announcement_of (announcements history) x ≡ Some closed.a)
    (sym (is_same-equal name auction same)) closed.announced in
    position_rows-late closed.a (is_enrolled history bidder submitter) moment late (rw found at clear) in
    (tt, tt, (other_name name auction apart, tt), tt)
quiet_message history auction closed submitter number moment (message.AddOn name holder amount) late clear =
    let apart : is_same name auction ≡ true → ⊥ = λ same.
    let found : announcement_of (announcements history) name ≡ Some closed.a =
    subst (λ (x : List ℕ). announcement_of (announcements history) x ≡ Some closed.a)
    (sym (is_same-equal name auction same)) closed.announced in
    add_on_rows-late closed.a (is_registered (registrations history) holder)
    (is_some (add_on_of (add_ons history) name)) moment amount.value late (rw found at clear) in
    (tt, tt, tt, (other_name name auction apart, tt))
quiet_message history auction closed submitter number moment other late clear = (tt, tt, tt, tt)

-- an accepted entry is quiet in a closed auction
pub IsQuiet-closed : (history : List Entry) (entry : Entry) (auction : List ℕ)
    → IsLegal history
    → Follows history entry
    → IsClosed history auction
    → IsQuiet auction entry
IsQuiet-closed history entry auction legal follows closed =
    let passed = accepted-passes history entry.submitter entry.number entry.moment entry.message follows.accepted in
    let late : IsPastClosing closed.a entry.moment =
    record {
      in_order = found-in IsInOrder (λ (announcement : Announcement). is_same announcement.auction auction)
          (announcements history) closed.a (IsLegal-in_order history legal) closed.announced;
      past = omega (arith, closed.come, follows.in_time);
    } in
    let quiet =
    quiet_message history auction closed entry.submitter entry.number entry.moment entry.message late passed.rows in
    record { bid = quiet.0; cancel = quiet.1; report = quiet.2; add_on = quiet.3 }

-- nothing is kept where nothing passes
pub filter-none : {X : Type 0} (test : X → Bool) (xs : List X)
    → AllByRecursion (λ x. test x ≡ false) xs
    → filter test xs ≡ []
filter-none test [] none = refl
filter-none test (x ∷ xs) none = rw (none.0, filter-none test xs none.1) refl

-- what is kept of a list with such elements behind it
filter-quiet : {X : Type 0} (test : X → Bool) (xs ys : List X)
    → AllByRecursion (λ x. test x ≡ false) ys
    → filter test (xs ++ ys) ≡ filter test xs
filter-quiet test xs ys none =
    filter-append test xs ys ∙ (ap (λ zs. filter test xs ++ zs) (filter-none test ys none)
    ∙ append-nil (filter test xs))

-- no cancel in another auction is of the bid
cancelled-quiet : (cancelled more : List Cancel) (bid : Bid) (auction : List ℕ)
    → is_same bid.auction auction ≡ true
    → AllByRecursion (λ (cancel : Cancel). is_same cancel.auction auction ≡ false) more
    → is_cancelled more bid.submitter bid.auction bid.number ≡ false
cancelled-quiet cancelled [] bid auction own quiet = refl
cancelled-quiet cancelled (c ∷ more) bid auction own quiet =
    let name = is_same-equal bid.auction auction own in
    let other : is_same c.auction bid.auction ≡ false =
    subst (λ (x : List ℕ). is_same c.auction x ≡ false) (sym name) quiet.0 in
    rw (other, cancelled-quiet cancelled more bid auction own quiet.1) (grind arith)

-- a test that adds nothing
pub or_false : (b : Bool) → (b || false) ≡ b
or_false true = refl
or_false false = refl

-- a bid in the auction is live after a quiet entry just where it was before
is_live-quiet : (cancelled more : List Cancel) (bid : Bid) (auction : List ℕ)
    → is_same bid.auction auction ≡ true
    → AllByRecursion (λ (cancel : Cancel). is_same cancel.auction auction ≡ false) more
    → is_live (cancelled ++ more) bid ≡ is_live cancelled bid
is_live-quiet cancelled more bid auction own quiet =
    let test : Cancel → Bool =
    λ (cancel : Cancel). is_same cancel.submitter bid.submitter && is_same cancel.auction bid.auction
    && (cancel.bid == bid.number) in
    ap not (list_any-append test cancelled more ∙ (ap (λ x. list_any test cancelled || x)
    (cancelled-quiet cancelled more bid auction own quiet) ∙ or_false (list_any test cancelled)))

-- the live bids of an auction after a quiet entry are those before
live-quiet : (history : List Entry) (entry : Entry) (auction : List ℕ)
    → IsQuiet auction entry
    → live_bids_in (bids (history ++ entry ∷ [])) (cancels (history ++ entry ∷ [])) auction
    ≡ live_bids_in (bids history) (cancels history) auction
live-quiet history entry auction quiet =
    let inside : Bid → Bool = λ (bid : Bid). is_same bid.auction auction in
    let one = is_live (cancels history ++ cancelled_by entry.submitter entry.message) in
    let other = is_live (cancels history) in
    let alike : (bid : Bid) → inside bid ≡ true → one bid ≡ other bid =
    λ bid own. is_live-quiet (cancels history) (cancelled_by entry.submitter entry.message) bid auction own
    quiet.cancel in
    rw (
      bids-snoc history entry,
      cancels-snoc history entry,
      filter-quiet inside (bids history)
          (bid_by entry.submitter entry.number entry.message) quiet.bid,
    )
    (filter-agree one other (filter inside (bids history))
    (AllByRecursion-filter (λ bid. one bid ≡ other bid) inside (bids history)
    (AllByRecursion-from (λ bid. inside bid ≡ true → one bid ≡ other bid) alike (bids history))))

-- and so are the reports
reports-quiet : (history : List Entry) (entry : Entry) (auction : List ℕ)
    → IsQuiet auction entry
    → filter (λ (report : Report). is_same report.auction auction) (reports (history ++ entry ∷ []))
    ≡ filter (λ (report : Report). is_same report.auction auction) (reports history)
reports-quiet history entry auction quiet =
    rw (reports-snoc history entry) (filter-quiet (λ (report : Report). is_same report.auction auction)
    (reports history)
    (reported_by entry.submitter entry.message) quiet.report)

-- the same bidding with other bidders
abbrev pub among : Bidding → List Enrolment → Bidding
among bidding enrolled =
    record {
      announcement = bidding.announcement;
      enrolled = enrolled;
      live = bidding.live;
      reported =
          bidding.reported;
    }

-- the bidding after a quiet entry
bidding-quiet : (history : List Entry) (entry : Entry) (announcement : Announcement)
    → IsQuiet announcement.auction entry
    → bidding_in (history ++ entry ∷ []) announcement
    ≡ among (bidding_in history announcement) (enrolments history ++ enrolled_by entry.message)
bidding-quiet history entry announcement quiet =
    λ i. record {
      announcement = announcement;
      enrolled = enrolments-snoc history entry i;
      live = live-quiet history entry announcement.auction quiet i;
      reported = reports-quiet history entry announcement.auction quiet i;
    }

-- no live bid is of the bidder
abbrev pub IsSilent : Bidding → List ℕ → Type 0
IsSilent bidding bidder = AllByRecursion (λ (bid : Bid). is_same bid.bidder bidder ≡ false) bidding.live

-- then it bids nothing at any rate
bid_at-silent : (live : List Bid) (bidder : List ℕ) (steps : ℕ)
    → AllByRecursion (λ (bid : Bid). is_same bid.bidder bidder ≡ false) live
    → bid_at live bidder steps ≡ 0
bid_at-silent [] bidder steps silent = refl
bid_at-silent (b ∷ live) bidder steps silent = rw silent.0 (bid_at-silent live bidder steps silent.1)

-- capped bids of nothing come to nothing
sum_under-zero : (f : ℕ → ℕ) (cap bound : ℕ) → ((n : ℕ) → f n ≡ 0) → sum_under (capped f cap) bound ≡ 0
sum_under-zero f cap zero none = refl
sum_under-zero f cap (suc bound) none = omega (arith, sum_under-zero f cap bound none, none bound)

-- and nothing is recognised of it
pub recognised-silent : (bidding : Bidding) (bidder : List ℕ) (steps : ℕ)
    → IsSilent bidding bidder
    → recognised_under bidding bidder steps ≡ 0
unfolding recognised_under
recognised-silent bidding bidder steps silent =
    omega (
      arith,
      sum_under-zero (bid_at bidding.live bidder) (cap_of bidding.announcement.offering.value) steps
          (λ n. bid_at-silent bidding.live bidder n silent),
    )

-- what is recognised of a bidder doesn't depend on who else is enrolled
recognised-among : (bidding : Bidding) (enrolled : List Enrolment) (bidder : List ℕ) (steps : ℕ)
    → recognised_under (among bidding enrolled) bidder steps ≡ recognised_under bidding bidder steps
unfolding recognised_under
recognised-among bidding enrolled bidder steps = refl

-- one more bidder that is silent
par_under-silent : (bidding : Bidding) (e : Enrolment) (steps : ℕ)
    → IsSilent bidding e.bidder
    → par_under (among bidding (bidding.enrolled ++ e ∷ [])) steps ≡ par_under bidding steps
unfolding par_under
par_under-silent bidding e steps silent =
    let more = bidding.enrolled ++ e ∷ [] in
    let one : Enrolment → ℕ = λ (enrolment : Enrolment). recognised_under (among bidding more) enrolment.bidder steps in
    let other : Enrolment → ℕ = λ (enrolment : Enrolment). recognised_under bidding enrolment.bidder steps in
    let same : sum_by one more ≡ sum_by other more =
    ap (λ (f : Enrolment → ℕ). sum_by f more) (λ i enrolment. recognised-among bidding more enrolment.bidder steps i) in
    same ∙ (sum_by_push other bidding.enrolled e ∙ omega (arith, recognised-silent bidding e.bidder steps silent))

-- the figures of a bidding are those of another with the same bids and the same par
abbrev pub AreAlike : Bidding → Bidding → Type 0
AreAlike one other = (par_under one ≡ par_under other) × (sought_in one ≡ sought_in other)

-- their stop-out rates are one
pub stop_of-alike : (one other : Bidding) → AreAlike one other → stop_of one ≡ stop_of other
unfolding stop_of wanted_in par_in_all
stop_of-alike one other alike = rw (alike.0, alike.1) refl

-- their percentages are one
pub percent_of-alike : (one other : Bidding) → AreAlike one other → percent_of one ≡ percent_of other
unfolding percent_of wanted_in par_in_all
percent_of-alike one other alike = rw (stop_of-alike one other alike, alike.0, alike.1) refl

-- all that is recognised is one
par_in_all-alike : (one other : Bidding) → AreAlike one other → par_in_all one ≡ par_in_all other
unfolding par_in_all
par_in_all-alike one other alike = rw alike.0 refl

-- a bidder's award is the same among others
award_at-among : (bidding : Bidding) (enrolled : List Enrolment) (bidder : List ℕ) (steps : ℕ)
    → AreAlike (among bidding enrolled) bidding
    → award_at (among bidding enrolled) bidder steps ≡ award_at bidding bidder steps
award_at-among bidding enrolled bidder steps alike =
    rw (
      stop_of-alike (among bidding enrolled) bidding alike,
      percent_of-alike (among bidding enrolled)
          bidding alike,
      recognised-among bidding enrolled bidder steps,
      recognised-among bidding enrolled bidder
          (suc steps),
    ) refl

-- and so are its awards under a rate
awards_under-among : (bidding : Bidding) (enrolled : List Enrolment) (bidder : List ℕ) (steps : ℕ)
    → AreAlike (among bidding enrolled) bidding
    → awards_under (among bidding enrolled) bidder steps ≡ awards_under bidding bidder steps
unfolding awards_under
awards_under-among bidding enrolled bidder steps alike =
    ap (λ (f : ℕ → ℕ). sum_under f steps) (λ i n. award_at-among bidding enrolled bidder n alike i)

-- so is the whole of it
awarded-among : (bidding : Bidding) (enrolled : List Enrolment) (bidder : List ℕ)
    → AreAlike (among bidding enrolled) bidding
    → awarded (among bidding enrolled) bidder ≡ awarded bidding bidder
unfolding awarded
awarded-among bidding enrolled bidder alike =
    rw (par_in_all-alike (among bidding enrolled) bidding alike, awards_under-among bidding enrolled bidder rates alike)
    refl

-- all bidders are enrolled
AllEnrolled : (history : List Entry)
    → IsLegal history
    → AllByRecursion (λ (bid : Bid). is_enrolled history bid.bidder bid.submitter ≡ true) (bids history)
AllEnrolled history legal =
    AllByRecursion-weaker (IsPlaced history) _ (λ b placed. placed.1) (bids history)
    (IsLegal-orderly history legal).bidders

-- so a bidder that isn't enrolled has no bid
unknown-silent : (enrolled : List Enrolment) (bidder name submitter : List ℕ)
    → is_some (enrolment_of enrolled bidder) ≡ false
    → is_under submitter (enrolment_of enrolled name) ≡ true
    → is_same name bidder ≡ false
unknown-silent enrolled bidder name submitter unknown theirs =
    other_name name bidder (λ same. none (enrolment_of enrolled bidder) unknown
    (subst (λ (x : List ℕ). is_under submitter (enrolment_of enrolled x) ≡ true) (is_same-equal name bidder same)
    theirs))
  where
    -- who is not enrolled is under nobody
    none : (found : Option Enrolment) → is_some found ≡ false → is_under submitter found ≡ true → ⊥
    none None lacks under = cc
    none (Some e) lacks under = cc

-- nor any in an auction's bidding
pub silent-unknown : (history : List Entry) (announcement : Announcement) (bidder : List ℕ)
    → IsLegal history
    → is_some (enrolment_of (enrolments history) bidder) ≡ false
    → IsSilent (bidding_in history announcement) bidder
silent-unknown history announcement bidder legal unknown =
    let none : AllByRecursion (λ (bid : Bid). is_same bid.bidder bidder ≡ false) (bids history) =
    AllByRecursion-weaker _ _ (λ b theirs. unknown-silent (enrolments history)
    bidder b.bidder b.submitter unknown theirs) (bids history) (AllEnrolled history legal) in
    let inside = filter (λ (b : Bid). is_same b.auction announcement.auction) (bids history) in
    AllByRecursion-filter _ (is_live (cancels history)) inside (AllByRecursion-weaker _ _ (λ b is live. is) inside
    (AllByRecursion-filter _ (λ (b : Bid). is_same b.auction announcement.auction) (bids history)
    (AllByRecursion-weaker _ _ (λ b is own. is) (bids history) none)))

-- nothing more is found where nothing passes
find-quiet : {X : Type 0} (test : X → Bool) (xs ys : List X)
    → AllByRecursion (λ x. test x ≡ false) ys
    → find test (xs ++ ys) ≡ find test xs
find-quiet test [] [] none = refl
find-quiet test [] (y ∷ ys) none = rw none.0 (find-quiet test [] ys none.1)
find-quiet {X} test (x ∷ xs) ys none =
    ap (λ (found : Option X). if test x then Some x else found) (find-quiet test xs ys none)

-- the auction's add-on stays
add_on-quiet : (history : List Entry) (entry : Entry) (auction : List ℕ)
    → IsQuiet auction entry
    → add_on_of (add_ons (history ++ entry ∷ [])) auction ≡ add_on_of (add_ons history) auction
add_on-quiet history entry auction quiet =
    ap (λ (added : List AddOn). add_on_of added auction) (add_ons-snoc history entry)
    ∙ find-quiet (λ (x : AddOn). is_same x.auction auction) (add_ons history) (added_by entry.message) quiet.add_on

-- the figures after one more entry that is quiet in the auction are those before
pub record AreSteady (history : List Entry) (entry : Entry) (announcement : Announcement) : Type 0 where
  pub alike : AreAlike (bidding_in (history ++ entry ∷ []) announcement) (bidding_in history announcement)
  pub live : (bidding_in (history ++ entry ∷ []) announcement).live ≡ (bidding_in history announcement).live
  pub awards : (bidder : List ℕ)
      → award_in (history ++ entry ∷ []) announcement bidder ≡ award_in history announcement bidder
  pub add_on : awarded_add_on (history ++ entry ∷ []) announcement ≡ awarded_add_on history announcement

-- with no bidder more
steady-none : (history : List Entry) (announcement : Announcement)
    → AreAlike (among (bidding_in history announcement) (enrolments history ++ [])) (bidding_in history announcement)
steady-none history announcement = rw (append-nil (enrolments history)) (refl, refl)

-- a silent bidder more changes nothing
steady-one : (history : List Entry) (announcement : Announcement) (enrolment : Enrolment)
    → IsSilent (bidding_in history announcement) enrolment.bidder
    → AreAlike (among (bidding_in history announcement) (enrolments history ++ enrolment ∷ []))
    (bidding_in history announcement)
steady-one history announcement enrolment silent =
    ((λ i steps. par_under-silent (bidding_in history announcement) enrolment steps silent i), refl)

-- or with one more, who is silent
steady-message : (history : List Entry) (announcement : Announcement) (sender : List ℕ) (moment : Moment)
    (sent : Message)
    → IsLegal history
    → AllByRecursion IsClear (rows_of history sender moment sent)
    → AreAlike (among (bidding_in history announcement) (enrolments history ++ enrolled_by sent))
    (bidding_in history announcement)
steady-message history announcement sender moment (message.Enrol bidder submitter) legal clear =
    steady-one history announcement (record { bidder = bidder; submitter = submitter })
    (silent-unknown history announcement bidder legal clear.1.0)
steady-message history announcement sender moment other legal clear = steady-none history announcement

-- so the add-on that is awarded stays
awarded-quiet : (history : List Entry) (entry : Entry) (announcement : Announcement)
    → AreAlike (bidding_in (history ++ entry ∷ []) announcement) (bidding_in history announcement)
    → IsQuiet announcement.auction entry
    → awarded_add_on (history ++ entry ∷ []) announcement ≡ awarded_add_on history announcement
unfolding awarded_add_on
awarded-quiet history entry announcement alike quiet =
    rw (
      par_in_all-alike (bidding_in (history ++ entry ∷ []) announcement) (bidding_in history announcement) alike,
      add_on-quiet history entry announcement.auction quiet,
    ) refl

-- so the figures of a closed auction stay after an accepted entry
pub IsClosed-steady : (history : List Entry) (entry : Entry) (announcement : Announcement)
    → IsLegal history
    → Follows history entry
    → IsClosed history announcement.auction
    → AreSteady history entry announcement
IsClosed-steady history entry announcement legal follows closed =
    let passed = accepted-passes history entry.submitter entry.number entry.moment entry.message follows.accepted in
    let quiet = IsQuiet-closed history entry announcement.auction legal follows closed in
    let now = bidding-quiet history entry announcement quiet in
    let more = enrolments history ++ enrolled_by entry.message in
    let alike : AreAlike (among (bidding_in history announcement) more) (bidding_in history announcement) =
    steady-message history announcement entry.submitter entry.moment entry.message legal passed.rows in
    record {
      alike = subst (λ (b : Bidding). AreAlike b (bidding_in history announcement)) (sym now) alike;
      live = live-quiet history entry announcement.auction quiet;
      awards =
          λ bidder. ap (λ (b : Bidding). awarded b bidder) now
          ∙ awarded-among (bidding_in history announcement) more bidder alike;
      add_on = awarded-quiet history entry announcement
          (subst (λ (b : Bidding). AreAlike b (bidding_in history announcement)) (sym now) alike) quiet;
    }

-- the figures of an auction on one history are those on another
pub record AreSame (later history : List Entry) (announcement : Announcement) : Type 0 where
  pub alike : AreAlike (bidding_in later announcement) (bidding_in history announcement)
  pub live : (bidding_in later announcement).live ≡ (bidding_in history announcement).live
  pub awards : (bidder : List ℕ) → award_in later announcement bidder ≡ award_in history announcement bidder
  pub add_on : awarded_add_on later announcement ≡ awarded_add_on history announcement

-- whatever comes later
pub AreSame-more : (more history : List Entry) (announcement : Announcement)
    → IsLegal (history ++ more)
    → IsClosed history announcement.auction
    → AreSame (history ++ more) history announcement
AreSame-more [] history announcement legal closed =
    subst (λ (x : List Entry). AreSame x history announcement) (sym (append-nil history))
    (record { alike = (refl, refl); live = refl; awards = λ bidder. refl; add_on = refl })
AreSame-more (e ∷ more) history announcement legal closed =
    let whole : IsLegal ((history ++ e ∷ []) ++ more) =
    subst IsLegal (sym (append_assoc history (e ∷ []) more)) legal in
    let last = IsLegal-last history e (IsLegal-front more (history ++ e ∷ []) whole) in
    let step = IsClosed-steady history e announcement last.legal last.follows closed in
    let rest = AreSame-more more (history ++ e ∷ []) announcement whole
    (IsClosed-push history e announcement.auction last.follows closed) in
    let both : AreSame ((history ++ e ∷ []) ++ more) history announcement = record {
      alike = (rest.alike.0 ∙ step.alike.0, rest.alike.1 ∙ step.alike.1);
      live = rest.live ∙ step.live;
      awards = λ bidder. rest.awards bidder ∙ step.awards bidder;
      add_on = rest.add_on ∙ step.add_on;
    } in
    subst (λ (x : List Entry). AreSame x history announcement) (append_assoc history (e ∷ []) more) both

-- the announcement that is found has the name
pub announced-name : (announced : List Announcement) (auction : List ℕ) (terms : Announcement)
    → announcement_of announced auction ≡ Some terms
    → terms.auction ≡ auction
announced-name announced auction terms found =
    is_same-equal terms.auction auction (find_passes
    (λ (announcement : Announcement). is_same announcement.auction auction) announced terms found)

-- a published auction is closed under the name of its announcement
pub closed-announced : (history : List Entry) (auction : List ℕ) (announcement : Announcement)
    → IsLegal history
    → is_published history auction ≡ true
    → announcement_of (announcements history) auction ≡ Some announcement
    → IsClosed history announcement.auction
closed-announced history auction announcement legal published found =
    subst (λ (x : List ℕ). IsClosed history x) (sym (announced-name (announcements history) auction announcement found))
    (published-closed history auction legal published)

-- and its closing is that of the announcement
pub closing-come : (history : List Entry) (auction : List ℕ) (terms : Announcement)
    → IsLegal history
    → is_published history auction ≡ true
    → announcement_of (announcements history) auction ≡ Some terms
    → (c_closing terms).seconds ≤ last_of history
closing-come history auction terms legal published found =
    let closed = published-closed history auction legal published in
    let same : closed.a ≡ terms = some_is closed.a terms (sym closed.announced ∙ found) in
    subst (λ (announcement : Announcement). (c_closing announcement).seconds ≤ last_of history) same closed.come
  where
    -- one found announcement is one
    some_is : (one other : Announcement) → Some one ≡ Some other → one ≡ other
    some_is one other equal = cc
