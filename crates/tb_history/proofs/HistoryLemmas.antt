-- Legal histories from their beginnings, and what holds of their entries.
use Rattle.std.proofs.Common.{ap, length-append, ◌+◌, ◌≡◌, ℕ, ◌<◌, ◌≤◌, ◌&&◌, ◌==◌, Bool, true, false}
use Rattle.std.proofs.Common.{max, Some, None, inl, inr, List, [], ◌∷◌, ◌++◌, length, get_or, refl}
use Rattle.std.proofs.Common.{sym, ◌∙◌, subst, arith, append_assoc, append-nil}
use Rattle.std.specs.Prelude.{ℤ, pos}
use Rattle.std.specs.List.{filter, find, flat_map, list_any, AllPairs}
use Rattle.std.proofs.lemmas.Bool.{cases_Bool, both_ways, and_from, eq-eqb, or_cases, or_left, or_right}
use Rattle.std.proofs.lemmas.List.{same_from_push}
use Rattle.std.proofs.lemmas.List.Elements.{All-push, filter-append}
use Rattle.std.proofs.lemmas.List.Folds.{list_any-append}
use Rattle.std.proofs.lemmas.Grind.{flat_map-append}
use Rattle.std.proofs.lemmas.List.Quantifiers.{all_pairs_push}
use Rattle.std.proofs.lemmas.Slice.Eq.{bytes_eq-Decides}
use Rattle.tb_units.specs.declared.moment.Moment.{Moment}
use Rattle.tb_units.specs.Moments.{moment_of}
use Rattle.tb_units.proofs.ListLemmas.{AllPairs-nil}
use Rattle.tb_units.proofs.PlaceLemmas.{find_none, find-append_none}
use Rattle.tb_message.specs.declared.message.Entry.{Entry}
use Rattle.tb_message.specs.declared.verdict.Verdict.TheVariants as verdict
use Rattle.tb_history.specs.declared.roster.Registration.{Registration}
use Rattle.tb_history.specs.Entries.{is_same, operator, registered_by}
use Rattle.tb_history.specs.Roster.{registrations, is_caller, kept}
use Rattle.tb_history.specs.declared.bids.Bid.{Bid}
use Rattle.tb_history.specs.declared.bids.Cancel.{Cancel}
use Rattle.tb_history.specs.declared.bids.Report.{Report}
use Rattle.tb_history.specs.LiveBids.{is_of, bids_of, is_live, par_of, competitive_in, noncompetitive_in}
use Rattle.tb_history.specs.LiveBids.{standing_of, is_report_of, last_position, position_of}
use Rattle.tb_history.specs.Verdict.{verdict_on}
use Rattle.tb_history.specs.Legal.{IsLegal, Empty, Longer, Follows, last_of, seconds_from}
use Rattle.tb_history.specs.Legal.{running, IsNotEarlier, IsOther}
use Rattle.tb_history.proofs.AcceptedLemmas.{accepted-passes}
use Rattle.tb_history.proofs.LegalLemmas.{by_entries}
use Rattle.tb_history.proofs.SameLemmas.{same_message-refl}

-- the last entry of a legal history was accepted on those before it
pub record IsLast (history : List Entry) (entry : Entry) : Type 0 where
  pub legal : IsLegal history
  pub follows : Follows history entry

-- a list with one more element isn't empty
push-some : {X : Type 0} (xs : List X) (x : X) → [] ≡ xs ++ x ∷ [] → ⊥
push-some [] x same = cc
push-some (y ∷ ys) x same = cc

-- whatever the list is called
IsLegal-push : (whole : List Entry)
    → IsLegal whole
    → (history : List Entry) (next_entry : Entry)
    → whole ≡ history ++ next_entry ∷ []
    → IsLast history next_entry
IsLegal-push whole Empty history next_entry same = absurd (push-some history next_entry same)
IsLegal-push whole (Longer before entry legal follows) history next_entry same =
    let parts = same_from_push before history entry next_entry same in
    record {
      legal = subst IsLegal parts.0 legal;
      follows = subst (λ (x : Entry). Follows history x) parts.1
          (subst (λ (b : List Entry). Follows b entry) parts.0 follows);
    }

-- of a legal history with a last entry
pub IsLegal-last : (history : List Entry) (entry : Entry) → IsLegal (history ++ entry ∷ []) → IsLast history entry
IsLegal-last history entry legal = IsLegal-push (history ++ entry ∷ []) legal history entry refl

-- each beginning is legal
pub IsLegal-front : (more history : List Entry) → IsLegal (history ++ more) → IsLegal history
IsLegal-front [] history legal = subst IsLegal (append-nil history) legal
IsLegal-front (e ∷ more) history legal =
    (IsLegal-last history e (IsLegal-front more (history ++ e ∷ [])
    (subst IsLegal (sym (append_assoc history (e ∷ []) more)) legal))).legal

-- and the entry behind it was accepted on it
pub IsLegal-follows : (more history : List Entry) (entry : Entry)
    → IsLegal (history ++ entry ∷ more)
    → Follows history entry
IsLegal-follows more history entry legal =
    (IsLegal-last history entry (IsLegal-front more (history ++ entry ∷ [])
    (subst IsLegal (sym (append_assoc history (entry ∷ []) more)) legal))).follows

-- the last entry's moment is the last one
pub last_of-push : (seconds : ℕ) (history : List Entry) (entry : Entry)
    → seconds_from seconds (history ++ entry ∷ []) ≡ entry.moment.seconds
last_of-push seconds [] entry = refl
last_of-push seconds (x ∷ history) entry = last_of-push x.moment.seconds history entry

-- no entry is later than the last one
abbrev pub AreInTime : List Entry → Type 0
AreInTime h = (k : ℕ) (d : Entry) → k < length h → (get_or h k d).moment.seconds ≤ last_of h

-- a last moment is in the range of moments
last_of-bounds : (history : List Entry)
    → (seconds : ℕ)
    → 946702800 ≤ seconds
    → seconds ≤ 4102444799
    → (946702800 ≤ seconds_from seconds history) × (seconds_from seconds history ≤ 4102444799)
last_of-bounds [] seconds least most = (least, most)
last_of-bounds (e ∷ history) seconds least most =
    last_of-bounds history e.moment.seconds e.moment.not_before e.moment.not_after

-- the running moment is the later of two
pub running-seconds : (history : List Entry) (moment : Moment)
    → (running history moment).seconds ≡ max moment.seconds (last_of history)
unfolding moment_of
running-seconds history moment =
    let last = last_of-bounds history 946702800 (omega arith) (omega arith) in
    omega (arith, last.0, last.1, moment.not_before, moment.not_after)

-- the test keeps no element where none passes
kept-none : (history : List Entry) (submitter : List ℕ) (n : ℕ)
    → kept history submitter n ≡ None
    → (k : ℕ) (d : Entry)
    → k < length history
    → (is_same (get_or history k d).submitter submitter ≡ true)
    → (get_or history k d).number ≡ n
    → ⊥
unfolding kept
kept-none history submitter n none k d within theirs number =
    let test : Entry → Bool = λ (entry : Entry). is_same entry.submitter submitter && (entry.number == n) in
    let fails : test (get_or history k d) ≡ false = find_none test history none k d within in
    both_ways (test (get_or history k d)) fails (and_from (is_same (get_or history k d).submitter submitter)
    ((get_or history k d).number == n)
    theirs (eq-eqb (get_or history k d).number n number))

-- moments never fall, and a number stands once
pub record IsOrdered (history : List Entry) : Type 0 where
  pub in_time : AreInTime history
  pub moments : AllPairs IsNotEarlier history
  pub numbers : AllPairs IsOther history

-- in the empty history there is nothing out of order
IsOrdered-nil : IsOrdered []
IsOrdered-nil =
    record {
      in_time = λ k d within. absurd (omega (arith, within));
      moments = AllPairs-nil IsNotEarlier;
      numbers =
          AllPairs-nil IsOther;
    }

-- and stays so with an accepted entry
IsOrdered-push : (history : List Entry) (next_entry : Entry)
    → IsLegal history
    → IsOrdered history
    → Follows history next_entry
    → IsOrdered (history ++ next_entry ∷ [])
IsOrdered-push history next_entry legal ordered follows =
    let passed =
    accepted-passes history next_entry.submitter next_entry.number next_entry.moment next_entry.message
    follows.accepted in
    let last : last_of (history ++ next_entry ∷ []) ≡ next_entry.moment.seconds =
    last_of-push 946702800 history next_entry in
    let earlier : (k : ℕ) (d : Entry) → k < length history
    → (get_or history k d).moment.seconds ≤ next_entry.moment.seconds =
    λ k d within. omega (arith, ordered.in_time k d within, follows.in_time) in
    record {
      in_time =
          λ k d within. rw last (All-push
          (λ (entry : Entry). entry.moment.seconds ≤ next_entry.moment.seconds) history next_entry earlier
          (omega arith) k d within);
      moments = all_pairs_push IsNotEarlier history next_entry ordered.moments earlier;
      numbers = all_pairs_push IsOther history next_entry ordered.numbers
          (λ k d within same. kept-none history next_entry.submitter next_entry.number passed.unused k d within same.0
          same.1);
    }

-- so it is in every legal history
pub IsLegal-ordered : (history : List Entry) → IsLegal history → IsOrdered history
IsLegal-ordered history legal = by_entries IsOrdered IsOrdered-nil IsOrdered-push history legal

-- an accepted message is found under its number
pub kept-push : (history more : List Entry) (next_entry : Entry)
    → kept history next_entry.submitter next_entry.number ≡ None
    → kept (history ++ next_entry ∷ more) next_entry.submitter next_entry.number ≡ Some next_entry
unfolding kept
kept-push history more next_entry none =
    let test : Entry → Bool =
    λ (entry : Entry). is_same entry.submitter next_entry.submitter && (entry.number == next_entry.number) in
    let passes : test next_entry ≡ true =
    and_from (is_same next_entry.submitter next_entry.submitter) (next_entry.number == next_entry.number)
    ((bytes_eq-Decides next_entry.submitter next_entry.submitter).1 refl)
    (eq-eqb next_entry.number next_entry.number refl) in
    let first : find test (next_entry ∷ more) ≡ Some next_entry = rw passes refl in
    find-append_none test history (next_entry ∷ more) none ∙ first

-- a caller stays one
is_registered-append : (test : Registration → Bool) (xs ys : List Registration)
    → list_any test xs ≡ true
    → list_any test (xs ++ ys) ≡ true
is_registered-append test xs ys some =
    rw (list_any-append test xs ys) (or_left (list_any test xs) (list_any test ys) some)

-- whoever may send may send later too
pub is_caller-append : (history more : List Entry) (submitter : List ℕ)
    → is_caller (registrations history) submitter ≡ true
    → is_caller (registrations (history ++ more)) submitter ≡ true
unfolding registrations
is_caller-append history more submitter caller =
    let says : Entry → List Registration = λ (entry : Entry). registered_by entry.message in
    rw (flat_map-append says history more)
    (elim (or_cases (is_same submitter operator) (list_any
    (λ (registration : Registration). is_same registration.submitter submitter) (flat_map says history))
    caller) [
      | inl is ↦ or_left (is_same submitter operator) _ is
      | inr is ↦
          or_right (is_same submitter operator) (list_any
          (λ (registration : Registration). is_same registration.submitter submitter)
          (flat_map says history ++ flat_map says more))
          (is_registered-append (λ (registration : Registration). is_same registration.submitter submitter)
          (flat_map says history) (flat_map says more) is)
    ])

-- an accepted message that is sent again gets its number and moment
pub repeated-push : (history more : List Entry) (entry : Entry) (moment : Moment)
    → IsLegal (history ++ entry ∷ more)
    → verdict_on (history ++ entry ∷ more) entry.submitter entry.number moment entry.message
    ≡ verdict.Repeat entry.number entry.moment
repeated-push history more entry moment legal =
    let follows = IsLegal-follows more history entry legal in
    let passed = accepted-passes history entry.submitter entry.number entry.moment entry.message follows.accepted in
    let caller = is_caller-append history (entry ∷ more) entry.submitter passed.caller in
    rw (caller, passed.permitted, kept-push history more entry passed.unused, same_message-refl entry.message) refl

-- the last report is the one that counts
last_position-push : (position : ℤ) (reported : List Report) (report : Report)
    → last_position position (reported ++ report ∷ []) ≡ report.position
last_position-push position [] report = refl
last_position-push position (first ∷ reported) report = last_position-push first.position reported report

-- so a report replaces the one before it
pub position_of-push : (reported : List Report) (report : Report)
    → position_of (reported ++ report ∷ []) report.auction report.bidder ≡ report.position
position_of-push reported report =
    let test = is_report_of report.auction report.bidder in
    let passes : test report ≡ true =
    and_from (is_same report.auction report.auction) (is_same report.bidder report.bidder)
    ((bytes_eq-Decides report.auction report.auction).1 refl)
    ((bytes_eq-Decides report.bidder report.bidder).1 refl) in
    let last : filter test (report ∷ []) ≡ report ∷ [] = rw passes refl in
    ap (last_position (pos 0)) (filter-append test reported (report ∷ []) ∙ ap (λ rs. filter test reported ++ rs) last)
    ∙ last_position-push (pos 0) (filter test reported) report

-- a cancelled bid adds no live bid
live-cancelled : (all : List Bid) (cancelled : List Cancel) (auction bidder : List ℕ) (bid : Bid)
    → is_live cancelled bid ≡ false
    → filter (is_live cancelled) (bids_of (all ++ bid ∷ []) auction bidder)
    ≡ filter (is_live cancelled) (bids_of all auction bidder)
live-cancelled all cancelled auction bidder bid dead =
    let last : filter (is_live cancelled) (filter (is_of auction bidder) (bid ∷ [])) ≡ [] =
    elim (cases_Bool (is_of auction bidder bid)) [ inl is ↦ rw (is, dead) refl | inr isnt ↦ rw isnt refl ] in
    ap (filter (is_live cancelled)) (filter-append (is_of auction bidder) all (bid ∷ []))
    ∙ (filter-append (is_live cancelled) (bids_of all auction bidder) (filter (is_of auction bidder) (bid ∷ []))
    ∙ (ap (λ bs. filter (is_live cancelled) (bids_of all auction bidder) ++ bs) last
    ∙ append-nil (filter (is_live cancelled) (bids_of all auction bidder))))

-- so it leaves the bidder's sums
pub standing-cancelled : (all : List Bid) (cancelled : List Cancel) (reported : List Report) (auction bidder : List ℕ)
    (bid : Bid)
    → is_live cancelled bid ≡ false
    → ((standing_of (all ++ bid ∷ []) cancelled reported auction bidder).competitive
    ≡ (standing_of all cancelled reported auction bidder).competitive)
    × ((standing_of (all ++ bid ∷ []) cancelled reported auction bidder).noncompetitive
    ≡ (standing_of all cancelled reported auction bidder).noncompetitive)
unfolding standing_of
standing-cancelled all cancelled reported auction bidder bid dead =
    let same = live-cancelled all cancelled auction bidder bid dead in (
      ap (λ (bs : List Bid). par_of (competitive_in bs)) same,
      ap (λ (bs : List Bid). par_of (noncompetitive_in bs))
          same,
    )

-- and counts among its accepted bids, as every bid does
pub standing-counted : (all : List Bid) (cancelled : List Cancel) (reported : List Report) (bid : Bid)
    → (standing_of (all ++ bid ∷ []) cancelled reported bid.auction bid.bidder).accepted
    ≡ (standing_of all cancelled reported bid.auction bid.bidder).accepted + 1
unfolding standing_of
standing-counted all cancelled reported bid =
    let test = is_of bid.auction bid.bidder in
    let passes : test bid ≡ true =
    and_from (is_same bid.auction bid.auction) (is_same bid.bidder bid.bidder)
    ((bytes_eq-Decides bid.auction bid.auction).1 refl) ((bytes_eq-Decides bid.bidder bid.bidder).1 refl) in
    let last : filter test (bid ∷ []) ≡ bid ∷ [] = rw passes refl in
    ap length (filter-append test all (bid ∷ []) ∙ ap (λ bs. filter test all ++ bs) last)
    ∙ length-append (filter test all) (bid ∷ [])
