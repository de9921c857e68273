-- A bid is accepted just where it breaks no rule.
use Rattle.std.proofs.Common.{◌≡◌, ℕ, zero, suc, ◌+◌, ◌%◌, ◌==◌, ◌<◌, ◌&&◌, Bool, true, false, not, nat_le}
use Rattle.std.proofs.Common.{nat_lt, Option, Some, None, inl, inr, List, [], ◌∷◌, ◌++◌, map, refl, subst, arith}
use Rattle.std.specs.List.{AllByRecursion}
use Rattle.std.proofs.lemmas.Bool.{and_parts, cases_Bool, eqb-true, le-leb, le-ltb, leb-false}
use Rattle.std.proofs.lemmas.Bool.{leb-true, lt-leb, ltb-false, ne_eqb, not-false, or_cases, or_from, or_parts}
use Rattle.std.proofs.lemmas.Bool.{or_right}
use Rattle.tb_units.specs.declared.amount.Dollars.{Dollars}
use Rattle.tb_units.specs.declared.moment.Moment.{Moment}
use Rattle.tb_units.specs.declared.rate.Rate.{Rate}
use Rattle.tb_units.proofs.PlaceLemmas.{find_passes}
use Rattle.tb_terms.specs.declared.announcement.Announcement.{Announcement}
use Rattle.tb_terms.specs.Rows.{Row, first_of}
use Rattle.tb_rules.specs.BidRule.{Standing, bid_rule, is_no_par, lacks_price, closing_for, passes_ceiling}
use Rattle.tb_rules.specs.BidRule.{par_of_other_kind, lacks_report, most_bids}
use Rattle.tb_message.specs.declared.message.Entry.{Entry}
use Rattle.tb_message.specs.declared.message.Message.{Message}
use Rattle.tb_message.specs.declared.message.Message.TheVariants as message
use Rattle.tb_message.specs.declared.verdict.Verdict.{Verdict}
use Rattle.tb_message.specs.declared.verdict.Verdict.TheVariants as verdict
use Rattle.tb_history.specs.declared.roster.Registration.{Registration}
use Rattle.tb_history.specs.declared.roster.Enrolment.{Enrolment}
use Rattle.tb_history.specs.Entries.{is_same, operator, registered_by}
use Rattle.tb_history.specs.Roster.{registrations, enrolments, announcements, announcement_of, enrolment_of, is_under}
use Rattle.tb_history.specs.Roster.{is_registered, is_caller, is_enrolled, kept, sent_by}
use Rattle.tb_history.specs.Tables.{rows_of, bid_rows}
use Rattle.tb_history.specs.Verdict.{refused, is_permitted, verdict_on}
use Rattle.tb_history.specs.Legal.{IsLegal, Follows}
use Rattle.tb_history.specs.SoundBids.{IsPar, standing_on, FitsKind, IsSoundBid}
use Rattle.tb_history.proofs.PartLemmas.{AllByRecursion-append}
use Rattle.tb_history.proofs.SameLemmas.{is_same-equal, same_message-refl}
use Rattle.tb_history.proofs.GrowthLemmas.{registrations-snoc}
use Rattle.tb_history.proofs.AcceptedLemmas.{IsClear, accepted-passes}
use Rattle.tb_history.proofs.LegalLemmas.{by_entries, IsLegal-orderly}
use Rattle.tb_history.proofs.LengthLemmas.{IsLegal-bounded}
use Rattle.tb_history.proofs.ClosedLemmas.{found-in}
use Rattle.tb_history.proofs.ToldLemmas.{IsLegal-enrolled}

-- no cause of the rows that look at the bid's kind holds
record IsClearOfKind (a : Announcement) (standing : Standing) (rate : Option Rate) (amount : ℕ) : Type 0 where
  pub priced : lacks_price a rate ≡ false
  pub below : passes_ceiling a standing rate amount ≡ false
  pub unmixed : nat_lt 0 (par_of_other_kind standing rate) ≡ false
  pub reported : lacks_report a standing rate amount ≡ false

-- no cause of the rule of a bid holds, row by row
record IsClearOf (a : Announcement) (standing : Standing) (moment : Moment) (rate : Option Rate)
    (amount : ℕ) : Type 0 where
  pub enough : nat_lt amount a.minimum.value ≡ false
  pub par : is_no_par amount ≡ false
  pub in_time : nat_le (closing_for a rate).seconds moment.seconds ≡ false
  pub kind : IsClearOfKind a standing rate amount
  pub few : nat_le most_bids standing.accepted ≡ false

-- so its list of rows is clear
clear-rule : (a : Announcement) (standing : Standing) (moment : Moment) (rate : Option Rate) (amount : ℕ)
    → IsClearOf a standing moment rate amount
    → AllByRecursion IsClear (bid_rule a standing moment rate amount)
clear-rule a standing moment rate amount is =
    let kind = is.kind in
    (is.enough, (is.par, (kind.priced, (is.in_time, (kind.below, (kind.unmixed, (kind.reported, (is.few, tt))))))))

-- and back
rule-clear : (a : Announcement) (standing : Standing) (moment : Moment) (rate : Option Rate) (amount : ℕ)
    → AllByRecursion IsClear (bid_rule a standing moment rate amount)
    → IsClearOf a standing moment rate amount
rule-clear a standing moment rate amount
    (enough, (par, (priced, (in_time, (below, (unmixed, (reported, (few, end)))))))) =
    record {
      enough = enough;
      par = par;
      in_time = in_time;
      kind = record { priced = priced; below = below; unmixed = unmixed; reported = reported };
      few = few;
    }

-- par that can be bid isn't refused
par-clear : (amount : ℕ) → IsPar amount → is_no_par amount ≡ false
par-clear amount par =
    or_from (amount == 0) (not (amount % 100 == 0)) (ne_eqb amount 0 (λ none. omega (arith, none, par.0)))
    (rw par.1 refl)

-- and what isn't refused is par that can be bid
clear-par : (amount : ℕ) → is_no_par amount ≡ false → IsPar amount
clear-par zero clear = absurd (let wrong : true ≡ false = clear in cc)
clear-par (suc less) clear =
    (omega arith, eqb-true (suc less % 100) 0 (not-false (suc less % 100 == 0) (or_parts _ _ clear).1))

-- a bid that fits its kind is clear of them
fits-clear : (a : Announcement) (standing : Standing) (rate : Option Rate) (amount : ℕ)
    → FitsKind a standing rate amount
    → IsClearOfKind a standing rate amount
fits-clear a standing None amount fits = record {
  priced = refl;
  below = le-ltb a.nc_ceiling.value (standing.noncompetitive + amount) fits.1;
  unmixed = rw fits.0 refl;
  reported = refl;
}
fits-clear a standing (Some rate) amount fits = record {
  priced = rw fits.1 refl;
  below = refl;
  unmixed = rw fits.0 refl;
  reported = elim (cases_Bool (nat_le a.nlp_threshold.value (standing.competitive + amount))) [
    | inl reached ↦
        rw (reached, fits.2 (leb-true a.nlp_threshold.value (standing.competitive + amount) reached)) refl
    | inr below ↦ rw below refl
  ];
}

-- and one that is clear of them fits its kind
clear-fits : (a : Announcement) (standing : Standing) (rate : Option Rate) (amount : ℕ)
    → IsClearOfKind a standing rate amount
    → FitsKind a standing rate amount
clear-fits a standing None amount clear = (
  omega (arith, ltb-false 0 standing.competitive clear.unmixed),
  ltb-false a.nc_ceiling.value (standing.noncompetitive + amount) clear.below,
)
clear-fits a standing (Some rate) amount clear = (
  omega (arith, ltb-false 0 standing.noncompetitive clear.unmixed),
  not-false _ clear.priced,
  λ reached. not-false standing.reported
      (rw (le-leb a.nlp_threshold.value (standing.competitive + amount) reached) at clear.reported),
)

-- rows of which no cause holds leave the last answer
clear-rows : (rows : List Row) (last : Verdict) → AllByRecursion IsClear rows → first_of (map refused rows) last ≡ last
clear-rows [] last clear = refl
clear-rows (row ∷ rows) last clear = rw clear.0 (clear-rows rows last clear.1)

-- nobody has registered as the operator
abbrev pub AreNoOperators : List Registration → Type 0
AreNoOperators registered =
    AllByRecursion (λ (registration : Registration). is_same registration.submitter operator ≡ false) registered

-- no accepted message registers one
no_operator-message : (history : List Entry) (sender : List ℕ) (moment : Moment) (sent : Message)
    → AllByRecursion IsClear (rows_of history sender moment sent)
    → AreNoOperators (registered_by sent)
no_operator-message history sender moment (message.Register submitter key) clear =
    ((or_parts (is_same submitter operator) _ clear.0).0, tt)
no_operator-message history sender moment other clear = tt

-- and so it stays with an accepted entry
no_operator-push : (history : List Entry) (entry : Entry)
    → IsLegal history
    → AreNoOperators (registrations history)
    → Follows history entry
    → AreNoOperators (registrations (history ++ entry ∷ []))
no_operator-push history entry legal so_far follows =
    let passed = accepted-passes history entry.submitter entry.number entry.moment entry.message follows.accepted in
    rw (registrations-snoc history entry)
    (AllByRecursion-append _ (registrations history) (registered_by entry.message) so_far
    (no_operator-message history entry.submitter entry.moment entry.message passed.rows))

-- nobody is registered yet
no_operator-nil : AreNoOperators (registrations [])
unfolding registrations
no_operator-nil = tt

-- so whoever is registered is another
registered-apart : (registered : List Registration) (submitter : List ℕ)
    → AreNoOperators registered
    → is_registered registered submitter ≡ true
    → is_same submitter operator ≡ false
registered-apart [] submitter apart known = absurd cc
registered-apart (r ∷ rs) submitter apart known =
    elim (or_cases (is_same r.submitter submitter) (is_registered rs submitter) known) [
      | inl is ↦
          subst (λ (name : List ℕ). is_same name operator ≡ false) (is_same-equal r.submitter submitter is) apart.0
      | inr later ↦ registered-apart rs submitter apart.1 later
    ]

-- whoever a bidder bids through is registered
enrolled-registered : (history : List Entry) (bidder submitter : List ℕ)
    → IsLegal history
    → is_enrolled history bidder submitter ≡ true
    → is_registered (registrations history) submitter ≡ true
enrolled-registered history bidder submitter legal enrolled =
    by_enrolment (enrolment_of (enrolments history) bidder) refl enrolled
  where
    -- by the enrolment that is found of the bidder
    by_enrolment : (found : Option Enrolment)
        → enrolment_of (enrolments history) bidder ≡ found
        → is_under submitter found ≡ true
        → is_registered (registrations history) submitter ≡ true
    by_enrolment None is under = absurd cc
    by_enrolment (Some enrolment) is under =
        subst (λ (name : List ℕ). is_registered (registrations history) name ≡ true)
        (is_same-equal enrolment.submitter submitter under)
        (found-in (λ (e : Enrolment). is_registered (registrations history) e.submitter ≡ true)
        (λ (e : Enrolment). is_same e.bidder bidder) (enrolments history) enrolment (IsLegal-enrolled history legal) is)

-- a submitter may send bids of both kinds
bid-permitted : (submitter auction bidder : List ℕ) (rate : Option Rate) (amount : Dollars)
    → is_same submitter operator ≡ false
    → is_permitted submitter (message.Bid auction bidder rate amount) ≡ true
bid-permitted submitter auction bidder None amount apart = rw apart refl
bid-permitted submitter auction bidder (Some rate) amount apart = rw apart refl

-- a sound bid breaks no row
sound-rows : (history : List Entry) (submitter : List ℕ) (moment : Moment) (auction bidder : List ℕ)
    (rate : Option Rate) (amount : Dollars)
    → IsSoundBid history submitter moment auction bidder rate amount.value
    → AllByRecursion IsClear (rows_of history submitter moment (message.Bid auction bidder rate amount))
sound-rows history submitter moment auction bidder rate amount sound =
    let standing = standing_on history auction bidder in
    let clear : IsClearOf sound.terms standing moment rate amount.value = record {
      enough = le-ltb amount.value sound.terms.minimum.value sound.enough;
      par = par-clear amount.value sound.par;
      in_time = lt-leb (closing_for sound.terms rate).seconds moment.seconds sound.in_time;
      kind = fits-clear sound.terms standing rate amount.value sound.fits;
      few = lt-leb most_bids standing.accepted sound.few_bids;
    } in
    rw sound.announced
    (rw sound.enrolled refl, clear-rule sound.terms standing moment rate amount.value clear)

-- so it is accepted
pub sound-accepted : (history : List Entry) (submitter : List ℕ) (number : ℕ) (moment : Moment)
    (auction bidder : List ℕ) (rate : Option Rate) (amount : Dollars)
    → IsLegal history
    → kept history submitter number ≡ None
    → IsSoundBid history submitter moment auction bidder rate amount.value
    → verdict_on history submitter number moment (message.Bid auction bidder rate amount)
    ≡ verdict.Accepted number moment
sound-accepted history submitter number moment auction bidder rate amount legal unused sound =
    let bid = message.Bid auction bidder rate amount in
    let known = enrolled-registered history bidder submitter legal sound.enrolled in
    let caller : is_caller (registrations history) submitter ≡ true = or_right (is_same submitter operator) _ known in
    let nobody = by_entries (λ history. AreNoOperators (registrations history)) no_operator-nil no_operator-push
    history legal in
    let permitted = bid-permitted submitter auction bidder rate amount
    (registered-apart (registrations history) submitter nobody known) in
    let quota : nat_le 1048576 (sent_by history submitter) ≡ false =
    lt-leb 1048576 (sent_by history submitter) sound.few_messages in
    rw (caller, permitted, unused, quota)
    (clear-rows (rows_of history submitter moment bid) (verdict.Accepted number moment)
    (sound-rows history submitter moment auction bidder rate amount sound))

-- and no other is
pub accepted-sound : (history : List Entry) (submitter : List ℕ) (number : ℕ) (moment : Moment)
    (auction bidder : List ℕ) (rate : Option Rate) (amount : Dollars)
    → verdict_on history submitter number moment (message.Bid auction bidder rate amount)
    ≡ verdict.Accepted number moment
    → IsSoundBid history submitter moment auction bidder rate amount.value
accepted-sound history submitter number moment auction bidder rate amount accepted =
    let passed = accepted-passes history submitter number moment (message.Bid auction bidder rate amount) accepted in
    by_terms (announcement_of (announcements history) auction) refl passed.rows
    (leb-false 1048576 (sent_by history submitter) passed.quota)
  where
    -- by the announcement that is found of the auction
    by_terms : (found : Option Announcement)
        → announcement_of (announcements history) auction ≡ found
        → AllByRecursion IsClear (bid_rows found (is_enrolled history bidder submitter)
        (standing_on history auction bidder) moment rate amount.value)
        → sent_by history submitter < 1048576
        → IsSoundBid history submitter moment auction bidder rate amount.value
    by_terms None is rows few = absurd (let wrong : true ≡ false = rows.0 in cc)
    by_terms (Some a) is rows few =
        let standing = standing_on history auction bidder in
        let clear = rule-clear a standing moment rate amount.value rows.1 in
        record {
          terms = a;
          announced = is;
          enrolled = not-false (is_enrolled history bidder submitter) rows.0;
          in_time = leb-false (closing_for a rate).seconds moment.seconds clear.in_time;
          enough = ltb-false amount.value a.minimum.value clear.enough;
          par = clear-par amount.value clear.par;
          fits = clear-fits a standing rate amount.value clear.kind;
          few_bids = leb-false most_bids standing.accepted clear.few;
          few_messages = few;
        }

-- what stands under its number gets its kept reply
pub kept-repeated : (history : List Entry) (submitter : List ℕ) (number : ℕ) (moment : Moment) (entry : Entry)
    → IsLegal history
    → kept history submitter number ≡ Some entry
    → verdict_on history submitter number moment entry.message ≡ verdict.Repeat entry.number entry.moment
unfolding kept
kept-repeated history submitter number moment entry legal found =
    let test : Entry → Bool = λ (e : Entry). is_same e.submitter submitter && (e.number == number) in
    let sent : entry.submitter ≡ submitter =
    is_same-equal entry.submitter submitter (and_parts _ _ (find_passes test history entry found)).0 in
    let caller : is_caller (registrations history) submitter ≡ true =
    subst (λ (name : List ℕ). is_caller (registrations history) name ≡ true) sent
    (found-in (λ (e : Entry). is_caller (registrations history) e.submitter ≡ true) test history entry
    (IsLegal-bounded history legal).senders found) in
    let permitted : is_permitted submitter entry.message ≡ true =
    subst (λ (name : List ℕ). is_permitted name entry.message ≡ true) sent
    (found-in (λ (e : Entry). is_permitted e.submitter e.message ≡ true) test history entry
    (IsLegal-orderly history legal).parties found) in
    rw (caller, permitted, found, same_message-refl entry.message) refl
