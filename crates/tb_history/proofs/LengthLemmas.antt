-- How long a legal history may be.
use Rattle.std.proofs.Common.{◌≡◌, ℕ, ◌+◌, ◌*◌, ◌≤◌, Bool, true, false, cond, nat_le, inl, inr, List, []}
use Rattle.std.proofs.Common.{◌∷◌, ◌++◌, length, map, sum_by, refl, ap, ◌∙◌, arith, length-append}
use Rattle.std.proofs.lemmas.List.{length-map}
use Rattle.std.specs.List.{filter, list_any, AllByRecursion}
use Rattle.std.proofs.lemmas.Bool.{cases_Bool, leb-false, or_cases, or_left, or_right}
use Rattle.std.proofs.lemmas.List.Elements.{filter-append}
use Rattle.std.proofs.lemmas.List.Sums.{sum_by-cons, sum_by-le}
use Rattle.tb_units.specs.declared.moment.Moment.{Moment}
use Rattle.tb_terms.specs.Faults.{fault_of, fault_rows}
use Rattle.tb_message.specs.declared.message.Entry.{Entry}
use Rattle.tb_message.specs.declared.message.Message.{Message}
use Rattle.tb_message.specs.declared.message.Message.TheVariants as message
use Rattle.tb_history.specs.declared.roster.Registration.{Registration}
use Rattle.tb_history.specs.Entries.{is_same, operator, registered_by, enrolled_by, announced_by}
use Rattle.tb_history.specs.Roster.{registrations, enrolments, announcements, bill_of}
use Rattle.tb_history.specs.Roster.{is_caller, is_registered, sent_by}
use Rattle.tb_history.specs.Tables.{rows_of, maturity_rows}
use Rattle.tb_history.specs.Legal.{IsLegal, Follows}
use Rattle.tb_units.proofs.SumLemmas.{sum_by_agree}
use Rattle.tb_history.proofs.PartLemmas.{AllByRecursion-append, AllByRecursion-back, AllByRecursion-weaker}
use Rattle.tb_history.proofs.GrowthLemmas.{registrations-snoc, enrolments-snoc, announcements-snoc}
use Rattle.tb_history.proofs.SameLemmas.{is_same-equal, is_same-sym}
use Rattle.tb_history.proofs.AcceptedLemmas.{IsClear, accepted-passes}
use Rattle.tb_history.proofs.LegalLemmas.{by_entries}
use Rattle.tb_history.proofs.HistoryLemmas.{is_caller-append}

-- a sum of sums
pub sum_by_plus : {X : Type 0} (f g : X → ℕ) (xs : List X) → sum_by (λ x. f x + g x) xs ≡ sum_by f xs + sum_by g xs
sum_by_plus f g [] = refl
sum_by_plus f g (x ∷ xs) =
    omega (arith, sum_by-cons (λ y. f y + g y) x xs, sum_by-cons f x xs, sum_by-cons g x xs, sum_by_plus f g xs)

-- the sender is one of the names
abbrev pub IsAmong : List (List ℕ) → Entry → Type 0
IsAmong names e = list_any (λ name. is_same e.submitter name) names ≡ true

-- an entry counts for its sender
unfoldable pub counts : Entry → List ℕ → ℕ
counts e name = cond (is_same e.submitter name) 1 0

-- an entry adds one for its sender
sent_by-cons : (entry : Entry) (history : List Entry) (name : List ℕ)
    → sent_by (entry ∷ history) name ≡ counts entry name + sent_by history name
unfolding sent_by counts
sent_by-cons entry history name =
    elim (cases_Bool (is_same entry.submitter name)) [ inl is ↦ rw is (omega arith) | inr isnt ↦ rw isnt (omega arith) ]

-- at least once where its sender is among the names
counts-some : (entry : Entry) (names : List (List ℕ)) → IsAmong names entry → 1 ≤ sum_by (counts entry) names
unfolding counts
counts-some entry [] among = cc
counts-some entry (name ∷ names) among =
    let f : List ℕ → ℕ = λ (n : List ℕ). cond (is_same entry.submitter n) 1 0 in
    elim (cases_Bool (is_same entry.submitter name)) [
      | inl is ↦ let one : f name ≡ 1 = rw is refl in omega (arith, sum_by-cons f name names, one)
      | inr isnt ↦ let later : 1 ≤ sum_by f names = counts-some entry names (rw isnt at among) in
          omega (arith, sum_by-cons f name names, later)
    ]

-- a history whose senders are among the names is no longer than what they have sent
length-sent : (names : List (List ℕ)) (history : List Entry)
    → AllByRecursion (IsAmong names) history
    → length history ≤ sum_by (sent_by history) names
length-sent names [] among = omega arith
length-sent names (e ∷ history) among =
    let split : sum_by (sent_by (e ∷ history)) names ≡ sum_by (counts e) names + sum_by (sent_by history) names =
    sum_by_agree (sent_by (e ∷ history)) (λ name. counts e name + sent_by history name) names (sent_by-cons e history)
    ∙ sum_by_plus (counts e) (sent_by history) names in
    omega (arith, split, counts-some e names among.0, length-sent names history among.1)

-- the names of all who may send
abbrev pub senders_of : List Registration → List (List ℕ)
senders_of registered = operator ∷ map (λ (registration : Registration). registration.submitter) registered

-- a caller is one of them
among-registered : (s : List ℕ) (registered : List Registration)
    → is_registered registered s ≡ true
    → list_any (λ name. is_same s name) (map (λ (registration : Registration). registration.submitter) registered)
    ≡ true
among-registered s [] known = cc
among-registered s (r ∷ rs) known =
    elim (or_cases (is_same r.submitter s) (is_registered rs s) known) [
      | inl is ↦ or_left (is_same s r.submitter) _ (is_same-sym r.submitter s is)
      | inr later ↦ or_right (is_same s r.submitter)
          (list_any (λ name. is_same s name) (map (λ (registration : Registration). registration.submitter) rs))
          (among-registered s rs later)
    ]

-- and so is every caller
caller-among : (registered : List Registration) (entry : Entry)
    → is_caller registered entry.submitter ≡ true
    → IsAmong (senders_of registered) entry
caller-among registered entry caller =
    elim (or_cases (is_same entry.submitter operator) (is_registered registered entry.submitter) caller) [
      | inl is ↦ or_left (is_same entry.submitter operator) _ is
      | inr known ↦ or_right (is_same entry.submitter operator)
          (list_any (λ name. is_same entry.submitter name) (map
          (λ (registration : Registration). registration.submitter) registered))
          (among-registered entry.submitter registered known)
    ]

-- every entry is a caller's, there are few submitters, and each has sent few
pub record IsBounded (history : List Entry) : Type 0 where
  pub senders : AllByRecursion (λ (entry : Entry). is_caller (registrations history) entry.submitter ≡ true) history
  pub submitters : length (registrations history) ≤ 4096
  pub quota : (name : List ℕ) → sent_by history name ≤ 1048576

-- nobody has sent anything yet
IsBounded-nil : IsBounded []
unfolding registrations sent_by
IsBounded-nil = record { senders = tt; submitters = omega arith; quota = λ name. omega arith }

-- a registration is of one submitter more, and of few
registered-few : (history : List Entry) (sender : List ℕ) (moment : Moment) (sent : Message)
    → AllByRecursion IsClear (rows_of history sender moment sent)
    → length (registrations history) ≤ 4096
    → length (registrations history) + length (registered_by sent) ≤ 4096
registered-few history sender moment (message.Register submitter key) clear few =
    omega (arith, leb-false 4096 (length (registrations history)) clear.1.0)
registered-few history sender moment other clear few = omega (arith, few)

-- one entry more
pub sent_by-push : (history : List Entry) (next_entry : Entry) (name : List ℕ)
    → sent_by (history ++ next_entry ∷ []) name ≡ sent_by history name + counts next_entry name
unfolding sent_by counts
sent_by-push history next_entry name =
    let test : Entry → Bool = λ (entry : Entry). is_same entry.submitter name in
    ap length (filter-append test history (next_entry ∷ []))
    ∙ (length-append (filter test history) (filter test (next_entry ∷ []))
    ∙ elim (cases_Bool (test next_entry)) [ inl is ↦ rw is refl | inr isnt ↦ rw isnt refl ])

-- nobody passes its quota
quota-push : (history : List Entry) (entry : Entry) (name : List ℕ)
    → nat_le 1048576 (sent_by history entry.submitter) ≡ false
    → sent_by history name ≤ 1048576
    → sent_by (history ++ entry ∷ []) name ≤ 1048576
unfolding counts
quota-push history entry name below few =
    elim (cases_Bool (is_same entry.submitter name)) [
      | inl is ↦
          let one : counts entry name ≡ 1 = rw is refl in
          let theirs : sent_by history entry.submitter ≡ sent_by history name =
          ap (sent_by history) (is_same-equal entry.submitter name is) in
          omega (
            arith,
            sent_by-push history entry name,
            one,
            theirs,
            leb-false 1048576
                (sent_by history entry.submitter) below,
          )
      | inr isnt ↦ let none : counts entry name ≡ 0 = rw isnt refl in
          omega (arith, sent_by-push history entry name, none, few)
    ]

-- an accepted entry keeps all this
IsBounded-push : (history : List Entry) (entry : Entry)
    → IsLegal history
    → IsBounded history
    → Follows history entry
    → IsBounded (history ++ entry ∷ [])
IsBounded-push history entry legal bounded follows =
    let passed = accepted-passes history entry.submitter entry.number entry.moment entry.message follows.accepted in
    let stays : (x : Entry) → is_caller (registrations history) x.submitter ≡ true
    → is_caller (registrations (history ++ entry ∷ [])) x.submitter ≡ true =
    λ x caller. is_caller-append history (entry ∷ []) x.submitter caller in
    record {
      senders = AllByRecursion-append _ history (entry ∷ []) (AllByRecursion-weaker _ _ stays history bounded.senders)
          (stays entry passed.caller, tt);
      submitters =
          rw (registrations-snoc history entry, length-append (registrations history) (registered_by entry.message))
          (registered-few history entry.submitter entry.moment entry.message passed.rows bounded.submitters);
      quota = λ name. quota-push history entry name passed.quota (bounded.quota name);
    }

-- every legal history is so bounded
pub IsLegal-bounded : (history : List Entry) → IsLegal history → IsBounded history
IsLegal-bounded history legal = by_entries IsBounded IsBounded-nil IsBounded-push history legal

-- all senders together send no more
pub IsLegal-length : (history : List Entry) → IsLegal history → length history ≤ 4097 * 1048576
IsLegal-length history legal =
    let bounded = IsLegal-bounded history legal in
    let names = senders_of (registrations history) in
    let among = AllByRecursion-weaker _ _ (caller-among (registrations history)) history bounded.senders in
    let many : length names ≡ 1 + length (registrations history) =
    omega (arith, length-map (registrations history) (λ (registration : Registration). registration.submitter)) in
    omega (
      arith,
      length-sent names history among,
      sum_by-le (sent_by history) 1048576 names
          (λ k d within. bounded.quota _),
      many,
      bounded.submitters,
    )

-- an announcement is of one auction more, and of few
announced-few : (history : List Entry) (submitter : List ℕ) (moment : Moment) (sent : Message)
    → AllByRecursion IsClear (rows_of history submitter moment sent)
    → length (announcements history) ≤ 65536
    → length (announcements history) + length (announced_by sent) ≤ 65536
announced-few history submitter moment (message.Announce a) clear few =
    let last = AllByRecursion-back IsClear
    (fault_rows (fault_of a) ++ maturity_rows (bill_of (announcements history) a.cusip) a.maturity) _ clear.1 in
    omega (arith, leb-false 65536 (length (announcements history)) last.1.0)
announced-few history submitter moment other clear few = omega (arith, few)

-- and stays so with an accepted entry
announcements-push : (history : List Entry) (entry : Entry)
    → IsLegal history
    → length (announcements history) ≤ 65536
    → Follows history entry
    → length (announcements (history ++ entry ∷ [])) ≤ 65536
announcements-push history entry legal few follows =
    let passed = accepted-passes history entry.submitter entry.number entry.moment entry.message follows.accepted in
    rw (announcements-snoc history entry, length-append (announcements history) (announced_by entry.message))
    (announced-few history entry.submitter entry.moment entry.message passed.rows few)

-- nothing is announced yet
announcements-nil : length (announcements []) ≤ 65536
unfolding announcements
announcements-nil = omega arith

-- so it is in every legal history
pub IsLegal-announcements : (history : List Entry) → IsLegal history → length (announcements history) ≤ 65536
IsLegal-announcements history legal =
    by_entries (λ history. length (announcements history) ≤ 65536) announcements-nil announcements-push history legal

-- an enrolment is of one bidder more, and of few
enrolled-few : (history : List Entry) (sender : List ℕ) (moment : Moment) (sent : Message)
    → AllByRecursion IsClear (rows_of history sender moment sent)
    → length (enrolments history) ≤ 16384
    → length (enrolments history) + length (enrolled_by sent) ≤ 16384
enrolled-few history sender moment (message.Enrol bidder submitter) clear few =
    omega (arith, leb-false 16384 (length (enrolments history)) clear.1.1.1.0)
enrolled-few history sender moment other clear few = omega (arith, few)

-- and stays so with an accepted entry
enrolments-push : (history : List Entry) (entry : Entry)
    → IsLegal history
    → length (enrolments history) ≤ 16384
    → Follows history entry
    → length (enrolments (history ++ entry ∷ [])) ≤ 16384
enrolments-push history entry legal few follows =
    let passed = accepted-passes history entry.submitter entry.number entry.moment entry.message follows.accepted in
    rw (enrolments-snoc history entry, length-append (enrolments history) (enrolled_by entry.message))
    (enrolled-few history entry.submitter entry.moment entry.message passed.rows few)

-- nobody is enrolled yet
enrolments-nil : length (enrolments []) ≤ 16384
unfolding enrolments
enrolments-nil = omega arith

-- so it is in every legal history
pub IsLegal-enrolments : (history : List Entry) → IsLegal history → length (enrolments history) ≤ 16384
IsLegal-enrolments history legal =
    by_entries (λ history. length (enrolments history) ≤ 16384) enrolments-nil enrolments-push history legal
