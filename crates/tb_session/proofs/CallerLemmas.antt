-- Callers, repeats and running moments, as a history grows.
use Rattle.std.proofs.Common.{◌≡◌, ℕ, suc, inl, inr, Bool, true, false, not, cond, nat_le, ◌&&◌, ◌==◌, Option, Some, None, List, [], ◌∷◌, ◌++◌, map, refl, sym, ◌∙◌, ap, subst, arith}
use Rattle.std.specs.Prelude.{Contains, codes, max}
use Rattle.std.specs.List.{find}
use Rattle.std.specs.Option.{option_map}
use Rattle.std.proofs.lemmas.Bool.{cases_Bool, and_parts, eqb-true}
use Rattle.std.proofs.lemmas.List.Concat.{flat_map-append}
use Rattle.tb_units.specs.declared.moment.Moment.{Moment}
use Rattle.tb_units.specs.Moments.{moment_of, moment_of-seconds}
use Rattle.tb_units.specs.Names.{is_name, name_of}
use Rattle.tb_terms.specs.declared.refusal.Refusal.{Refusal}
use Rattle.tb_terms.specs.declared.refusal.Refusal.TheVariants as refusal
use Rattle.tb_terms.specs.Rows.{Row, first_of}
use Rattle.tb_message.specs.declared.key.Key.{Key}
use Rattle.tb_message.specs.declared.key.Key.TheVariants as key
use Rattle.tb_message.specs.declared.message.Entry.{Entry}
use Rattle.tb_message.specs.declared.message.Message.{Message}
use Rattle.tb_message.specs.declared.verdict.Verdict.{Verdict}
use Rattle.tb_message.specs.declared.verdict.Verdict.TheVariants as verdict
use Rattle.tb_history.specs.declared.roster.Registration.{Registration}
use Rattle.tb_history.specs.Answer.{submitter_of}
use Rattle.tb_history.specs.Entries.{is_same, operator, registered_by}
use Rattle.tb_history.specs.Legal.{last_of, running}
use Rattle.tb_history.specs.Roster.{registrations, is_caller, kept, sent_by}
use Rattle.tb_history.specs.Same.{same_message}
use Rattle.tb_history.specs.Tables.{rows_of}
use Rattle.tb_history.specs.Verdict.{refused, is_permitted, number_rows, verdict_on}
use Rattle.tb_history.proofs.GrowthLemmas.{find-append}
use Rattle.tb_history.proofs.SameLemmas.{is_same-equal, same_message-equal}
use Rattle.tb_session.specs.Calls.{caller_on}

-- an element that was found passes the test, and is one of the list
pub record IsFound {X : Type 0} (test : X → Bool) (xs : List X) (x : X) : Type 0 where
  pub passes : test x ≡ true
  pub has : Contains xs x

-- it is one of a longer list too
found_later : {X : Type 0} (test : X → Bool) (y : X) (xs : List X) (x : X) → IsFound test xs x → IsFound test (y ∷ xs) x
found_later test y xs x found = record {
  passes = found.passes;
  has = (suc found.has.0, omega (arith, found.has.1), found.has.2);
}

-- what is found is such an element
pub found : {X : Type 0} (test : X → Bool) (xs : List X) (x : X) → find test xs ≡ Some x → IsFound test xs x
found test [] x is = absurd (let bad : ⊥ = cc in bad)
found test (y ∷ xs) x is =
    elim (cases_Bool (test y)) [
      | inl passes ↦ let first : Some y ≡ Some x = rw passes at is in
          let same : y ≡ x = cc in
          record { passes = subst (λ z. test z ≡ true) same passes; has = (0, omega arith, same) }
      | inr fails ↦ found_later test y xs x (found test xs x (rw fails at is))
    ]

-- a registered submitter's key stays its key
submitter-stays : (history more : List Entry) (word caller : List ℕ)
    → submitter_of (registrations history) word ≡ Some caller
    → submitter_of (registrations (history ++ more)) word ≡ Some caller
unfolding registrations
submitter-stays history more word caller is =
    rw (flat_map-append (λ (entry : Entry). registered_by entry.message) history more)
    (go (find (λ (r : Registration). is_same r.key word) (registrations history)) refl is)
  where
    go : (first : Option Registration) → find (λ (r : Registration). is_same r.key word) (registrations history) ≡ first
        → option_map (λ (r : Registration). r.submitter) first ≡ Some caller
        → option_map (λ (r : Registration). r.submitter)
        (find (λ (r : Registration). is_same r.key word) (registrations history ++ registrations more)) ≡ Some caller
    go None first same = absurd (let bad : ⊥ = cc in bad)
    go (Some r) first same =
        ap (λ o. option_map (λ (r : Registration). r.submitter) o)
        (find-append (λ (r : Registration). is_same r.key word) (registrations history) (registrations more) r first)
        ∙ same

-- whoever is the caller of a key stays its caller
pub caller_on-append : (name : List ℕ) (history more : List Entry) (k : Key) (caller : List ℕ)
    → caller_on name history k ≡ Some caller → caller_on name (history ++ more) k ≡ Some caller
caller_on-append name history more (key.Submitter word) caller is = submitter-stays history more word caller is
caller_on-append name history more (key.Operator word) caller is = is

-- the operator's key is that of the operator
pub operator-caller : (history : List Entry) (name word : List ℕ) (k : Key) (found_name : Option (List ℕ))
    → k ≡ key.Operator word
    → is_same word name ≡ true
    → found_name ≡ name_of (codes "operator")
    → found_name ≡ caller_on name history k
unfolding operator is_name
operator-caller history name word k found_name is same named =
    let told : caller_on name history (key.Operator word) ≡ Some operator = rw same refl in
    named ∙ (sym told ∙ ap (λ (x : Key). caller_on name history x) (sym is))

-- an option that is no value is none
pub none-of : {X : Type 0} (o : Option X) → ((x : X) → o ≡ Some x → ⊥) → o ≡ None
none-of None never = refl
none-of (Some x) never = absurd (never x refl)

-- the later of a moment and the last one is the running moment
pub running-is : (history : List Entry) (moment last now : Moment) → last.seconds ≡ last_of history
    → now.seconds ≡ max moment.seconds last.seconds → now ≡ running history moment
running-is history moment last now is_last is_now =
    sym (moment_of-seconds now)
    ∙ ap moment_of (is_now ∙ ap (λ (seconds : ℕ). max moment.seconds seconds) is_last)

-- where a row's cause doesn't hold, the rows behind it decide
pub row-passed : (b : Bool) (first rest said : Verdict) → cond b first rest ≡ said → (first ≡ said → ⊥) → rest ≡ said
row-passed true first rest said is wrong = absurd (wrong is)
row-passed false first rest said is wrong = is

-- a refusal isn't a repeat
refused-repeat : (why : Refusal) (n : ℕ) (m : Moment) → verdict.Refused why ≡ verdict.Repeat n m → ⊥
refused-repeat why n m is = cc

-- and neither is what none of the rows decides
rows-repeat : (rows : List Row) (number n : ℕ) (moment m : Moment)
    → first_of (map refused rows) (verdict.Accepted number moment) ≡ verdict.Repeat n m → ⊥
rows-repeat [] number n moment m is = cc
rows-repeat (row ∷ rows) number n moment m is =
    rows-repeat rows number n moment m
    (row-passed row.1 (verdict.Refused row.0) (first_of (map refused rows) (verdict.Accepted number moment))
    (verdict.Repeat n m) is (refused-repeat row.0 n m))

-- the same entry, by its fields
entry-is : (e : Entry) (submitter : List ℕ) (number : ℕ) (moment : Moment) (message : Message) → e.submitter ≡ submitter
    → e.number ≡ number → e.moment ≡ moment → e.message ≡ message
    → e ≡ record { submitter = submitter; number = number; moment = moment; message = message }
entry-is e submitter number moment message a b c d =
    λ i. record { submitter = a i; number = b i; moment = c i; message = d i }

-- what a repeat says: the message stands under the number that it is told with, at the moment that it is told with
pub record IsRepeat (history : List Entry) (submitter : List ℕ) (number n : ℕ) (m : Moment) (message : Message)
    : Type 0 where
  pub number_is : n ≡ number
  pub stands : Contains history (record { submitter = submitter; number = number; moment = m; message = message })

-- the kept message of a repeat
kept-repeat : (history : List Entry) (submitter : List ℕ) (number n : ℕ) (moment m : Moment) (message : Message)
    (kept_one : Option Entry) (rest : List (Verdict × Bool))
    → kept history submitter number ≡ kept_one
    → (first_of rest (verdict.Accepted number moment) ≡ verdict.Repeat n m → ⊥)
    → first_of (number_rows kept_one message ++ rest) (verdict.Accepted number moment) ≡ verdict.Repeat n m
    → IsRepeat history submitter number n m message
unfolding kept
kept-repeat history submitter number n moment m message None rest is never said = absurd (never said)
kept-repeat history submitter number n moment m message (Some e) rest is never said =
    let test : Entry → Bool = λ (e : Entry). is_same e.submitter submitter && (e.number == number) in
    let one = found test history e is in
    let parts = and_parts (is_same e.submitter submitter) (e.number == number) one.passes in
    let number_same : e.number ≡ number = eqb-true e.number number parts.1 in
    elim (cases_Bool (same_message e.message message)) [
      | inl same ↦ let told : verdict.Repeat e.number e.moment ≡ verdict.Repeat n m = rw same at said in
          let number_told : e.number ≡ n = cc in
          let moment_told : e.moment ≡ m = cc in
          record {
            number_is = sym number_told ∙ number_same;
            stands = subst (λ (x : Entry). Contains history x)
                (entry-is e submitter number m message (is_same-equal e.submitter submitter parts.0)
                number_same moment_told (same_message-equal e.message message same))
                one.has;
          }
      | inr differs ↦ let told : verdict.Refused refusal.NumberReused ≡ verdict.Repeat n m = rw differs at said in
          absurd (let bad : ⊥ = cc in bad)
    ]

-- a repeat is of an entry that stands
pub repeat-is : (history : List Entry) (submitter : List ℕ) (number n : ℕ) (moment m : Moment) (message : Message)
    → verdict_on history submitter number moment message ≡ verdict.Repeat n m
    → IsRepeat history submitter number n m message
repeat-is history submitter number n moment m message is =
    let last : Verdict = verdict.Accepted number moment in
    let said : Verdict = verdict.Repeat n m in
    let own : List (Verdict × Bool) = map refused (rows_of history submitter moment message) in
    let quota : Verdict × Bool = (verdict.Refused refusal.MessageQuota, nat_le 1048576 (sent_by history submitter)) in
    let caller = row-passed (not (is_caller (registrations history) submitter))
    (verdict.Refused refusal.UnknownKey) _ said is
    (refused-repeat refusal.UnknownKey n m) in
    let permitted = row-passed (not (is_permitted submitter message))
    (verdict.Refused refusal.NotPermitted) _ said caller
    (refused-repeat refusal.NotPermitted n m) in
    kept-repeat history submitter number n moment m message (kept history submitter number) (quota ∷ own) refl
    (λ repeat. rows-repeat (rows_of history submitter moment message) number n moment m
    (row-passed quota.1 quota.0 (first_of own last) said repeat (refused-repeat refusal.MessageQuota n m)))
    permitted

-- a refusal isn't an acceptance
refused-accepted : (why : Refusal) (n : ℕ) (m : Moment) → verdict.Refused why ≡ verdict.Accepted n m → ⊥
refused-accepted why n m is = cc

-- no message stands under the number of one that is accepted
unused-accepted : (kept_one : Option Entry) (message : Message) (rest : List (Verdict × Bool)) (last : Verdict)
    (n : ℕ) (m : Moment)
    → first_of (number_rows kept_one message ++ rest) last ≡ verdict.Accepted n m
    → first_of rest last ≡ verdict.Accepted n m
unused-accepted None message rest last n m said = said
unused-accepted (Some e) message rest last n m said =
    elim (cases_Bool (same_message e.message message)) [
      | inl same ↦ let told : verdict.Repeat e.number e.moment ≡ verdict.Accepted n m = rw same at said in
          absurd (let bad : ⊥ = cc in bad)
      | inr differs ↦ let told : verdict.Refused refusal.NumberReused ≡ verdict.Accepted n m = rw differs at said in
          absurd (let bad : ⊥ = cc in bad)
    ]

-- and no cause of its own rows holds
rows-accepted : (rows : List Row) (last : Verdict) (n : ℕ) (m : Moment)
    → first_of (map refused rows) last ≡ verdict.Accepted n m
    → last ≡ verdict.Accepted n m
rows-accepted [] last n m said = said
rows-accepted (row ∷ rows) last n m said =
    rows-accepted rows last n m
    (row-passed row.1 (verdict.Refused row.0) (first_of (map refused rows) last) (verdict.Accepted n m) said
    (refused-accepted row.0 n m))

-- a message that is accepted is told with its own number and moment
pub accepted-is : (history : List Entry) (submitter : List ℕ) (number n : ℕ) (moment m : Moment) (message : Message)
    → verdict_on history submitter number moment message ≡ verdict.Accepted n m
    → verdict.Accepted number moment ≡ verdict.Accepted n m
accepted-is history submitter number n moment m message is =
    let last : Verdict = verdict.Accepted number moment in
    let said : Verdict = verdict.Accepted n m in
    let own : List (Verdict × Bool) = map refused (rows_of history submitter moment message) in
    let quota : Verdict × Bool = (verdict.Refused refusal.MessageQuota, nat_le 1048576 (sent_by history submitter)) in
    let caller = row-passed (not (is_caller (registrations history) submitter))
    (verdict.Refused refusal.UnknownKey) _ said is
    (refused-accepted refusal.UnknownKey n m) in
    let permitted = row-passed (not (is_permitted submitter message))
    (verdict.Refused refusal.NotPermitted) _ said caller
    (refused-accepted refusal.NotPermitted n m) in
    let unused = unused-accepted (kept history submitter number) message (quota ∷ own) last n m permitted in
    rows-accepted (rows_of history submitter moment message) last n m
    (row-passed quota.1 quota.0 (first_of own last) said unused (refused-accepted refusal.MessageQuota n m))
