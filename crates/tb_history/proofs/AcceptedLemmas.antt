-- What an accepted message has passed.
use Rattle.std.proofs.Common.{◌≡◌, ℕ, Bool, true, false, not, cond, Option, Some, None}
use Rattle.std.proofs.Common.{inl, inr, List, [], ◌∷◌, ◌++◌, map, refl, nat_le}
use Rattle.std.specs.List.{AllByRecursion}
use Rattle.std.proofs.lemmas.Bool.{both_ways, cases_Bool, not-false, or_cases}
use Rattle.tb_units.specs.declared.moment.Moment.{Moment}
use Rattle.tb_terms.specs.declared.refusal.Refusal.{Refusal}
use Rattle.tb_terms.specs.declared.refusal.Refusal.TheVariants as refusal
use Rattle.tb_message.specs.declared.message.Entry.{Entry}
use Rattle.tb_message.specs.declared.message.Message.{Message}
use Rattle.tb_message.specs.declared.verdict.Verdict.{Verdict}
use Rattle.tb_message.specs.declared.verdict.Verdict.TheVariants as verdict
use Rattle.tb_message.specs.Kinds as party
use Rattle.tb_message.specs.Kinds.{party_of}
use Rattle.tb_message.specs.Messages.{kind_of}
use Rattle.tb_terms.specs.Rows.{Row, first_of}
use Rattle.tb_history.specs.Entries.{is_same, operator}
use Rattle.tb_history.specs.Roster.{registrations, is_caller, is_registered, kept, sent_by}
use Rattle.tb_history.specs.Tables.{rows_of}
use Rattle.tb_history.specs.Same.{same_message}
use Rattle.tb_history.specs.Verdict.{refused, is_permitted, number_rows, verdict_on}

-- where a message is accepted in the end, a refusal's cause doesn't hold
pub passes : (b : Bool) (r : Refusal) (rest : Verdict) (n : ℕ) (m : Moment)
    → cond b (verdict.Refused r) rest ≡ verdict.Accepted n m
    → (b ≡ false) × (rest ≡ verdict.Accepted n m)
passes true r rest n m accepted = cc
passes false r rest n m accepted = (refl, accepted)

-- and no message stands under its number
number_rows-accepted : (found : Option Entry) (message : Message) (rest : List (Verdict × Bool)) (number : ℕ)
    (m : Moment)
    → first_of (number_rows found message ++ rest) (verdict.Accepted number m) ≡ verdict.Accepted number m
    → (found ≡ None) × (first_of rest (verdict.Accepted number m) ≡ verdict.Accepted number m)
number_rows-accepted None message rest number m accepted = (refl, accepted)
number_rows-accepted (Some entry) message rest number m accepted =
    elim (cases_Bool (same_message entry.message message)) [
      | inl is ↦ let wrong : verdict.Repeat entry.number entry.moment ≡ verdict.Accepted number m = rw is at accepted in
          cc
      | inr isnt ↦ let wrong : verdict.Refused refusal.NumberReused ≡ verdict.Accepted number m = rw isnt at accepted in
          cc
    ]

-- the row's cause doesn't hold
abbrev pub IsClear : Row → Type 0
IsClear row = row.1 ≡ false

-- no cause of its rows holds
pub rows-clear : (rows : List Row) (number : ℕ) (m : Moment)
    → first_of (map refused rows) (verdict.Accepted number m) ≡ verdict.Accepted number m
    → AllByRecursion IsClear rows
rows-clear [] number m accepted = tt
rows-clear (row ∷ rows) number m accepted =
    let one = passes row.1 row.0 (first_of (map refused rows) (verdict.Accepted number m)) number m accepted in
    (one.0, rows-clear rows number m one.1)

-- an accepted message has passed each row
pub record Passes (history : List Entry) (submitter : List ℕ) (number : ℕ) (moment : Moment)
    (message : Message) : Type 0 where
  pub caller : is_caller (registrations history) submitter ≡ true
  pub permitted : is_permitted submitter message ≡ true
  pub unused : kept history submitter number ≡ None
  pub quota : nat_le 1048576 (sent_by history submitter) ≡ false
  pub rows : AllByRecursion IsClear (rows_of history submitter moment message)

-- it has
pub accepted-passes : (history : List Entry) (submitter : List ℕ) (n : ℕ) (moment : Moment) (message : Message)
    → verdict_on history submitter n moment message ≡ verdict.Accepted n moment
    → Passes history submitter n moment message
accepted-passes history submitter n moment message accepted =
    let caller = passes (not (is_caller (registrations history) submitter)) refusal.UnknownKey _ n moment accepted in
    let permitted = passes (not (is_permitted submitter message)) refusal.NotPermitted _ n moment caller.1 in
    let number = number_rows-accepted (kept history submitter n) message _ n moment permitted.1 in
    let quota = passes (nat_le 1048576 (sent_by history submitter)) refusal.MessageQuota _ n moment number.1 in
    record {
      caller = not-false _ caller.0;
      permitted = not-false _ permitted.0;
      unused = number.0;
      quota = quota.0;
      rows = rows-clear (rows_of history submitter moment message) n moment quota.1;
    }

-- whoever sends what submitters send is registered
pub sender-registered : (history : List Entry) (submitter : List ℕ) (sent : Message)
    → is_caller (registrations history) submitter ≡ true
    → is_permitted submitter sent ≡ true
    → party_of (kind_of sent) ≡ party.submitter
    → is_registered (registrations history) submitter ≡ true
sender-registered history submitter sent caller permitted theirs =
    elim (or_cases (is_same submitter operator) (is_registered (registrations history) submitter) caller) [
      | inl is ↦ absurd (both_ways (not (is_same submitter operator)) (rw is refl) (rw theirs at permitted))
      | inr known ↦ known
    ]
