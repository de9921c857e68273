-- An entry stands in a legal history just where its message is answered as a repeat, with its own moment.
use Rattle.std.proofs.Common.{◌≡◌, ◌↔◌, inl, inr, ℕ, ◌&&◌, ◌==◌, Bool, true, false, not, cond, List, [], ◌∷◌, ◌++◌, map, take, drop, suc, Option, Some, None, refl, ap, sym, ◌∙◌, subst, arith, nat_le, eqb-true, IsTrue}
use Rattle.std.specs.Prelude.{Contains}
use Rattle.std.specs.List.{find}
use Rattle.std.proofs.Math.Seq.{split_at}
use Rattle.std.proofs.lemmas.Bool.{cases_Bool}
use Rattle.tb_units.specs.declared.ident.Ident.{Ident}
use Rattle.tb_units.specs.declared.moment.Moment.{Moment}
use Rattle.tb_terms.specs.declared.refusal.Refusal.{Refusal}
use Rattle.tb_terms.specs.declared.refusal.Refusal.TheVariants as refusal
use Rattle.tb_terms.specs.Rows.{Row, first_of}
use Rattle.tb_message.specs.declared.message.Entry.{Entry}
use Rattle.tb_message.specs.declared.message.Message.{Message}
use Rattle.tb_message.specs.declared.verdict.Verdict.{Verdict}
use Rattle.tb_message.specs.declared.verdict.Verdict.TheVariants as verdict
use Rattle.tb_history.specs.Entries.{is_same}
use Rattle.tb_history.specs.Legal.{IsLegal}
use Rattle.tb_history.specs.Roster.{registrations, is_caller, kept, sent_by}
use Rattle.tb_history.specs.Tables.{rows_of}
use Rattle.tb_history.specs.Same.{same_message}
use Rattle.tb_history.specs.Verdict.{refused, is_permitted, number_rows, verdict_on}
use Rattle.tb_history.proofs.HistoryLemmas.{repeated-push}
use Rattle.tb_desk.specs.Repeats.{IsRepeatAt}
use Rattle.tb_history.proofs.SameLemmas.{is_same-equal, same_message-equal}

-- what a search finds is among the elements and passes the test
find-among : {X : Type 0} (test : X → Bool) (xs : List X) (x : X)
    → find test xs ≡ Some x
    → Contains xs x × (test x ≡ true)
find-among test [] x found = cc
find-among test (y ∷ ys) x found =
    elim (cases_Bool (test y)) [
      | inl passes ↦
          let here : Some y ≡ Some x = rw passes at found in
          let e : y ≡ x = cc in
          ((0, omega arith, e), subst (λ z. test z ≡ true) e passes)
      | inr fails ↦
          let later : find test ys ≡ Some x = rw fails at found in
          let more = find-among test ys x later in
          ((suc more.0.0, omega (arith, more.0.1), more.0.2), more.1)
    ]

-- a refusal is no repeat
past_refusal : (b : Bool) (r : Refusal) (rest : Verdict) (n : ℕ) (m : Moment)
    → cond b (verdict.Refused r) rest ≡ verdict.Repeat n m
    → rest ≡ verdict.Repeat n m
past_refusal true r rest n m repeat = cc
past_refusal false r rest n m repeat = repeat

-- nor is what comes behind the rows on numbers
no_repeat : (rows : List Row) (number : ℕ) (moment : Moment) (n : ℕ) (m : Moment)
    → first_of (map refused rows) (verdict.Accepted number moment) ≡ verdict.Repeat n m
    → ⊥
no_repeat [] number moment n m repeat = cc
no_repeat (row ∷ rows) number moment n m repeat =
    no_repeat rows number moment n m
    (past_refusal row.1 row.0 (first_of (map refused rows) (verdict.Accepted number moment)) n m repeat)

-- the entry that a repeat is of
record IsRepeatOf (found : Option Entry) (message : Message) (m : Moment) : Type 0 where
  pub entry : Entry
  pub found_is : found ≡ Some entry
  pub same : same_message entry.message message ≡ true
  pub moment : m ≡ entry.moment

repeat_of : (found : Option Entry) (message : Message) (rest : List (Verdict × Bool)) (last : Verdict) (n : ℕ)
    (m : Moment)
    → (first_of rest last ≡ verdict.Repeat n m → ⊥)
    → first_of (number_rows found message ++ rest) last ≡ verdict.Repeat n m
    → IsRepeatOf found message m
repeat_of None message rest last n m never repeat = absurd (never repeat)
repeat_of (Some entry) message rest last n m never repeat =
    elim (cases_Bool (same_message entry.message message)) [
      | inl is ↦
          let told : verdict.Repeat entry.number entry.moment ≡ verdict.Repeat n m = rw is at repeat in
          record { entry = entry; found_is = refl; same = is; moment = cc }
      | inr isnt ↦
          let wrong : verdict.Refused refusal.NumberReused ≡ verdict.Repeat n m = rw isnt at repeat in
          absurd cc
    ]

verdict_on-repeat : (history : List Entry) (submitter : List ℕ) (number : ℕ) (moment : Moment) (message : Message)
    (n : ℕ) (m : Moment)
    → verdict_on history submitter number moment message ≡ verdict.Repeat n m
    → IsRepeatOf (kept history submitter number) message m
verdict_on-repeat history submitter number moment message n m repeat =
    let caller = past_refusal (not (is_caller (registrations history) submitter)) refusal.UnknownKey _ n m repeat in
    let permitted = past_refusal (not (is_permitted submitter message)) refusal.NotPermitted _ n m caller in
    repeat_of (kept history submitter number) message
    ((verdict.Refused refusal.MessageQuota, nat_le 1048576 (sent_by history submitter))
    ∷ map refused (rows_of history submitter moment message))
    (verdict.Accepted number moment) n m
    (λ quota. no_repeat (rows_of history submitter moment message) number moment n m
    (past_refusal (nat_le 1048576 (sent_by history submitter)) refusal.MessageQuota _ n m quota))
    permitted

-- the entry under a number
record IsUnder (history : List Entry) (submitter : List ℕ) (number : ℕ) (entry : Entry) : Type 0 where
  pub among : Contains history entry
  pub submitter_is : entry.submitter ≡ submitter
  pub number_is : entry.number ≡ number

both : (a b : Bool) → (a && b) ≡ true → (a ≡ true) × (b ≡ true)
both true true is = (refl, refl)
both true false is = cc
both false b is = cc

kept-under : (history : List Entry) (submitter : List ℕ) (number : ℕ) (entry : Entry)
    → kept history submitter number ≡ Some entry
    → IsUnder history submitter number entry
unfolding kept
kept-under history submitter number entry found =
    let test : Entry → Bool = λ (e : Entry). is_same e.submitter submitter && (e.number == number) in
    let there = find-among test history entry found in
    let parts = both (is_same entry.submitter submitter) (entry.number == number) there.1 in
    record {
      among = there.0;
      submitter_is = is_same-equal entry.submitter submitter parts.0;
      number_is = eqb-true entry.number number parts.1;
    }

abbrev entry_of : Ident → ℕ → Moment → Message → Entry
entry_of submitter number moment message =
    record { submitter = submitter; number = number; moment = moment; message = message }

-- an entry with the same members is the entry
same_entry : (one other : Entry)
    → one.submitter ≡ other.submitter
    → one.number ≡ other.number
    → one.moment ≡ other.moment
    → one.message ≡ other.message
    → one ≡ other
same_entry one other submitter number moment message =
    ap (λ (s : Ident). entry_of s one.number one.moment one.message) submitter
    ∙ ap (λ (n : ℕ). entry_of other.submitter n one.moment one.message) number
    ∙ ap (λ (m : Moment). entry_of other.submitter other.number m one.message) moment
    ∙ ap (λ (m : Message). entry_of other.submitter other.number other.moment m) message

-- a message that is told as a repeat with the moment of the entry that it would make: that entry stands
pub stands-by_repeat : (history : List Entry) (entry : Entry) (n : ℕ) (m : Moment)
    → verdict_on history entry.submitter entry.number entry.moment entry.message ≡ verdict.Repeat n m
    → m ≡ entry.moment
    → Contains history entry
stands-by_repeat history entry n m repeat at =
    let of = verdict_on-repeat history entry.submitter entry.number entry.moment entry.message n m repeat in
    let under = kept-under history entry.submitter entry.number of.entry of.found_is in
    subst (λ (e : Entry). Contains history e)
    (same_entry of.entry entry under.submitter_is under.number_is (sym of.moment ∙ at)
    (same_message-equal of.entry.message entry.message of.same))
    under.among

-- an entry that stands in a legal history is told as a repeat, with its moment
pub repeat-by_standing : (history : List Entry) (entry : Entry)
    → IsLegal history
    → Contains history entry
    → verdict_on history entry.submitter entry.number entry.moment entry.message
    ≡ verdict.Repeat entry.number entry.moment
repeat-by_standing history entry legal among =
    let e : history ≡ take among.0 history ++ entry ∷ drop (suc among.0) history =
    subst (λ (x : Entry). history ≡ take among.0 history ++ x ∷ drop (suc among.0) history) among.2
    (split_at history among.0 entry among.1) in
    ap (λ (h : List Entry). verdict_on h entry.submitter entry.number entry.moment entry.message) e
    ∙ repeated-push (take among.0 history) (drop (suc among.0) history) entry entry.moment (subst IsLegal e legal)

-- an entry stands just where its verdict is a repeat at its moment
IsRepeatAt-stands : (history : List Entry) (entry : Entry) (told : Verdict)
    → verdict_on history entry.submitter entry.number entry.moment entry.message ≡ told
    → IsRepeatAt told entry.moment
    → Contains history entry
IsRepeatAt-stands history entry (verdict.Accepted number at) is repeat = absurd repeat
IsRepeatAt-stands history entry (verdict.Repeat number at) is repeat =
    stands-by_repeat history entry number at is repeat
IsRepeatAt-stands history entry (verdict.Refused refusal) is repeat = absurd repeat

pub stands-iff : (history : List Entry) (entry : Entry) (told : Verdict) (result : Bool)
    → IsLegal history
    → told ≡ verdict_on history entry.submitter entry.number entry.moment entry.message
    → IsTrue result ↔ IsRepeatAt told entry.moment
    → IsTrue result ↔ Contains history entry
stands-iff history entry told result legal is iff = (
  λ yes_is. IsRepeatAt-stands history entry told (sym is) (iff.0 yes_is),
  λ among. iff.1 (subst (λ (v : Verdict). IsRepeatAt v entry.moment)
      (sym (is ∙ repeat-by_standing history entry legal among)) refl),
)
