-- A turn with several calls of one gate: what the lock has to be shown at its end, and what the pass gains by it.
use Rattle.std.proofs.Common.{◌≡◌, ℕ, ◌-◌, ◌≤◌, get_or, List, [], ◌∷◌, ◌++◌, length, map, Option, refl, sym, ap, ◌∙◌, subst, inl, inr, ⊎_elim, arith, append_assoc, length-append}
use Rattle.std.specs.Prelude.{All, Any, Contains}
use Rattle.std.proofs.lemmas.List.{append-nil, length-map}
use Rattle.std.proofs.lemmas.List.Elements.{All-nil, All-cons, All-head, All-tail, All-append, All-weaker}
use Rattle.std.proofs.lemmas.List.Kept.{AllPairs-cons}
use Rattle.tb_units.proofs.ListLemmas.{AllPairs-nil}
use Rattle.tb_disk.specs.Disks.{DiskState}
use Rattle.tb_gates.specs.Clocks.{ClockState}
use Rattle.tb_desk.specs.Desks.{held}
use Rattle.tb_desk.specs.Turn.{added_by as added_as}
use Rattle.tb_history.specs.Verdict.{verdict_on}
use Rattle.tb_message.specs.declared.message.Entry.{Entry}
use Rattle.tb_message.specs.declared.verdict.Verdict.{Verdict}
use Rattle.tb_message.specs.declared.verdict.Verdict.TheVariants as verdict
use Rattle.tb_message.specs.Spelling.{spelling}
use Rattle.tb_lock.specs.declared.view.Call.{Call}
use Rattle.tb_lock.specs.declared.view.Span.{Span}
use Rattle.tb_lock.specs.declared.view.View.{View}
use Rattle.tb_lock.specs.Meanings.{History, IsPrefix, Answer as Kind}
use Rattle.tb_lock.specs.Calls.{AreApart, IsOnce, Stands, Leaves, added_if, accepted_of, calls_on}
use Rattle.tb_lock.specs.Turns.{IsReadBetween, IsTaken, IsTimed, Adds, Doubts, MayGive, calls_of, given}
use Rattle.tb_lock.proofs.CallerLemmas.{take-prefix}
use Rattle.tb_lock.proofs.PrefixLemmas.{prefix-self, prefix-trans, prefix-length, any-first, any-later}
use Rattle.tb_session.specs.declared.called.Outcome.{Outcome}
use Rattle.tb_session.specs.declared.called.Outcome.TheVariants as outcome
use Rattle.tb_session.specs.declared.room.Room.{Room}
use Rattle.tb_session.specs.Calls.{ComesOut}
use Rattle.tb_session.specs.Codes.{spelled_all, code_of, kind_at, kind_in, entry_in, entry_of, outcome_code, IsAnswered, Made, call_of, span_of}
use Rattle.tb_session.specs.CodeLaws.{entry-code}
use Rattle.tb_session.specs.Openings.{lock_code}
use Rattle.tb_session.specs.Rooms.{room_means, fixed_of}
use Rattle.tb_session.specs.Gains.{AreInOrder, IsTurn, left_by, Follows, StandsBeside, AreBeside, Gains}
use Rattle.tb_session.specs.Turned.{SameHouse, added_by, Reads}
use Rattle.tb_session.specs.Groups.{Replied, added_in, would_add, in_doubt, IsReplied, AreReplied, DoTogether, told_back}
use Rattle.tb_session.proofs.OpeningLemmas.{operator-locked}
use Rattle.tb_session.proofs.OrderLemmas.{one-more}
use Rattle.tb_session.proofs.TurnLemmas.{contains-one, spelled-append, spelled-begins, added-spelled, accepted-entry, reads-timed, reads-given, read-since, left-begins}

-- the calls as they were made, each on what the calls before it left
abbrev pub made_from : List Entry → ℕ → ℕ → ℕ → List Replied → List Made
made_from at low high readings [] = []
made_from at low high readings (r ∷ others) =
    record { called = r.called; history = at; before = low; after = high; readings = readings }
    ∷ made_from (at ++ added_by r.called.outcome) low high readings others

-- one history begins another that is longer by these entries
longer : (xs ys zs more : List Entry) → zs ≡ xs ++ (ys ++ more) → zs ≡ (xs ++ ys) ++ more
longer xs ys zs more is = is ∙ sym (append_assoc xs ys more)

-- what a call leaves is its history with its entry
left-is : (r : Replied) (at : List Entry) (low high readings : ℕ)
    → left_by (call_of (record { called = r.called; history = at; before = low; after = high; readings = readings }))
    ≡ spelled_all (at ++ added_by r.called.outcome)
left-is r at low high readings =
    ap (λ (e : List ℕ). spelled_all at ++ added_if (kind_at (outcome_code r.called.outcome)) e []) (entry-code r.called)
    ∙ (ap (λ (l : History). spelled_all at ++ l) (added-spelled r.called.outcome)
    ∙ sym (spelled-append at (added_by r.called.outcome)))

-- all calls from here on were answered on a history that begins with this one
all-begin : (first : History) (replied : List Replied) (at : List Entry) (low high readings : ℕ)
    → IsPrefix first (spelled_all at)
    → All (λ m. IsPrefix first (spelled_all m.history)) (made_from at low high readings replied)
all-begin first [] at low high readings begins = All-nil (λ (m : Made). IsPrefix first (spelled_all m.history))
all-begin first (r ∷ replied) at low high readings begins =
    let Begins : Made → Type 0 = λ (m : Made). IsPrefix first (spelled_all m.history) in
    All-cons Begins (record { called = r.called; history = at; before = low; after = high; readings = readings })
    (made_from (at ++ added_by r.called.outcome) low high readings replied) begins
    (all-begin first replied (at ++ added_by r.called.outcome) low high readings
    (prefix-trans first (spelled_all at) (spelled_all (at ++ added_by r.called.outcome)) begins
    (spelled-begins at (added_by r.called.outcome) _ refl)))

-- they have the counts of the one turn
all-counted : (replied : List Replied) (at : List Entry) (low high readings : ℕ)
    → All (λ m. Contains ((record { before = low; after = high }) ∷ []) (span_of m))
    (made_from at low high readings replied)
all-counted [] at low high readings =
    All-nil (λ (m : Made). Contains ((record { before = low; after = high }) ∷ []) (span_of m))
all-counted (r ∷ replied) at low high readings =
    let span : Span = record { before = low; after = high } in
    All-cons (λ (m : Made). Contains (span ∷ []) (span_of m))
    (record { called = r.called; history = at; before = low; after = high; readings = readings })
    (made_from (at ++ added_by r.called.outcome) low high readings replied) (contains-one span)
    (all-counted replied (at ++ added_by r.called.outcome) low high readings)

-- so what a call left begins the histories of those behind it, which have its counts
all-beside : (call : Call) (replied : List Replied) (at : List Entry) (low high readings : ℕ)
    → call.faults_before ≡ low
    → call.faults_after ≡ high
    → call.readings ≡ readings
    → IsPrefix (left_by call) (spelled_all at)
    → All (StandsBeside call) (map call_of (made_from at low high readings replied))
all-beside call [] at low high readings before after read begins = All-nil (StandsBeside call)
all-beside call (r ∷ replied) at low high readings before after read begins =
    let m : Made = record { called = r.called; history = at; before = low; after = high; readings = readings } in
    All-cons (StandsBeside call) (call_of m)
    (map call_of (made_from (at ++ added_by r.called.outcome) low high readings replied))
    (record { history = begins; before = before; after = after; readings = read })
    (all-beside call replied (at ++ added_by r.called.outcome) low high readings before after read
    (prefix-trans (left_by call) (spelled_all at) (spelled_all (at ++ added_by r.called.outcome)) begins
    (spelled-begins at (added_by r.called.outcome) _ refl)))

-- so the calls are those of one turn, in order
pub are-beside : (replied : List Replied) (at : List Entry) (low high readings : ℕ)
    → AreBeside (map call_of (made_from at low high readings replied))
are-beside [] at low high readings = tt
are-beside (r ∷ replied) at low high readings =
    let m : Made = record { called = r.called; history = at; before = low; after = high; readings = readings } in (
      all-beside (call_of m) replied (at ++ added_by r.called.outcome) low high readings refl refl refl
          (subst (λ (l : History). IsPrefix l (spelled_all (at ++ added_by r.called.outcome)))
          (sym (left-is r at low high readings)) (prefix-self (spelled_all (at ++ added_by r.called.outcome)))),
      are-beside replied (at ++ added_by r.called.outcome) low high readings,
    )

module _ {D C : Type 0} (disk : D → DiskState) (clock : C → ClockState) where
  -- a call stands on what an earlier call of its turn left, which is longer where that was accepted
  beside-apart : (earlier later : Call) → StandsBeside earlier later → AreApart (room_means disk clock) earlier later
  beside-apart earlier later stands first second same =
      let entry = entry_in earlier.code in
      let left : left_by earlier ≡ earlier.prefix ++ entry ∷ [] =
      ap (λ (k : Kind). earlier.prefix ++ added_if k entry []) first in
      let longer = prefix-length (left_by earlier) later.prefix stands.history in
      absurd (omega (arith, ap (λ (l : History). length l) left, length-append earlier.prefix (entry ∷ [])))

  -- so the calls of a turn are told no entry twice
  beside-once : (calls : List Call) → AreBeside calls → IsOnce (room_means disk clock) calls
  beside-once [] beside = AllPairs-nil (AreApart (room_means disk clock))
  beside-once (call ∷ calls) beside =
      AllPairs-cons (AreApart (room_means disk clock)) call calls
      (All-weaker (StandsBeside call) (AreApart (room_means disk clock) call) (beside-apart call) calls beside.0)
      (beside-once calls beside.1)

-- there are as many
pub made-length : (replied : List Replied) (at : List Entry) (low high readings : ℕ)
    → length (made_from at low high readings replied) ≡ length replied
made-length [] at low high readings = refl
made-length (r ∷ replied) at low high readings =
    omega (arith, made-length replied (at ++ added_by r.called.outcome) low high readings)

module _ {D C : Type 0} (disk : D → DiskState) (clock : C → ClockState) (v0 v : View) (old new : Room D C)
    (taken : IsTaken (room_means disk clock) v0 v old) (replied : List Replied)
    (does : DoTogether old.operator (held old.desk) (held new.desk) old.desk.faults new.desk.faults replied)
    (same : SameHouse disk clock old new) (moments : (clock new.clock).moments ≡ (clock old.clock).moments)
    (reads : All (λ r. Reads r.called.moment (clock old.clock) (clock new.clock)) replied)
    (on : (clock old.clock).readings ≤ (clock new.clock).readings) where
  -- how many readings the clock has given at the end
  abbrev read_to : ℕ
  read_to = (clock new.clock).readings

  -- the history at the end
  abbrev last : History
  last = spelled_all new.desk.host.history

  -- the counts of faults of the turn
  abbrev span : Span
  span = record { before = v.faults_taken; after = new.desk.faults }

  -- the calls as they were made
  abbrev made : List Made
  made = made_from does.at v.faults_taken new.desk.faults read_to replied

  -- and as the lock keeps them
  abbrev calls : List Call
  calls = map call_of made

  -- the fixed part stays
  fixed_old : fixed_of disk clock old ≡ v.fixed
  fixed_old = taken.fixed ∙ sym taken.same_fixed

  -- also at the end
  fixed_same : fixed_of disk clock new ≡ v.fixed
  fixed_same =
      ap (λ (name : List ℕ). lock_code name (disk new.desk.opened) new.desk.recovered (clock new.clock).moments)
      same.operator
      ∙ (ap (λ (opened : D). lock_code old.operator (disk opened) new.desk.recovered (clock new.clock).moments)
      same.opened
      ∙ (ap (λ (n : ℕ). lock_code old.operator (disk old.desk.opened) n (clock new.clock).moments) same.recovered
      ∙ (ap (λ (m : Option (List ℕ)). lock_code old.operator (disk old.desk.opened) old.desk.recovered m) moments
      ∙ fixed_old)))

  -- one call, on the history on which it was answered
  module _ (r : Replied) (at : List Entry) where
    -- as it was made
    abbrev one : Made
    one = record {
      called = r.called;
      history = at;
      before = v.faults_taken;
      after = new.desk.faults;
      readings = read_to;
    }

    -- it was answered there
    one_answered : IsReplied old.operator at old.desk.faults new.desk.faults r
        → Reads r.called.moment (clock old.clock) (clock new.clock)
        → IsAnswered v.fixed at r.called v.faults_taken new.desk.faults read_to
    one_answered is read =
        let out : IsAnswered (fixed_of disk clock old) at r.called old.desk.faults new.desk.faults
        read_to = record {
          legal = is.legal;
          in_range = is.in_range;
          comes_out = subst (λ (name : List ℕ). ComesOut name at r.called r.called.outcome old.desk.faults
              new.desk.faults)
              (sym (operator-locked old.operator (disk old.desk.opened) old.desk.recovered (clock old.clock).moments))
              is.comes_out;
          given = is.given;
          timed = reads-given old.operator (disk old.desk.opened) old.desk.recovered r.called.moment (clock old.clock)
              (clock new.clock) read;
        } in
        subst (λ (f : List ℕ). IsAnswered f at r.called v.faults_taken new.desk.faults read_to)
        fixed_old
        (subst
        (λ (n : ℕ). IsAnswered (fixed_of disk clock old) at r.called n new.desk.faults read_to)
        (sym taken.faults_taken) out)

    -- it stands in the history at the end
    one_stands : IsReplied old.operator at old.desk.faults new.desk.faults r
        → Reads r.called.moment (clock old.clock) (clock new.clock)
        → IsPrefix (spelled_all (at ++ added_by r.called.outcome)) last
        → Stands (room_means disk clock) v.fixed last (call_of one)
    one_stands is read begins = record {
      answered = record {
        called = r.called;
        history = at;
        code_is = refl;
        prefix_is = refl;
        answered = one_answered is read;
      };
      prefix = prefix-trans (spelled_all at) (spelled_all (at ++ added_by r.called.outcome)) last
          (spelled-begins at (added_by r.called.outcome) _ refl) begins;
      entry = λ accepted. subst (λ (l : History). IsPrefix l last)
          (spelled-append at (added_by r.called.outcome)
          ∙ ap (λ (l : History). spelled_all at ++ l)
          (sym (accepted-entry r.called.outcome accepted) ∙ ap (λ (e : List ℕ). e ∷ []) (sym (entry-code r.called))))
          begins;
    }

    -- it has the clock's reading of this turn
    one_timed : Reads r.called.moment (clock old.clock) (clock new.clock)
        → IsTimed (room_means disk clock) v new (call_of one)
    one_timed read seconds is =
        let found = reads-timed r.called.moment (clock old.clock) (clock new.clock) read seconds is in (
          found.0,
          subst (λ (n : ℕ). IsReadBetween n read_to)
              (sym taken.readings) found.1,
        )

  -- the same of all calls from here on
  all_stand : (others : List Replied) (at : List Entry)
      → AreReplied old.operator at old.desk.faults new.desk.faults others
      → All (λ r. Reads r.called.moment (clock old.clock) (clock new.clock)) others
      → new.desk.host.history ≡ at ++ added_in others
      → All (Stands (room_means disk clock) v.fixed last)
      (map call_of (made_from at v.faults_taken new.desk.faults read_to others))
  all_stand [] at are read is = All-nil (Stands (room_means disk clock) v.fixed last)
  all_stand (r ∷ others) at are read is =
      let Read : Replied → Type 0 = λ (x : Replied). Reads x.called.moment (clock old.clock) (clock new.clock) in
      let next = longer at (added_by r.called.outcome) new.desk.host.history (added_in others) is in
      All-cons (Stands (room_means disk clock) v.fixed last) (call_of (one r at)) _
      (one_stands r at are.0 (All-head Read r others read)
      (spelled-begins (at ++ added_by r.called.outcome) (added_in others) _ next))
      (all_stand others (at ++ added_by r.called.outcome) are.1 (All-tail Read r others read) next)

  -- all of them were answered so
  all_answered : (others : List Replied) (at : List Entry)
      → AreReplied old.operator at old.desk.faults new.desk.faults others
      → All (λ r. Reads r.called.moment (clock old.clock) (clock new.clock)) others
      → All (λ m. IsAnswered v.fixed m.history m.called m.before m.after m.readings)
      (made_from at v.faults_taken new.desk.faults read_to others)
  all_answered [] at are read =
      All-nil (λ (m : Made). IsAnswered v.fixed m.history m.called m.before m.after m.readings)
  all_answered (r ∷ others) at are read =
      let Read : Replied → Type 0 = λ (x : Replied). Reads x.called.moment (clock old.clock) (clock new.clock) in
      All-cons (λ (m : Made). IsAnswered v.fixed m.history m.called m.before m.after m.readings) (one r at) _
      (one_answered r at are.0 (All-head Read r others read))
      (all_answered others (at ++ added_by r.called.outcome) are.1 (All-tail Read r others read))

  -- and have that reading
  all_timed : (others : List Replied) (at : List Entry)
      → All (λ r. Reads r.called.moment (clock old.clock) (clock new.clock)) others
      → All (IsTimed (room_means disk clock) v new)
      (map call_of (made_from at v.faults_taken new.desk.faults read_to others))
  all_timed [] at read = All-nil (IsTimed (room_means disk clock) v new)
  all_timed (r ∷ others) at read =
      let Read : Replied → Type 0 = λ (x : Replied). Reads x.called.moment (clock old.clock) (clock new.clock) in
      All-cons (IsTimed (room_means disk clock) v new) (call_of (one r at)) _
      (one_timed r at (All-head Read r others read))
      (all_timed others (at ++ added_by r.called.outcome) (All-tail Read r others read))

  -- the entries that the lock adds are those that the calls add
  all_added : (others : List Replied) (at : List Entry)
      → accepted_of (room_means disk clock) v.fixed
      (map call_of (made_from at v.faults_taken new.desk.faults read_to others))
      ≡ spelled_all (added_in others)
  all_added [] at = refl
  all_added (r ∷ others) at =
      let more : History = accepted_of (room_means disk clock) v.fixed
      (map call_of (made_from (at ++ added_by r.called.outcome) v.faults_taken new.desk.faults read_to others)) in
      ap (λ (e : List ℕ). added_if (kind_at (outcome_code r.called.outcome)) e more) (entry-code r.called)
      ∙ (added-front r.called.outcome more
      ∙ (ap (λ (l : History). spelled_all (added_by r.called.outcome) ++ l)
      (all_added others (at ++ added_by r.called.outcome))
      ∙ sym (spelled-append (added_by r.called.outcome) (added_in others))))
    where
      added-front : (o : Outcome) (more : History)
          → added_if (kind_at (outcome_code o)) (entry_of o) more ≡ spelled_all (added_by o) ++ more
      added-front (outcome.Added e) more = refl
      added-front (outcome.Stood e) more = refl
      added-front (outcome.Doubted e) more = refl
      added-front outcome.Told more = refl
      added-front outcome.Lacked more = refl

  -- as the lock is told them
  all_told : (others : List Replied) (at : List Entry)
      → new.desk.host.history ≡ at ++ added_in others
      → calls_on last v.faults_taken new.desk.faults read_to (told_back (length new.desk.host.history) others)
      ≡ map call_of (made_from at v.faults_taken new.desk.faults read_to others)
  all_told [] at is = refl
  all_told (r ∷ others) at is =
      let next = longer at (added_by r.called.outcome) new.desk.host.history (added_in others) is in
      let count : ℕ = length new.desk.host.history - length (added_in (r ∷ others)) in
      let counted : count ≡ length at =
      omega (arith, ap length is, length-append at (added_in (r ∷ others))) in
      ap (λ (l : History). record {
        code = code_of r.called;
        prefix = l;
        faults_before = v.faults_taken;
        faults_after = new.desk.faults;
        readings = read_to;
      } ∷ calls_on last v.faults_taken new.desk.faults read_to (told_back (length new.desk.host.history) others))
      (take-prefix count (spelled_all at) last
      (spelled-begins at (added_in (r ∷ others)) new.desk.host.history is) (counted ∙ sym (length-map at spelling)))
      ∙ ap (λ (l : List Call). call_of (one r at) ∷ l) (all_told others (at ++ added_by r.called.outcome) next)

  -- what the pass shows is the history taken
  seen_old : v.seen ≡ spelled_all old.desk.host.history
  seen_old = taken.seen

  -- which begins the one on which the calls were answered
  seen_at : IsPrefix v.seen (spelled_all does.at)
  seen_at =
      subst (λ (l : History). IsPrefix l (spelled_all does.at)) (sym seen_old)
      (⊎_elim (λ is. spelled-begins _ [] _ (is ∙ sym (append-nil _))) (λ is. spelled-begins _ old.desk.doubt _ is)
      does.settled)

  -- so does what begins that one, for each call
  all_seen : (first : History) → IsPrefix first (spelled_all does.at)
      → All (λ (c : Call). IsPrefix first c.prefix) calls
  all_seen first begins =
      All-mapped (λ (c : Call). IsPrefix first c.prefix) made
      (all-begin first replied does.at v.faults_taken new.desk.faults read_to begins)
    where
      All-mapped : (P : Call → Type 0) (ms : List Made) → All (λ m. P (call_of m)) ms → All P (map call_of ms)
      All-mapped P [] all = All-nil P
      All-mapped P (m ∷ ms) all =
          All-cons P (call_of m) (map call_of ms) (All-head (λ (x : Made). P (call_of x)) m ms all)
          (All-mapped P ms (All-tail (λ (x : Made). P (call_of x)) m ms all))

  -- the history at the end has the entries of those that were accepted
  new_is : last ≡ spelled_all does.at ++ accepted_of (room_means disk clock) v.fixed calls
  new_is =
      ap (λ (l : List Entry). spelled_all l) does.grown
      ∙ (spelled-append does.at (added_in replied)
      ∙ ap (λ (l : History). spelled_all does.at ++ l) (sym (all_added replied does.at)))

  -- so these are what the turn adds
  adds_them : Adds (room_means disk clock) v calls last
  adds_them = ⊎_elim
      (λ is. record {
        group = [];
        resolved = inl refl;
        grown = new_is
            ∙ ap (λ (l : History). l ++ accepted_of (room_means disk clock) v.fixed calls)
            (ap (λ (l : List Entry). spelled_all l) is ∙ sym seen_old);
      })
      (λ is. record {
        group = spelled_all old.desk.doubt;
        resolved = inr (sym taken.doubt);
        grown = new_is
            ∙ (ap (λ (l : History). l ++ accepted_of (room_means disk clock) v.fixed calls)
            (ap (λ (l : List Entry). spelled_all l) is
            ∙ (spelled-append _ _ ∙ ap (λ (l : History). l ++ spelled_all old.desk.doubt) (sym seen_old)))
            ∙ append_assoc v.seen _ _);
      })
      does.settled

  -- what a call that met a fault would add is left by the first of the lock's calls
  leaves_first : (r : Replied) (at history : List Entry) (later : List Call) (came : Outcome)
      → r.called.outcome ≡ came
      → All (λ (e : List ℕ). Any (Leaves (room_means disk clock) v.fixed e) (call_of (one r at) ∷ later))
      (spelled_all (would_add history came))
  leaves_first r at history later (outcome.Doubted e) is =
      of_said (verdict_on history e.submitter e.number e.moment e.message)
    where
      Left : List ℕ → Type 0
      Left = λ (x : List ℕ). Any (Leaves (room_means disk clock) v.fixed x) (call_of (one r at) ∷ later)

      of_said : (said : Verdict)
          → All Left (spelled_all (added_as e.submitter e.moment (e.number, e.message) said))
      of_said (verdict.Accepted number moment) =
          All-cons Left (spelling e) []
          (any-first (Leaves (room_means disk clock) v.fixed (spelling e)) (call_of (one r at)) later (
            ap (λ (o : Outcome). kind_at (outcome_code o)) is,
            entry-code r.called ∙ ap (λ (o : Outcome). entry_of o) is,
          ))
          (All-nil Left)
      of_said (verdict.Repeat number moment) = All-nil Left
      of_said (verdict.Refused why) = All-nil Left
  leaves_first r at history later (outcome.Added e) is = All-nil _
  leaves_first r at history later (outcome.Stood e) is = All-nil _
  leaves_first r at history later outcome.Told is = All-nil _
  leaves_first r at history later outcome.Lacked is = All-nil _

  -- so what the calls would add is left by the lock's calls
  leaves_all : (others : List Replied) (at history : List Entry)
      → All (λ (e : List ℕ). Any (Leaves (room_means disk clock) v.fixed e)
      (map call_of (made_from at v.faults_taken new.desk.faults read_to others)))
      (spelled_all (in_doubt history others))
  leaves_all [] at history = All-nil (λ (e : List ℕ). Any (Leaves (room_means disk clock) v.fixed e) [])
  leaves_all (r ∷ others) at history =
      let here : List Entry = would_add history r.called.outcome in
      let rest : List Entry = in_doubt (history ++ here) others in
      let later : List Call =
      map call_of (made_from (at ++ added_by r.called.outcome) v.faults_taken new.desk.faults read_to others) in
      let Left : List ℕ → Type 0 =
      λ (e : List ℕ). Any (Leaves (room_means disk clock) v.fixed e) (call_of (one r at) ∷ later) in
      subst (λ (l : History). All Left l) (sym (spelled-append here rest))
      (All-append Left (spelled_all here) (spelled_all rest)
      (leaves_first r at history later r.called.outcome refl)
      (All-weaker (λ (e : List ℕ). Any (Leaves (room_means disk clock) v.fixed e) later) Left
      (λ e any. any-later (Leaves (room_means disk clock) v.fixed e) (call_of (one r at)) later any) (spelled_all rest)
      (leaves_all others (at ++ added_by r.called.outcome) (history ++ here))))

  -- what is in doubt at the end is what a turn may leave in doubt
  doubts_them : Doubts (room_means disk clock) v calls last (spelled_all new.desk.doubt)
  doubts_them = ⊎_elim
      (λ none. inl (ap (λ (l : List Entry). spelled_all l) none))
      (λ some. ⊎_elim
      (λ kept. inr (inl (
        ap (λ (l : List Entry). spelled_all l) kept.0 ∙ sym taken.doubt,
        ap (λ (l : List Entry). spelled_all l) kept.1 ∙ sym seen_old,
      )))
      (λ left. inr (inr (subst (λ (l : List Entry).
      All (λ (e : List ℕ). Any (Leaves (room_means disk clock) v.fixed e) calls) (spelled_all l))
      (sym left) (leaves_all replied does.at does.at))))
      some)
      does.doubt

  -- the count of faults isn't less
  least : v.faults_taken ≤ new.desk.faults
  least = omega (arith, does.least, taken.faults_taken)

  -- nor is the number of readings
  not_fewer : v.readings ≤ read_to
  not_fewer = omega (arith, taken.readings, on)

  -- so the turn may end with these calls
  may_calls : MayGive (room_means disk clock) v calls new
  may_calls = record {
    stand = all_stand replied does.at does.answered reads does.grown;
    begin = all_seen v.seen seen_at;
    once = beside-once disk clock calls (are-beside replied does.at v.faults_taken new.desk.faults read_to);
    timed = all_timed replied does.at reads;
    fixed = fixed_same;
    faults = least;
    readings = not_fewer;
    adds = adds_them;
    doubts = doubts_them;
  }

  -- which are those that are told
  told_is : calls_of (room_means disk clock) v new (told_back (length new.desk.host.history) replied) ≡ calls
  told_is = all_told replied does.at does.grown

  -- the turn may end
  pub may-together : MayGive (room_means disk clock) v
      (calls_of (room_means disk clock) v new (told_back (length new.desk.host.history) replied)) new
  may-together = subst (λ (l : List Call). MayGive (room_means disk clock) v l new) (sym told_is) may_calls

  -- the history on which they were answered begins with what the pass had seen
  begin : IsPrefix v0.seen (spelled_all does.at)
  begin =
      prefix-trans v0.seen v.seen (spelled_all does.at)
      (subst (λ (l : History). IsPrefix v0.seen l) (sym seen_old) taken.begins) seen_at

  -- and with the history taken
  old_at : IsPrefix (spelled_all old.desk.host.history) (spelled_all does.at)
  old_at = subst (λ (l : History). IsPrefix l (spelled_all does.at)) seen_old seen_at

  -- all of them follow each call that the pass had
  follow_from : (c : Call) (others : List Replied) (at : List Entry)
      → IsPrefix (left_by c) (spelled_all at)
      → c.faults_after ≤ v.faults_taken
      → c.readings ≤ (clock old.clock).readings
      → All (λ r. Reads r.called.moment (clock old.clock) (clock new.clock)) others
      → All (Follows c) (map call_of (made_from at v.faults_taken new.desk.faults read_to others))
  follow_from c [] at begins most by read = All-nil (Follows c)
  follow_from c (r ∷ others) at begins most by read =
      let Read : Replied → Type 0 = λ (x : Replied). Reads x.called.moment (clock old.clock) (clock new.clock) in
      All-cons (Follows c) (call_of (one r at)) _
      (record {
        history = begins;
        faults = most;
        readings = omega (arith, by, on);
        read = λ moment is. read-since c.readings (clock old.clock).readings read_to by
            (reads-timed r.called.moment (clock old.clock) (clock new.clock) (All-head Read r others read) moment is).1;
      })
      (follow_from c others (at ++ added_by r.called.outcome)
      (prefix-trans (left_by c) (spelled_all at) (spelled_all (at ++ added_by r.called.outcome)) begins
      (spelled-begins at (added_by r.called.outcome) _ refl)) most by (All-tail Read r others read))

  -- whichever call that is
  follows_all : All (λ c. All (Follows c) calls) v0.mine
  follows_all = λ k d lt.
      let c = get_or v0.mine k d in
      let s = taken.stand k d lt in
      follow_from c replied does.at
      (prefix-trans (left_by c) (spelled_all old.desk.host.history) (spelled_all does.at)
      (left-begins c (kind_in c.code) (entry_in c.code) (spelled_all old.desk.host.history) s.prefix s.entry) old_at)
      (let most = (taken.counts k d lt).most in omega (arith, most, taken.faults_taken)) (taken.read k d lt) reads

  -- so the pass gained them
  gains_calls : IsTurn made
      → Gains v0 (given (room_means disk clock) v calls new) made
  gains_calls turn = record {
    mine = ap (λ (l : List Call). l ++ calls) taken.mine;
    answered = subst (λ (f : List ℕ). All (λ (m : Made). IsAnswered f m.history m.called m.before m.after m.readings)
        made) taken.same_fixed (all_answered replied does.at does.answered reads);
    begin = all-begin v0.seen replied does.at v.faults_taken new.desk.faults read_to begin;
    seen = prefix-trans v0.seen (spelled_all does.at) last begin
        (spelled-begins does.at (added_in replied) _ does.grown);
    spans = span ∷ [];
    had = ap (λ (l : List Span). l ++ span ∷ []) taken.spans;
    counts = all-counted replied does.at v.faults_taken new.desk.faults read_to;
    turns = made ∷ [];
    cut = sym (append-nil made);
    each = All-cons IsTurn made [] turn (All-nil IsTurn);
    order = one-more v0.mine made (are-beside replied does.at v.faults_taken new.desk.faults read_to) follows_all;
    share = taken.share;
    fixed = taken.same_fixed;
    opening = taken.opening;
    opening_faults = taken.opening_faults;
  }

  -- and the pass gained these calls
  pub gains-together : IsTurn made
      → Gains v0 (given (room_means disk clock) v
      (calls_of (room_means disk clock) v new (told_back (length new.desk.host.history) replied)) new) made
  gains-together turn =
      subst (λ (l : List Call). Gains v0 (given (room_means disk clock) v l new) made) (sym told_is) (gains_calls turn)

  -- no call is told where nothing changed
  module _ (history : new.desk.host.history ≡ old.desk.host.history) (doubt : new.desk.doubt ≡ old.desk.doubt) where
    pub may-nothing : MayGive (room_means disk clock) v [] new
    may-nothing = record {
      stand = All-nil (Stands (room_means disk clock) v.fixed last);
      begin = All-nil (λ (c : Call). IsPrefix v.seen c.prefix);
      once = AllPairs-nil (AreApart (room_means disk clock));
      timed = All-nil (IsTimed (room_means disk clock) v new);
      fixed = fixed_same;
      faults = least;
      readings = not_fewer;
      adds = record {
        group = [];
        resolved = inl refl;
        grown = ap (λ (l : List Entry). spelled_all l) history ∙ (sym seen_old ∙ sym (append-nil v.seen));
      };
      doubts = inr (inl (
        ap (λ (l : List Entry). spelled_all l) doubt ∙ sym taken.doubt,
        ap (λ (l : List Entry). spelled_all l) history ∙ sym seen_old,
      ));
    }

    -- and the pass gained none
    pub gains-none : Gains v0 (given (room_means disk clock) v [] new) []
    gains-none = record {
      mine = ap (λ (l : List Call). l ++ []) taken.mine;
      answered = All-nil (λ (m : Made). IsAnswered v0.fixed m.history m.called m.before m.after m.readings);
      begin = All-nil (λ (m : Made). IsPrefix v0.seen (spelled_all m.history));
      seen = subst (λ (l : History). IsPrefix v0.seen l) (sym (ap (λ (l : List Entry). spelled_all l) history))
          taken.begins;
      spans = span ∷ [];
      had = ap (λ (l : List Span). l ++ span ∷ []) taken.spans;
      counts = All-nil (λ (m : Made). Contains (span ∷ []) (span_of m));
      turns = [];
      cut = refl;
      each = All-nil IsTurn;
      order = λ earlier is ordered. subst AreInOrder (sym (append-nil earlier)) ordered;
      share = taken.share;
      fixed = taken.same_fixed;
      opening = taken.opening;
      opening_faults = taken.opening_faults;
    }
