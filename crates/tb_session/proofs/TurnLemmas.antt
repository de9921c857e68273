-- A turn of the room: what the lock has to be shown at its end, and what the pass gains by it.
use Rattle.std.proofs.Common.{◌≡◌, ℕ, ◌+◌, ◌≤◌, min, List, [], ◌∷◌, ◌++◌, length, Some, None, refl, sym, ap, ◌∙◌, subst, inl, inr, ⊎_elim, arith, append_assoc, length-append}
use Rattle.std.specs.Prelude.{Option, Contains, All, Any, IfSome}
use Rattle.std.proofs.lemmas.Bool.{cases_lt}
use Rattle.std.proofs.lemmas.List.{append-nil, map-append, length-map}
use Rattle.std.proofs.lemmas.List.Elements.{All-nil, All-cons, All-weaker}
use Rattle.tb_units.specs.declared.moment.Moment.{Moment}
use Rattle.tb_link.specs.Counts.{last_count}
use Rattle.tb_disk.specs.Disks.{DiskState}
use Rattle.tb_gates.specs.Clocks.{ClockState, moment_after}
use Rattle.tb_message.specs.declared.key.Key.{Key}
use Rattle.tb_message.specs.declared.message.Entry.{Entry}
use Rattle.tb_message.specs.Spelling.{spelling}
use Rattle.tb_lock.specs.declared.view.Call.{Call}
use Rattle.tb_lock.specs.declared.view.Span.{Span}
use Rattle.tb_lock.specs.declared.view.View.{View}
use Rattle.tb_lock.specs.Meanings.{History, IsPrefix, accepted, repeated, faulted, entryless, Answer as Kind}
use Rattle.tb_lock.specs.Calls.{Stands, IsBetween, Leaves, added_if, accepted_of}
use Rattle.tb_lock.specs.Turns.{IsReadBetween, IsTaken, IsTimed, Adds, Doubts, MayGive, calls_of, given}
use Rattle.tb_lock.proofs.CallerLemmas.{take-prefix, one-call}
use Rattle.tb_lock.proofs.PrefixLemmas.{prefix-trans, any-first}
use Rattle.tb_session.specs.declared.called.Ask.{Ask}
use Rattle.tb_session.specs.declared.called.Outcome.{Outcome}
use Rattle.tb_session.specs.declared.called.Outcome.TheVariants as outcome
use Rattle.tb_session.specs.declared.room.Room.{Room}
use Rattle.tb_session.specs.declared.turn.Turn.{Turn}
use Rattle.tb_session.specs.Calls.{ComesOut, IsAnswerBy}
use Rattle.tb_session.specs.Codes.{spelled_all, code_of, kind_at, kind_in, entry_in, entry_of, outcome_code, moment_at, moment_code, GivesAt, GivesMoment, IsAnswered, Made, call_of, span_of, IsAnswerOf}
use Rattle.tb_session.specs.CodeLaws.{entry-code}
use Rattle.tb_session.specs.Openings.{lock_code}
use Rattle.tb_session.specs.Rooms.{room_means, fixed_of}
use Rattle.tb_session.specs.Gains.{left_by, Follows, StandsBeside, IsTurn, Gains, GainsOne}
use Rattle.tb_session.specs.Turned.{added_by, before_of, Reads, told_of, Calls}
use Rattle.tb_session.proofs.OrderLemmas.{one-more}
use Rattle.tb_session.proofs.OpeningLemmas.{operator-locked, moments-locked}

-- a list of one has it
pub contains-one : {X : Type 0} (x : X) → Contains (x ∷ []) x
contains-one x = (0, omega arith, refl)

-- lists of entries, one behind the other
pub spelled-append : (xs ys : List Entry) → spelled_all (xs ++ ys) ≡ spelled_all xs ++ spelled_all ys
spelled-append xs ys = map-append spelling xs ys

-- a beginning of a history, spelled
pub spelled-begins : (xs ys zs : List Entry) → zs ≡ xs ++ ys → IsPrefix (spelled_all xs) (spelled_all zs)
spelled-begins xs ys zs is = (spelled_all ys, ap (λ (l : List Entry). spelled_all l) is ∙ spelled-append xs ys)

-- what the lock adds of a call's code is what the call adds
pub added-spelled : (o : Outcome) → added_if (kind_at (outcome_code o)) (entry_of o) [] ≡ spelled_all (added_by o)
added-spelled (outcome.Added e) = refl
added-spelled (outcome.Stood e) = refl
added-spelled (outcome.Doubted e) = refl
added-spelled outcome.Told = refl
added-spelled outcome.Lacked = refl

-- an accepted call adds its entry
pub accepted-entry : (o : Outcome) → kind_at (outcome_code o) ≡ accepted → entry_of o ∷ [] ≡ spelled_all (added_by o)
accepted-entry (outcome.Added e) is = refl
accepted-entry (outcome.Stood e) is = absurd (let bad : ⊥ = cc in bad)
accepted-entry (outcome.Doubted e) is = absurd (let bad : ⊥ = cc in bad)
accepted-entry outcome.Told is = absurd (let bad : ⊥ = cc in bad)
accepted-entry outcome.Lacked is = absurd (let bad : ⊥ = cc in bad)

-- where a call left so many entries, as many stood before it
before-is : (o : Outcome) (at history : List Entry) → history ≡ at ++ added_by o → before_of o history ≡ length at
before-is (outcome.Added e) at history is = omega (arith, ap length is, length-append at (e ∷ []))
before-is (outcome.Stood e) at history is = ap length (is ∙ append-nil at)
before-is (outcome.Doubted e) at history is = ap length (is ∙ append-nil at)
before-is outcome.Told at history is = ap length (is ∙ append-nil at)
before-is outcome.Lacked at history is = ap length (is ∙ append-nil at)

-- a reading of the clock keeps its moments
pub reads-moments : (m : Option Moment) (a b : ClockState) → Reads m a b → b.moments ≡ a.moments
reads-moments None a b reads = ap (λ (s : ClockState). s.moments) reads
reads-moments (Some moment) a b reads = reads.moments

-- the same moment
same-some : (a b : Moment) → Some a ≡ Some b → a ≡ b
same-some a b is = cc

-- a count after one more reading
read-between : (before after : ℕ) → after ≡ min (before + 1) last_count → IsReadBetween before after
read-between before after is = elim (cases_lt before last_count) [
  | inl less ↦ inl (omega (arith, is, less))
  | inr most ↦ inr (omega (arith, is, most))
]

-- the moment of a message is the clock's last reading, and the clock was read
pub reads-timed : (m : Option Moment) (a b : ClockState) → Reads m a b → (seconds : ℕ)
    → moment_at (moment_code m) ≡ Some seconds
    → (seconds ≡ b.reading) × IsReadBetween a.readings b.readings
reads-timed None a b reads seconds is = absurd (let bad : ⊥ = cc in bad)
reads-timed (Some moment) a b reads seconds is =
    let same : moment.seconds ≡ seconds = cc in
    (sym same ∙ sym reads.reading, read-between a.readings b.readings reads.readings)

-- there are no fewer readings afterwards
pub reads-on : (m : Option Moment) (a b : ClockState) → Reads m a b → a.readings ≤ last_count → a.readings ≤ b.readings
reads-on None a b reads limited = omega (arith, ap (λ (s : ClockState). s.readings) reads)
reads-on (Some moment) a b reads limited = omega (arith, reads.readings, limited)

-- a clock that was read since some readings was read since fewer
pub read-since : (fewer before after : ℕ) → fewer ≤ before → IsReadBetween before after → IsReadBetween fewer after
read-since fewer before after le read = elim read [
  | inl less ↦ inl (omega (arith, less, le))
  | inr most ↦ inr most
]

-- a clock that tells its moments gives the one at this reading
gives-at : (o : Option (List ℕ)) (before after : ℕ) (moment : Moment)
    → after ≡ min (before + 1) last_count
    → IfSome o (λ moments. Contains moments moment.seconds)
    → IfSome o (λ moments. moment.seconds ≡ moment_after before moments)
    → IfSome o (GivesAt after moment)
gives-at None before after moment is told in_turn = tt
gives-at (Some moments) before after moment is told in_turn = (told, (before, is, in_turn))

-- and it is the one that the clock gives at this reading
pub reads-given : (name : List ℕ) (opened : DiskState) (recovered : ℕ) (m : Option Moment) (a b : ClockState)
    → Reads m a b → (moment : Moment) → m ≡ Some moment
    → GivesMoment (lock_code name opened recovered a.moments) b.readings moment
reads-given name opened recovered None a b reads moment is = absurd (let bad : ⊥ = cc in bad)
reads-given name opened recovered (Some given_one) a b reads moment is =
    subst (λ (o : Option (List ℕ)). IfSome o (GivesAt b.readings moment))
    (sym (moments-locked name opened recovered a.moments))
    (subst (λ (m : Moment). IfSome a.moments (GivesAt b.readings m)) (same-some given_one moment is)
    (gives-at a.moments a.readings b.readings given_one reads.readings reads.told reads.in_turn))

-- the history that a call left begins the history, where the call stands in it
pub left-begins : (c : Call) (k : Kind) (entry : List ℕ) (history : History) → IsPrefix c.prefix history
    → (k ≡ accepted → IsPrefix (c.prefix ++ entry ∷ []) history) → IsPrefix (c.prefix ++ added_if k entry []) history
left-begins c accepted entry history begins after = after refl
left-begins c repeated entry history begins after =
    subst (λ (l : History). IsPrefix l history) (sym (append-nil c.prefix)) begins
left-begins c faulted entry history begins after =
    subst (λ (l : History). IsPrefix l history) (sym (append-nil c.prefix)) begins
left-begins c entryless entry history begins after =
    subst (λ (l : History). IsPrefix l history) (sym (append-nil c.prefix)) begins

module _ {D C : Type 0} (disk : D → DiskState) (clock : C → ClockState) (v0 v : View) (old new : Room D C) (t : Turn)
    (taken : IsTaken (room_means disk clock) v0 v old) (called : Calls disk clock old new t.called t.answer)
    (before : t.before ≡ before_of t.called.outcome new.desk.host.history)
    (limited : (clock old.clock).readings ≤ last_count) where
  abbrev at : List Entry
  at = called.does.at

  abbrev made : Made
  made = record {
    called = t.called;
    history = called.does.at;
    before = v.faults_taken;
    after = new.desk.faults;
    readings = (clock new.clock).readings;
  }

  abbrev call : Call
  call = call_of made

  -- the fixed part stays
  fixed_old : fixed_of disk clock old ≡ v.fixed
  fixed_old = taken.fixed ∙ sym taken.same_fixed

  fixed_same : fixed_of disk clock new ≡ v.fixed
  fixed_same =
      ap (λ (name : List ℕ). lock_code name (disk new.desk.opened) new.desk.recovered (clock new.clock).moments)
      called.same.operator
      ∙ (ap (λ (opened : D). lock_code old.operator (disk opened) new.desk.recovered (clock new.clock).moments)
      called.same.opened
      ∙ (ap (λ (n : ℕ). lock_code old.operator (disk old.desk.opened) n (clock new.clock).moments) called.same.recovered
      ∙ (ap (λ (moments : Option (List ℕ)). lock_code old.operator (disk old.desk.opened) old.desk.recovered moments)
      (reads-moments t.called.moment (clock old.clock) (clock new.clock) called.reads)
      ∙ fixed_old)))

  -- the histories
  at_begins : IsPrefix (spelled_all at) (spelled_all new.desk.host.history)
  at_begins = spelled-begins at (added_by t.called.outcome) _ called.does.grown

  seen_old : v.seen ≡ spelled_all old.desk.host.history
  seen_old = taken.seen

  seen_at : IsPrefix v.seen (spelled_all at)
  seen_at =
      subst (λ (l : History). IsPrefix l (spelled_all at)) (sym seen_old)
      (⊎_elim (λ is. spelled-begins _ [] _ (is ∙ sym (append-nil _))) (λ is. spelled-begins _ old.desk.doubt _ is)
      called.does.settled)

  entry_is : entry_in (code_of t.called) ≡ entry_of t.called.outcome
  entry_is = entry-code t.called

  -- the call was answered
  answered_old : IsAnswered (fixed_of disk clock old) at t.called old.desk.faults new.desk.faults
      (clock new.clock).readings
  answered_old = record {
    legal = called.does.legal;
    in_range = called.does.in_range;
    comes_out = subst (λ (name : List ℕ). ComesOut name at t.called t.called.outcome
        old.desk.faults new.desk.faults)
        (sym (operator-locked old.operator (disk old.desk.opened) old.desk.recovered (clock old.clock).moments))
        called.does.comes_out;
    given = called.does.given;
    timed = reads-given old.operator (disk old.desk.opened) old.desk.recovered t.called.moment (clock old.clock)
        (clock new.clock) called.reads;
  }

  answered : IsAnswered v.fixed at t.called v.faults_taken new.desk.faults (clock new.clock).readings
  answered =
      subst (λ (f : List ℕ). IsAnswered f at t.called v.faults_taken new.desk.faults (clock new.clock).readings)
      fixed_old
      (subst
      (λ (n : ℕ). IsAnswered (fixed_of disk clock old) at t.called n new.desk.faults (clock new.clock).readings)
      (sym taken.faults_taken) answered_old)

  stands : Stands (room_means disk clock) v.fixed (spelled_all new.desk.host.history) call
  stands = record {
    answered = record { called = t.called; history = at; code_is = refl; prefix_is = refl; answered = answered };
    prefix = at_begins;
    entry = λ is. (
      [],
      (ap (λ (l : List Entry). spelled_all l) called.does.grown
          ∙ (spelled-append at _
          ∙ ap (λ (l : History). spelled_all at ++ l)
          (sym (accepted-entry t.called.outcome is) ∙ ap (λ (e : List ℕ). e ∷ []) (sym entry_is))))
          ∙ sym (append-nil _),
    );
  }

  timed : IsTimed (room_means disk clock) v new call
  timed seconds is =
      let read = reads-timed t.called.moment (clock old.clock) (clock new.clock) called.reads seconds is in
      (read.0, subst (λ (n : ℕ). IsReadBetween n (clock new.clock).readings) (sym taken.readings) read.1)

  added_is : accepted_of (room_means disk clock) v.fixed (call ∷ []) ≡ spelled_all (added_by t.called.outcome)
  added_is =
      ap (λ (e : List ℕ). added_if (kind_at (outcome_code t.called.outcome)) e []) entry_is
      ∙ added-spelled t.called.outcome

  new_is : spelled_all new.desk.host.history
      ≡ spelled_all at ++ accepted_of (room_means disk clock) v.fixed (call ∷ [])
  new_is =
      ap (λ (l : List Entry). spelled_all l) called.does.grown
      ∙ (spelled-append at _ ∙ ap (λ (l : History). spelled_all at ++ l) (sym added_is))

  adds_them : Adds (room_means disk clock) v (call ∷ []) (spelled_all new.desk.host.history)
  adds_them = ⊎_elim
      (λ is. record {
        group = [];
        resolved = inl refl;
        grown = new_is
            ∙ ap (λ (l : History). l ++ accepted_of (room_means disk clock) v.fixed (call ∷ []))
            (ap (λ (l : List Entry). spelled_all l) is ∙ sym seen_old);
      })
      (λ is. record {
        group = spelled_all old.desk.doubt;
        resolved = inr (sym taken.doubt);
        grown = new_is
            ∙ (ap (λ (l : History). l ++ accepted_of (room_means disk clock) v.fixed (call ∷ []))
            (ap (λ (l : List Entry). spelled_all l) is
            ∙ (spelled-append _ _ ∙ ap (λ (l : History). l ++ spelled_all old.desk.doubt) (sym seen_old)))
            ∙ append_assoc v.seen _ _);
      })
      called.does.settled

  leaves_it : (e : Entry) → t.called.outcome ≡ outcome.Doubted e
      → Leaves (room_means disk clock) v.fixed (spelling e) call
  leaves_it e is =
      (ap (λ (o : Outcome). kind_at (outcome_code o)) is, entry_is ∙ ap (λ (o : Outcome). entry_of o) is)

  doubts_them : Doubts (room_means disk clock) v (call ∷ []) (spelled_all new.desk.host.history)
      (spelled_all new.desk.doubt)
  doubts_them = ⊎_elim
      (λ none. inl (ap (λ (l : List Entry). spelled_all l) none))
      (λ some. ⊎_elim
      (λ kept. inr (inl (
        ap (λ (l : List Entry). spelled_all l) kept.0 ∙ sym taken.doubt,
        ap (λ (l : List Entry). spelled_all l) kept.1 ∙ sym seen_old,
      )))
      (λ lost. inr (inr (subst
      (λ (l : List Entry). All (λ (e : List ℕ). Any (Leaves (room_means disk clock) v.fixed e) (call ∷ []))
      (spelled_all l))
      (sym lost.2)
      (All-cons (λ (e : List ℕ). Any (Leaves (room_means disk clock) v.fixed e) (call ∷ [])) (spelling lost.0) []
      (any-first _ call [] (leaves_it lost.0 lost.1)) (All-nil _)))))
      some)
      called.does.doubt

  least : v.faults_taken ≤ new.desk.faults
  least = omega (arith, called.does.least, taken.faults_taken)

  -- the clock has given no fewer readings
  read_on : (clock old.clock).readings ≤ (clock new.clock).readings
  read_on = reads-on t.called.moment (clock old.clock) (clock new.clock) called.reads limited

  not_fewer : v.readings ≤ (clock new.clock).readings
  not_fewer = omega (arith, taken.readings, read_on)

  may_call : MayGive (room_means disk clock) v (call ∷ []) new
  may_call =
      one-call (room_means disk clock) v new call stands seen_at timed fixed_same least not_fewer adds_them doubts_them

  -- the lock cuts the prefix itself
  told_is : calls_of (room_means disk clock) v new (told_of t) ≡ call ∷ []
  told_is =
      ap (λ (l : History). record {
        code = code_of t.called;
        prefix = l;
        faults_before = v.faults_taken;
        faults_after = new.desk.faults;
        readings = (clock new.clock).readings;
      } ∷ [])
      (take-prefix t.before (spelled_all at) (spelled_all new.desk.host.history) at_begins
      (before ∙ (before-is t.called.outcome at new.desk.host.history called.does.grown ∙ sym (length-map at spelling))))

  -- the turn may end
  pub may : MayGive (room_means disk clock) v (calls_of (room_means disk clock) v new (told_of t)) new
  may = subst (λ (l : List Call). MayGive (room_means disk clock) v l new) (sym told_is) may_call

  begin : IsPrefix v0.seen (spelled_all at)
  begin =
      prefix-trans v0.seen v.seen (spelled_all at)
      (subst (λ (l : History). IsPrefix v0.seen l) (sym seen_old) taken.begins) seen_at

  old_at : IsPrefix (spelled_all old.desk.host.history) (spelled_all at)
  old_at = subst (λ (l : History). IsPrefix l (spelled_all at)) seen_old seen_at

  follows_one : (c : Call) → Stands (room_means disk clock) v0.fixed (spelled_all old.desk.host.history) c
      → IsBetween v0.opening_faults old.desk.faults c → c.readings ≤ (clock old.clock).readings → Follows c call
  follows_one c s n by = record {
    history = prefix-trans (left_by c) (spelled_all old.desk.host.history) (spelled_all at)
        (left-begins c (kind_in c.code) (entry_in c.code) (spelled_all old.desk.host.history) s.prefix s.entry) old_at;
    faults = omega (arith, n.most, taken.faults_taken);
    readings = omega (arith, by, read_on);
    read = λ moment is. read-since c.readings (clock old.clock).readings (clock new.clock).readings by
        (reads-timed t.called.moment (clock old.clock) (clock new.clock) called.reads moment is).1;
  }

  follows_all : All (λ c. Follows c call) v0.mine
  follows_all = λ k d lt. follows_one _ (taken.stand k d lt) (taken.counts k d lt) (taken.read k d lt)

  follows_turn : All (λ c. All (Follows c) (call ∷ [])) v0.mine
  follows_turn =
      All-weaker (λ (c : Call). Follows c call) (λ (c : Call). All (Follows c) (call ∷ []))
      (λ c follows. All-cons (Follows c) call [] follows (All-nil (Follows c))) v0.mine follows_all

  gains_call : Gains v0 (given (room_means disk clock) v (call ∷ []) new) (made ∷ [])
  gains_call = record {
    mine = ap (λ (l : List Call). l ++ call ∷ []) taken.mine;
    answered = All-cons (λ m. IsAnswered v0.fixed m.history m.called m.before m.after m.readings) made []
        (subst (λ (f : List ℕ). IsAnswered f at t.called v.faults_taken new.desk.faults (clock new.clock).readings)
        taken.same_fixed answered)
        (All-nil _);
    begin = All-cons (λ m. IsPrefix v0.seen (spelled_all m.history)) made [] begin (All-nil _);
    seen = prefix-trans v0.seen (spelled_all at) (spelled_all new.desk.host.history) begin at_begins;
    spans = span_of made ∷ [];
    had = ap (λ (l : List Span). l ++ span_of made ∷ []) taken.spans;
    counts = All-cons (λ m. Contains (span_of made ∷ []) (span_of m)) made [] (contains-one (span_of made)) (All-nil _);
    turns = (made ∷ []) ∷ [];
    cut = refl;
    each = All-cons IsTurn (made ∷ []) [] (inl refl) (All-nil IsTurn);
    order = one-more v0.mine (made ∷ []) (All-nil (StandsBeside call), tt) follows_turn;
    share = taken.share;
    fixed = taken.same_fixed;
    opening = taken.opening;
    opening_faults = taken.opening_faults;
  }

  -- the pass gained this call
  pub gains : (key : Key) (asked : Ask) → t.called.key ≡ key → t.called.ask ≡ asked
      → GainsOne v0 (given (room_means disk clock) v (calls_of (room_means disk clock) v new (told_of t)) new) key asked
      t.answer
  gains key asked key_is ask_is = record {
    made = made;
    gains = subst (λ (l : List Call). Gains v0 (given (room_means disk clock) v l new) (made ∷ [])) (sym told_is)
        gains_call;
    key_is = key_is;
    ask_is = ask_is;
    answer_is = subst (λ (f : List ℕ). IsAnswerOf f made t.answer) taken.fixed
        (subst (λ (name : List ℕ). IsAnswerBy name at t.called t.called.outcome t.answer)
        (sym (operator-locked old.operator (disk old.desk.opened) old.desk.recovered (clock old.clock).moments))
        called.does.answer);
  }
