-- No more turns of all gates met a fault of the disk than its count rose.
use Rattle.std.proofs.Common.{◌≡◌, ◌≢◌, ℕ, ◌+◌, ◌-◌, ◌≤◌, ◌<◌, ◌⊎◌, Bool, true, false, cond, List, [], ◌∷◌, map, length, refl, sym, ap, subst, inl, inr, ⊎_elim, arith}
use Rattle.std.specs.Prelude.{All, AllPairs, Contains, count_by, get_or}
use Rattle.std.proofs.lemmas.Bool.{cases_lt}
use Rattle.std.proofs.lemmas.Bool.Decides.{Decides-eqb}
use Rattle.std.proofs.lemmas.List.Elements.{All-nil, All-cons, All-head, All-tail, All-append, All-weaker, All-contains}
use Rattle.std.proofs.lemmas.List.Folds.{Any-from_list_any}
use Rattle.std.proofs.lemmas.List.Sums.{sum_by-append}
use Rattle.std.proofs.Math.Dec.{eqb}
use Rattle.std.proofs.lemmas.List.Kept.{AllPairs-cons}
use Rattle.std.proofs.lemmas.Map.Made.{IsDistinct-from_AllPairs}
use Rattle.std.proofs.lemmas.Map.Steps.{length-le_from_distinct_below}
use Rattle.tb_units.proofs.ListLemmas.{All-front, All-back, AllPairs-head, AllPairs-tail, AllPairs-nil, AllPairs-append}
use Rattle.tb_link.specs.Counts.{last_count}
use Rattle.tb_link.specs.Sources.{SourceState}
use Rattle.tb_link.specs.Sinks.{SinkState}
use Rattle.tb_disk.specs.Disks.{DiskState}
use Rattle.tb_gates.specs.Clocks.{ClockState}
use Rattle.tb_gates.specs.Gates.{GateState}
use Rattle.tb_message.specs.declared.message.Entry.{Entry}
use Rattle.tb_lock.specs.Calls.{LieApart}
use Rattle.tb_session.specs.declared.called.Called.{Called}
use Rattle.tb_session.specs.declared.called.Outcome.{Outcome}
use Rattle.tb_session.specs.declared.called.Outcome.TheVariants as outcome
use Rattle.tb_session.specs.declared.room.Room.{Room}
use Rattle.tb_session.specs.Calls.{Faulted, ComesOut}
use Rattle.tb_session.specs.Codes.{Made, call_of, span_of, operator_in, IsAnswered}
use Rattle.tb_session.specs.Gains.{Follows, TurnFollows, AreInOrder, joined, turns_of}
use Rattle.tb_session.specs.Work.{calls_of_links}
use Rattle.tb_session.specs.Serve.{Run, calls_of_gates, CountApart, RunsApart, AreCutInto, is_doubted, met_fault, some_met, ServesAll}
use Rattle.tb_session.proofs.ClosingLemmas.{all-unmapped}

-- what holds of all elements of several lists holds of all of each
all-joined : {X : Type 0} (P : X → Type 0) (lists : List (List X)) → All P (joined lists) → All (All P) lists
all-joined P [] all = All-nil (All P)
all-joined P (list ∷ lists) all =
    All-cons (All P) list lists (All-front P list (joined lists) all)
    (all-joined P lists (All-back P list (joined lists) all))

-- ---- turns of all gates lie apart

-- a turn that follows another lies apart from it
follows-apart : (earlier later : List Made) → TurnFollows (map call_of earlier) (map call_of later)
    → CountApart earlier later
follows-apart earlier later follow =
    All-weaker (λ m. All (Follows (call_of m)) (map call_of later))
    (λ m. All (λ n. LieApart (span_of m) (span_of n)) later)
    (λ m all. All-weaker (λ n. Follows (call_of m) (call_of n)) (λ n. LieApart (span_of m) (span_of n))
    (λ n follows. inl follows.faults) later (all-unmapped (Follows (call_of m)) call_of later all))
    earlier
    (all-unmapped (λ call. All (Follows call) (map call_of later)) call_of earlier follow)

-- turns in order lie apart
in_order-apart : (turns : List (List Made)) → AreInOrder (turns_of turns) → AllPairs CountApart turns
in_order-apart [] ordered = AllPairs-nil CountApart
in_order-apart (turn ∷ turns) (beside, follow, later) =
    AllPairs-cons CountApart turn turns
    (All-weaker (λ other. TurnFollows (map call_of turn) (map call_of other)) (CountApart turn)
    (follows-apart turn) turns
    (all-unmapped (TurnFollows (map call_of turn)) (λ (other : List Made). map call_of other) turns follow))
    (in_order-apart turns later)

-- calls that lie apart from all calls of several turns lie apart from each turn
each-apart : (calls : List Made) (turns : List (List Made)) → CountApart calls (joined turns)
    → All (CountApart calls) turns
each-apart calls turns apart = λ k d within i e inside.
    all-joined (λ n. LieApart (span_of (get_or calls i e)) (span_of n)) turns (apart i e inside) k d within

module _ {K : Type 0} where
  -- calls that lie apart from those of each gate lie apart from each of the gates' turns
  cut-apart_from : (calls : List Made) (runs : List (Run K)) (turns : List (List Made))
      → All (λ run. CountApart calls (calls_of_links run.links)) runs
      → AreCutInto runs turns
      → All (CountApart calls) turns
  cut-apart_from calls [] turns apart cut = subst (All (CountApart calls)) (sym cut) (All-nil (CountApart calls))
  cut-apart_from calls (run ∷ runs) turns apart (own, others, cut, rest) =
      let Apart : Run K → Type 0 = λ r. CountApart calls (calls_of_links r.links) in
      subst (All (CountApart calls)) (sym cut) (All-append (CountApart calls) own.turns others
      (each-apart calls own.turns (subst (CountApart calls) own.cut (All-head Apart run runs apart)))
      (cut-apart_from calls runs others (All-tail Apart run runs apart) rest))

  -- the turns of all gates lie apart
  cut-apart : (runs : List (Run K)) (turns : List (List Made))
      → AllPairs RunsApart runs
      → AreCutInto runs turns
      → AllPairs CountApart turns
  cut-apart [] turns apart cut = subst (AllPairs CountApart) (sym cut) (AllPairs-nil CountApart)
  cut-apart (run ∷ runs) turns apart (own, others, cut, rest) =
      let from : All (RunsApart run) runs = AllPairs-head RunsApart run runs apart in
      let own_from : All (λ turn. All (λ r. CountApart turn (calls_of_links r.links)) runs) own.turns =
      λ k d within i e inside.
      let other = calls_of_links (get_or runs i e).links in
      all-joined (λ m. All (λ n. LieApart (span_of m) (span_of n)) other) own.turns
      (subst (λ (calls : List Made). CountApart calls other) own.cut (from i e inside)) k d within in
      subst (AllPairs CountApart) (sym cut) (AllPairs-append CountApart own.turns others
      (in_order-apart own.turns own.order)
      (cut-apart runs others (AllPairs-tail RunsApart run runs apart) rest)
      (All-weaker (λ turn. All (λ r. CountApart turn (calls_of_links r.links)) runs)
      (λ turn. All (CountApart turn) others)
      (λ turn all. cut-apart_from turn runs others all rest) own.turns own_from))

  -- what holds of all calls of all gates holds of all calls of each turn
  cut-each : (P : Made → Type 0) (runs : List (Run K)) (turns : List (List Made))
      → All P (calls_of_gates runs)
      → AreCutInto runs turns
      → All (All P) turns
  cut-each P [] turns all cut = subst (All (All P)) (sym cut) (All-nil (All P))
  cut-each P (run ∷ runs) turns all (own, others, cut, rest) =
      let first = calls_of_links run.links in
      subst (All (All P)) (sym cut) (All-append (All P) own.turns others
      (all-joined P own.turns (subst (All P) own.cut (All-front P first (calls_of_gates runs) all)))
      (cut-each P runs others (All-back P first (calls_of_gates runs) all) rest))

-- ---- and each that met a fault has a number of faults of its own

-- one turn more is counted where it met a fault
count-more : (turn : List Made) (turns : List (List Made)) (met : Bool)
    → some_met turn ≡ met
    → count_by some_met (turn ∷ turns) ≡ cond met 1 0 + count_by some_met turns
count-more turn turns met is =
    omega (
      arith,
      sum_by-append (λ t. cond (some_met t) 1 0) (turn ∷ []) turns,
      ap {B = ℕ} (λ (b : Bool). cond b 1 0) is,
    )

module _ (low high : ℕ) where
  -- the count rose in the turn of the call, within these bounds
  pub record IsRise (m : Made) : Type 0 where
    pub least : low ≤ m.before
    pub rise : m.before < m.after
    pub most : m.after ≤ high

  -- it did where the call met a fault
  abbrev RisesAt : Made → Type 0
  RisesAt m = met_fault m ≡ true → IsRise m

  -- For each turn that met a fault a number, how many more than the least it began with: no two are the same.
  record HaveNumbers (turns : List (List Made)) : Type 0 where
    pub numbers : List ℕ
    pub as_many : length numbers ≡ count_by some_met turns
    pub distinct : AllPairs (λ one other. one ≢ other) numbers
    pub below : All (λ number. number < high - low) numbers
    pub others : (m : Made)
        → IsRise m
        → All (λ turn. All (λ n. LieApart (span_of m) (span_of n)) turn) turns
        → All (λ number. m.before - low ≢ number) numbers

  -- two calls whose turns lie apart, and in each of which the count rose, began with different counts
  rises-differ : (m n : Made) → IsRise m → IsRise n → LieApart (span_of m) (span_of n)
      → m.before - low ≢ n.before - low
  rises-differ m n one other apart same =
      let one_least = one.least in
      let one_rise = one.rise in
      let other_least = other.least in
      let other_rise = other.rise in
      ⊎_elim (λ (first : m.after ≤ n.before). absurd (omega arith))
      (λ (last : n.after ≤ m.before). absurd (omega arith)) apart

  -- a turn more
  numbers-more : (turn : List Made) (turns : List (List Made)) (met : Bool)
      → some_met turn ≡ met
      → All RisesAt turn
      → All (CountApart turn) turns
      → HaveNumbers turns
      → HaveNumbers (turn ∷ turns)
  numbers-more turn turns false is rises apart have = record {
    numbers = have.numbers;
    as_many = omega (arith, have.as_many, count-more turn turns false is);
    distinct = have.distinct;
    below = have.below;
    others = λ m rise all. have.others m rise
        (All-tail (λ other. All (λ n. LieApart (span_of m) (span_of n)) other) turn turns all);
  }
  numbers-more turn turns true is rises apart have =
      let some = Any-from_list_any met_fault turn is in
      let m : Made = some.1 in
      let has : Contains turn m = (some.0, some.2, some.3) in
      let rise : IsRise m = All-contains RisesAt turn m rises has some.4 in
      let least = rise.least in
      let rose = rise.rise in
      let most = rise.most in
      let far : All (λ other. All (λ n. LieApart (span_of m) (span_of n)) other) turns =
      All-weaker (CountApart turn) (λ other. All (λ n. LieApart (span_of m) (span_of n)) other)
      (λ other all. All-contains (λ c. All (λ n. LieApart (span_of c) (span_of n)) other) turn m all has)
      turns apart in record {
        numbers = (m.before - low) ∷ have.numbers;
        as_many = omega (arith, have.as_many, count-more turn turns true is);
        distinct = AllPairs-cons (λ one other. one ≢ other) (m.before - low) have.numbers
            (have.others m rise far) have.distinct;
        below = All-cons (λ number. number < high - low) (m.before - low) have.numbers (omega arith) have.below;
        others = λ n other all.
            let Far : List Made → Type 0 = λ calls. All (λ c. LieApart (span_of n) (span_of c)) calls in
            All-cons (λ number. n.before - low ≢ number) (m.before - low) have.numbers
            (rises-differ n m other rise
            (All-contains (λ c. LieApart (span_of n) (span_of c)) turn m (All-head Far turn turns all) has))
            (have.others n other (All-tail Far turn turns all));
      }

  -- all turns have theirs
  numbers-all : (turns : List (List Made)) → AllPairs CountApart turns → All (All RisesAt) turns → HaveNumbers turns
  numbers-all [] apart rises = record {
    numbers = [];
    as_many = refl;
    distinct = AllPairs-nil (λ one other. one ≢ other);
    below = All-nil (λ number. number < high - low);
    others = λ m rise all. All-nil (λ number. m.before - low ≢ number);
  }
  numbers-all (turn ∷ turns) apart rises =
      numbers-more turn turns (some_met turn) refl (All-head (All RisesAt) turn turns rises)
      (AllPairs-head CountApart turn turns apart)
      (numbers-all turns (AllPairs-tail CountApart turn turns apart) (All-tail (All RisesAt) turn turns rises))

  -- numbers below a bound, no two the same, are no more than it
  few-numbers : (numbers : List ℕ) (bound : ℕ) → AllPairs (λ one other. one ≢ other) numbers
      → All (λ number. number < bound) numbers → length numbers ≤ bound
  few-numbers numbers bound distinct below =
      length-le_from_distinct_below numbers bound (IsDistinct-from_AllPairs Decides-eqb numbers distinct)
      (λ q has.
      let some = Any-from_list_any (eqb q) numbers has in
      let same = (Decides-eqb q some.1).0 some.4 in
      let there = All-contains (λ number. number < bound) numbers some.1 below (some.0, some.2, some.3) in
      omega arith)

  -- so such turns are no more than the count rose
  pub few-met : {K : Type 0} (runs : List (Run K)) (turns : List (List Made))
      → AllPairs RunsApart runs
      → All RisesAt (calls_of_gates runs)
      → AreCutInto runs turns
      → count_by some_met turns ≤ high - low
  few-met runs turns apart rises cut =
      let have = numbers-all turns (cut-apart runs turns apart cut) (cut-each RisesAt runs turns rises cut) in
      let few = few-numbers have.numbers (high - low) have.distinct have.below in
      omega (arith, have.as_many, few)

-- ---- so it is in a run

-- a call that met a fault was answered where the count rose, or had reached its last value
faulted-of : (operator : List ℕ) (history : List Entry) (c : Called) (o : Outcome) (before after : ℕ)
    → is_doubted o ≡ true
    → ComesOut operator history c o before after
    → Faulted before after
faulted-of operator history c (outcome.Added e) before after is out = absurd (cc)
faulted-of operator history c (outcome.Stood e) before after is out = absurd (cc)
faulted-of operator history c (outcome.Doubted e) before after is (entry, runs, faulted) = faulted
faulted-of operator history c outcome.Told before after is out = absurd (cc)
faulted-of operator history c outcome.Lacked before after is out = absurd (cc)

-- below its last value it rose
rises-at : (low high : ℕ) (fixed : List ℕ) (m : Made)
    → high < last_count
    → (low ≤ m.before) × (m.before ≤ m.after) × (m.after ≤ high)
    → IsAnswered fixed m.history m.called m.before m.after m.readings
    → RisesAt low high m
rises-at low high fixed m below counts answered is =
    let least = counts.0 in
    let most = counts.2 in
    let met = faulted-of (operator_in fixed) m.history m.called m.called.outcome m.before m.after is
    answered.comes_out in
    ⊎_elim (λ (rose : m.before < m.after). record { least = least; rise = rose; most = most })
    (λ (last : m.after ≡ last_count). absurd (omega arith)) met.1

module _ {D C G K : Type 0} (disk : D → DiskState) (clock : C → ClockState) (gate : G → GateState K)
    (source : K → SourceState) (sink : K → SinkState) where
  -- no more turns of the gates were answered with a disk fault than the count rose, unless it has reached its last
  -- value
  pub few-faulted : (room after : Room D C) (olds news : List G) (served accepted : ℕ) (failed : Bool)
      (turns : List (List Made))
      → (run : ServesAll disk clock gate source sink room olds after news served accepted failed)
      → AreCutInto run.runs turns
      → (count_by some_met turns ≤ after.desk.faults - room.desk.faults) ⊎ (last_count ≤ after.desk.faults)
  few-faulted room after olds news served accepted failed turns run cut =
      let low = room.desk.faults in
      let high = after.desk.faults in
      ⊎_elim
      (λ (below : high < last_count). inl (few-met low high run.runs turns run.apart
      (λ k d within. rises-at low high _ _ below (run.history.counts k d within) (run.history.answered k d within))
      cut))
      (λ (reached : last_count ≤ high). inr reached)
      (cases_lt high last_count)
