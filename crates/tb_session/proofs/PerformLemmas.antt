-- A group in a turn of its own, by how it came out.
use Rattle.std.proofs.Common.{◌≡◌, ℕ, zero, suc, ◌-◌, ◌≤◌, List, [], ◌∷◌, ◌++◌, length, map, take, replicate, Option, Some, None, refl, sym, ap, ◌∙◌, subst, inr, arith}
use Rattle.std.specs.Prelude.{All}
use Rattle.std.proofs.lemmas.List.{length-map, take-replicate}
use Rattle.std.proofs.Math.Seq.{take-append_seam}
use Rattle.std.proofs.lemmas.List.Elements.{All-nil, All-cons, All-head, All-tail}
use Rattle.tb_units.specs.declared.moment.Moment.{Moment}
use Rattle.tb_link.specs.Counts.{last_count}
use Rattle.tb_disk.specs.Disks.{DiskState}
use Rattle.tb_gates.specs.Clocks.{ClockState}
use Rattle.tb_message.specs.declared.key.Key.{Key}
use Rattle.tb_message.specs.declared.message.Entry.{Entry}
use Rattle.tb_message.specs.declared.message.Message.{Message}
use Rattle.tb_message.specs.declared.verdict.Verdict.{Verdict}
use Rattle.tb_core.specs.House.{IsBid}
use Rattle.tb_desk.specs.Turn.{AreBids}
use Rattle.tb_lock.specs.declared.view.View.{View}
use Rattle.tb_lock.specs.Turns.{IsTaken, MayGive, calls_of, given}
use Rattle.tb_session.specs.declared.answer.Answer.{Answer}
use Rattle.tb_session.specs.declared.answer.Answer.TheVariants as answer
use Rattle.tb_session.specs.declared.answer.GroupAnswer.TheVariants as group
use Rattle.tb_session.specs.declared.called.Ask.{Ask}
use Rattle.tb_session.specs.declared.groups.Grouped.{Grouped}
use Rattle.tb_session.specs.declared.groups.Grouped.TheVariants as grouped
use Rattle.tb_session.specs.declared.room.Room.{Room}
use Rattle.tb_session.specs.Calls.{IsAnswerBy}
use Rattle.tb_session.specs.Codes.{Made, operator_in}
use Rattle.tb_session.specs.Rooms.{room_means}
use Rattle.tb_session.specs.Gains.{AreBidsOfOne, AsksBid, BecameCalls, Gains, GainsTogether, IsBidWith, IsPlain}
use Rattle.tb_session.specs.Turned.{Reads, LeavesDesk}
use Rattle.tb_session.specs.Groups.{AreCallsOf, AreReplied, CallsTogether, GainsGroup, Replied, TellsGroup, answer_at, answer_of, answers_at, replied_by, said_in, told_back, told_group}
use Rattle.tb_session.proofs.OpeningLemmas.{operator-locked}
use Rattle.tb_session.proofs.TurnLemmas.{reads-on}
use Rattle.tb_session.proofs.TogetherLemmas.{are-beside, gains-none, gains-together, made-length, made_from, may-nothing, may-together}

-- as many calls as messages
calls-length : (k : Key) (moment : Moment) (messages : List (ℕ × Message)) (replied : List Replied)
    → AreCallsOf k moment messages replied → length replied ≡ length messages
calls-length k moment [] [] are = refl
calls-length k moment [] (r ∷ replied) are = absurd are
calls-length k moment (asked ∷ messages) [] are = absurd are
calls-length k moment (asked ∷ messages) (r ∷ replied) are =
    let more = calls-length k moment messages replied are.3 in omega (arith, more)

-- the clock was read for each
calls-read : (k : Key) (moment : Moment) (messages : List (ℕ × Message)) (replied : List Replied)
    (old new : ClockState)
    → AreCallsOf k moment messages replied
    → Reads (Some moment) old new
    → All (λ r. Reads r.called.moment old new) replied
calls-read k moment [] [] old new are reads = All-nil (λ (r : Replied). Reads r.called.moment old new)
calls-read k moment [] (r ∷ replied) old new are reads = absurd are
calls-read k moment (asked ∷ messages) [] old new are reads = absurd are
calls-read k moment (asked ∷ messages) (r ∷ replied) old new are reads =
    All-cons (λ (x : Replied). Reads x.called.moment old new) r replied
    (subst (λ (m : Option Moment). Reads m old new) (sym are.2) reads)
    (calls-read k moment messages replied old new are.3 reads)

-- the bids became these calls
became-calls : (operator fixed : List ℕ) (k : Key) (moment : Moment) (bids : List (ℕ × Message))
    (replied : List Replied)
    (at : List Entry) (low high readings from upto : ℕ)
    → operator_in fixed ≡ operator
    → AreCallsOf k moment bids replied
    → AreReplied operator at from upto replied
    → BecameCalls fixed k bids (made_from at low high readings replied) (said_in replied)
became-calls operator fixed k moment [] [] at low high readings from upto is are answered = tt
became-calls operator fixed k moment [] (r ∷ replied) at low high readings from upto is are answered = absurd are
became-calls operator fixed k moment (asked ∷ bids) [] at low high readings from upto is are answered = absurd are
became-calls operator fixed k moment (asked ∷ bids) (r ∷ replied) at low high readings from upto is are answered = (
  are.0,
  are.1,
  subst (λ (name : List ℕ). IsAnswerBy name at r.called r.called.outcome r.said) (sym is) answered.0.answer,
  became-calls operator fixed k moment bids replied _ low high readings from upto is are.3 answered.1,
)

-- each of which is a bid with this key
are-bids : (k : Key) (moment : Moment) (bids : List (ℕ × Message)) (replied : List Replied)
    (at : List Entry) (low high readings : ℕ)
    → AreBids bids
    → AreCallsOf k moment bids replied
    → All (IsBidWith k) (made_from at low high readings replied)
are-bids k moment [] [] at low high readings all are = All-nil (IsBidWith k)
are-bids k moment [] (r ∷ replied) at low high readings all are = absurd are
are-bids k moment (asked ∷ bids) [] at low high readings all are = absurd are
are-bids k moment (asked ∷ bids) (r ∷ replied) at low high readings all are =
    let Bid : ℕ × Message → Type 0 = λ (one : ℕ × Message). IsBid one.1 in
    let m : Made = record { called = r.called; history = at; before = low; after = high; readings = readings } in
    All-cons (IsBidWith k) m _
    (are.0, subst (λ (a : Ask). AsksBid a) (sym are.1) (All-head Bid asked bids all))
    (are-bids k moment bids replied _ low high readings (All-tail Bid asked bids all) are.3)

-- the verdicts in the places
answers-given : (given : List Verdict)
    → map (λ place. answer_at group.Verdicts place) (map Some given) ≡ map answer.Verdict given
answers-given [] = refl
answers-given (said ∷ given) = ap (λ (l : List Answer). answer.Verdict said ∷ l) (answers-given given)

-- no verdict takes memory
all-plain : (given : List Verdict) → All IsPlain (map answer.Verdict given)
all-plain [] = All-nil IsPlain
all-plain (said ∷ given) = All-cons IsPlain (answer.Verdict said) (map answer.Verdict given) tt (all-plain given)

-- as many disk faults as there are answers that are one
all-faults : (said : List Answer) (n : ℕ) → length said ≡ n → All (λ a. a ≡ answer.DiskFault) said
    → map (λ (place : Option Verdict). answer_at group.DiskFault place) (replicate n None) ≡ said
all-faults [] zero long all = refl
all-faults [] (suc n) long all = absurd (let bad : ⊥ = omega (arith, long) in bad)
all-faults (a ∷ said) zero long all = absurd (let bad : ⊥ = omega (arith, long) in bad)
all-faults (a ∷ said) (suc n) long all =
    let Fault : Answer → Type 0 = λ (x : Answer). x ≡ answer.DiskFault in
    ap (λ (l : List Answer). answer.DiskFault ∷ l) (all-faults said n (omega (arith, long)) (All-tail Fault a said all))
    ∙ ap (λ (x : Answer). x ∷ said) (sym (All-head Fault a said all))

-- nor does a disk fault
faults-plain : (said : List Answer) → All (λ a. a ≡ answer.DiskFault) said → All IsPlain said
faults-plain [] all = All-nil IsPlain
faults-plain (a ∷ said) all =
    let Fault : Answer → Type 0 = λ (x : Answer). x ≡ answer.DiskFault in
    All-cons IsPlain a said (subst (λ (x : Answer). IsPlain x) (sym (All-head Fault a said all)) tt)
    (faults-plain said (All-tail Fault a said all))

-- the answers that the places tell are those of the calls, and take no memory
answers-told : (places : List (Option Verdict)) (said : List Answer) (n : ℕ) → length said ≡ n
    → TellsGroup group.Verdicts places said
    → (answers_at group.Verdicts places n ≡ said) × All IsPlain said
answers-told places said n long tells =
    let given : List Verdict = tells.0 in
    let front : List (Option Verdict) = map Some given in
    let count : length front ≡ n =
    omega (
      arith,
      length-map given Some,
      length-map given answer.Verdict,
      ap (λ (l : List Answer). length l) tells.1,
      long,
    ) in (
      ap (λ (l : List (Option Verdict)). answers_at group.Verdicts l n) tells.2
          ∙ (ap (λ (m : ℕ). map (λ place. answer_at group.Verdicts place)
          (take m (front ++ replicate (64 - length given) None)))
          (sym count)
          ∙ (ap (λ (l : List (Option Verdict)). map (λ place. answer_at group.Verdicts place) l)
          (take-append_seam front (replicate (64 - length given) None))
          ∙ (answers-given given ∙ sym tells.1))),
      subst (λ (l : List Answer). All IsPlain l) (sym tells.1) (all-plain given),
    )

-- where the group met a fault the places tell nothing, and each call is answered the fault
answers-failed : (places : List (Option Verdict)) (said : List Answer) (n : ℕ) → length said ≡ n → n ≤ 64
    → TellsGroup group.DiskFault places said
    → (answers_at group.DiskFault places n ≡ said) × All IsPlain said
answers-failed places said n long few tells = (
  ap (λ (l : List (Option Verdict)). answers_at group.DiskFault l n) tells.1
      ∙ (ap (λ (l : List (Option Verdict)). map (λ place. answer_at group.DiskFault place) l)
      (take-replicate n 64 None few)
      ∙ all-faults said n long tells.0),
  faults-plain said tells.0,
)

module _ {D C : Type 0} (disk : D → DiskState) (clock : C → ClockState) (v0 v : View) (old new : Room D C)
    (taken : IsTaken (room_means disk clock) v0 v old) (k : Key) (bids : List (ℕ × Message)) (moment : Moment)
    (places : List (Option Verdict)) (entries : ℕ) (counted : entries ≡ length new.desk.host.history)
    (some : 1 ≤ length bids) (few : length bids ≤ 64) (all_bids : AreBids bids)
    (limited : (clock old.clock).readings ≤ last_count) where
  module _ (replied : List Replied) (together : CallsTogether disk clock old new k bids moment replied) where
    reads : All (λ r. Reads r.called.moment (clock old.clock) (clock new.clock)) replied
    reads = calls-read k moment bids replied (clock old.clock) (clock new.clock) together.calls together.reads

    -- the clock has given no fewer readings
    on : (clock old.clock).readings ≤ (clock new.clock).readings
    on = reads-on (Some moment) (clock old.clock) (clock new.clock) together.reads limited

    -- the turn may end
    one-may : MayGive (room_means disk clock) v (calls_of (room_means disk clock) v new (told_back entries replied)) new
    one-may =
        subst (λ (n : ℕ). MayGive (room_means disk clock) v
        (calls_of (room_means disk clock) v new (told_back n replied)) new) (sym counted)
        (may-together disk clock v0 v old new taken replied together.does together.same together.reads.moments reads on)

    one-none : new.desk.host.history ≡ old.desk.host.history → new.desk.doubt ≡ old.desk.doubt
        → MayGive (room_means disk clock) v [] new
    one-none history doubt =
        may-nothing disk clock v0 v old new taken replied together.does together.same
        together.reads.moments reads on history doubt

    none-gained : new.desk.host.history ≡ old.desk.host.history → new.desk.doubt ≡ old.desk.doubt
        → Gains v0 (given (room_means disk clock) v [] new) []
    none-gained history doubt =
        gains-none disk clock v0 v old new taken replied together.does together.same
        together.reads.moments reads on history doubt

    abbrev made : List Made
    made = made_from together.does.at v.faults_taken new.desk.faults (clock new.clock).readings replied

    one_turn : (1 ≤ length made) × AreBidsOfOne made
    one_turn =
        let long = made-length replied together.does.at v.faults_taken new.desk.faults (clock new.clock).readings in
        let same = calls-length k moment bids replied together.calls in (
          omega (arith, long, same, some),
          (
            omega (arith, long, same, few),
            (
              k,
              are-bids k moment bids replied together.does.at v.faults_taken new.desk.faults
                  (clock new.clock).readings all_bids together.calls,
            ),
          ),
        )

    operator_is : operator_in v0.fixed ≡ old.operator
    operator_is =
        ap (λ (l : List ℕ). operator_in l) (sym taken.fixed)
        ∙ operator-locked old.operator (disk old.desk.opened) old.desk.recovered (clock old.clock).moments

    said-length : length (said_in replied) ≡ length bids
    said-length = length-map replied (λ (r : Replied). r.said) ∙ calls-length k moment bids replied together.calls

    -- the pass gained these calls
    one-gained : (answers : List Answer) → answers ≡ said_in replied → All IsPlain (said_in replied)
        → GainsTogether v0 (given (room_means disk clock) v
        (calls_of (room_means disk clock) v new (told_back entries replied)) new) k bids answers
    one-gained answers is plain = record {
      made = made;
      gains = subst (λ (n : ℕ). Gains v0 (given (room_means disk clock) v
          (calls_of (room_means disk clock) v new (told_back n replied)) new) made) (sym counted)
          (gains-together disk clock v0 v old new taken replied together.does together.same together.reads.moments reads
          on (inr one_turn));
      became = subst (λ (l : List Answer). BecameCalls v0.fixed k bids made l) (sym is)
          (became-calls old.operator v0.fixed k moment bids replied together.does.at v.faults_taken new.desk.faults
          (clock new.clock).readings old.desk.faults new.desk.faults operator_is together.calls together.does.answered);
      beside = are-beside replied together.does.at v.faults_taken new.desk.faults (clock new.clock).readings;
      one = one_turn;
      plain = subst (λ (l : List Answer). All IsPlain l) (sym is) plain;
    }

  -- by how the group came out: the turn may end
  pub group-may : (came : Grouped)
      → CallsTogether disk clock old new k bids moment (replied_by k moment came bids places)
      → (came ≡ grouped.Lacked → LeavesDesk old new)
      → MayGive (room_means disk clock) v
      (calls_of (room_means disk clock) v new (told_group came entries (replied_by k moment came bids places))) new
  group-may grouped.Unknown together lacked = one-may (replied_by k moment grouped.Unknown bids places) together
  group-may grouped.Lacked together lacked =
      let left = lacked refl in
      one-none (replied_by k moment grouped.Lacked bids places) together left.history left.same.doubt
  group-may (grouped.Told caller) together lacked =
      one-may (replied_by k moment (grouped.Told caller) bids places) together
  group-may (grouped.Doubted caller ran) together lacked =
      one-may (replied_by k moment (grouped.Doubted caller ran) bids places) together

  -- and the pass gained its calls
  pub group-gained : (came : Grouped)
      → CallsTogether disk clock old new k bids moment (replied_by k moment came bids places)
      → (came ≡ grouped.Lacked → LeavesDesk old new)
      → TellsGroup (answer_of came) places (said_in (replied_by k moment came bids places))
      → GainsGroup v0 (given (room_means disk clock) v
      (calls_of (room_means disk clock) v new (told_group came entries (replied_by k moment came bids places))) new) k
      bids (answer_of came) places
  group-gained grouped.Unknown together lacked tells =
      let replied = replied_by k moment grouped.Unknown bids places in
      let told = answers-told places (said_in replied) (length bids) (said-length replied together) tells in
      one-gained replied together (answers_at group.Verdicts places (length bids)) told.0 told.1
  group-gained grouped.Lacked together lacked tells =
      let left = lacked refl in
      none-gained (replied_by k moment grouped.Lacked bids places) together left.history left.same.doubt
  group-gained (grouped.Told caller) together lacked tells =
      let replied = replied_by k moment (grouped.Told caller) bids places in
      let told = answers-told places (said_in replied) (length bids) (said-length replied together) tells in
      one-gained replied together (answers_at group.Verdicts places (length bids)) told.0 told.1
  group-gained (grouped.Doubted caller ran) together lacked tells =
      let replied = replied_by k moment (grouped.Doubted caller ran) bids places in
      let told = answers-failed places (said_in replied) (length bids) (said-length replied together) few tells in
      one-gained replied together (answers_at group.DiskFault places (length bids)) told.0 told.1
