-- A whole run: several gates over one room.
use Rattle.std.specs.Prelude.{◌≡◌, ◌≢◌, ℕ, ◌+◌, ◌*◌, ◌^◌, ◌<◌, ◌≤◌, ◌⊎◌, ◌||◌, List, [], ◌∷◌, ◌++◌, map, flat_map, length, sum_by, Bool, true, false, IfSome, All, AllPairs, Any, Contains}
use Rattle.std.specs.List.{list_any}
use Rattle.tb_link.specs.Counts.{Rose}
use Rattle.tb_link.specs.Sources.{SourceState}
use Rattle.tb_link.specs.Sinks.{SinkState}
use Rattle.tb_disk.specs.Disks.{DiskState}
use Rattle.tb_gates.specs.Clocks.{ClockState}
use Rattle.tb_gates.specs.Gates.{GateState}
use Rattle.tb_message.specs.declared.message.Entry.{Entry}
use Rattle.tb_message.specs.Spelling.{spelling}
use Rattle.tb_lock.specs.declared.view.View.{View}
use Rattle.tb_lock.specs.declared.view.Call.{Call}
use Rattle.tb_lock.specs.declared.view.Span.{Span}
use Rattle.tb_lock.specs.declared.lock.TurnLock.{TurnLock}
use Rattle.tb_lock.specs.Meanings.{History, IsPrefix}
use Rattle.tb_lock.specs.Calls.{LieApart}
use Rattle.tb_lock.specs.Passes.{view}
use Rattle.tb_session.specs.declared.called.Outcome.{Outcome}
use Rattle.tb_session.specs.declared.called.Outcome.TheVariants as outcome
use Rattle.tb_session.specs.declared.room.Room.{Room}
use Rattle.tb_session.specs.declared.worker.Worker.{Worker}
use Rattle.tb_session.specs.Codes.{Made, call_of, span_of, spelled_all, IsAnswered}
use Rattle.tb_session.specs.Gains.{AreTurns}
use Rattle.tb_session.specs.Rooms.{house_of, SameStart}
use Rattle.tb_session.specs.Work.{Served, calls_of_links, Passed, IsServed, IsReady, Works}

-- what became of a gate: the links that were served, and whether it failed
pub record Run (K : Type 0) : Type 0 where
  pub links : List (Served K)
  pub failed : Bool

-- the calls of several gates, those of the first gate first
abbrev pub calls_of_gates : {K : Type 0} → List (Run K) → List Made
calls_of_gates runs = flat_map (λ run. calls_of_links run.links) runs

-- how many links were served
abbrev pub links_of_gates : {K : Type 0} → List (Run K) → ℕ
links_of_gates runs = sum_by (λ run. length run.links) runs

-- of each of these calls and each of those, the turn of one ended at no more faults of the disk than the other's began
-- with
abbrev pub CountApart : List Made → List Made → Type 0
CountApart these those = All (λ m. All (λ n. LieApart (span_of m) (span_of n)) those) these

-- so it is of the calls of two gates
abbrev pub RunsApart : {K : Type 0} → Run K → Run K → Type 0
RunsApart one other = CountApart (calls_of_links one.links) (calls_of_links other.links)

-- a gate failed
abbrev pub some_failed : {K : Type 0} → List (Run K) → Bool
some_failed runs = list_any (λ run. run.failed) runs

module _ {G K : Type 0} (gate : G → GateState K) (source : K → SourceState) (sink : K → SinkState) (fixed : List ℕ)
  where
    -- A gate gave these links, each was served, and their calls are turns along which the histories grow and the counts
    -- rise, of faults and of the clock's readings. It gave all that it had, and its count of faults stayed; or it failed,
    -- and the count rose.
    pub record IsRun (old new : G) (run : Run K) : Type 0 where
      pub passed : Passed (gate old) (gate new) run.links
      pub sessions : All (IsServed source sink fixed) run.links
      pub order : AreTurns (calls_of_links run.links)
      pub fault : run.failed ≡ true → Rose (gate old).faults (gate new).faults
      pub finished : run.failed ≡ false → IfSome (gate new).left (λ left. left ≡ [])
      pub no_fault : run.failed ≡ false → (gate new).faults ≡ (gate old).faults

    -- the same of each gate, in their order
    abbrev pub AreRuns : List G → List G → List (Run K) → Type 0
    AreRuns [] [] [] = Unit {0}
    AreRuns (old ∷ olds) (new ∷ news) (run ∷ runs) = IsRun old new run × AreRuns olds news runs
    AreRuns _ _ _ = ⊥

-- the call may have made the entry: it was accepted with it, or met a fault
abbrev pub MayHaveMade : List ℕ → Made → Type 0
MayHaveMade entry m =
    (e : Entry) × ((m.called.outcome ≡ outcome.Added e) ⊎ (m.called.outcome ≡ outcome.Doubted e)) × (spelling e ≡ entry)

-- the two calls weren't both accepted on histories of one length
abbrev pub AreApart : Made → Made → Type 0
AreApart m n = (e f : Entry)
    → m.called.outcome ≡ outcome.Added e
    → n.called.outcome ≡ outcome.Added f
    → length m.history ≢ length n.history

-- One history for all calls: it begins with the opening, and past that has only entries of these calls.
pub record IsHistoryOf (fixed : List ℕ) (opening history doubt : History) (low high : ℕ) (calls : List Made)
    : Type 0 where
  pub later : History
  pub grown : history ≡ opening ++ later
  pub entries : All (λ entry. Any (MayHaveMade entry) calls) later
  pub doubted : All (λ entry. Any (MayHaveMade entry) calls) doubt
  -- each call was answered on a beginning of it that has the opening
  pub answered : All (λ m. IsAnswered fixed m.history m.called m.before m.after m.readings) calls
  pub begins : All (λ m. IsPrefix opening (spelled_all m.history)) calls
  pub prefixes : All (λ m. IsPrefix (spelled_all m.history) history) calls
  -- behind which the entry stands of one that was accepted
  pub accepted : All (λ m. (e : Entry) → m.called.outcome ≡ outcome.Added e
      → IsPrefix (spelled_all m.history ++ spelling e ∷ []) history) calls
  -- no two calls of whatever gates were accepted at one place of it
  pub once : AllPairs AreApart calls
  -- and the counts of faults of each lie between those at the opening and at the end
  pub counts : All (λ m. (low ≤ m.before) × (m.before ≤ m.after) × (m.after ≤ high)) calls

module _ {D C G K : Type 0} (disk : D → DiskState) (clock : C → ClockState) (gate : G → GateState K)
    (source : K → SourceState) (sink : K → SinkState) where
  -- the gates were served over the room, which came back
  pub record ServesAll (room : Room D C) (olds : List G) (after : Room D C) (news : List G) (served accepted : ℕ)
      (failed : Bool) : Type 0 where
    pub runs : List (Run K)
    pub are_runs : AreRuns gate source sink (house_of disk clock room) olds news runs
    pub history : IsHistoryOf (house_of disk clock room) (spelled_all room.desk.host.history)
        (spelled_all after.desk.host.history) (spelled_all after.desk.doubt) room.desk.faults after.desk.faults
        (calls_of_gates runs)
    -- each fault of the disk was met in one turn alone: the counts of two gates' calls lie apart, as those of two turns
    -- of one gate do
    pub apart : AllPairs RunsApart runs
    -- the clock came back with no fewer readings than any call has
    pub read : All (λ m. m.readings ≤ (clock after.clock).readings) (calls_of_gates runs)
    -- so many links were served, and the history is so much longer
    pub served_is : served ≡ links_of_gates runs
    pub accepted_is : accepted ≡ length history.later
    pub failed_is : failed ≡ some_failed runs
    -- the room that came back was opened on this very disk, with as many entries recovered: so by the type of its desk
    -- each crash since the opening, while workers ran too, left a beginning of its history
    pub same : SameStart disk clock room after

-- the calls of each gate are cut, in order, into its turns: these are those of all gates
abbrev pub AreCutInto : {K : Type 0} → List (Run K) → List (List Made) → Type 0
AreCutInto [] turns = turns ≡ []
AreCutInto (run ∷ runs) turns = (own : AreTurns (calls_of_links run.links)) × (others : List (List Made))
    × (turns ≡ own.turns ++ others) × AreCutInto runs others

-- what comes out so is answered with a disk fault
abbrev pub is_doubted : Outcome → Bool
is_doubted (outcome.Added e) = false
is_doubted (outcome.Stood e) = false
is_doubted (outcome.Doubted e) = true
is_doubted outcome.Told = false
is_doubted outcome.Lacked = false

abbrev pub met_fault : Made → Bool
met_fault m = is_doubted m.called.outcome

-- a call of the turn was answered so
abbrev pub some_met : List Made → Bool
some_met turn = list_any met_fault turn

-- what stays with a pass while others are split from it and joined to it
pub record SameLock (old new : View) : Type 0 where
  pub fixed : new.fixed ≡ old.fixed
  pub opening : new.opening ≡ old.opening
  pub opening_faults : new.opening_faults ≡ old.opening_faults

-- the turns of these gates, one gate's behind the other's: each call has the counts of faults of a turn of its gate
abbrev pub HadTurns : {K : Type 0} → List (Run K) → List Span → Type 0
HadTurns [] spans = Unit {0}
HadTurns (run ∷ runs) spans = (own : List Span) × (others : List Span) × (spans ≡ own ++ others)
    × All (λ m. Contains own (span_of m)) (calls_of_links run.links) × HadTurns runs others

module _ {G K : Type 0} (gate : G → GateState K) (source : K → SourceState) (sink : K → SinkState) where
  -- The gates were served, each by a pass of its own that was split from this one and joined to it again: it has their
  -- calls and their turns.
  pub record Turns (old new : View) (olds news : List G) (served : ℕ) (failed : Bool) : Type 0 where
    pub runs : List (Run K)
    pub are_runs : AreRuns gate source sink old.fixed olds news runs
    pub mine : new.mine ≡ map call_of (calls_of_gates runs)
    pub had : HadTurns runs new.spans
    pub answered : All (λ m. IsAnswered old.fixed m.history m.called m.before m.after m.readings) (calls_of_gates runs)
    pub begin : All (λ m. IsPrefix old.seen (spelled_all m.history)) (calls_of_gates runs)
    pub share : new.share ≡ old.share
    pub same : SameLock old new
    pub counted : served ≡ links_of_gates runs
    pub failed_is : failed ≡ some_failed runs

module _ {D C G : Type 0} where
  abbrev pub share_of : Worker D C G → ℕ
  share_of w = (view w.pass).share

  abbrev pub served_of : Worker D C G → ℕ
  served_of w = w.served

  abbrev pub failed_of : Worker D C G → Bool
  failed_of w = w.failed

  abbrev pub calls_with : Worker D C G → List Call
  calls_with w = (view w.pass).mine

  abbrev pub spans_with : Worker D C G → List Span
  spans_with w = (view w.pass).spans

  -- a worker with a new pass, which has seen what this view has
  pub record IsHired (shared : TurnLock (Room D C)) (v : View) (w : Worker D C G) : Type 0 where
    pub ready : IsReady shared w
    pub none : (view w.pass).mine ≡ []
    pub no_turns : (view w.pass).spans ≡ []
    pub seen : (view w.pass).seen ≡ v.seen
    pub same : SameLock v (view w.pass)
    pub unserved : w.served ≡ 0

  -- So far these workers are hired, with a part of the share each, and what is left of it is enough for the other
  -- gates.
  pub record Hires (shared : TurnLock (Room D C)) (old new : View) (gates left : List G) (workers : List (Worker D C G))
      : Type 0 where
    pub in_order : map (λ (w : Worker D C G). w.gate) workers ++ left ≡ gates
    pub hired : All (IsHired shared old) workers
    pub share : sum_by share_of workers + new.share ≡ old.share
    pub enough : 2 ^ length left < 2 * new.share
    pub same : SameLock old new
    pub mine : new.mine ≡ old.mine
    pub spans : new.spans ≡ old.spans
    pub seen : new.seen ≡ old.seen

  -- So far the first of these workers gave their gates, shares, calls and turns, and the others have theirs.
  pub record Dismisses (old new : View) (workers left : List (Worker D C G)) (gates : List G) (failed : Bool)
      : Type 0 where
    pub in_order : gates ++ map (λ (w : Worker D C G). w.gate) left ≡ map (λ (w : Worker D C G). w.gate) workers
    pub share : new.share + sum_by share_of left ≡ old.share + sum_by share_of workers
    pub mine : new.mine ++ flat_map calls_with left ≡ old.mine ++ flat_map calls_with workers
    pub spans : new.spans ++ flat_map spans_with left ≡ old.spans ++ flat_map spans_with workers
    pub same : SameLock old new
    pub failed_is : (failed || list_any failed_of left) ≡ list_any failed_of workers

  -- what a worker's thread did
  pub record WorkedOn {K : Type 0} (gate : G → GateState K) (source : K → SourceState) (sink : K → SinkState)
      (shared : TurnLock (Room D C)) (old new : Worker D C G) : Type 0 where
    pub ready : IsReady shared new
    pub works : Works gate source sink old new
