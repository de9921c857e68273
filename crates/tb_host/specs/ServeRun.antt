-- What the command `serve` does: links are answered from one desk on a disk, by a worker for each gate.
use Rattle.std.specs.Prelude.{
  ◌≡◌,
  ◌⊎◌,
  ℕ,
  ◌+◌,
  ◌≤◌,
  List,
  [],
  ◌∷◌,
  ◌++◌,
  length,
  codes,
  is_some,
  Bool,
  true,
  false,
  All,
  AllPairs,
}
use Rattle.std.specs.Fmt.{decimal}
use Rattle.tb_units.specs.Bytes.{line_feed}
use Rattle.tb_link.specs.Counts.{Rose, last_count}
use Rattle.tb_link.specs.Sources.{SourceState}
use Rattle.tb_link.specs.Sinks.{SinkState, Takes, FailsToTake}
use Rattle.tb_disk.specs.Disks.{DiskState}
use Rattle.tb_gates.specs.Clocks.{ClockState}
use Rattle.tb_gates.specs.Gates.{GateState}
use Rattle.tb_desk.specs.declared.fault.OpenFault.{OpenFault}
use Rattle.tb_desk.specs.declared.fault.OpenFault.TheVariants as fault
use Rattle.tb_desk.specs.Desks.{CrashesSince}
use Rattle.tb_session.specs.declared.room.Room.{Room}
use Rattle.tb_session.specs.Codes.{Made, fixed_code}
use Rattle.tb_session.specs.Serve.{Run, AreRuns, RunsApart, ServesAll, calls_of_gates, links_of_gates, some_failed}
use Rattle.tb_commands.specs.DiskRun.{Keeps, Stays, Unopened}
use Rattle.tb_host.specs.Headline.{AddOthers, Headline, of_calls}
use Rattle.tb_commands.specs.Standings.{Standing, standing}
use Rattle.tb_commands.specs.declared.command_endings.ServeEnding.{ServeEnding}
use Rattle.tb_commands.specs.declared.command_endings.ServeEnding.TheVariants as ending

-- what is printed: so many links were served, and so many entries were added
abbrev pub served_text : ℕ → ℕ → List ℕ
served_text served accepted =
    (codes "served " ++ decimal served ++ line_feed ∷ []) ++ (codes "accepted " ++ decimal accepted ++ line_feed ∷ [])

-- what stays fixed while links are served: the operator's name; whether the disk tells its contents, and its count of
-- faults; and the moments that the clock may give
abbrev pub fixed_at : List ℕ → DiskState → ClockState → List ℕ
fixed_at operator disk clock = fixed_code operator (is_some disk.past) disk.faults clock.moments

-- what `serve` is handed and hands back
pub record Handed (G : Type 0) : Type 0 where
  pub disk : DiskState
  pub gates : List G
  pub out : SinkState

-- The calls met faults of the disk between these two counts, which lie no further apart than the disk's counts do,
-- unless that stands at its last value.
pub record CountsOf (old new : DiskState) (made : List Made) : Type 0 where
  pub met : ℕ
  pub each : All (λ m. (m.before ≤ m.after) × (m.after ≤ met)) made
  pub within : (old.faults + met ≤ new.faults) ⊎ (new.faults ≡ last_count)

-- the two lines were written, or the output failed and has taken a part of them; or a gate failed, and nothing was
-- written
abbrev pub ToldEnds : Bool → ServeEnding → SinkState → SinkState → List ℕ → Type 0
ToldEnds failed ending.Done out out' text = (failed ≡ false) × Takes out out' text
ToldEnds failed ending.WriteFault out out' text = (failed ≡ false) × FailsToTake out out' text
ToldEnds failed ending.GateFault out out' text = (failed ≡ true) × (out' ≡ out)
ToldEnds failed (ending.Unserved why) out out' text = ⊥

-- no link was taken and nothing written; the desk wasn't opened, or there was no memory for the lock or the workers
pub record Unserved {G : Type 0} (why : OpenFault) (old new : Handed G) : Type 0 where
  pub unopened : Unopened why old.disk new.disk
  pub untaken : new.gates ≡ old.gates
  pub silent : new.out ≡ old.out

-- how `serve` ends once links were served
abbrev pub LinksEnd : {K : Type 0} → ServeEnding → SinkState → SinkState → List (Run K) → ℕ → Type 0
LinksEnd ended out out' runs accepted =
    ToldEnds (some_failed runs) ended out out' (served_text (links_of_gates runs) accepted)

-- so many entries were added: the last history is so much longer than the first
abbrev pub HasAdded : Standing → Standing → ℕ → Type 0
HasAdded first last accepted = length last.history ≡ length first.history + accepted

module _ {G K : Type 0} (gate : G → GateState K) (source : K → SourceState) (sink : K → SinkState) where
  -- The desk was opened on the disk, the disk handed back keeps the last history, and so did every crash on the way.
  -- These runs are what became of the gates' links: along each gate's turns the clock's readings grow, at which its
  -- messages have their moments. Of all their calls the headline holds. No two calls, of one gate or of two, are told of
  -- one entry that it was accepted, nor of two of one submitter under one number; and each fault of the disk was met in
  -- one turn alone, whatever the gates.
  pub record Serves (operator : List ℕ) (clock : ClockState) (old new : Handed G) (first last : Standing)
      (runs : List (Run K)) : Type 0 where
    pub keeps : Keeps old.disk new.disk first last
    pub tells : is_some new.disk.past ≡ is_some old.disk.past
    pub are_runs : AreRuns gate source sink (fixed_at operator old.disk clock) old.gates new.gates runs
    pub headline : Headline (of_calls (fixed_at operator old.disk clock)) new.disk first last keeps.grown.0
        (calls_of_gates runs)
    pub once : AllPairs AddOthers (calls_of_gates runs)
    pub counts : CountsOf old.disk new.disk (calls_of_gates runs)
    pub apart : AllPairs RunsApart runs

  -- links were served, and this is so of the first and the last history and of what became of the gates
  abbrev pub OnServed : List ℕ → ClockState → Handed G → Handed G → (Standing → Standing → List (Run K) → Type 0)
      → Type 0
  OnServed operator clock old new Holds =
      (first : Standing) × (last : Standing) × (runs : List (Run K))
      × Serves operator clock old new first last runs × Holds first last runs

  -- links were served, and how many they were and how many entries were added was told so
  abbrev pub LinksServed : List ℕ → ClockState → ServeEnding → Handed G → Handed G → Type 0
  LinksServed operator clock ended old new =
      OnServed operator clock old new
      (λ first last runs. (accepted : ℕ) × HasAdded first last accepted × LinksEnd ended old.out new.out runs accepted)

  -- how the command ends: links were served, or none was taken
  abbrev pub ServeEnds : List ℕ → ClockState → ServeEnding → Handed G → Handed G → Type 0
  ServeEnds operator clock (ending.Unserved why) old new = Unserved why old new
  ServeEnds operator clock ended old new = LinksServed operator clock ended old new

module _ {G K : Type 0} (gate : G → GateState K) where
  -- the count of faults of one of the gates has risen
  abbrev pub OneRose : List G → List G → Type 0
  OneRose [] [] = ⊥
  OneRose (old ∷ olds) (new ∷ news) = Rose (gate old).faults (gate new).faults ⊎ OneRose olds news
  OneRose olds news = ⊥

-- ---- a step of it

module _ {D C G K : Type 0} (disk : D → DiskState) (clock : C → ClockState) (gate : G → GateState K)
    (source : K → SourceState) (sink : K → SinkState) where
  -- the gates were served from the room, which came back
  pub record RoomServed (room : Room D C) (ended : ServeEnding) (old new : Handed G) : Type 0 where
    pub after : Room D C
    pub served : ℕ
    pub accepted : ℕ
    pub failed : Bool
    pub all : ServesAll disk clock gate source sink room old.gates after new.gates served accepted failed
    pub stays : Stays (standing new.disk after.desk) new.disk
    pub since : CrashesSince (disk after.desk.opened) new.disk after.desk.host.history after.desk.doubt
        after.desk.recovered after.desk.faults after.desk.doubted
    pub counted : ((disk after.desk.opened).faults + after.desk.faults ≤ new.disk.faults)
        ⊎ (new.disk.faults ≡ last_count)
    pub ends : ToldEnds failed ended old.out new.out (served_text served accepted)

  -- how that ends: so, or for want of memory with nothing done
  abbrev pub RoomEnds : Room D C → ServeEnding → Handed G → Handed G → Type 0
  RoomEnds room ended old new =
      RoomServed room ended old new ⊎ ((ended ≡ ending.Unserved fault.OutOfMemory) × (new ≡ old))
