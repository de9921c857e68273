-- How the program ends.
use Rattle.std.specs.Prelude.{◌≡◌, ◌⊎◌, ℕ, List, Bool, IsTrue, false}
use Rattle.tb_link.specs.Counts.{Rose}
use Rattle.tb_link.specs.Sources.{SourceState}
use Rattle.tb_link.specs.Sinks.{SinkState}
use Rattle.tb_disk.specs.Disks.{DiskState}
use Rattle.tb_gates.specs.Clocks.{ClockState}
use Rattle.tb_gates.specs.Gates.{GateState}
use Rattle.tb_commands.specs.AwardRun.{AwardEnds}
use Rattle.tb_commands.specs.CheckRun.{CheckEnds}
use Rattle.tb_commands.specs.FollowSendRun.{FollowSendEnds}
use Rattle.tb_commands.specs.FollowTakeRun.{FollowTakeEnds}
use Rattle.tb_commands.specs.ImportRun.{ImportEnds}
use Rattle.tb_commands.specs.MigrateRun.{MigrateEnds, Moved}
use Rattle.tb_register.specs.Keepers.{KeeperState}
use Rattle.tb_commands.specs.RegisterRun.{RegisterEnds, Registry}
use Rattle.tb_commands.specs.ReportRun.{ReportEnds, inquiry}
use Rattle.tb_commands.specs.RunEnds.{Devices, RunEnds}
use Rattle.tb_host.specs.ServeRun.{Handed, OneRose, ServeEnds}
use Rattle.tb_commands.specs.TrialRun.{TrialEnds}
use Rattle.tb_words.specs.declared.command.Command.{Command}
use Rattle.tb_words.specs.declared.command.Command.TheVariants as command
use Rattle.tb_commands.specs.Endings.{Tells, message_of, of_check, of_disk, of_migrate, of_print, of_register, of_send}
use Rattle.tb_commands.specs.Endings.{of_serve, of_take, of_text, status_of}
use Rattle.tb_commands.specs.declared.ending.Ending.{Ending}
use Rattle.tb_commands.specs.declared.ending.Ending.TheVariants as ending

-- what a command is handed, as contracts see it
pub record Objects (G : Type 0) : Type 0 where
  pub input : SourceState
  pub out : SinkState
  pub disk : DiskState
  pub spare : DiskState
  pub gates : List G
  pub keeper : KeeperState

-- of that, what a command on the disk writes on
abbrev pub devices : {G : Type 0} → Objects G → Devices
devices objects = record { out = objects.out; disk = objects.disk }

-- what `migrate` uses
abbrev pub moved : {G : Type 0} → Objects G → Moved
moved objects = record { out = objects.out; disk = objects.disk; spare = objects.spare }

-- what `register` uses
abbrev pub registry : {G : Type 0} → Objects G → Registry
registry objects = record { out = objects.out; disk = objects.disk; keeper = objects.keeper }

-- and what `serve` uses
abbrev pub handed : {G : Type 0} → Objects G → Handed G
handed objects = record { disk = objects.disk; gates = objects.gates; out = objects.out }

-- the program's ending is that of an ending of the command's own, of which this is so
abbrev pub Ends : {E : Type 0} → (E → Ending) → Ending → (E → Type 0) → Type 0
Ends of_own ended Holds = (own : _) × (ended ≡ of_own own) × Holds own

module _ {G K : Type 0} (gate : G → GateState K) (source : K → SourceState) (sink : K → SinkState) where
  -- Each command ends as its record says, where the objects go from the first states to the second. The clock is in
  -- the given state when the command begins.
  abbrev pub EndsAs : Command → ClockState → Ending → Objects G → Objects G → Type 0
  EndsAs (command.Award full) clock ended old new =
      Ends of_text ended (λ own. AwardEnds full own old.input new.input old.out new.out)
  EndsAs (command.Run operator) clock ended old new =
      Ends (of_disk of_text) ended (λ own. RunEnds operator own old.input new.input (devices old) (devices new))
  EndsAs (command.Serve operator port workers links) clock ended old new =
      Ends of_serve ended (λ own. ServeEnds gate source sink operator clock own (handed old) (handed new))
  EndsAs (command.Import operator caller) clock ended old new =
      Ends (of_disk of_text) ended (λ own. (read : ClockState) × ImportEnds
      (record { operator = operator; key = caller }) clock read own old.input new.input (devices old) (devices new))
  EndsAs (command.Report operator caller asked csv) clock ended old new =
      Ends (of_disk of_print) ended (λ own. ReportEnds (inquiry operator caller asked csv) own old.input new.input
      (devices old) (devices new))
  EndsAs command.Migrate clock ended old new =
      Ends of_migrate ended (λ own. MigrateEnds own (moved old) (moved new))
  EndsAs command.Check clock ended old new =
      Ends (of_disk of_check) ended (λ own. CheckEnds own old.input new.input (devices old) (devices new))
  EndsAs (command.FollowSend from) clock ended old new =
      Ends (of_disk of_send) ended (λ own. FollowSendEnds from own old.input new.input (devices old) (devices new))
  EndsAs command.FollowTake clock ended old new =
      Ends (of_disk of_take) ended (λ own. FollowTakeEnds own old.input new.input (devices old) (devices new))
  EndsAs (command.Register bill) clock ended old new =
      Ends (of_disk of_register) ended (λ own. RegisterEnds bill own old.input new.input (registry old) (registry new))
  EndsAs (command.Trial seed count) clock ended old new =
      Ends of_print ended (λ own. TrialEnds seed count own old.out new.out)

module _ {G K : Type 0} (gate : G → GateState K) where
  -- A fault of input, output, a disk, gates or the keeper ends a command only where the count of that object has risen;
  -- and where all was done no fault of input or output was passed over, nor is one told as want of memory.
  pub record HasCause (ended : Ending) (old new : Objects G) : Type 0 where
    pub read : ended ≡ ending.ReadFault → Rose old.input.faults new.input.faults
    pub write : ended ≡ ending.WriteFault → Rose old.out.faults new.out.faults
    pub disk : ended ≡ ending.DiskFault
        → Rose old.disk.faults new.disk.faults ⊎ Rose old.spare.faults new.spare.faults
    pub gates : ended ≡ ending.GateFault → OneRose gate old.gates new.gates
    pub keeper : ended ≡ ending.KeeperFault → Rose old.keeper.faults new.keeper.faults
    pub none : ended ≡ ending.Done
        → (new.input.faults ≡ old.input.faults) × (new.out.faults ≡ old.out.faults)
    pub lacked : ended ≡ ending.OutOfMemory
        → (new.input.faults ≡ old.input.faults) × (new.out.faults ≡ old.out.faults)

-- No count of faults rose, but the disk's where a command answers its faults; and that of the keeper didn't where it
-- rises only as the keeper fails.
pub record HidesNoFault {G : Type 0} (answers counts : Bool) (old new : Objects G) : Type 0 where
  pub input : new.input.faults ≡ old.input.faults
  pub out : new.out.faults ≡ old.out.faults
  pub disk : answers ≡ false → new.disk.faults ≡ old.disk.faults
  pub spare : new.spare.faults ≡ old.spare.faults
  pub gates : new.gates ≡ old.gates
  pub keeper : IsTrue counts → new.keeper.faults ≡ old.keeper.faults

-- where all was done nothing is told, and else the message of the ending
abbrev pub Reports : Ending → SinkState → SinkState → Type 0
Reports ending.Done err err' = err' ≡ err
Reports ended err err' = Tells err err' (message_of ended)

-- the program ended so: this is its status, that is told, and this is so of the ending
pub record EndsWith (status : ℕ) (err err' : SinkState) (Holds : Ending → Type 0) : Type 0 where
  pub ended : Ending
  pub status_is : status ≡ status_of ended
  pub told : Reports ended err err'
  pub holds : Holds ended
