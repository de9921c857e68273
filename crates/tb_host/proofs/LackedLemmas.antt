-- Where memory ran out no count of faults rose.
use Rattle.std.proofs.Common.{◌≡◌, ◌≢◌, ℕ, Bool, false, List, ap, refl, subst, sym, ◌∙◌}
use Rattle.std.specs.Prelude.{IsTrue}
use Rattle.tb_disk.specs.Disks.{DiskState}
use Rattle.tb_gates.specs.Clocks.{ClockState}
use Rattle.tb_gates.specs.Gates.{GateState}
use Rattle.tb_link.specs.Sinks.{SinkState}
use Rattle.tb_link.specs.Sources.{SourceState}
use Rattle.tb_desk.specs.declared.fault.MigrateFault.TheVariants as migrate_fault
use Rattle.tb_desk.specs.declared.fault.OpenFault.{OpenFault}
use Rattle.tb_desk.specs.declared.fault.OpenFault.TheVariants as fault
use Rattle.tb_words.specs.declared.command.Command.{Command}
use Rattle.tb_words.specs.declared.command.Command.TheVariants as command
use Rattle.tb_commands.specs.CheckRun.{CheckEnds}
use Rattle.tb_commands.specs.DiskRun.{Keeps, Unopened}
use Rattle.tb_commands.specs.Endings.{ending_of, of_check, of_disk, of_migrate, of_send, of_serve, of_take}
use Rattle.tb_commands.specs.FollowSendRun.{FollowSendEnds}
use Rattle.tb_commands.specs.FollowTakeRun.{FollowTakeEnds}
use Rattle.tb_commands.specs.MigrateRun.{MigrateEnds}
use Rattle.tb_commands.specs.Standings.{Standing}
use Rattle.tb_commands.specs.declared.command_endings.CheckEnding.{CheckEnding}
use Rattle.tb_commands.specs.declared.command_endings.CheckEnding.TheVariants as check_ending
use Rattle.tb_commands.specs.declared.command_endings.DiskEnding.{DiskEnding}
use Rattle.tb_commands.specs.declared.command_endings.DiskEnding.TheVariants as disk_ending
use Rattle.tb_commands.specs.declared.command_endings.MigrateEnding.{MigrateEnding}
use Rattle.tb_commands.specs.declared.command_endings.MigrateEnding.TheVariants as migrate_ending
use Rattle.tb_commands.specs.declared.command_endings.SendEnding.{SendEnding}
use Rattle.tb_commands.specs.declared.command_endings.SendEnding.TheVariants as send_ending
use Rattle.tb_commands.specs.declared.command_endings.ServeEnding.{ServeEnding}
use Rattle.tb_commands.specs.declared.command_endings.ServeEnding.TheVariants as serve_ending
use Rattle.tb_commands.specs.declared.command_endings.TakeEnding.{TakeEnding}
use Rattle.tb_commands.specs.declared.command_endings.TakeEnding.TheVariants as take_ending
use Rattle.tb_commands.specs.declared.ending.Ending.{Ending}
use Rattle.tb_commands.specs.declared.ending.Ending.TheVariants as ending
use Rattle.tb_host.specs.Commands.{Stays, answers_faults, uses_of}
use Rattle.tb_host.specs.HostRun.{EndsAs, HasCause, HidesNoFault, Objects, devices, handed, moved}
use Rattle.tb_host.specs.ServeRun.{ServeEnds}

-- want of memory is no fault of the disk
lacks : (why : OpenFault) → ending.OutOfMemory ≡ ending_of why → why ≢ fault.DiskFault
lacks why is same = let both : ending.OutOfMemory ≡ ending.DiskFault = is ∙ ap ending_of same in cc (both)

-- a disk that wasn't opened for want of memory had no fault
unopened-same : (why : OpenFault) (old new : DiskState)
    → ending.OutOfMemory ≡ ending_of why
    → Unopened why old new
    → new.faults ≡ old.faults
unopened-same why old new is unopened = unopened.no_fault (lacks why is)

-- nor has one on which all stands as it stood
kept-same : (old new : DiskState) (first last : Standing)
    → Keeps old new first last
    → last ≡ first
    → new.faults ≡ old.faults
kept-same old new first last keeps same =
    sym keeps.stays.count ∙ ap (λ (s : Standing). s.faults) same ∙ keeps.opened.count

module _ {G K : Type 0} (gate : G → GateState K) (source : K → SourceState) (sink : K → SinkState)
    (clock : ClockState) (old new : Objects G) where
  -- the objects that the command doesn't use are as they were
  abbrev StaysUnused : Command → Type 0
  StaysUnused said =
      Stays (uses_of said).disk old.disk new.disk × Stays (uses_of said).spare old.spare new.spare
      × Stays (uses_of said).gates old.gates new.gates

  disk-check : (own : DiskEnding CheckEnding)
      → ending.OutOfMemory ≡ of_disk of_check own
      → CheckEnds own old.input new.input (devices old) (devices new)
      → new.disk.faults ≡ old.disk.faults
  disk-check (disk_ending.Opened check_ending.Done) is ends = absurd (cc (is))
  disk-check (disk_ending.Opened check_ending.WriteFault) is ends = absurd (cc (is))
  disk-check (disk_ending.Opened check_ending.DiskFault) is ends = absurd (cc (is))
  disk-check (disk_ending.Opened (check_ending.DamagedBehind place)) is ends = absurd (cc (is))
  disk-check (disk_ending.Unopened why) is ends = unopened-same why old.disk new.disk is ends.ends.unopened

  disk-send : (from : ℕ) (own : DiskEnding SendEnding)
      → ending.OutOfMemory ≡ of_disk of_send own
      → FollowSendEnds from own old.input new.input (devices old) (devices new)
      → new.disk.faults ≡ old.disk.faults
  disk-send from (disk_ending.Opened send_ending.Done) is ends = absurd (cc (is))
  disk-send from (disk_ending.Opened send_ending.WriteFault) is ends = absurd (cc (is))
  disk-send from (disk_ending.Opened send_ending.DiskFault) is ends = absurd (cc (is))
  disk-send from (disk_ending.Opened (send_ending.Damaged place)) is ends = absurd (cc (is))
  disk-send from (disk_ending.Unopened why) is ends = unopened-same why old.disk new.disk is ends.ends.unopened

  disk-take : (own : DiskEnding TakeEnding)
      → ending.OutOfMemory ≡ of_disk of_take own
      → FollowTakeEnds own old.input new.input (devices old) (devices new)
      → new.disk.faults ≡ old.disk.faults
  disk-take (disk_ending.Opened take_ending.Done) is ends = absurd (cc (is))
  disk-take (disk_ending.Opened (take_ending.BadInput number)) is ends = absurd (cc (is))
  disk-take (disk_ending.Opened take_ending.ReadFault) is ends = absurd (cc (is))
  disk-take (disk_ending.Opened take_ending.WriteFault) is ends = absurd (cc (is))
  disk-take (disk_ending.Opened take_ending.DiskFault) is ends = absurd (cc (is))
  disk-take (disk_ending.Opened (take_ending.Forked place)) is ends = absurd (cc (is))
  disk-take (disk_ending.Opened take_ending.OutOfMemory) is ends = ends.3.0.3
  disk-take (disk_ending.Unopened why) is ends = unopened-same why old.disk new.disk is ends.unopened

  disks-migrate : (own : MigrateEnding)
      → ending.OutOfMemory ≡ of_migrate own
      → MigrateEnds own (moved old) (moved new)
      → (new.disk.faults ≡ old.disk.faults) × (new.spare.faults ≡ old.spare.faults)
  disks-migrate migrate_ending.Done is ends = absurd (cc (is))
  disks-migrate migrate_ending.WriteFault is ends = absurd (cc (is))
  disks-migrate (migrate_ending.Unmigrated (migrate_fault.From why)) is ends =
      (ends.tells.3.0 (lacks why is), ends.tells.3.1)
  disks-migrate (migrate_ending.Unmigrated migrate_fault.SpareFault) is ends = absurd (cc (is))

  served : (operator : List ℕ) (own : ServeEnding)
      → ending.OutOfMemory ≡ of_serve own
      → ServeEnds gate source sink operator clock own (handed old) (handed new)
      → (new.disk.faults ≡ old.disk.faults) × (new.gates ≡ old.gates)
  served operator serve_ending.Done is ends = absurd (cc (is))
  served operator serve_ending.WriteFault is ends = absurd (cc (is))
  served operator serve_ending.GateFault is ends = absurd (cc (is))
  served operator (serve_ending.Unserved why) is unserved =
      (unopened-same why old.disk new.disk is unserved.unopened, unserved.untaken)

  -- what isn't touched counts no fault
  disk-unused : new.disk ≡ old.disk → new.disk.faults ≡ old.disk.faults
  disk-unused same = ap (λ (d : DiskState). d.faults) same

  spare-unused : new.spare ≡ old.spare → new.spare.faults ≡ old.spare.faults
  spare-unused same = ap (λ (d : DiskState). d.faults) same

  -- the disk and what isn't read or written hide no fault
  abbrev HidesNone : Command → Type 0
  HidesNone said =
      (answers_faults said ≡ false → new.disk.faults ≡ old.disk.faults) × (new.spare.faults ≡ old.spare.faults)
      × (new.gates ≡ old.gates)

  hides-none : (said : Command)
      → EndsAs gate source sink said clock ending.OutOfMemory old new
      → StaysUnused said
      → HidesNone said
  hides-none (command.Award full) ends stays =
      ((λ _. disk-unused (stays.0 refl)), spare-unused (stays.1 refl), stays.2 refl)
  hides-none (command.Run operator) ends stays =
      ((λ none. absurd (cc (none))), spare-unused (stays.1 refl), stays.2 refl)
  hides-none (command.Serve operator port workers links) (own, is, ends) stays =
      let both = served operator own is ends in ((λ _. both.0), spare-unused (stays.1 refl), both.1)
  hides-none (command.Import operator caller) ends stays =
      ((λ none. absurd (cc (none))), spare-unused (stays.1 refl), stays.2 refl)
  hides-none (command.Report operator caller asked csv) (disk_ending.Opened own, is, ends) stays = (
    λ _. kept-same old.disk new.disk ends.ends.0 ends.ends.1 ends.ends.2 ends.ends.3.0,
    spare-unused (stays.1 refl),
    stays.2 refl,
  )
  hides-none (command.Report operator caller asked csv) (disk_ending.Unopened why, is, ends) stays = (
    λ _. unopened-same why old.disk new.disk is ends.ends.unopened,
    spare-unused (stays.1 refl),
    stays.2 refl,
  )
  hides-none command.Migrate (own, is, ends) stays =
      let both = disks-migrate own is ends in ((λ _. both.0), both.1, stays.2 refl)
  hides-none command.Check (own, is, ends) stays =
      ((λ _. disk-check own is ends), spare-unused (stays.1 refl), stays.2 refl)
  hides-none (command.FollowSend from) (own, is, ends) stays =
      ((λ _. disk-send from own is ends), spare-unused (stays.1 refl), stays.2 refl)
  hides-none command.FollowTake (own, is, ends) stays =
      ((λ _. disk-take own is ends), spare-unused (stays.1 refl), stays.2 refl)
  hides-none (command.Register bill) (disk_ending.Opened own, is, ends) stays = (
    λ _. kept-same old.disk new.disk ends.ends.0 ends.ends.1 ends.ends.2 ends.ends.3.0,
    spare-unused (stays.1 refl),
    stays.2 refl,
  )
  hides-none (command.Register bill) (disk_ending.Unopened why, is, ends) stays = (
    λ _. unopened-same why old.disk new.disk is ends.ends.unopened,
    spare-unused (stays.1 refl),
    stays.2 refl,
  )
  hides-none (command.Trial seed count) ends stays =
      ((λ _. disk-unused (stays.0 refl)), spare-unused (stays.1 refl), stays.2 refl)

  -- a command that ended for want of memory hides no fault
  pub HidesNoFault-here : (said : Command) (counts : Bool) (ended : Ending)
      → ended ≡ ending.OutOfMemory
      → EndsAs gate source sink said clock ended old new
      → HasCause gate ended old new
      → StaysUnused said
      → (IsTrue counts → new.keeper.faults ≡ old.keeper.faults)
      → HidesNoFault (answers_faults said) counts old new
  HidesNoFault-here said counts ended is ends cause stays kept =
      let none = hides-none said (subst (λ (e : Ending). EndsAs gate source sink said clock e old new) is ends) stays in
      let lacked = cause.lacked is in record {
        input = lacked.0;
        out = lacked.1;
        disk = none.0;
        spare = none.1;
        gates = none.2;
        keeper = kept;
      }
