-- What the command `register` does to the register, its output and its disk.
use Rattle.std.specs.Prelude.{◌≡◌, ℕ, List, Option}
use Rattle.tb_link.specs.Counts.{Rose}
use Rattle.tb_link.specs.Sources.{SourceState}
use Rattle.tb_link.specs.Sinks.{SinkState, FailsToTake, Takes}
use Rattle.tb_disk.specs.Disks.{DiskState}
use Rattle.tb_journal.specs.Journal.{Told}
use Rattle.tb_journal.specs.Opening.{BreaksOff, IsHarmless}
use Rattle.tb_desk.specs.declared.fault.OpenFault.{OpenFault}
use Rattle.tb_terms.specs.declared.cusip.Cusip.{Cusip}
use Rattle.tb_message.specs.declared.message.Entry.{Entry}
use Rattle.tb_register.specs.Keepers.{KeeperState}
use Rattle.tb_filing.specs.Filing.{Differs, FilesSome}
use Rattle.tb_filing.specs.Telling.{IsToldAs}
use Rattle.tb_filing.specs.declared.filing.FilingFault.{FilingFault}
use Rattle.tb_filing.specs.declared.filing.FilingFault.TheVariants as fault
use Rattle.tb_commands.specs.RunEnds.{Devices, EndsOnDisk}
use Rattle.tb_commands.specs.Standings.{Standing}
use Rattle.tb_commands.specs.declared.command_endings.DiskEnding.{DiskEnding}
use Rattle.tb_commands.specs.declared.command_endings.DiskEnding.TheVariants as disk_ending
use Rattle.tb_commands.specs.declared.command_endings.RegisterEnding.{RegisterEnding}
use Rattle.tb_commands.specs.declared.command_endings.RegisterEnding.TheVariants as ending

-- what it is handed: the output, the disk and the keeper of the register
pub record Registry : Type 0 where
  pub out : SinkState
  pub disk : DiskState
  pub keeper : KeeperState

-- of that, what a command on the disk writes on
abbrev pub devices_of : Registry → Devices
devices_of registry = record { out = registry.out; disk = registry.disk }

-- how it ends where not all is filed, or the register isn't told
abbrev pub of_filing : FilingFault → RegisterEnding
of_filing (fault.Differs auction) = ending.Differs auction
of_filing fault.Failed = ending.KeeperFault
of_filing fault.OutOfMemory = ending.OutOfMemory

-- All published auctions are filed, and the output has taken the text of it, or a part of it. Or another row was there
-- of the auction that is named, or the keeper failed, or memory ran out: then the first ones are filed, and nothing is
-- written.
abbrev pub Registers : Option Cusip → RegisterEnding → List Entry → SinkState → SinkState → KeeperState → KeeperState
    → Type 0
Registers bill ending.Done history out out' keeper keeper' =
    (text : List ℕ) × IsToldAs bill history text keeper keeper' × Takes out out' text
Registers bill ending.WriteFault history out out' keeper keeper' =
    (text : List ℕ) × IsToldAs bill history text keeper keeper' × FailsToTake out out' text
Registers bill (ending.Differs auction) history out out' keeper keeper' =
    (out' ≡ out) × Differs auction history keeper keeper'
Registers bill (ending.KeeperFault) history out out' keeper keeper' =
    (out' ≡ out) × FilesSome history keeper keeper' × Rose keeper.faults keeper'.faults
Registers bill (ending.OutOfMemory) history out out' keeper keeper' =
    (out' ≡ out) × FilesSome history keeper keeper'

-- on a desk all stands as it stood, and what is filed are the auctions of the history that the file stood for
abbrev pub RegistersDesk : Option Cusip → RegisterEnding → Registry → Registry → Standing → Standing → Type 0
RegistersDesk bill ended old new first last =
    (last ≡ first) × Registers bill ended first.history old.out new.out old.keeper new.keeper

-- How the command ends. It reads no input, and does no more to its disk than an opening does: what each crash leaves
-- stands for what the file stood for, or could be left before. Where no desk was opened the register is as it was.
pub record RegisterEnds (bill : Option Cusip) (ended : DiskEnding RegisterEnding) (input input' : SourceState)
    (old new : Registry) : Type 0
  where
    pub ends : EndsOnDisk (λ own. RegistersDesk bill own old new) ended input input' (devices_of old) (devices_of new)
    pub unread : input' ≡ input
    pub unfiled : (why : OpenFault) → ended ≡ disk_ending.Unopened why → new.keeper ≡ old.keeper
    pub steps : Told old.disk new.disk BreaksOff
    pub harmless : Told old.disk new.disk IsHarmless
