-- How `register` ends.
use Rattle.std.proofs.Common.{◌≡◌, ◌⊎◌, Option, inl, inr, refl}
use Rattle.tb_link.specs.Sources.{SourceState}
use Rattle.tb_terms.specs.declared.cusip.Cusip.{Cusip}
use Rattle.tb_words.specs.declared.command.Command.TheVariants as command
use Rattle.tb_commands.specs.Completeness.{Completes, HasDiffered, IsAnswered}
use Rattle.tb_commands.specs.Endings.{ending_of, of_disk, of_register}
use Rattle.tb_filing.specs.declared.filing.FilingFault.{FilingFault}
use Rattle.tb_filing.specs.declared.filing.FilingFault.TheVariants as fault
use Rattle.tb_commands.specs.RegisterRun.{RegisterEnds, Registry, of_filing}
use Rattle.tb_commands.specs.declared.command_endings.DiskEnding.{DiskEnding}
use Rattle.tb_commands.specs.declared.command_endings.DiskEnding.TheVariants as disk_ending
use Rattle.tb_commands.specs.declared.command_endings.RegisterEnding.{RegisterEnding}
use Rattle.tb_commands.specs.declared.command_endings.RegisterEnding.TheVariants as ending
use Rattle.tb_commands.specs.declared.ending.Ending.{Ending}
use Rattle.tb_commands.specs.declared.ending.Ending.TheVariants as program
use Rattle.tb_commands.proofs.ExactLemmas.{Opens-desk, Opens-none}

-- the endings that `register` may have on a desk
abbrev IsFiled : Ending → Type 0
IsFiled ended = (ended ≡ program.KeeperFault) ⊎ HasDiffered ended ⊎ IsAnswered ended

-- on a desk it has one of them
registers-answered : (own : RegisterEnding) → IsFiled (of_register own)
registers-answered ending.Done = inr (inr (inl refl))
registers-answered ending.WriteFault = inr (inr (inr (inl refl)))
registers-answered (ending.Differs auction) = inr (inl (auction, refl))
registers-answered (ending.KeeperFault) = inl refl
registers-answered (ending.OutOfMemory) = inr (inr (inr (inr refl)))

-- so `register` is answered
pub register-completes : (bill : Option Cusip) (own : DiskEnding RegisterEnding) (input input' : SourceState)
    (old new : Registry)
    → RegisterEnds bill own input input' old new
    → Completes (command.Register bill) input old.disk (of_disk of_register own)
register-completes bill (disk_ending.Opened own) input input' old new filed =
    Opens-desk old.disk filed.ends.0 (of_register own) (IsFiled (of_register own)) filed.ends.2.opened
    (registers-answered own)
register-completes bill (disk_ending.Unopened why) input input' old new filed =
    Opens-none why old.disk new.disk (IsFiled (ending_of why)) filed.ends.unopened

-- memory lacked where filing lacked it
pub filing-lacked : (why : FilingFault) → of_register (of_filing why) ≡ program.OutOfMemory → why ≡ fault.OutOfMemory
filing-lacked (fault.Differs auction) is = absurd (cc (is))
filing-lacked fault.Failed is = absurd (cc (is))
filing-lacked fault.OutOfMemory is = refl
