-- How `check` ends.
use Rattle.std.proofs.Common.{◌≡◌, ℕ, List, [], Some, None, refl, sym, subst, inl, inr}
use Rattle.std.specs.Prelude.{IfSome, Option}
use Rattle.tb_link.specs.Counts.{Rose}
use Rattle.tb_link.specs.Sinks.{SinkState}
use Rattle.tb_link.specs.Sources.{SourceState}
use Rattle.tb_disk.specs.Disks.{DiskState}
use Rattle.tb_disk.specs.Past.{Past, contents_of}
use Rattle.tb_desk.specs.Remains.{HasRemains}
use Rattle.tb_desk.specs.declared.remains.Remains.{Remains}
use Rattle.tb_words.specs.declared.command.Command.TheVariants as command
use Rattle.tb_commands.specs.CheckRun.{CauseOf, CheckEnds, ChecksDesk, TellsRemains, Writes, line_of}
use Rattle.tb_commands.specs.Completeness.{Completes}
use Rattle.tb_commands.specs.Endings.{IsUnopened, of_check, of_disk}
use Rattle.tb_commands.specs.RunEnds.{Devices}
use Rattle.tb_commands.specs.Standings.{Standing}
use Rattle.tb_commands.specs.declared.command_endings.CheckEnding.{CheckEnding}
use Rattle.tb_commands.specs.declared.command_endings.CheckEnding.TheVariants as check_ending
use Rattle.tb_commands.specs.declared.command_endings.DiskEnding.{DiskEnding}
use Rattle.tb_commands.specs.declared.command_endings.DiskEnding.TheVariants as disk_ending
use Rattle.tb_commands.specs.declared.ending.Ending.TheVariants as ending
use Rattle.tb_commands.proofs.ExactLemmas.{Opens-desk, Opens-none}

-- `check` is answered
pub check-completes : (own : DiskEnding CheckEnding) (input input' : SourceState) (old new : Devices)
    → CheckEnds own input input' old new
    → Completes command.Check input old.disk (of_disk of_check own)
check-completes (disk_ending.Opened check_ending.Done) input input' old new checked =
    Opens-desk old.disk checked.ends.0 ending.Done _ checked.ends.2.opened (inr (inr (inl refl)))
check-completes (disk_ending.Opened check_ending.WriteFault) input input' old new checked =
    Opens-desk old.disk checked.ends.0 ending.WriteFault _ checked.ends.2.opened (inr (inr (inr (inl refl))))
check-completes (disk_ending.Opened check_ending.DiskFault) input input' old new checked =
    Opens-desk old.disk checked.ends.0 ending.DiskFault _ checked.ends.2.opened (inl refl)
check-completes (disk_ending.Opened (check_ending.DamagedBehind place)) input input' old new checked =
    Opens-desk old.disk checked.ends.0 (ending.DamagedBehind place) _ checked.ends.2.opened (inr (inl (place, refl)))
check-completes (disk_ending.Unopened why) input input' old new checked =
    Opens-none why old.disk new.disk _ checked.ends.unopened

-- the journal of a desk was looked at, on the disk that is handed back
pub ChecksDesk-here : (own : CheckEnding) (old new : Devices) (mid left : DiskState) (first last : Standing)
    → mid.faults ≡ old.disk.faults
    → new.disk ≡ left
    → left.past ≡ mid.past
    → last.history ≡ first.history
    → last.doubt ≡ []
    → IfSome mid.past (λ past. TellsRemains (contents_of past) own old.out new.out)
    → CauseOf own (record { out = old.out; disk = mid }) (record { out = new.out; disk = left })
    → ChecksDesk own old new first last
ChecksDesk-here own old new mid left first last same_count is kept same sure told cause = record {
  same = same;
  sure = sure;
  told = subst (λ (d : DiskState). IfSome d.past (λ past. TellsRemains (contents_of past) own old.out new.out)) (sym is)
      (subst (λ (past : Option Past). IfSome past (λ past. TellsRemains (contents_of past) own old.out new.out))
      (sym kept) told);
  cause = cause_of own cause;
}
  where
    cause_of : (own : CheckEnding)
        → CauseOf own (record { out = old.out; disk = mid }) (record { out = new.out; disk = left })
        → CauseOf own old new
    cause_of check_ending.Done rose = rose
    cause_of check_ending.WriteFault rose = rose
    cause_of check_ending.DiskFault rose = (
      subst (λ (d : DiskState). Rose old.disk.faults d.faults) (sym is)
          (subst (λ (n : ℕ). Rose n left.faults) same_count rose.0),
      rose.1,
    )
    cause_of (check_ending.DamagedBehind place) rose = rose

-- where the disk failed nothing was written
pub unbegun-here : (own : CheckEnding) (old new : Devices)
    → CauseOf own old new
    → IsUnopened (of_check own)
    → new.out ≡ old.out
unbegun-here check_ending.Done old new cause unopened = absurd unopened
unbegun-here check_ending.WriteFault old new cause unopened = absurd unopened
unbegun-here check_ending.DiskFault old new cause unopened = cause.1
unbegun-here (check_ending.DamagedBehind place) old new cause unopened = absurd unopened

-- the line of what was found is written, where the disk tells its contents
pub told-here : (past : Option Past) (found : Remains) (line : List ℕ) (own : CheckEnding) (out out' : SinkState)
    → IfSome past (λ past. HasRemains (contents_of past) found)
    → line_of found ≡ Some line
    → Writes line own out out'
    → IfSome past (λ past. TellsRemains (contents_of past) own out out')
told-here None found line own out out' finds is writes = tt
told-here (Some past) found line check_ending.Done out out' finds is writes = (found, line, finds, is, writes)
told-here (Some past) found line check_ending.WriteFault out out' finds is writes = (found, line, finds, is, writes)
told-here (Some past) found line check_ending.DiskFault out out' finds is writes = absurd writes
told-here (Some past) found line (check_ending.DamagedBehind place) out out' finds is writes = absurd writes
