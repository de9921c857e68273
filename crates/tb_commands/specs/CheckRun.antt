-- What the command `check` tells, and what it does to its output and its disk.
use Rattle.std.specs.Prelude.{◌≡◌, ℕ, List, [], ◌∷◌, ◌++◌, codes, Option, Some, None, IfSome}
use Rattle.tb_units.specs.Bytes.{line_feed}
use Rattle.tb_link.specs.Counts.{Rose}
use Rattle.tb_link.specs.Sources.{SourceState}
use Rattle.tb_link.specs.Sinks.{SinkState, Takes, TakesPrefix}
use Rattle.tb_disk.specs.Past.{contents_of}
use Rattle.tb_journal.specs.Journal.{Told}
use Rattle.tb_journal.specs.Opening.{BreaksOff, IsHarmless}
use Rattle.tb_desk.specs.Remains.{HasRemains}
use Rattle.tb_desk.specs.declared.remains.Remains.{Remains}
use Rattle.tb_desk.specs.declared.remains.Remains.TheVariants as remains
use Rattle.tb_commands.specs.RunEnds.{Devices, EndsOnDisk}
use Rattle.tb_commands.specs.Standings.{Standing}
use Rattle.tb_commands.specs.declared.command_endings.CheckEnding.{CheckEnding}
use Rattle.tb_commands.specs.declared.command_endings.CheckEnding.TheVariants as ending
use Rattle.tb_commands.specs.declared.command_endings.DiskEnding.{DiskEnding}

-- the line that is printed of what remains behind the gate, where an append may have left that
abbrev pub line_of : Remains → Option (List ℕ)
line_of remains.Nothing = Some (codes "nothing" ++ line_feed ∷ [])
line_of remains.TornAppend = Some (codes "a torn append" ++ line_feed ∷ [])
line_of (remains.Damage place) = None

-- the output has taken this line, or a part of it, or nothing where the ending tells all
abbrev pub Writes : List ℕ → CheckEnding → SinkState → SinkState → Type 0
Writes line ending.Done out out' = Takes out out' line
Writes line ending.WriteFault out out' = TakesPrefix out out' line × Rose out.faults out'.faults
Writes line ending.DiskFault out out' = ⊥
Writes line (ending.DamagedBehind place) out out' = ⊥

-- what is told is what remains in the file
abbrev pub TellsRemains : List ℕ → CheckEnding → SinkState → SinkState → Type 0
TellsRemains file (ending.DamagedBehind place) out out' = HasRemains file (remains.Damage place) × (out' ≡ out)
TellsRemains file ending.DiskFault out out' = out' ≡ out
TellsRemains file ended out out' =
    (found : Remains) × (line : List ℕ) × HasRemains file found × (line_of found ≡ Some line)
    × Writes line ended out out'

-- a fault of the output or the disk rose with its count, and nothing was written where the disk failed
abbrev pub CauseOf : CheckEnding → Devices → Devices → Type 0
CauseOf ending.Done old new = new.out.faults ≡ old.out.faults
CauseOf ending.WriteFault old new = Rose old.out.faults new.out.faults
CauseOf ending.DiskFault old new = Rose old.disk.faults new.disk.faults × (new.out ≡ old.out)
CauseOf (ending.DamagedBehind place) old new = new.out ≡ old.out

-- How the journal of a desk is looked at, where the disk tells its contents: as the opening left them. Nothing is added
-- to the history.
pub record ChecksDesk (ended : CheckEnding) (old new : Devices) (first last : Standing) : Type 0 where
  pub same : last.history ≡ first.history
  pub sure : last.doubt ≡ []
  pub told : IfSome new.disk.past (λ past. TellsRemains (contents_of past) ended old.out new.out)
  pub cause : CauseOf ended old new

-- How the command ends. It reads no input, and does no more to its disk than an opening does: what each crash leaves
-- stands for what the file stood for, or could be left before.
pub record CheckEnds (ended : DiskEnding CheckEnding) (input input' : SourceState) (old new : Devices) : Type 0 where
  pub ends : EndsOnDisk (λ own. ChecksDesk own old new) ended input input' old new
  pub unread : input' ≡ input
  pub steps : Told old.disk new.disk BreaksOff
  pub harmless : Told old.disk new.disk IsHarmless
