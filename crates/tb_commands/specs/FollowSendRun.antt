-- What the command `follow send` writes, and what it does to its output and its disk.
use Rattle.std.specs.Prelude.{◌≡◌, ℕ, ◌+◌, nat_le, List, [], ◌∷◌, IfSome}
use Rattle.std.specs.List.{filter}
use Rattle.tb_link.specs.Counts.{Rose}
use Rattle.tb_link.specs.Sources.{SourceState}
use Rattle.tb_link.specs.Sinks.{SinkState, after_taken, TakesPrefix}
use Rattle.tb_journal.specs.Journal.{Told}
use Rattle.tb_journal.specs.Opening.{BreaksOff, IsHarmless}
use Rattle.tb_message.specs.declared.message.Entry.{Entry}
use Rattle.tb_parcel.specs.declared.parcel.Parcel.{Parcel}
use Rattle.tb_commands.specs.FollowTakeRun.{bytes_of}
use Rattle.tb_commands.specs.RunEnds.{Devices, EndsOnDisk}
use Rattle.tb_commands.specs.Standings.{Standing}
use Rattle.tb_commands.specs.declared.command_endings.DiskEnding.{DiskEnding}
use Rattle.tb_commands.specs.declared.command_endings.SendEnding.{SendEnding}
use Rattle.tb_commands.specs.declared.command_endings.SendEnding.TheVariants as ending

-- the parcels of entries, of which the first stands at this place
abbrev pub parcels_at : ℕ → List Entry → List Parcel
parcels_at place [] = []
parcels_at place (entry ∷ entries) = record { place = place; entry = entry } ∷ parcels_at (place + 1) entries

-- the bytes of those of the parcels whose place isn't before this one
abbrev pub sent_of : ℕ → List Parcel → List ℕ
sent_of from parcels = bytes_of (filter (λ (parcel : Parcel). nat_le from parcel.place) parcels)

-- what a history is sent as, from this place on
abbrev pub sent_bytes : ℕ → List Entry → List ℕ
sent_bytes from history = sent_of from (parcels_at 0 history)

-- all of that was written, or a beginning of it; and no group of the history is unreadable
abbrev pub Sends : ℕ → List Entry → SendEnding → SinkState → SinkState → Type 0
Sends from history ending.Done out out' = out'.taken ≡ after_taken out.taken (sent_bytes from history)
Sends from history ending.WriteFault out out' = TakesPrefix out out' (sent_bytes from history)
Sends from history ending.DiskFault out out' = TakesPrefix out out' (sent_bytes from history)
Sends from history (ending.Damaged place) out out' = ⊥

-- a fault of the output or the disk rose with its count, and where all was sent there was none
abbrev pub RoseWith : SendEnding → Devices → Devices → Type 0
RoseWith ending.Done old new = new.out.faults ≡ old.out.faults
RoseWith ending.WriteFault old new = Rose old.out.faults new.out.faults
RoseWith ending.DiskFault old new = Rose old.disk.faults new.disk.faults
RoseWith (ending.Damaged place) old new = Unit {0}

-- How a history is sent from a desk, where the disk tells its contents. Nothing is added to it.
pub record SendsDesk (from : ℕ) (ended : SendEnding) (old new : Devices) (first last : Standing) : Type 0 where
  pub same : last.history ≡ first.history
  pub sure : last.doubt ≡ []
  pub sent : IfSome old.disk.past (λ past. Sends from first.history ended old.out new.out)
  pub cause : RoseWith ended old new

-- How the command ends. It reads no input, and does no more to its disk than an opening does: what each crash leaves
-- stands for what the file stood for, or could be left before.
pub record FollowSendEnds (from : ℕ) (ended : DiskEnding SendEnding) (input input' : SourceState)
    (old new : Devices) : Type 0
  where
    pub ends : EndsOnDisk (λ own. SendsDesk from own old new) ended input input' old new
    pub unread : input' ≡ input
    pub steps : Told old.disk new.disk BreaksOff
    pub harmless : Told old.disk new.disk IsHarmless
