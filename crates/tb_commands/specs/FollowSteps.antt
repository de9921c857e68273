-- What `follow send` and `follow take` do between their opening and their end.
use Rattle.std.specs.Prelude.{◌≡◌, ℕ, ◌+◌, List, length, Result, Ok, Err}
use Rattle.tb_link.specs.Sources.{SourceState}
use Rattle.tb_link.specs.Sinks.{SinkState, after_taken, TakesPrefix}
use Rattle.tb_message.specs.declared.message.Entry.{Entry}
use Rattle.tb_parcel.specs.declared.parcel.Parcel.{Parcel}
use Rattle.tb_replica.specs.Following.{Following, Takes}
use Rattle.tb_replica.specs.declared.taken.Taken.{Taken}
use Rattle.tb_replica.specs.declared.taken.TakeFault.TheVariants as fault
use Rattle.tb_commands.specs.FollowSendRun.{parcels_at, sent_of}
use Rattle.tb_commands.specs.FollowTakeRun.{TakesAll, TakesInPart}
use Rattle.tb_commands.specs.Standings.{Standing}
use Rattle.tb_commands.specs.declared.command_endings.TakeEnding.{TakeEnding}
use Rattle.tb_commands.specs.declared.command_endings.TakeEnding.TheVariants as ending
use Rattle.tb_commands.specs.declared.follow_send_command.GroupFault.{GroupFault}
use Rattle.tb_commands.specs.declared.follow_send_command.GroupFault.TheVariants as group

-- The parcels of a group, before which so many entries stand, were written, and this is how many stand behind it; or a
-- beginning of them was. A group can be read.
abbrev pub SendsGroup : ℕ → ℕ → List Entry → Result ℕ GroupFault → SinkState → SinkState → Type 0
SendsGroup from before entries (Ok behind) out out' =
    (behind ≡ before + length entries)
    × (out'.taken ≡ after_taken out.taken (sent_of from (parcels_at before entries)))
SendsGroup from before entries (Err group.Write) out out' =
    TakesPrefix out out' (sent_of from (parcels_at before entries))
SendsGroup from before entries (Err group.Unreadable) out out' = ⊥

-- a parcel was taken by the copy, or was answered with a fault that ends the command
abbrev pub IsTakenAs : Parcel → Following → Following → Result (Unit {0}) TakeEnding → Type 0
IsTakenAs parcel old new (Ok done) = (answer : Taken) × Takes parcel old new (Ok answer)
IsTakenAs parcel old new (Err (ending.Forked place)) = Takes parcel old new (Err (fault.Forked place))
IsTakenAs parcel old new (Err ending.DiskFault) = Takes parcel old new (Err fault.DiskFault)
IsTakenAs parcel old new (Err ending.OutOfMemory) = Takes parcel old new (Err fault.OutOfMemory)
IsTakenAs parcel old new (Err ended) = ⊥

-- the parcels of the input were taken, all of them or up to this ending
abbrev pub InputTaken : Result (Unit {0}) TakeEnding → SourceState → SourceState → ℕ → ℕ → Standing → Standing → Type 0
InputTaken (Ok done) input input' faults faults' first last =
    TakesAll input input' first last × (input'.faults ≡ input.faults)
InputTaken (Err ended) input input' faults faults' first last =
    TakesInPart ended input input' faults faults' first last
