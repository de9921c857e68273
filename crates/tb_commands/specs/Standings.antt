-- Where a script stands on a disk, between its lines.
use Rattle.std.specs.Prelude.{ℕ, List, length}
use Rattle.tb_disk.specs.Disks.{DiskState}
use Rattle.tb_message.specs.declared.message.Entry.{Entry}
use Rattle.tb_desk.specs.Desks.{DeskView, PlacedGroup}
use Rattle.tb_desk.specs.Turn.{Held}

-- the history; the group in doubt, which is empty where nothing is; the disk's count of faults; and the groups that
-- were in doubt so far, one for each turn that met a disk fault
pub record Standing : Type 0 where
  pub history : List Entry
  pub doubt : List Entry
  pub faults : ℕ
  pub doubted : List PlacedGroup

-- where a desk on this disk stands
abbrev pub standing : {D : Type 0} → DiskState → DeskView D → Standing
standing disk desk =
    record { history = desk.host.history; doubt = desk.doubt; faults = disk.faults; doubted = desk.doubted }

-- what is held there
abbrev pub held_at : Standing → Held
held_at stands = record { history = stands.history; doubt = stands.doubt }

-- the group in doubt, at its place behind the history
abbrev pub in_doubt : Standing → PlacedGroup
in_doubt stands = record { before = length stands.history; group = stands.doubt }
