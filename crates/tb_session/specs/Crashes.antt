-- What a crash leaves in a turn.
use Rattle.std.specs.Prelude.{ℕ, List, IfSome}
use Rattle.tb_disk.specs.Disks.{DiskState}
use Rattle.tb_disk.specs.Past.{MayLeave}
use Rattle.tb_desk.specs.Stands.{StandsForHistory}
use Rattle.tb_lock.specs.Meanings.{History, IsPrefix}
use Rattle.tb_message.specs.declared.message.Entry.{Entry}
use Rattle.tb_session.specs.Codes.{spelled_all}

-- the file stands for a history that begins with what was seen
pub record HasSeen (seen : History) (file : List ℕ) : Type 0 where
  pub history : List Entry
  pub stands : StandsForHistory history file
  pub begins : IsPrefix seen (spelled_all history)

-- and so does each file that a crash now leaves
abbrev pub LeavesSeen : History → DiskState → Type 0
LeavesSeen seen disk = IfSome disk.past (λ past. (file : List ℕ) → MayLeave past file → HasSeen seen file)
