use Rattle.tb_disk.specs.Memory.{memory_disk}
use Rattle.tb_desk_tests.proofs.walk_tests.is_walked.Goals as goal

-- A new window shows every disk.
pub next_group-requires-clause-window : goal.next_group-requires-clause-window
next_group-requires-clause-window g c = c.new-window.ensures.shows (memory_disk c.in-Ok.desk.disk)
