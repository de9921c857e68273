-- The entries so far are added.
use Rattle.std.proofs.Common.{◌≡◌, ◌≤◌, ◌+◌, length, map, take}
use Rattle.tb_message.specs.Spelling.{spelling}
use Rattle.tb_journal.specs.Journal.{Told}
use Rattle.tb_journal.specs.Frames.{frames}
use Rattle.tb_journal.specs.Writing.{AddsAll}
use Rattle.tb_desk.proofs.migration.add_entries.Given as goal

abbrev pub invariant-loop-place : goal.invariant-loop-place
invariant-loop-place g l = record {
  same_reference : l.writer.disk.ghost_name ≡ l.fn.writer.disk.ghost_name;
  adds : Told (g.D.Disk.disk l.fn.writer.disk.now) (g.D.Disk.disk l.writer.disk.now)
      (AddsAll (take l.place (map spelling l.host.history)) l.fn.writer.ordinal l.fn.writer.place);
  place : l.writer.place
      ≡ l.fn.writer.place + length (frames l.fn.writer.ordinal (take l.place (map spelling l.host.history)));
  ordinal : l.writer.ordinal ≡ l.fn.writer.ordinal + l.place;
  few : l.writer.ordinal ≤ l.writer.place;
  no_fault : (g.D.Disk.disk l.writer.disk.now).faults ≡ (g.D.Disk.disk l.fn.writer.disk.now).faults;
}
