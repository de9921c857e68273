-- The payloads so far are added.
use Rattle.std.proofs.Common.{◌≡◌, ◌≤◌, ◌+◌, length, map, take}
use Rattle.tb_journal.specs.Journal.{Told}
use Rattle.tb_journal.specs.Frames.{frames}
use Rattle.tb_journal.specs.Writing.{AddsAll}
use Rattle.tb_journal.proofs.rewriting.add_all.Given as goal

abbrev pub invariant-loop-payload : goal.invariant-loop-payload
invariant-loop-payload g l = record {
  same_reference : l.writer.disk.ghost_name ≡ l.fn.writer.disk.ghost_name;
  adds : Told (g.D.Disk.disk l.fn.writer.disk.now) (g.D.Disk.disk l.writer.disk.now)
      (AddsAll (take l.payload-index (map (λ p. p.now) l.payloads)) l.fn.writer.ordinal l.fn.writer.place);
  place : l.writer.place
      ≡ l.fn.writer.place + length (frames l.fn.writer.ordinal (take l.payload-index (map (λ p. p.now) l.payloads)));
  ordinal : l.writer.ordinal ≡ l.fn.writer.ordinal + l.payload-index;
  few : l.writer.ordinal ≤ l.writer.place;
  no_fault : (g.D.Disk.disk l.writer.disk.now).faults ≡ (g.D.Disk.disk l.fn.writer.disk.now).faults;
}
