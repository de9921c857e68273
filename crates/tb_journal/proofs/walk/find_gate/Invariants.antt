-- The file is read up to this place.
use Rattle.std.proofs.Common.{◌≡◌, ◌≤◌, ◌-◌, IfSome}
use Rattle.tb_disk.specs.Past.{contents_of}
use Rattle.tb_journal.specs.Frames.{first_place}
use Rattle.tb_journal.specs.Windows.{Shows}
use Rattle.tb_journal.proofs.Reading.{IsReadUpTo}
use Rattle.tb_journal.proofs.walk.find_gate.Given as goal

abbrev pub invariant-frames : goal.invariant-frames
invariant-frames g l = record {
  kept : (g.D.Disk.disk l.disk).past ≡ (g.D.Disk.disk l.fn.disk).past;
  no_fault : (g.D.Disk.disk l.disk).faults ≡ (g.D.Disk.disk l.fn.disk).faults;
  behind : first_place l.form ≤ l.place;
  few : l.ordinal ≤ l.place;
  within : l.place ≤ l.size;
  window : Shows (g.D.Disk.disk l.disk) l.window;
  so_far : IfSome (g.D.Disk.disk l.fn.disk).past (λ past. IsReadUpTo l.form l.ordinal l.place (contents_of past));
}

abbrev pub decreases-frames : goal.decreases-frames
decreases-frames g l = l.size - l.place
