-- One of the journal's frames stands at the place, or its gate, and the window shows the disk.
use Rattle.std.proofs.Common.{◌≡◌, None}
use Rattle.tb_journal.specs.Places.{StandsAt}
use Rattle.tb_journal.specs.Windows.{Shows}
use Rattle.tb_journal_tests.proofs.tests.payloads_of.Given as goal

abbrev pub invariant-frames : goal.invariant-frames
invariant-frames g l = record {
  sure : l.journal.doubt ≡ None;
  stands : StandsAt (g.D.Disk.disk l.journal.disk) l.journal.gate l.place;
  window : Shows (g.D.Disk.disk l.journal.disk) l.window;
}
