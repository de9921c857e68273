-- One of the journal's frames stands at the place, or its gate, and the window shows the disk.
use Rattle.tb_journal.specs.declared.form.Form.TheVariants.{First}
use Rattle.tb_journal.specs.Places.{StandsAtIn}
use Rattle.tb_journal.specs.Windows.{Shows}
use Rattle.tb_journal_tests.proofs.tests.first_payloads_of.Given as goal

abbrev pub invariant-frames : goal.invariant-frames
invariant-frames g l = record {
  stands : StandsAtIn First (g.D.Disk.disk l.journal.disk.now) l.journal.gate l.place;
  window : Shows (g.D.Disk.disk l.journal.disk.now) l.window;
}
