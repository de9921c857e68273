-- What the window has already is what stands there.
use Rattle.std.proofs.Common.{refl}
use Rattle.tb_journal.proofs.Showing.{held-bytes}
use Rattle.tb_journal.proofs.window.Window.fill.Goals as goal

pub returns-then-holds-clause-bytes : goal.returns-then-holds-clause-bytes
returns-then-holds-clause-bytes g c =
    let d = g.D.Disk.disk in
    let enough = c.if-holds.ensures.0 refl in
    held-bytes (d c.args.disk.now).past c.args.self.now.from c.args.place c.args.need c.args.self.now.bytes
    c.requires.shows enough.0 enough.1
