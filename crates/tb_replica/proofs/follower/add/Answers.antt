-- By the turn that the desk makes of it.
use Rattle.std.proofs.Common.{◌∙◌, ap, refl, arith}
use Rattle.tb_desk.specs.Desks.{held}
use Rattle.tb_replica.proofs.AddingLemmas.{Turns-added_on, Turns-doubted_on}
use Rattle.tb_replica.proofs.CrashLemmas.{Left-same, Left-turn}
use Rattle.tb_replica.proofs.follower.add.Goals as goal

pub returns-in-Verdict-clause-added : goal.returns-in-Verdict-clause-added
returns-in-Verdict-clause-added g c =
    Turns-added_on c.args.desk.now.host.history c.entries-place.result c.make_room.new.self.gate
    (g.D.Disk.disk c.make_room.new.self.disk) (held c.make_room.new.self) (held c.submit.new.self) c.args.entry.now
    c.in-Verdict.verdict c.told.result c.in-Verdict.ensures.turn c.make_room.ensures.history
    (c.make_room.ensures.same.doubt ∙ c.requires.sure) c.requires.in_range
    (omega (arith, c.if-entry-last.false, c.last.ensures)) c.entries-place.ensures.entries c.told.ensures.told

pub returns-then-entry-last-clause-crash : goal.returns-then-entry-last-clause-crash
returns-then-entry-last-clause-crash g c =
    let disk = g.D.Disk.disk c.args.desk.now.disk in
    Left-same c.args.desk.now.host.history (held c.args.desk.now) disk disk refl refl c.entries-place.ensures.leaves

pub returns-then-is_err-clause-crash : goal.returns-then-is_err-clause-crash
returns-then-is_err-clause-crash g c =
    Left-same c.args.desk.now.host.history (held c.make_room.new.self) (g.D.Disk.disk c.args.desk.now.disk)
    (g.D.Disk.disk c.make_room.new.self.disk) c.make_room.ensures.history
    (ap g.D.Disk.disk c.make_room.ensures.same.disk)
    (rw (c.make_room.ensures.history, c.make_room.ensures.same.doubt, c.make_room.ensures.same.disk)
    c.entries-place.ensures.leaves)

pub returns-in-Verdict-clause-crash : goal.returns-in-Verdict-clause-crash
returns-in-Verdict-clause-crash g c =
    Left-turn c.args.desk.now.host.history c.make_room.new.self.gate _ (held c.make_room.new.self)
    (held c.submit.new.self) _ (g.D.Disk.disk c.args.desk.now.disk) (g.D.Disk.disk c.make_room.new.self.disk)
    (g.D.Disk.disk c.submit.new.self.disk) c.submit.ensures.turn c.make_room.ensures.history
    (c.make_room.ensures.same.doubt ∙ c.requires.sure) (ap g.D.Disk.disk c.make_room.ensures.same.disk)
    c.submit.ensures.crash

pub returns-in-DiskFault-clause-crash : goal.returns-in-DiskFault-clause-crash
returns-in-DiskFault-clause-crash g c =
    Left-turn c.args.desk.now.host.history c.make_room.new.self.gate _ (held c.make_room.new.self)
    (held c.submit.new.self) _ (g.D.Disk.disk c.args.desk.now.disk) (g.D.Disk.disk c.make_room.new.self.disk)
    (g.D.Disk.disk c.submit.new.self.disk) c.submit.ensures.turn c.make_room.ensures.history
    (c.make_room.ensures.same.doubt ∙ c.requires.sure) (ap g.D.Disk.disk c.make_room.ensures.same.disk)
    c.submit.ensures.crash

pub returns-in-DiskFault-clause-in_doubt : goal.returns-in-DiskFault-clause-in_doubt
returns-in-DiskFault-clause-in_doubt g c = λ is.
    Turns-doubted_on c.args.desk.now.host.history c.make_room.new.self.gate
    (g.D.Disk.disk c.make_room.new.self.disk) (held c.make_room.new.self) (held c.submit.new.self) c.args.entry.now
    c.in-DiskFault.ensures.turn c.make_room.ensures.history
    (c.make_room.ensures.same.doubt ∙ c.requires.sure) c.requires.in_range
    (omega (arith, c.if-entry-last.false, c.last.ensures))
