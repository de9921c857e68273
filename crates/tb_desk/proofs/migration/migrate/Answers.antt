-- The history that was found is written, or in part.
use Rattle.std.proofs.Common.{sym}
use Rattle.tb_desk.proofs.GroupLemmas.{IsLegal-in_range}
use Rattle.tb_desk.proofs.MigrationLemmas.{ends-ones, exact_stood, keeps_rewritten, migrated_whole, migrated_in_part}
use Rattle.tb_desk.proofs.migration.migrate.Goals as goal

pub write_anew-requires-clause-sizes : goal.write_anew-requires-clause-sizes
write_anew-requires-clause-sizes g c = IsLegal-in_range c.in-Ok.host.history c.entries-count.ensures.legal

pub write_anew-requires-clause-end : goal.write_anew-requires-clause-end
write_anew-requires-clause-end g c = ends-ones c.in-Ok.host.history c.entries-count.ensures.legal

pub returns-in-Ok-write_anew-clause-migrated : goal.returns-in-Ok-write_anew-clause-migrated
returns-in-Ok-write_anew-clause-migrated g c =
    let d = g.D.Disk.disk in
    let history = c.in-Ok.host.history in
    record {
      history = history;
      size = sym c.entries-count.ensures.entries;
      stood = exact_stood (d c.args.from.now).past history c.in-Ok.ensures.exact;
      exact = c.in-Ok.ensures.exact;
      kept = keeps_rewritten history (d c.args.to.now) (d c.write_anew.new.to) c.in-Ok-write_anew.ensures.written;
    }

pub returns-in-Ok-write_anew-clause-crash : goal.returns-in-Ok-write_anew-clause-crash
returns-in-Ok-write_anew-clause-crash g c =
    let d = g.D.Disk.disk in
    let history = c.in-Ok.host.history in
    migrated_whole (d c.args.from.now).past history
    (exact_stood (d c.args.from.now).past history c.in-Ok.ensures.exact) (d c.args.to.now) (d c.write_anew.new.to)
    c.in-Ok-write_anew.ensures.written

pub returns-clause-crash : goal.returns-clause-crash
returns-clause-crash g c =
    let d = g.D.Disk.disk in
    let history = c.in-Ok.host.history in
    migrated_in_part (d c.args.from.now).past history
    (exact_stood (d c.args.from.now).past history c.in-Ok.ensures.exact) (d c.args.to.now) (d c.write_anew.new.to)
    c.in-Err-write_anew.ensures.in_part
