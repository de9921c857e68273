use Rattle.std.proofs.Common.{rules, inr, ap, length, Some}
use Rattle.tb_disk.specs.Past.{contents_of}
use Rattle.tb_disk.specs.Notes.{torn_over}
use Rattle.tb_disk.specs.Logging.{recorded}
use Rattle.tb_disk.proofs.Noting.{torn_over-torn}
use Rattle.tb_disk.proofs.memory_disk.MemoryDiskDisk.write_at.Goals as goal

pub returns-then-refused-clause-fails : goal.returns-then-refused-clause-fails
returns-then-refused-clause-fails c =
    let torn = c.args.self.now.torn in
    let was = contents_of (recorded torn c.args.self.now.log) in
    record {
      past = inr (
        torn_over c.args.place (length c.args.bytes.now) torn was,
        torn_over-torn c.args.place (length c.args.bytes.now) torn was c.requires.place,
        ap Some (c.note.ensures.told torn),
      );
      rose = search rules;
      count = search rules;
    }
