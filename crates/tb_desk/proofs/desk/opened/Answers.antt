-- What holds of a desk that was just opened.
use Rattle.tb_desk.proofs.DeskLemmas.{IsDesk-opened}
use Rattle.tb_desk.proofs.desk.opened.Goals as goal

pub invariant_of-result : goal.invariant_of-result
invariant_of-result g c =
    let journal = c.args.journal in (
      rw (c.of.ensures, c.requires.sure, c.new.ensures)
          (IsDesk-opened (g.D.Disk.disk journal.disk) journal.gate journal.doubt c.args.host.history c.entries.result
          c.requires.stands c.entries.ensures.entries),
      record { entries_fit = c.requires.buffers.0; bytes_fit = c.requires.buffers.1 },
    )
