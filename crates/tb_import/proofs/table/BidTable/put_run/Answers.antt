use Rattle.std.proofs.Common.{ap, map, ◌∙◌}
use Rattle.tb_import.specs.Sent.{sent_of}
use Rattle.tb_import.proofs.SentLemmas.{run-bids}
use Rattle.tb_import.proofs.table.BidTable.put_run.Goals as goal

pub returns-clause-run : goal.returns-clause-run
returns-clause-run c =
    run-bids c.as_slice.result.now c.loop-row.run.items c.args.self.now c.args.place c.args.most c.min.result
    c.loop-row.row-index c.loop-row.invariant.0 c.loop-row-test.false c.min.ensures
    (ap (map sent_of) c.as_slice.ensures.keys ∙ c.self.view_is)
