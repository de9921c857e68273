-- The entry that is taken back is the bid that was just applied.
use Rattle.tb_core_tests.proofs.tests.take_and_back.Goals as goal

pub take_back-requires : goal.take_back-requires
take_back-requires c = record {
  earlier = c.args.host.now.history;
  last = c.args.entry;
  is = c.take.ensures c.if-not-take.false;
  bid = c.requires.bid;
  moment = c.last-before.ensures;
}
