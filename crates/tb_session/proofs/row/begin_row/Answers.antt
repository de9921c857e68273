-- The row of one bid.
use Rattle.std.proofs.Common.{[], ◌∷◌}
use Rattle.tb_session.proofs.RowLemmas.{row-one}
use Rattle.tb_session.proofs.row.begin_row.Goals as goal

pub returns-in-Ok-clause-row : goal.returns-in-Ok-clause-row
returns-in-Ok-clause-row c = record {
  requests = c.args.request.now ∷ [];
  are = row-one c.in_ok-key.key c.args.waiting.now c.args.request.now c.in_ok-key.bid c.push.new.self.items
      c.new-bids.result.items c.new-bids.ensures.items c.in-Ok.ensures.items c.in_ok-key.ensures;
  within = c.uses.ensures.used c.args.waiting.now c.args.request.now c.requires.front;
}
