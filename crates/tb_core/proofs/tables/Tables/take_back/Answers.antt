-- The last bid and its line are out.
use Rattle.std.proofs.Common.{◌≡◌, ◌++◌, ◌∷◌, [], refl}
use Rattle.tb_history.specs.declared.bids.Bid.{Bid}
use Rattle.tb_core.proofs.TakenBackLemmas.{IfSome-found}
use Rattle.tb_core.proofs.tables.Tables.take_back.Goals as goal

pub returns : goal.returns
returns c = record {
  bid = c.unwrap-bid.result;
  bids = IfSome-found (λ (row : Bid). c.args.self.now.bids.list ≡ c.pop.new.self.list ++ row ∷ []) c.pop.result
      c.unwrap-bid.result c.unwrap-bid.ensures c.pop.ensures.some;
  spare = c.pop.ensures.spare;
  books = rw (← c.number_of-bidder.ensures) c.take_out.ensures.books;
  ready = c.take_out.ensures.ready.0;
  places = c.take_out.ensures.ready.1;
  same = refl;
}
