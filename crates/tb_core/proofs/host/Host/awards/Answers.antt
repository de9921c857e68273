-- The auction's terms and its book are those of its bidding.
use Rattle.std.proofs.Common.{subst}
use Rattle.std.proofs.lemmas.Result.{IfOk-weaker}
use Rattle.tb_core.specs.Bidden.{IsAuctionOf}
use Rattle.tb_core.specs.House.{House, AreTied}
use Rattle.tb_core.proofs.host.Host.awards.Goals as goal

pub awards_reading-requires-clause-auction : goal.awards_reading-requires-clause-auction
awards_reading-requires-clause-auction c = (
  c.args.self.now.history,
  record {
    tied = subst (λ (h : House). AreTied h.history c.self.inside.tables) c.self.view_is c.self.invariant.tied;
    name = c.args.auction.now;
    announced = c.announced-terms.ensures;
    booked = c.book.ensures.booked c.announced-terms.result.announcement c.announced-terms.ensures;
  },
)

pub returns : goal.returns
returns c =
    let a = c.announced-terms.result.announcement in
    let is : IsAuctionOf c.args.self.now.history c.self.inside.tables c.announced-terms.result c.book.result.now.lines =
    record {
      tied = subst (λ (h : House). AreTied h.history c.self.inside.tables) c.self.view_is c.self.invariant.tied;
      name = c.args.auction.now;
      announced = c.announced-terms.ensures;
      booked = c.book.ensures.booked a c.announced-terms.ensures;
    } in
    IfOk-weaker c.awards_reading.result _ _
    (λ lines are. (a, c.announced-terms.ensures, are c.args.self.now.history is)) c.awards_reading.ensures
