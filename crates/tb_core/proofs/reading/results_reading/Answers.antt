-- The book is of the auction's bidding.
use Rattle.std.proofs.Common.{◌∙◌, Option, List, ap, subst}
use Rattle.std.proofs.lemmas.Result.{IfOk-weaker}
use Rattle.tb_history.specs.declared.accounts.AddOn.{AddOn}
use Rattle.tb_history.specs.Roster.{add_on_of}
use Rattle.tb_history.specs.Holdings.{bidding_in}
use Rattle.tb_history.specs.Readings.{AreResults}
use Rattle.tb_core.proofs.BiddenLemmas.{IsAuctionOf-book}
use Rattle.tb_core.proofs.reading.results_reading.Goals as goal

pub results-requires-clause-bidding : goal.results-requires-clause-bidding
results-requires-clause-bidding c = (
  bidding_in c.requires.auction.0 c.args.terms.now.announcement,
  IsAuctionOf-book c.requires.auction.0 c.args.tables.now c.args.terms.now c.args.book.now.lines c.deref.result.now
      c.requires.auction.1
      (c.deref.ensures.value ∙ c.in_ok-positions.ensures),
)

pub returns : goal.returns
returns c =
    IfOk-weaker c.results.result _ _
    (λ results are history is.
    let bidding = bidding_in history c.args.terms.now.announcement in
    let auction = c.args.terms.now.announcement.auction in
    subst (λ (add_on : Option AddOn). AreResults bidding add_on results)
    (c.find_add_on-add_on.ensures ∙ ap (λ (all : List AddOn). add_on_of all auction) is.tied.add_ons_are)
    (are bidding
    (IsAuctionOf-book history c.args.tables.now c.args.terms.now c.args.book.now.lines c.deref.result.now is
    (c.deref.ensures.value ∙ c.in_ok-positions.ensures)))) c.results.ensures
