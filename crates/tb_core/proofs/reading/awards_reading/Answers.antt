-- The book is of the auction's bidding, and the table has its bidders.
use Rattle.std.proofs.Common.{◌<◌, ◌≤◌, ◌^◌, ◌∙◌, Option, List, length, sym, subst}
use Rattle.std.specs.Prelude.{IfSome}
use Rattle.tb_units.specs.Multiples.{most_par}
use Rattle.tb_history.specs.declared.accounts.AddOn.{AddOn}
use Rattle.tb_history.specs.declared.roster.Enrolment.{Enrolment}
use Rattle.tb_history.specs.Holdings.{bidding_in}
use Rattle.tb_history.specs.Readings.{AreAddOn, AreAwardLines}
use Rattle.tb_results.specs.Outcomes.{bidders_among}
use Rattle.tb_core.proofs.BiddenLemmas.{AreAwards-tied, IfOk-both, IsAuctionOf-book, add_on-limited}
use Rattle.tb_core.proofs.HouseLemmas.{few-bidders}
use Rattle.tb_core.proofs.reading.awards_reading.Goals as goal

pub awards-requires : goal.awards-requires
awards-requires c = record {
  bidding = (
    bidding_in c.requires.auction.0 c.args.terms.now.announcement,
    IsAuctionOf-book c.requires.auction.0 c.args.tables.now c.args.terms.now c.args.book.now.lines c.deref.result.now
        c.requires.auction.1
        (c.deref.ensures.value ∙ c.in_ok-positions.ensures),
    c.rows.ensures ∙ c.requires.auction.1.tied.bidders_are,
  );
  opened = c.requires.opened;
  few = subst (λ (es : List Enrolment). length es < 2 ^ 32) (sym c.rows.ensures)
      (few-bidders c.requires.auction.0 c.args.tables.now c.requires.auction.1.tied);
  range = subst (λ (add_on : Option AddOn). IfSome add_on (λ x. x.amount.value ≤ most_par))
      (sym c.find_add_on-add_on.ensures)
      (add_on-limited c.requires.auction.0 c.args.tables.now c.args.terms.now.announcement.auction
      c.requires.auction.1.tied);
}

pub returns : goal.returns
returns c =
    let terms = c.args.terms.now in
    let tables = c.args.tables.now in
    IfOk-both c.awards.result _ _ _
    (λ awards lines addon history is.
    let bidding = bidding_in history terms.announcement in
    let book = IsAuctionOf-book history tables terms c.args.book.now.lines c.deref.result.now is
    (c.deref.ensures.value ∙ c.in_ok-positions.ensures) in
    AreAwards-tied history tables terms.announcement c.args.caller.now awards is.tied
    (subst (λ (es : List Enrolment). AreAwardLines bidding (bidders_among bidding c.args.caller.now es) awards.lines)
    c.rows.ensures
    (lines bidding book (c.rows.ensures ∙ is.tied.bidders_are)))
    (subst (λ (add_on : Option AddOn). AreAddOn bidding add_on c.args.caller.now awards.addon)
    c.find_add_on-add_on.ensures (addon bidding book)))
    c.awards.ensures.lines c.awards.ensures.addon
