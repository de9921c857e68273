-- The book's sums are those of the live bids.
use Rattle.std.proofs.Common.{◌∙◌}
use Rattle.tb_core.proofs.OwnLemmas.{tied-competitive, tied-noncompetitive}
use Rattle.tb_shelving.proofs.StandingLemmas.{capped-is}
use Rattle.tb_core.proofs.standing.own_of.Goals as goal

pub returns : goal.returns
returns c =
    capped-is c.sums_of.result.0.value c.sums_of.result.1.value c.few_bids-accepted.result c.has_report-reported.result
    c.args.tables.now.bids.list c.args.tables.now.cancels.list c.args.tables.now.reports.list c.args.auction.now
    c.args.bidder.now
    (c.sums_of.ensures.competitive
    ∙ tied-competitive c.requires.tied.0 c.args.tables.now c.requires.tied.1 c.args.auction.now c.args.bidder.now
    c.args.number c.requires.number)
    (c.sums_of.ensures.noncompetitive
    ∙ tied-noncompetitive c.requires.tied.0 c.args.tables.now c.requires.tied.1 c.args.auction.now c.args.bidder.now
    c.args.number c.requires.number)
    c.few_bids-accepted.ensures c.has_report-reported.ensures
