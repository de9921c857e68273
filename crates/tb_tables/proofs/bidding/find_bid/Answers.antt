-- The bid is what stands under the number.
use Rattle.std.proofs.Common.{◌∙◌, sym}
use Rattle.tb_tables.proofs.BidLemmas.{bid_of-kept, bid_of-none}
use Rattle.tb_tables.proofs.bidding.find_bid.Goals as goal

pub returns-in_err-entry : goal.returns-in_err-entry
returns-in_err-entry c =
    c.from_residual.ensures
    ∙ sym (bid_of-none c.args.entries.now.list c.args.submitter.now c.args.auction.now c.args.number c.requires
    (sym c.find.ensures ∙ c.in_err-entry.was))

pub returns : goal.returns
returns c =
    c.bid_in.ensures
    ∙ sym (bid_of-kept c.args.entries.now.list c.args.submitter.now c.args.auction.now c.args.number
    c.in_ok-entry.entry c.requires (sym c.in_ok-entry.ensures))
