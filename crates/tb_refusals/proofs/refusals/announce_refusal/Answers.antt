use Rattle.std.proofs.Common.{◌∙◌, sym}
use Rattle.tb_tables.specs.Auctions.{announced_in}
use Rattle.tb_refusals.proofs.AnnounceLemmas.{announce-exists, announce-fault, announce-later}
use Rattle.tb_refusals.proofs.refusals.announce_refusal.Goals as goal

pub returns-then-has_auction : goal.returns-then-has_auction
returns-then-has_auction c =
    sym (announce-exists (announced_in c.args.auctions.now.list) c.args.redeemed c.args.announcement.now
    (sym c.has_auction.ensures ∙ c.if-has_auction.true))

pub returns-in-Some : goal.returns-in-Some
returns-in-Some c =
    sym (announce-fault (announced_in c.args.auctions.now.list)
    c.args.redeemed c.args.announcement.now c.in-Some.refusal
    (sym c.has_auction.ensures ∙ c.if-has_auction.false) (sym c.fault_refusal.ensures ∙ c.in-Some.is))

pub returns-in-None : goal.returns-in-None
returns-in-None c =
    c.later_refusal.ensures
    ∙ sym (announce-later (announced_in c.args.auctions.now.list) c.args.redeemed c.args.announcement.now
    (sym c.has_auction.ensures ∙ c.if-has_auction.false) (sym c.fault_refusal.ensures ∙ c.in-None.is))
