use Rattle.std.proofs.Common.{◌&&◌, not}
use Rattle.tb_terms.specs.declared.announcement.Announcement.{Announcement}
use Rattle.tb_history.specs.Roster.{is_of_bill, is_named}
use Rattle.tb_tables.proofs.FindLemmas.{announced_at}
use Rattle.tb_tables.proofs.auctions.unsettled_terms.Goals as goal

pub returns : goal.returns
returns c =
    rw c.first_unsettled.ensures
    (announced_at (λ (a : Announcement). is_of_bill c.args.cusip.now a
    && not (is_named c.args.settled.now.list a.auction)) c.args.auctions.now.list)
