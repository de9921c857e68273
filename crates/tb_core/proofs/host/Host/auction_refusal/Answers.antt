-- What the tables give is what the history says.
use Rattle.std.proofs.Common.{◌≡◌, ◌∙◌, ap, subst, Bool, Option}
use Rattle.tb_terms.specs.declared.announcement.Announcement.{Announcement}
use Rattle.tb_terms.specs.Rows.{refusal_in}
use Rattle.tb_history.specs.Roster.{announcement_of, announcements, is_published}
use Rattle.tb_history.specs.Answer.{auction_rows}
use Rattle.tb_tables.specs.Auctions.{announced_in}
use Rattle.tb_core.specs.House.{House}
use Rattle.tb_core.proofs.QueryLemmas.{tied_auction}
use Rattle.tb_core.proofs.host.Host.auction_refusal.Goals as goal

pub returns : goal.returns
returns c =
    let tables = c.self.inside.tables in
    let auction = c.args.auction.now in
    let shows = c.args.shows_results in
    subst (λ (h : House). c.auction_refusal.result
    ≡ refusal_in (auction_rows (announcement_of (announcements h.history) auction) shows
    (is_published h.history auction)))
    c.self.view_is
    (c.auction_refusal.ensures
    ∙ (ap (λ (found : Option Announcement). refusal_in (auction_rows found shows c.has_name-published.result))
    c.terms_of-terms.ensures
    ∙ (ap (λ (b : Bool). refusal_in
    (auction_rows (announcement_of (announced_in tables.auctions.list) auction) shows b)) c.has_name-published.ensures
    ∙ ap refusal_in (tied_auction c.self.inside.entries.list tables c.self.invariant.tied auction shows))))
