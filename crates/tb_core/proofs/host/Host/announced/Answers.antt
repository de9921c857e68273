-- The terms that are kept are those of the announcement.
use Rattle.std.proofs.Common.{◌≡◌, ◌∙◌, ap, sym, subst, is_some, true, Some, List}
use Rattle.tb_terms.specs.declared.announcement.Announcement.{Announcement}
use Rattle.tb_history.specs.Roster.{announcement_of, announcements}
use Rattle.tb_tables.specs.Auctions.{announcement_in}
use Rattle.tb_core.specs.House.{House}
use Rattle.tb_tables.proofs.FindLemmas.{announced_some}
use Rattle.tb_core.proofs.host.Host.announced.Goals as goal

pub unwrap-requires : goal.unwrap-requires
unwrap-requires c =
    sym (announced_some c.terms_of.result)
    ∙ (ap is_some c.terms_of.ensures
    ∙ (ap (λ (all : List Announcement). is_some (announcement_of all c.args.auction.now))
    c.self.invariant.tied.auctions_are
    ∙ subst (λ (h : House). is_some (announcement_of (announcements h.history) c.args.auction.now) ≡ true)
    (sym c.self.view_is) c.requires))

pub returns : goal.returns
returns c =
    subst (λ (h : House). announcement_of (announcements h.history) c.args.auction.now
    ≡ Some c.unwrap.result.announcement)
    c.self.view_is
    (sym (c.terms_of.ensures
    ∙ ap (λ (all : List Announcement). announcement_of all c.args.auction.now) c.self.invariant.tied.auctions_are)
    ∙ ap announcement_in c.unwrap.ensures)
