-- The tables are tied to the history.
use Rattle.std.proofs.Common.{◌≡◌, sym, subst, true}
use Rattle.tb_history.specs.Roster.{announcements}
use Rattle.tb_history.specs.Moves.{has_bill}
use Rattle.tb_history.specs.Readings.{IsRedemption}
use Rattle.tb_core.specs.House.{House}
use Rattle.tb_core.proofs.ReadyLemmas.{AreFew-tied}
use Rattle.tb_core.proofs.ShownLemmas.{if_ok}
use Rattle.tb_core.proofs.host.Host.redemption.Goals as goal

pub redemption_lines-requires : goal.redemption_lines-requires
redemption_lines-requires c = AreFew-tied c.self.inside.entries.list c.self.inside.tables c.self.invariant.tied

pub returns : goal.returns
returns c =
    if_ok c.redemption_lines.result c.redemption_lines.ensures
    (λ lines told.
    subst (λ (h : House). IsRedemption h.history c.args.cusip.now lines) c.self.view_is
    (told c.self.inside.entries.list c.self.invariant.tied
    (subst (λ (h : House). has_bill (announcements h.history) c.args.cusip.now.bytes ≡ true)
    (sym c.self.view_is) c.requires)))
