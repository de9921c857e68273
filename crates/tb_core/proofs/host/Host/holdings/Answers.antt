-- The tables are tied to the history.
use Rattle.std.proofs.Common.{◌≡◌, sym, subst, true}
use Rattle.tb_history.specs.Roster.{is_registered, registrations}
use Rattle.tb_history.specs.Readings.{AreHoldings}
use Rattle.tb_core.specs.House.{House}
use Rattle.tb_core.proofs.ReadyLemmas.{AreFew-tied}
use Rattle.tb_core.proofs.ShownLemmas.{if_ok}
use Rattle.tb_core.proofs.host.Host.holdings.Goals as goal

pub holdings_lines-requires : goal.holdings_lines-requires
holdings_lines-requires c = AreFew-tied c.self.inside.entries.list c.self.inside.tables c.self.invariant.tied

pub returns : goal.returns
returns c =
    if_ok c.holdings_lines.result c.holdings_lines.ensures
    (λ lines told.
    subst (λ (h : House). AreHoldings h.history c.args.caller.now lines) c.self.view_is
    (told c.self.inside.entries.list c.self.invariant.tied
    (subst (λ (h : House). is_registered (registrations h.history) c.args.caller.now ≡ true)
    (sym c.self.view_is) c.requires)))
