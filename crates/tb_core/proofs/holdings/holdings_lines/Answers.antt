-- The announcements that are shown are those of the history.
use Rattle.std.proofs.Common.{List, subst}
use Rattle.std.specs.Prelude.{filter}
use Rattle.tb_terms.specs.declared.announcement.Announcement.{Announcement}
use Rattle.tb_history.specs.Readings.{AreHoldingLines}
use Rattle.tb_core.specs.Shown.{is_shown}
use Rattle.tb_core.proofs.ShownLemmas.{holdings-shown, if_ok}
use Rattle.tb_core.proofs.holdings.holdings_lines.Goals as goal

pub returns : goal.returns
returns c =
    if_ok c.shown_lines.result c.shown_lines.ensures
    (λ lines shown history tied known.
    holdings-shown history c.args.participant.now lines
    (subst (λ (all : List Announcement).
    AreHoldingLines history c.args.participant.now (filter (is_shown history c.args.participant.now) all) lines)
    tied.auctions_are
    (shown history c.args.participant.now tied known c.holder_number-holder.ensures)))
