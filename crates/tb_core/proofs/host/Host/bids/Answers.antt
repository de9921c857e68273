-- The tables have the bids and the cancels of the history.
use Rattle.std.proofs.Common.{◌≡◌, ◌∙◌, ap₂, subst}
use Rattle.std.specs.Prelude.{IfOk}
use Rattle.std.proofs.lemmas.Result.{IfOk-weaker}
use Rattle.tb_history.specs.LiveBids.{bids, cancels}
use Rattle.tb_history.specs.Readings.{bid_lines}
use Rattle.tb_core.specs.House.{House}
use Rattle.tb_core.proofs.host.Host.bids.Goals as goal

pub returns : goal.returns
returns c =
    let caller = c.args.caller.now in
    let auction = c.args.auction.now in
    let tied = c.self.invariant.tied in
    subst (λ (h : House). IfOk c.bid_lines.result
    (λ lines. lines ≡ bid_lines (bids h.history) (cancels h.history) caller auction))
    c.self.view_is
    (IfOk-weaker c.bid_lines.result _ _
    (λ lines are. are ∙ ap₂ (λ all cancelled. bid_lines all cancelled caller auction) tied.bids_are tied.cancels_are)
    c.bid_lines.ensures)
