-- The last reports of positions.
use Rattle.std.proofs.Common.{◌≡◌, ℕ, List, [], ◌∷◌, ◌++◌, refl, ap, ◌∙◌}
use Rattle.std.specs.Prelude.{ℤ, pos}
use Rattle.std.specs.List.{filter}
use Rattle.tb_history.specs.declared.bids.Report.{Report}
use Rattle.tb_history.specs.LiveBids.{is_report_of, last_position, position_of}

-- the last of some reports is the one at the end
last_position-push : (position : ℤ) (reported : List Report) (report : Report)
    → last_position position (reported ++ report ∷ []) ≡ report.position
last_position-push position [] report = refl
last_position-push position (first ∷ reported) report = last_position-push first.position reported report

-- the position is that of the last report of the bidder in the auction
pub position_of-last : (reported : List Report) (auction bidder : List ℕ) (earlier : List Report) (report : Report)
    → filter (is_report_of auction bidder) reported ≡ earlier ++ report ∷ []
    → position_of reported auction bidder ≡ report.position
position_of-last reported auction bidder earlier report last =
    ap (last_position (pos 0)) last ∙ last_position-push (pos 0) earlier report
