use Rattle.std.proofs.Common.{List, take}
use Rattle.tb_units.specs.declared.lines.RateLine.{RateLine}
use Rattle.tb_history.specs.Awarded.{Bidding}
use Rattle.tb_history.specs.Readings.{AreAwardLines}
use Rattle.tb_results.specs.Outcomes.{AreAwardedIn, bidders_among}
use Rattle.tb_results.proofs.awarding.award_lines.Given as goal

-- the lines of the bidders so far
abbrev pub invariant-loop-number : goal.invariant-loop-number
invariant-loop-number l =
    (bidding : Bidding) (recognised : List RateLine)
    → AreAwardedIn bidding l.book.lines recognised l.outcome l.bidders l.amounts
    → AreAwardLines bidding (bidders_among bidding l.caller (take l.number l.bidders)) l.lines
