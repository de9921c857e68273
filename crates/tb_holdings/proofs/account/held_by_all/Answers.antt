-- What is held up to the end of a run is part of all that is held.
use Rattle.std.proofs.Common.{arith}
use Rattle.tb_holdings.specs.Holdings.{total_in}
use Rattle.tb_holdings.proofs.HoldingLemmas.{IsSum-total, total_share}
use Rattle.tb_holdings.proofs.WalkLemmas.{IsCounted, IsCounted-run}
use Rattle.tb_holdings.proofs.account.held_by_all.Goals as goal
use Rattle.tb_holdings.proofs.account.held_by_all.Goals.{After-run_from-run}

-- what is held in the run is counted
counted : (c : After-run_from-run)
    → IsCounted (total_in c.args.security) c.loop-place.place c.args.accounts.now.elements c.run_from-run.result.now
counted c =
    IsCounted-run (total_share c.args.security) (total_in c.args.security) c.loop-place.place
    c.args.accounts.now.elements c.run_from-run.result.now (IsSum-total c.args.security) c.run_from-run.ensures

pub total_among-total-requires : goal.total_among-total-requires
total_among-total-requires c = omega (arith, (counted c).more, (counted c).part, c.requires)

pub overflow_add-total : goal.overflow_add-total
overflow_add-total c =
    let sum = counted (goal.at.overflow_add-total c).After-run_from-run in
    omega (arith, c.loop-place.invariant.total, c.total_among-total.ensures, sum.more, sum.part, c.requires)

pub loop-place-preserved : goal.loop-place-preserved
loop-place-preserved c =
    let sum = counted (goal.at.loop-place-preserved c).After-run_from-run in
    record {
      total = omega (arith, c.loop-place.invariant.total, c.total_among-total.ensures, sum.more);
      within = c.run_from-run.ensures.within;
    }
