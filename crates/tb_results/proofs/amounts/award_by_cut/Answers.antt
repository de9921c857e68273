-- A number's amount is its noncompetitive par, raised by its awards.
use Rattle.std.proofs.Common.{ℕ, get_or, subst, arith}
use Rattle.tb_results.specs.Outcomes.{IsRaisedBy}
use Rattle.tb_results.proofs.amounts.award_by_cut.Goals as goal

pub returns-clause-awards : goal.returns-clause-awards
returns-clause-awards c k below =
    let amount = get_or c.add_awards.new.amounts.items k 0 in
    subst (λ (old : ℕ). IsRaisedBy c.args.cut.now c.args.recognised.now.lines k old amount)
    (c.start_with_noncompetitive.ensures.amounts k below)
    (c.add_awards.ensures.awards k (omega (arith, below, c.start_with_noncompetitive.ensures.count)))
