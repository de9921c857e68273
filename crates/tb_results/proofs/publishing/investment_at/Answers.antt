-- The year has 366 days just where a 29 February lies in it.
use Rattle.tb_results.proofs.FigureLemmas.{investment-is}
use Rattle.tb_results.proofs.publishing.investment_at.Goals as goal

pub returns : goal.returns
returns c =
    investment-is c.args.terms.now.announcement c.year_length.result c.args.terms.now.days.count
    c.args.price.millionths c.investment.result.thousandths c.args.terms.now.days_are c.year_length.ensures
    record { short = c.investment.ensures.short; long = c.investment.ensures.long }
