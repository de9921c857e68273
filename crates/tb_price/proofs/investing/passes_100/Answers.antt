use Rattle.std.proofs.Common.{arith}
use Rattle.tb_price.proofs.InvestmentLemmas.{grown_bound}
use Rattle.tb_price.proofs.investing.passes_100.Goals as goal

pub overflow_mul-result-2 : goal.overflow_mul-result-2
overflow_mul-result-2 c =
    omega (
      arith,
      grown_bound c.args.price.millionths c.args.days.count c.args.year c.args.halves
          c.args.price.in_range c.args.days.in_range c.requires.most c.requires.small,
    )
