use Rattle.std.proofs.Common.{arith}
use Rattle.std.proofs.lemmas.Bool.Decides.{nat_tests}
use Rattle.tb_price.proofs.PriceLemmas.{HasPrice-below, HasPrice-above}
use Rattle.tb_price.proofs.pricing.above_zero.Goals as goal

pub returns-clause-price : goal.returns-clause-price
returns-clause-price c =
    (λ yes. HasPrice-above _ _ (grind (arith, nat_tests)), λ has. grind (arith, nat_tests, HasPrice-below _ _ has))
