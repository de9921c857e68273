use Rattle.std.proofs.Common.{ap, ◌∙◌, codes}
use Rattle.matchit.proofs.OnLiterals.{matchit_on_literals}
use Rattle.matchit.specs.Order.{placed}
use Rattle.tb_wire.specs.declared.paths.Route.TheVariants as route
use Rattle.tb_wire.specs.Rows.{plain, ending}
use Rattle.tb_wire.proofs.paths.router.Goals as goal

pub returns : goal.returns
unfolding matchit_on_literals
returns c =
    c.in_ok-insert-8.ensures.1 ∙ ap (placed (ending (codes "{cusip}") route.Redemption))
    (c.in_ok-insert-7.ensures.1 ∙ ap (placed (ending (codes "{auction}") route.Bids))
    (c.in_ok-insert-6.ensures.1 ∙ ap (placed (ending (codes "{auction}") route.Awards))
    (c.in_ok-insert-5.ensures.1 ∙ ap (placed (ending (codes "{auction}") route.Results))
    (c.in_ok-insert-4.ensures.1 ∙ ap (placed (ending (codes "{auction}") route.Terms))
    (c.in_ok-insert-3.ensures.1 ∙ ap (placed (plain route.Funds))
    (c.in_ok-insert-2.ensures.1 ∙ ap (placed (plain route.Holdings))
    (c.in_ok-insert.ensures.1 ∙ ap (placed (plain route.Messages)) c.new-router.ensures)))))))
