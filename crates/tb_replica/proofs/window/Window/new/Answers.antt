-- One place more, for which nothing is kept.
use Rattle.std.proofs.Common.{◌+◌, ◌∙◌, ◌∷◌, [], List, length, length-append, arith, ap, get_or}
use Rattle.std.specs.Prelude.{None, Option}
use Rattle.tb_replica.proofs.WindowLemmas.{get_or-push_none}
use Rattle.tb_replica.proofs.window.Window.new.Goals as goal

pub loop-preserved : goal.loop-preserved
loop-preserved g c =
    let pushed = c.push_back_reserved.ensures.items in
    record {
      count = omega arith;
      length_is = ap (λ (places : List (Option g.row.T.Denot)). length places) pushed
          ∙ length-append c.loop.places.items (None ∷ [])
          ∙ ap (λ n. n + 1) c.loop.invariant.length_is;
      room = omega arith;
      nothing = λ index. ap (λ (places : List (Option g.row.T.Denot)). get_or places index None) pushed
          ∙ get_or-push_none c.loop.places.items index
          ∙ c.loop.invariant.nothing index;
    }
