-- The element at the key's place has the key, or none has.
use Rattle.std.proofs.Common.{◌≡◌, ◌<◌, length, get_or, arith, ap, ◌∙◌}
use Rattle.std.specs.Ordering.{is_eq}
use Rattle.std.specs.declared.cmp.Ordering.TheVariants.{Equal}
use Rattle.std.proofs.lemmas.Bool.{false≢true}
use Rattle.std.proofs.lemmas.List.{get_or_default}
use Rattle.tb_blocks.proofs.OrderLemmas.{partitioned-order, none-has}
use Rattle.tb_blocks.proofs.ordered.Ordered.seek.Goals as goal
use Rattle.tb_blocks.proofs.ordered.Ordered.seek.Goals.{else-spot-len-via-then-spot-len+else-has_key, else-spot-len-via-else-spot-len}

pub returns-clause-none : goal.returns-clause-none
returns-clause-none g c =
    let elements = c.self.inside.list.elements in
    let compare = g.T.Key.Ord.cmp in
    let key_of = g.T.Keyed.key_of in
    let key = c.args.key.now in
    let place = c.spot_of-spot.result.place in
    let parts = c.spot_of-spot.ensures.place
    (partitioned-order compare key_of key elements g.met.T.Key.Ord.total c.self.invariant) in
    let apart : (d : g.row.T.Denot) → place < length elements → compare (key_of (get_or elements place d)) key ≡ Equal
    → ⊥ =
    elim c.else-spot-len.branch [
      | else-spot-len-via-then-spot-len+else-has_key w ↦ λ d some equal.
          let e : w.at_spot.result.now ≡ get_or elements place d =
          w.at_spot.ensures ∙ get_or_default elements place w.at_spot.result.now d some in
          false≢true (w.if-has_key.ensures ∙ ap (λ x. is_eq (compare (key_of x) key)) e ∙ ap is_eq equal)
      | else-spot-len-via-else-spot-len w ↦
          λ d some equal. absurd (omega (arith, w.if-spot-len.false, c.len.ensures))
    ] in
    let none = none-has compare key_of key elements place g.met.T.Key.Ord.total c.self.invariant parts apart in
    let is : c.self.inside.list.elements ≡ c.args.self.now.elements = λ i. (c.self.view_is i).elements in
    rw (← is) none
