-- One element more has moved.
use Rattle.std.proofs.Common.{◌≡◌, ◌+◌, ◌-◌, ◌<◌, take, drop, get_or, length, reverse, arith, ap, ◌∙◌, vec_len}
use Rattle.std.specs.Option.{option_to_list}
use Rattle.tb_blocks.proofs.TailLemmas.{tail-kept, tail-moved}
use Rattle.tb_blocks.proofs.block.move_tail.Goals as goal

pub loop-into-preserved : goal.loop-into-preserved
loop-into-preserved g c =
    let i = c.loop-into.invariant in
    let one : length (option_to_list c.pop.result) ≡ 1 = ap (λ o. length (option_to_list o)) c.unwrap.ensures in
    let more : vec_len c.loop-into.from ≡ vec_len c.pop.new.self + 1 = omega (arith, c.pop.ensures.len, one) in
    let less : vec_len c.loop-into.from - 1 ≡ vec_len c.pop.new.self = omega (arith, more) in
    let value = c.pop.ensures.value c.unwrap.result (omega (arith, more)) in
    let last : c.unwrap.result ≡ get_or c.loop-into.from.items (vec_len c.loop-into.from - 1) c.unwrap.result = cc in
    let within : vec_len c.pop.new.self < length c.args.from.now.items = omega (arith, more, i.1) in
    let from_is = i.2 ∙ ap (λ n. take n c.args.from.now.items) more in (
      omega (arith, more, c.loop-into-test.true, c.len.ensures),
      omega (arith, within),
      tail-kept c.args.from.now.items c.loop-into.from.items c.pop.new.self.items (vec_len c.pop.new.self)
          c.unwrap.result within from_is
          (c.pop.ensures.rest ∙ ap (λ n. take n c.loop-into.from.items) less),
      c.push_reserved.ensures.items ∙ tail-moved c.args.from.now.items c.loop-into.from.items c.loop-into.into.items
          (vec_len c.pop.new.self) c.unwrap.result within from_is
          (last ∙ ap (λ n. get_or c.loop-into.from.items n c.unwrap.result) less)
          (i.3 ∙ ap (λ n. reverse (drop n c.args.from.now.items)) more),
      c.pop.ensures.capacity ∙ i.4,
      c.push_reserved.ensures.capacity ∙ i.5,
    )
