use Rattle.std.proofs.Common.{◌+◌, arith}
use Rattle.tb_wire.proofs.LengthLemmas.{front_small, number_more}
use Rattle.tb_wire.proofs.bodies.number_of.Goals as goal

pub overflow_mul-number : goal.overflow_mul-number
overflow_mul-number c =
    let small = front_small c.loop-digit.digit-index c.args.digits.now c.requires.digits c.requires.few in
    omega (arith, small, c.loop-digit.invariant)

pub overflow_add-number : goal.overflow_add-number
overflow_add-number c =
    let digits = c.args.digits.now in
    let more = number_more digits c.loop-digit.digit-index c.loop-digit-test.true c.requires.digits in
    let small = front_small (c.loop-digit.digit-index + 1) digits c.requires.digits c.requires.few in
    omega (arith, more, small, c.loop-digit.invariant)

pub loop-digit-preserved : goal.loop-digit-preserved
loop-digit-preserved c =
    let more = number_more c.args.digits.now c.loop-digit.digit-index c.loop-digit-test.true c.requires.digits in
    omega (arith, more, c.loop-digit.invariant)
