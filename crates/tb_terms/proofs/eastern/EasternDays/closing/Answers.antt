use Rattle.std.proofs.Common.{◌+◌, arith}
use Rattle.tb_terms.proofs.EasternFacts.{start_of-bounds, closing_of-next}
use Rattle.tb_terms.proofs.eastern.EasternDays.closing.Goals as goal

pub overflow_sub-result-2 : goal.overflow_sub-result-2
overflow_sub-result-2 c =
    let bounds = start_of-bounds (c.args.day.number + 1) in
    let is = c.first_second.ensures in
    omega (arith, bounds.from)

pub invariant_of-result : goal.invariant_of-result
invariant_of-result c =
    let bounds = start_of-bounds (c.args.day.number + 1) in
    let is = c.first_second.ensures in
    record { not_before = omega (arith, bounds.from); not_after = omega (arith, bounds.to) }

pub returns : goal.returns
returns c =
    let next = closing_of-next c.args.day.number c.args.minute c.args.day.not_before (omega arith) (omega arith) in
    let is = c.first_second.ensures in
    omega arith
