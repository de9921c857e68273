use Rattle.std.proofs.Common.{arith}
use Rattle.tb_terms.proofs.EasternFacts.{start_of-bounds, start_of-most}
use Rattle.tb_terms.proofs.eastern.EasternDays.start_of.Goals as goal

pub invariant_of-result : goal.invariant_of-result
invariant_of-result c =
    let bounds = start_of-bounds c.args.day.number in
    let is = c.first_second.ensures in
    record {
      not_before = rw is (start_of-most c.args.day.number c.args.day.not_before);
      not_after = omega (arith, bounds.to);
    }
