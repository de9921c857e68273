use Rattle.std.proofs.Common.{◌<◌, ◌^◌, ◌/◌, arith, rules, length-append}
use Rattle.std.proofs.Math.Nat.{one-le-pow}
use Rattle.tb_units.proofs.ShortLemmas.{length-decimal-le_30}
use Rattle.tb_units.proofs.short.Short.with_decimals.Goals as goal

pub nonzero_div-number : goal.nonzero_div-number
nonzero_div-number c = rw c.requires.unit (one-le-pow c.args.places 10 (omega arith))

pub push_decimal-requires-clause-room : goal.push_decimal-requires-clause-room
push_decimal-requires-clause-room c =
    let small : c.args.number / c.args.unit < 10 ^ 30 = search rules in
    rw c.new-text.ensures (omega (arith, length-decimal-le_30 (c.args.number / c.args.unit) small))

pub push-requires : goal.push-requires
push-requires c =
    let small : c.args.number / c.args.unit < 10 ^ 30 = search rules in
    rw (c.push_decimal.ensures, c.new-text.ensures)
    (omega (arith, length-decimal-le_30 (c.args.number / c.args.unit) small))

pub push_last_digits-requires : goal.push_last_digits-requires
push_last_digits-requires c =
    let small : c.args.number / c.args.unit < 10 ^ 30 = search rules in
    rw (c.push.ensures, c.push_decimal.ensures, c.new-text.ensures, length-append)
    (omega (arith, length-decimal-le_30 (c.args.number / c.args.unit) small))
