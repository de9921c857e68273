use Rattle.std.proofs.Common.{◌+◌, ◌/◌, ◌%◌, [], ◌∷◌, ◌<◌, ◌^◌, arith, rules, length-append, append_assoc}
use Rattle.std.specs.Fmt.{decimal}
use Rattle.std.proofs.lemmas.Fmt.{decimal_digit, decimal_step_wide}
use Rattle.tb_units.proofs.ShortLemmas.{length-decimal_one, length-decimal_step}
use Rattle.tb_units.proofs.short.Short.+push_decimal.Goals as goal

pub push-requires : goal.push-requires
push-requires t c = omega (arith, length-decimal_one c.args.number c.if-number-lt10.true)

pub returns-then-number-lt10 : goal.returns-then-number-lt10
returns-then-number-lt10 t c = rw (decimal_digit c.args.number c.if-number-lt10.true) (search rules)

pub push_decimal-requires : goal.push_decimal-requires
push_decimal-requires t c =
    let longer = length-decimal_step c.args.number c.if-number-lt10.false c.requires.small in
    (search rules, (search rules, omega arith))

pub push-requires-2 : goal.push-requires-2
push-requires-2 t c =
    rw (c.push_decimal.ensures, length-append)
    (omega (arith, length-decimal_step c.args.number c.if-number-lt10.false c.requires.small))

pub returns : goal.returns
returns t c =
    let small : c.args.number < 10 ^ 64 = omega (arith, c.requires.small) in
    rw (c.push-2.ensures, c.push_decimal.ensures, decimal_step_wide c.args.number c.if-number-lt10.false small)
    (append_assoc c.args.self.now (decimal (c.args.number / 10)) ((48 + c.args.number % 10) ∷ []))
