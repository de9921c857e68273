use Rattle.std.proofs.Common.{◌-◌, ◌/◌, arith, length-append}
use Rattle.tb_units.proofs.ShortLemmas.{length-last_digits}
use Rattle.tb_units.proofs.short.Short.+push_last_digits.Goals as goal

pub push-requires : goal.push-requires
push-requires t c =
    rw (c.push_last_digits.ensures, length-append, length-last_digits (c.args.places - 1) (c.args.number / 10))
    (omega arith)
