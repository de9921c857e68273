use Rattle.std.proofs.Common.{arith}
use Rattle.tb_import.proofs.FieldLemmas.{not_decimal}
use Rattle.tb_import.proofs.field.number_in.Goals as goal

pub returns-in_err-text_of-clause-none : goal.returns-in_err-text_of-clause-none
returns-in_err-text_of-clause-none c =
    rw (c.from_residual.ensures) (λ number low high.
    not_decimal c.args.field.now number (c.in_err-text_of.ensures).none (omega (arith, high, c.ranges.most.fits)))
