use Rattle.std.proofs.Common.{◌≡◌, arith, sym, ◌∙◌}
use Rattle.std.proofs.lemmas.Fmt.{decimal_injective}
use Rattle.tb_units.proofs.number.read_within.Goals as goal
use Rattle.tb_units.proofs.number.read_within.Goals.{then-number-least-via-then-number-least, then-number-least-via-else-number-least+then-number-most}

pub returns-then-number-least-clause-none : goal.returns-then-number-least-clause-none
returns-then-number-least-clause-none c = λ n low high is.
    let fits = rw c.in_ok-number.was at c.read_number.type_inv in
    let same : c.in_ok-number.number ≡ n =
    decimal_injective _ _ (omega arith) (omega arith) (sym c.in_ok-number.ensures.read ∙ is) in
    elim c.then-number-least.branch [
      | then-number-least-via-then-number-least w ↦ omega arith
      | then-number-least-via-else-number-least+then-number-most w ↦ omega arith
    ]
