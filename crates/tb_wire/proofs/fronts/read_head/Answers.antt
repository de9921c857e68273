use Rattle.tb_wire.proofs.FrontLemmas.{may_be}
use Rattle.tb_wire.proofs.fronts.read_head.Goals as goal

pub returns-in-Ok-Partial : goal.returns-in-Ok-Partial
returns-in-Ok-Partial c =
    let is = rw c.in-Ok-Partial.field-0-is at c.in-Ok-Partial.ensures in
    (is.partial, may_be c.args.text.now c.requires.lines is.unfinished)
