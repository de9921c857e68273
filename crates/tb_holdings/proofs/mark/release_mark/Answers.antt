-- The mark at its place is written over, and nothing where there is none.
use Rattle.std.proofs.Common.{◌∙◌, ◌-◌, List, set, ap}
use Rattle.tb_holdings.specs.declared.mark.KeptMark.{KeptMark}
use Rattle.tb_holdings.proofs.MarkLemmas.{released-missing, released-stands}
use Rattle.tb_holdings.proofs.mark.release_mark.Goals as goal

pub returns-in-Ok-clause-marks : goal.returns-in-Ok-clause-marks
returns-in-Ok-clause-marks c =
    let marks : List KeptMark = c.args.marks.now.elements in
    let mark : KeptMark = c.at-mark.result.now in
    let left = c.saturating_sub-left.result in
    (rw c.at.ensures at c.replace_at.ensures.elements)
    ∙ (ap (λ (own : KeptMark). set marks c.in-Ok.place (record own { left = left })) c.at-mark.ensures
    ∙ released-stands c.args.holder c.args.number c.args.par marks c.in-Ok.place left mark c.requires
    c.in-Ok.ensures.stands
    (c.saturating_sub-left.ensures ∙ ap (λ (own : KeptMark). own.left - c.args.par) c.at-mark.ensures))

pub returns-in_default-clause-marks : goal.returns-in_default-clause-marks
returns-in_default-clause-marks c =
    released-missing c.args.holder c.args.number c.args.par c.args.marks.now.elements c.in_default.field-0 c.requires
    c.in_default.ensures.missing
