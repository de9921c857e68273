-- The mark at its place is written over, or taken out.
use Rattle.std.proofs.Common.{ℕ, ◌-◌, List, set, ap, ◌∙◌}
use Rattle.tb_holdings.specs.declared.mark.KeptMark.{KeptMark}
use Rattle.tb_holdings.proofs.KeyLemmas.{HasKeyAt-own, removed-at}
use Rattle.tb_holdings.proofs.LeftLemmas.{lowered-goes, lowered-missing, lowered-stays}
use Rattle.tb_holdings.proofs.MarkLemmas.{mark_key}
use Rattle.tb_holdings.proofs.mark.lower_mark.Goals as goal

pub returns-then-left-gt0-clause-marks : goal.returns-then-left-gt0-clause-marks
returns-then-left-gt0-clause-marks c =
    let marks : List KeptMark = c.args.marks.now.elements in
    let mark : KeptMark = c.at-mark.result.now in
    let left = c.saturating_sub-left.result in
    (rw c.at.ensures at c.replace_at.ensures.elements)
    ∙ (ap (λ (own : KeptMark). set marks c.in-Ok.place (record own { left = left })) c.at-mark.ensures
    ∙ lowered-stays c.args.holder c.args.number c.args.par marks c.in-Ok.place left mark c.requires.in_order
    c.requires.left c.in-Ok.ensures.stands
    (c.saturating_sub-left.ensures ∙ ap (λ (own : KeptMark). own.left - c.args.par) c.at-mark.ensures)
    c.if-left-gt0.true)

pub returns-else-left-gt0-clause-marks : goal.returns-else-left-gt0-clause-marks
returns-else-left-gt0-clause-marks c =
    let marks : List KeptMark = c.args.marks.now.elements in
    let place = c.in-Ok.place in
    let stands = c.in-Ok.ensures.stands in
    let key : ℕ × ℕ = (c.args.holder, c.args.number) in
    removed-at mark_key key marks c.remove.new.self.elements place c.remove.result c.requires.in_order
    (HasKeyAt-own mark_key key marks place stands.within stands.same)
    (record { none = c.remove.ensures.none.0; removed = c.remove.ensures.removed; same = c.remove.ensures.key })
    ∙ lowered-goes c.args.holder c.args.number c.args.par marks place c.saturating_sub-left.result c.at-mark.result.now
    c.requires.in_order c.requires.left stands
    (c.saturating_sub-left.ensures ∙ ap (λ (own : KeptMark). own.left - c.args.par) c.at-mark.ensures)
    c.if-left-gt0.false

pub returns-in_default-clause-marks : goal.returns-in_default-clause-marks
returns-in_default-clause-marks c =
    lowered-missing c.args.holder c.args.number c.args.par c.args.marks.now.elements c.in_default.field-0
    c.requires.in_order c.requires.left c.in_default.ensures.missing
