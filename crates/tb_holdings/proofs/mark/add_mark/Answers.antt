-- A new mark is inserted at its place.
use Rattle.std.proofs.Common.{◌∙◌, subst}
use Rattle.tb_units.proofs.PlaceLemmas.{find_none}
use Rattle.tb_holdings.specs.Marks.{MarksAreInOrder, is_mark}
use Rattle.tb_holdings.proofs.KeyLemmas.{AreKeyed-order, IsPlace-inserted, key-missing}
use Rattle.tb_holdings.proofs.MarkLemmas.{mark_key, with_mark-insert}
use Rattle.tb_holdings.proofs.mark.add_mark.Goals as goal

pub insert-requires-clause-new : goal.insert-requires-clause-new
insert-requires-clause-new c =
    key-missing mark_key (mark_key c.args.mark) c.args.marks.now.elements c.args.mark
    (find_none (is_mark c.args.mark.holder c.args.mark.number) c.args.marks.now.elements c.requires.new)

pub returns-clause-marks : goal.returns-clause-marks
returns-clause-marks c =
    let put = c.insert.ensures.inserted in
    let in_order = AreKeyed-order mark_key c.insert.new.self.elements c.insert.ensures.ordered in
    put.is
    ∙ with_mark-insert c.args.mark c.args.marks.now.elements put.place c.requires.in_order c.requires.new
    (IsPlace-inserted mark_key c.args.mark c.args.marks.now.elements put.place put.within
    (subst MarksAreInOrder put.is in_order))
