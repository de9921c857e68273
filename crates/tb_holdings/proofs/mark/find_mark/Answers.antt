-- The mark at its place is the one that is found.
use Rattle.std.proofs.Common.{Some, ap, sym, ◌∙◌}
use Rattle.tb_holdings.proofs.MarkLemmas.{mark_in-missing, mark_in-stands}
use Rattle.tb_holdings.proofs.mark.find_mark.Goals as goal

pub returns-in-Ok : goal.returns-in-Ok
returns-in-Ok c =
    ap Some c.at.ensures
    ∙ sym (mark_in-stands c.args.holder c.args.number c.args.marks.now.elements c.in-Ok.place c.at.result.now
    c.in-Ok.ensures.stands)

pub returns-in-Err : goal.returns-in-Err
returns-in-Err c =
    sym (mark_in-missing c.args.holder c.args.number c.args.marks.now.elements c.in-Err.field-0 c.requires
    c.in-Err.ensures.missing)
