use Rattle.std.proofs.Common.{◌+◌, ◌∙◌, ap, subst, sym, ℕ, List, ◌∷◌, []}
use Rattle.std.specs.Prelude.{length}
use Rattle.tb_lines.specs.LineEnds.{FitsLine}
use Rattle.tb_lines.specs.Lines.{unread}
use Rattle.tb_lines.specs.Pieces.{held}
use Rattle.tb_lines.specs.declared.pieces.PieceReader.{PieceReader}
use Rattle.tb_lines.proofs.ReaderLemmas.{GaveLast-line, gave_last-line, gave_last-rest, gave_last-size, rest-is, shown-is}
use Rattle.tb_lines.proofs.input.LineReader.give_last.Goals as goal

pub returns-clause-gave : goal.returns-clause-gave
returns-clause-gave c =
    let size = ap length c.unread-count.ensures in
    let count = length c.unread-count.result.now in
    let bytes = held c.args.self.now.pieces in
    let at = c.args.self.now.pieces.at in
    let now = held c.give.new.self in
    let same = c.give.ensures.held ∙ ap held c.show.ensures.pieces in
    let place = c.give.ensures.at ∙ ap (λ (p : PieceReader). p.at + count) c.show.ensures.pieces in
    let line = shown-is bytes now at count c.show.new.self.from c.show.new.self.to same c.show.ensures.from
    c.show.ensures.to in
    GaveLast-line c.line_or_too_long.result (unread c.args.self.now) _
    (gave_last-line bytes at count size c.requires c.if-count-eq0.false
    ∙ ap (λ (shown : List ℕ). shown ∷ []) (sym line))
    (rest-is bytes now at count c.give.new.self.at same place ∙ gave_last-rest bytes at count size)
    (subst (FitsLine c.line_or_too_long.result) (sym line)
    (c.line_or_too_long.ensures _ (gave_last-size bytes at count size)))
