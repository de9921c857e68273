use Rattle.std.proofs.Common.{◌+◌, ◌∙◌, ap, sym}
use Rattle.tb_lines.specs.Pieces.{held}
use Rattle.tb_lines.specs.declared.pieces.PieceReader.{PieceReader}
use Rattle.tb_lines.proofs.ReaderLemmas.{gave-line, given-same, rest-is, shown-is}
use Rattle.tb_lines.proofs.input.LineReader.give.Goals as goal

pub returns-clause-line : goal.returns-clause-line
returns-clause-line c = λ more.
    let count = c.without_carriage_return-count.result in
    let bytes = held c.args.self.now.pieces in
    let at = c.args.self.now.pieces.at in
    let now = held c.give.new.self in
    let same = c.give.ensures.held ∙ ap held c.show.ensures.pieces in
    let place = c.give.ensures.at ∙ ap (λ (p : PieceReader). p.at + (c.args.end + 1)) c.show.ensures.pieces in
    let line = shown-is bytes now at count c.show.new.self.from c.show.new.self.to same c.show.ensures.from
    c.show.ensures.to in
    let rest = rest-is bytes now at (c.args.end + 1) c.give.new.self.at same place in
    gave-line bytes more at c.args.end count c.requires
    (rw c.unread.ensures at c.without_carriage_return-count.ensures.shorter)
    (rw c.unread.ensures at c.without_carriage_return-count.ensures.line)
    ∙ given-same _ _ _ _ more (sym line) (sym rest)
