use Rattle.std.proofs.Common.{◌≡◌, ◌-◌, ℕ, length}
use Rattle.std.specs.Prelude.{Some, position}
use Rattle.tb_lines.specs.LineEnds.{is_line_feed}
use Rattle.tb_lines.specs.Lines.{StaysAtEnd, ahead, unread}
use Rattle.tb_lines.proofs.ReadsLemmas.{ReadsForLine}
use Rattle.tb_lines.proofs.input.LineReader.next_line.Given as goal

-- nothing was given so far, each read gave some bytes, and there was none where a whole line waited
abbrev pub invariant-loop-end : goal.invariant-loop-end
invariant-loop-end g l =
    let source = g.I.Source.source in
    (ahead l.self (source l.input) ≡ ahead l.fn.self (source l.fn.input))
    × ReadsForLine (source l.fn.input) (source l.input) (unread l.self)
    × StaysAtEnd l.fn.self l.self (source l.fn.input) (source l.input)
    × ((end : ℕ) → position is_line_feed (unread l.fn.self) ≡ Some end
    → (unread l.self ≡ unread l.fn.self) × (l.input ≡ l.fn.input))

-- bytes that a line may still have
abbrev pub decreases-loop-end : goal.decreases-loop-end
decreases-loop-end g l = 8194 - length (unread l.self)
