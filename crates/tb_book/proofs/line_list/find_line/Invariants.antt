-- no line so far is the bidder's of this number
use Rattle.std.proofs.Common.{ℕ, ◌<◌, get_or}
use Rattle.tb_book.specs.declared.book_line.BookLine.{BookLine}
use Rattle.tb_book.proofs.CallerLemmas.{IsOther}
use Rattle.tb_book.proofs.line_list.find_line.Given as goal

abbrev pub invariant-loop-place : goal.invariant-loop-place
invariant-loop-place l =
    (k : ℕ) → k < l.place → (d : BookLine) → IsOther l.bidder l.number (get_or l.lines.elements k d)
