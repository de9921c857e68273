-- no line so far is the bidder's of this number
use Rattle.std.proofs.Common.{ℕ, ◌<◌, get_or}
use Rattle.tb_book.specs.declared.book_line.BookLine.{BookLine}
use Rattle.tb_book.proofs.CallerLemmas.{IsOther}
use Rattle.tb_book.proofs.waiting.find_waiting.Given as goal

abbrev pub invariant-loop-line : goal.invariant-loop-line
invariant-loop-line l =
    (k : ℕ) → k < l.line-index → (d : BookLine) → IsOther l.bidder l.number (get_or l.waiting k d)
