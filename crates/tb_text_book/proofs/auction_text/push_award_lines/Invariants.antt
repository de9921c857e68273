use Rattle.std.proofs.Common.{◌≡◌, ℕ, List, ◌++◌, take, slice_index}
use Rattle.tb_text_book.specs.BookRun.{AreAwardLines}
use Rattle.tb_text_book.proofs.auction_text.push_award_lines.Given as goal

-- the lines of the bidders so far
abbrev pub invariant-loop-number : goal.invariant-loop-number
invariant-loop-number l =
    (lines : List ℕ) × (l.text.items ≡ l.fn.text.items ++ lines)
    × AreAwardLines (slice_index l.amounts) l.price.millionths 0 (take l.number l.bidders) lines
