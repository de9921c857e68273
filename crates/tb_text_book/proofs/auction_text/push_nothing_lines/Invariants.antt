use Rattle.std.proofs.Common.{◌≡◌, ◌++◌, take}
use Rattle.tb_text_book.specs.BookRun.{nothing_lines}
use Rattle.tb_text_book.proofs.auction_text.push_nothing_lines.Given as goal

-- the lines of the bidders so far
abbrev pub invariant-loop-bidder : goal.invariant-loop-bidder
invariant-loop-bidder l = l.text.items ≡ l.fn.text.items ++ nothing_lines (take l.bidder-index l.bidders)
