-- Where no line up to the last is the bidder's of this number, it has none.
use Rattle.tb_book.proofs.CallerLemmas.{HasBid-none}
use Rattle.std.proofs.Common.{arith}
use Rattle.tb_book.proofs.line_list.find_line.Goals as goal

pub returns-clause-none : goal.returns-clause-none
returns-clause-none c =
    HasBid-none c.args.bidder c.args.number c.args.lines.now.elements
    (λ k d short. c.loop-place.invariant k (omega (arith, short)) d)
