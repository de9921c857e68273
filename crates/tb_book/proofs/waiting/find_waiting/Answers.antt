-- Where no line up to the last is the bidder's of this number, it has none.
use Rattle.std.proofs.Common.{arith}
use Rattle.tb_book.proofs.CallerLemmas.{HasBid-none}
use Rattle.tb_book.proofs.waiting.find_waiting.Goals as goal

pub returns-clause-none : goal.returns-clause-none
returns-clause-none c =
    HasBid-none c.args.bidder c.args.number c.args.waiting.now
    (λ k d short. c.loop-line.invariant k (omega (arith, short)) d)
