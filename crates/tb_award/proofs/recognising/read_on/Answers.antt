-- The bid goes on, or is settled and the line's own begins.
use Rattle.std.proofs.Common.{refl}
use Rattle.std.proofs.lemmas.Bool.{false≢true}
use Rattle.tb_award.proofs.PassLemmas.{IsReading-more, IsReading-next, earlier-than_next}
use Rattle.tb_award.proofs.recognising.read_on.Goals as goal

pub returns-then-is_same_bid-clause-reading : goal.returns-then-is_same_bid-clause-reading
returns-then-is_same_bid-clause-reading c = λ lines order reading.
    IsReading-more reading c.args.line c.capped.result
    (c.if-is_same_bid.ensures.0 refl) c.capped.ensures.same c.capped.ensures.amount

pub returns-clause-reading : goal.returns-clause-reading
returns-clause-reading c = λ lines order reading.
    IsReading-next (c.settle.ensures.settled lines reading) c.args.line c.capped-2.result
    (earlier-than_next reading c.args.line order (λ same. false≢true (c.if-is_same_bid.ensures.1 same)))
    c.requires.line_known c.capped-2.ensures.same c.capped-2.ensures.amount
