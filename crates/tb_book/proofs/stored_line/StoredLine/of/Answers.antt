-- The rank has the rate of the line.
use Rattle.std.proofs.Common.{ap, ◌∙◌, Option}
use Rattle.tb_units.specs.declared.rate.Rate.{Rate}
use Rattle.tb_book.specs.declared.book_line.BookLine.{BookLine}
use Rattle.tb_book.specs.Stored.{rate_at}
use Rattle.tb_book.proofs.StoredLemmas.{rate_at-rank_of}
use Rattle.tb_book.proofs.stored_line.StoredLine.of.Goals as goal

pub returns : goal.returns
returns c =
    let line = c.args.line in
    let with_rate : Option Rate → BookLine =
    λ rate. record { bidder = line.bidder; number = line.number; rate = rate; amount = line.amount } in
    ap with_rate (ap rate_at c.rank.ensures ∙ rate_at-rank_of line.rate)
