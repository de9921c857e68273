-- The positions that were filled in are those by the reports.
use Rattle.std.proofs.Common.{List, ◌∙◌, sym, subst, arith}
use Rattle.std.specs.Prelude.{ℤ}
use Rattle.tb_book.proofs.RateLineLemmas.{length-rate_lines-le}
use Rattle.tb_results.specs.Biddings.{IsBookOf}
use Rattle.tb_ledger.proofs.settling.cut_auction.Goals as goal

pub cut_book-requires-clause-bidding : goal.cut_book-requires-clause-bidding
cut_book-requires-clause-bidding c = (
  c.requires.bidding.0,
  subst (λ (positions : List ℤ). IsBookOf c.requires.bidding.0 c.args.terms.now c.args.book.now.lines positions)
      (sym (c.deref.ensures.value ∙ c.fill_positions.ensures.positions)) c.requires.bidding.1,
)

pub cut_book-requires-clause-line_room : goal.cut_book-requires-clause-line_room
cut_book-requires-clause-line_room c =
    omega (arith, length-rate_lines-le c.args.book.now.lines, c.requires.lines)
