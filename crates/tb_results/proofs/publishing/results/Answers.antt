-- The results are those of the bidding that the book is of.
use Rattle.std.proofs.Common.{◌∙◌, arith}
use Rattle.tb_results.proofs.BookedLemmas.{noncompetitive-booked}
use Rattle.tb_results.proofs.AwardedLemmas.{recognised-limited}
use Rattle.tb_results.proofs.publishing.results.Goals as goal

pub figures_of-requires : goal.figures_of-requires
figures_of-requires c =
    omega (
      arith,
      recognised-limited c.requires.bidding.0 c.args.book.now.lines c.cut_book-outcome.new.into.lines
          c.cut_book-outcome.result 0 (c.cut_book-outcome.ensures.cut c.requires.bidding.0 c.requires.bidding.1),
    )

pub returns : goal.returns
returns c bidding is = record {
  terms = is.announced;
  noncompetitive = c.noncompetitive.ensures.noncompetitive
      ∙ noncompetitive-booked bidding c.args.book.now.lines is.booked;
  addon = c.par_of.ensures;
  figures = c.figures_of.ensures bidding c.args.book.now.lines (c.cut_book-outcome.ensures.cut bidding is) is.announced;
}
