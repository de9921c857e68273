-- What a bidder bids is part of all that is bid, and so within the limit.
use Rattle.std.proofs.Common.{arith}
use Rattle.tb_book.proofs.IndexLemmas.{competitive-le, noncompetitive-le, both_kinds-le}
use Rattle.tb_book.proofs.book.Book.totals.Goals as goal

pub invariant_of-result : goal.invariant_of-result
invariant_of-result c =
    let indexed = c.self.invariant.0 in
    record {
      in_range = omega (
        arith,
        c.totals_of-competitive.ensures.competitive,
        indexed.competitive_are c.args.bidder,
        competitive-le c.args.bidder c.self.inside.lines.lines,
        indexed.kept.limited,
      );
    }

pub invariant_of-result-2 : goal.invariant_of-result-2
invariant_of-result-2 c =
    let indexed = c.self.invariant.0 in
    record {
      in_range = omega (
        arith,
        c.totals_of-competitive.ensures.noncompetitive,
        indexed.noncompetitive_are c.args.bidder,
        noncompetitive-le c.args.bidder c.self.inside.lines.lines,
        indexed.kept.limited,
      );
    }

pub returns-clause-limited : goal.returns-clause-limited
returns-clause-limited c =
    let indexed = c.self.invariant.0 in
    omega (
      arith,
      c.totals_of-competitive.ensures.competitive,
      c.totals_of-competitive.ensures.noncompetitive,
      indexed.competitive_are c.args.bidder,
      indexed.noncompetitive_are c.args.bidder,
      both_kinds-le c.args.bidder c.self.inside.lines.lines,
      indexed.kept.limited,
    )
