-- What is bid noncompetitively is part of all that is bid, and so within the limit.
use Rattle.std.proofs.Common.{arith}
use Rattle.tb_book.proofs.IndexLemmas.{noncompetitive_in-le}
use Rattle.tb_book.proofs.book.Book.noncompetitive.Goals as goal

pub invariant_of-result : goal.invariant_of-result
invariant_of-result c =
    let indexed = c.self.invariant.0 in
    record {
      in_range = omega (
        arith,
        indexed.noncompetitive_is,
        noncompetitive_in-le c.self.inside.lines.lines,
        indexed.kept.limited,
      );
    }

pub returns-clause-limited : goal.returns-clause-limited
returns-clause-limited c =
    let indexed = c.self.invariant.0 in
    omega (arith, indexed.noncompetitive_is, noncompetitive_in-le c.self.inside.lines.lines, indexed.kept.limited)
