-- The line and its part of the sums go in, for which there is room.
use Rattle.std.proofs.Common.{◌+◌, ap, subst, is_some, is_none, arith}
use Rattle.tb_units.proofs.SumLemmas.{cond-le}
use Rattle.tb_book.specs.Indexes.{IsRaised}
use Rattle.tb_book.proofs.IndexLemmas.{competitive-le, noncompetitive-le, noncompetitive_in-le, IsIndexed-added}
use Rattle.tb_book.proofs.book.Book.add.Goals as goal

pub insert-requires-clause-new : goal.insert-requires-clause-new
insert-requires-clause-new c = rw c.of.ensures (rw (← c.self.view_is) at c.requires.new)

pub raise-requires-clause-competitive : goal.raise-requires-clause-competitive
raise-requires-clause-competitive c =
    let line = c.args.line in
    let fits = rw (← c.self.view_is) at c.requires.fits in
    omega (
      arith,
      c.competitive.ensures,
      cond-le (is_some line.rate) line.amount.value,
      c.self.invariant.0.competitive_are line.bidder,
      competitive-le line.bidder c.self.inside.lines.lines,
      fits,
    )

pub raise-requires-clause-noncompetitive : goal.raise-requires-clause-noncompetitive
raise-requires-clause-noncompetitive c =
    let line = c.args.line in
    let fits = rw (← c.self.view_is) at c.requires.fits in
    omega (
      arith,
      c.noncompetitive.ensures,
      cond-le (is_none line.rate) line.amount.value,
      c.self.invariant.0.noncompetitive_are line.bidder,
      noncompetitive-le line.bidder c.self.inside.lines.lines,
      fits,
    )

pub overflow_add-self : goal.overflow_add-self
overflow_add-self c =
    let line = c.args.line in
    let fits = rw (← c.self.view_is) at c.requires.fits in
    omega (
      arith,
      c.noncompetitive-2.ensures,
      cond-le (is_none line.rate) line.amount.value,
      c.self.invariant.0.noncompetitive_is,
      noncompetitive_in-le c.self.inside.lines.lines,
      fits,
    )

pub invariant_of-self : goal.invariant_of-self
invariant_of-self c =
    let line = c.args.line in
    let bidders = c.self.inside.bidders in
    let raised = c.raise.new.bidders in
    let noncompetitive = c.self.inside.noncompetitive in
    let more = c.insert.new.self.lines in (
      IsIndexed-added c.self.inside.lines.opened c.insert.new.self.opened line c.self.inside.lines.lines more bidders
          raised noncompetitive
          (noncompetitive + c.noncompetitive-2.result) c.self.invariant.0
          (record {
            elements = rw c.of.ensures at c.insert.ensures.elements;
            order = c.insert.ensures.order;
            apart_lines = c.insert.ensures.apart;
            fits = rw (← c.self.view_is) at c.requires.fits;
            competitive = subst (λ amount. IsRaised (λ sums. sums.competitive) line.bidder amount bidders raised)
                c.competitive.ensures c.raise.ensures.competitive;
            noncompetitive = subst
                (λ amount. IsRaised (λ sums. sums.noncompetitive) line.bidder amount bidders raised)
                c.noncompetitive.ensures c.raise.ensures.noncompetitive;
          })
          (ap (λ part. noncompetitive + part) c.noncompetitive-2.ensures),
      record {
        of_lines = omega (arith, c.insert.ensures.spare, c.self.invariant.1.of_lines);
        of_bidders = omega (arith, c.raise.ensures.room, c.self.invariant.1.of_bidders);
      },
    )

pub returns-clause-lines : goal.returns-clause-lines
returns-clause-lines c = rw (← c.self.view_is) (rw c.of.ensures at c.insert.ensures.inserted)

pub returns-clause-elements : goal.returns-clause-elements
returns-clause-elements c = rw (← c.self.view_is) (rw c.of.ensures at c.insert.ensures.elements)

pub returns-clause-kept : goal.returns-clause-kept
returns-clause-kept c = (invariant_of-self c).0.kept
