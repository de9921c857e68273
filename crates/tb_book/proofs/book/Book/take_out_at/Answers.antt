-- The line is found by its key, and its part of the sums is taken off them.
use Rattle.std.proofs.Common.{◌-◌, is_some, refl, sym, subst, ap, arith}
use Rattle.tb_book.specs.Books.{competitive_of, noncompetitive_of}
use Rattle.tb_book.specs.Indexes.{IsRaised}
use Rattle.tb_book.proofs.IndexLemmas.{competitive-part-le, noncompetitive-part-le, noncompetitive_in-part-le, IsIndexed-gone}
use Rattle.tb_book.proofs.book.Book.take_out_at.Goals as goal

pub returns-in_err-stored-clause-none : goal.returns-in_err-stored-clause-none
returns-in_err-stored-clause-none c = (
  λ _. rw (← c.self.view_is) (c.in_err-stored.ensures.none.0 refl),
  λ _. ap is_some c.from_residual.ensures,
)

pub returns-clause-none : goal.returns-clause-none
returns-clause-none c = (λ wrong. absurd cc, λ lacks. c.in_ok-stored.ensures.none.1 (rw (← c.self.view_is) at lacks))

pub lower-requires-clause-competitive : goal.lower-requires-clause-competitive
lower-requires-clause-competitive c =
    let lines = c.self.inside.lines.lines in
    let rest = c.remove.new.self.lines in
    let line = c.line-line.result in
    let is = rw (← c.line-line.ensures) at c.in_ok-stored.ensures.own in
    let elements = rw (← c.line-line.ensures) at c.in_ok-stored.ensures.elements in
    omega (
      arith,
      c.competitive.ensures,
      competitive-part-le line lines rest elements,
      ap (λ bidder. competitive_of bidder lines) is.1,
      c.self.invariant.0.competitive_are c.args.bidder,
    )

pub lower-requires-clause-noncompetitive : goal.lower-requires-clause-noncompetitive
lower-requires-clause-noncompetitive c =
    let lines = c.self.inside.lines.lines in
    let rest = c.remove.new.self.lines in
    let line = c.line-line.result in
    let is = rw (← c.line-line.ensures) at c.in_ok-stored.ensures.own in
    let elements = rw (← c.line-line.ensures) at c.in_ok-stored.ensures.elements in
    omega (
      arith,
      c.noncompetitive.ensures,
      noncompetitive-part-le line lines rest elements,
      ap (λ bidder. noncompetitive_of bidder lines) is.1,
      c.self.invariant.0.noncompetitive_are c.args.bidder,
    )

pub overflow_sub-self : goal.overflow_sub-self
overflow_sub-self c =
    omega (
      arith,
      c.noncompetitive-2.ensures,
      noncompetitive_in-part-le c.line-line.result c.self.inside.lines.lines c.remove.new.self.lines
          (rw (← c.line-line.ensures) at c.in_ok-stored.ensures.elements),
      c.self.invariant.0.noncompetitive_is,
    )

pub invariant_of-self-2 : goal.invariant_of-self-2
invariant_of-self-2 c =
    let lines = c.self.inside.lines.lines in
    let rest = c.remove.new.self.lines in
    let line = c.line-line.result in
    let is = rw (← c.line-line.ensures) at c.in_ok-stored.ensures.own in
    let elements = rw (← c.line-line.ensures) at c.in_ok-stored.ensures.elements in
    let bidders = c.self.inside.bidders in
    let lowered = c.lower.new.bidders in
    let noncompetitive = c.self.inside.noncompetitive in
    let within = noncompetitive_in-part-le line lines rest elements in (
      IsIndexed-gone c.self.inside.lines.opened c.remove.new.self.opened line lines rest bidders lowered noncompetitive
          (noncompetitive - c.noncompetitive-2.result)
          c.self.invariant.0
          (record {
            elements = elements;
            order = c.remove.ensures.order;
            apart_lines = c.remove.ensures.apart;
            competitive = subst (λ amount. IsRaised (λ sums. sums.competitive) line.bidder amount lowered bidders)
                c.competitive.ensures
                (subst (λ own. IsRaised (λ sums. sums.competitive) own c.competitive.result lowered bidders)
                (sym is.1) c.lower.ensures.competitive);
            noncompetitive = subst
                (λ amount. IsRaised (λ sums. sums.noncompetitive) line.bidder amount lowered bidders)
                c.noncompetitive.ensures
                (subst (λ own. IsRaised (λ sums. sums.noncompetitive) own c.noncompetitive.result lowered bidders)
                (sym is.1) c.lower.ensures.noncompetitive);
          })
          (omega (arith, c.noncompetitive-2.ensures, within, c.self.invariant.0.noncompetitive_is)),
      record {
        of_lines = omega (arith, c.in_ok-stored.ensures.spare, c.self.invariant.1.of_lines);
        of_bidders = omega (arith, c.lower.ensures.room, c.self.invariant.1.of_bidders);
      },
    )

pub returns-clause-taken : goal.returns-clause-taken
returns-clause-taken c = rw (← c.self.view_is, c.line-line.ensures) c.in_ok-stored.ensures.taken

pub returns-clause-elements : goal.returns-clause-elements
returns-clause-elements c = rw (← c.self.view_is, c.line-line.ensures) c.in_ok-stored.ensures.elements

pub returns-clause-kept : goal.returns-clause-kept
returns-clause-kept c = (invariant_of-self-2 c).0.kept
