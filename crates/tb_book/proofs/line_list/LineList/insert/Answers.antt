-- The line goes to its place, or waits.
use Rattle.std.proofs.Common.{ap, arith}
use Rattle.std.proofs.lemmas.List.Sorted.{IsPermutation-append_left}
use Rattle.tb_book.specs.Indexes.{rank_of}
use Rattle.tb_book.proofs.ApartLemmas.{apart-more, apart-permutation}
use Rattle.tb_book.proofs.IndexLemmas.{HasBid-line_key, IsPermutation-inserted}
use Rattle.tb_book.proofs.KeyLemmas.{earlier-lines}
use Rattle.tb_book.proofs.ListedLemmas.{HasBid-front, inserted-opened, ranked}
use Rattle.tb_book.proofs.line_list.LineList.insert.Goals as goal

pub insert-requires-clause-new : goal.insert-requires-clause-new
insert-requires-clause-new c =
    let line = c.args.line in
    let sorted = c.self.inside.sorted.elements in
    let new = rw (← c.self.view_is) at c.requires.new in
    λ has.
    new (HasBid-front line.bidder line.number sorted c.self.inside.waiting.items
    (HasBid-line_key (rank_of line.rate) line.bidder line.number sorted (has.0, has.1.within, has.1.same)))

pub invariant_of-self : goal.invariant_of-self
invariant_of-self c =
    let line = c.args.line in
    let sorted = c.self.inside.sorted.elements in
    let waiting = c.self.inside.waiting.items in
    let added = c.insert.new.self.elements in
    record {
      order = earlier-lines added c.insert.ensures.ordered;
      apart = apart-permutation _ _
          (IsPermutation-append_left waiting _ added
          (IsPermutation-inserted line sorted added c.insert.ensures.inserted))
          (apart-more line _ c.self.invariant.apart (rw (← c.self.view_is) at c.requires.new));
      room = rw (c.self.invariant.none c.if-self.true) (omega arith);
      none = c.self.invariant.none;
    }

pub invariant_of-self-else-self : goal.invariant_of-self-else-self
invariant_of-self-else-self c = record {
  order = c.wait.ensures.order;
  apart = apart-permutation _ _ c.wait.ensures.elements
      (apart-more c.args.line _ c.self.invariant.apart (rw (← c.self.view_is) at c.requires.new));
  room = omega (
    arith,
    c.wait.ensures.spare,
    c.self.invariant.room,
    c.requires.room,
    ap (λ list. list.spare) c.self.view_is,
  );
  none = λ opened. absurd cc;
}

pub returns-then-self-clause-elements : goal.returns-then-self-clause-elements
returns-then-self-clause-elements c =
    rw (← c.self.view_is)
    (IsPermutation-append_left c.self.inside.waiting.items _ c.insert.new.self.elements
    (IsPermutation-inserted c.args.line c.self.inside.sorted.elements c.insert.new.self.elements
    c.insert.ensures.inserted))

pub returns-then-self-clause-inserted : goal.returns-then-self-clause-inserted
returns-then-self-clause-inserted c _ =
    rw (← c.self.view_is)
    (inserted-opened c.args.line c.self.inside.sorted.elements c.self.inside.waiting.items c.insert.new.self.elements
    (c.self.invariant.none c.if-self.true) c.insert.ensures.inserted
    (earlier-lines c.insert.new.self.elements c.insert.ensures.ordered))

pub returns-then-self-clause-order : goal.returns-then-self-clause-order
returns-then-self-clause-order c =
    ranked c.self.inside.opened c.insert.new.self.elements c.self.inside.waiting.items
    (earlier-lines c.insert.new.self.elements c.insert.ensures.ordered) c.self.invariant.none

pub returns-then-self-clause-apart : goal.returns-then-self-clause-apart
returns-then-self-clause-apart c = (invariant_of-self c).apart

pub returns-else-self-clause-apart : goal.returns-else-self-clause-apart
returns-else-self-clause-apart c = (invariant_of-self-else-self c).apart
