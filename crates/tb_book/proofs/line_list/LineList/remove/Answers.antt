-- The line is found among those in order, and taken out, or among those that wait, which are put in order before.
use Rattle.std.proofs.Common.{◌∷◌, append-nil, refl, arith}
use Rattle.std.proofs.lemmas.List.Sorted.{IsPermutation-append_left, IsPermutation-sym}
use Rattle.tb_book.proofs.ApartLemmas.{apart-less, apart-permutation}
use Rattle.tb_book.proofs.IndexLemmas.{HasBidAt-line_key, IsOf-key, IsPermutation-removed, line_key-HasBidAt}
use Rattle.tb_book.proofs.KeyLemmas.{earlier-lines}
use Rattle.tb_book.proofs.ListedLemmas.{HasBidAt-back, HasBidAt-front, HasBidAt-moved, HasBidAt-neither, apart-removed, less-removed, own-removed, ranked, same-unchanged, taken-opened, unless-missing}
use Rattle.tb_book.proofs.line_list.LineList.remove.Goals as goal

pub invariant_of-self : goal.invariant_of-self
invariant_of-self c =
    let line = c.in-Some.line in
    let sorted = c.self.inside.sorted.elements in
    let rest = c.remove.new.self.elements in
    record {
      order = earlier-lines rest c.remove.ensures.ordered;
      apart = apart-less line _
          (apart-permutation _ _
          (IsPermutation-append_left c.self.inside.waiting.items sorted (line ∷ rest)
          (IsPermutation-removed line sorted rest c.in-Some.ensures.removed)) c.self.invariant.apart);
      room = omega (arith, c.remove.ensures.spare, c.self.invariant.room);
      none = c.self.invariant.none;
    }

pub returns-in-Some-clause-none : goal.returns-in-Some-clause-none
returns-in-Some-clause-none c = (
  λ wrong. absurd cc,
  λ lacks.
      let sorted = c.self.inside.sorted.elements in
      c.in-Some.ensures.none.1 (λ has.
      (rw (← c.self.view_is) at lacks)
      (HasBidAt-front c.args.rate c.args.bidder c.args.number sorted c.self.inside.waiting.items
      (HasBidAt-line_key c.args.rate c.args.bidder c.args.number sorted
      (has.0, has.1.within, rw c.rank.ensures at has.1.same)))),
)

pub returns-in-Some-clause-own : goal.returns-in-Some-clause-own
returns-in-Some-clause-own c =
    IsOf-key c.args.rate c.args.bidder c.args.number c.in-Some.line (rw c.rank.ensures at c.in-Some.ensures.key)

pub returns-in-Some-clause-elements : goal.returns-in-Some-clause-elements
returns-in-Some-clause-elements c =
    let line = c.in-Some.line in
    let sorted = c.self.inside.sorted.elements in
    let rest = c.remove.new.self.elements in
    rw (← c.self.view_is)
    (IsPermutation-append_left c.self.inside.waiting.items sorted (line ∷ rest)
    (IsPermutation-removed line sorted rest c.in-Some.ensures.removed))

pub returns-in-Some-clause-taken : goal.returns-in-Some-clause-taken
returns-in-Some-clause-taken c opened =
    rw (← c.self.view_is)
    (taken-opened c.in-Some.line c.self.inside.sorted.elements c.self.inside.waiting.items c.remove.new.self.elements
    (c.self.invariant.none (rw (← c.self.view_is) at opened)) c.in-Some.ensures.removed)

pub returns-in-Some-clause-order : goal.returns-in-Some-clause-order
returns-in-Some-clause-order c =
    ranked c.self.inside.opened c.remove.new.self.elements c.self.inside.waiting.items
    (earlier-lines c.remove.new.self.elements c.remove.ensures.ordered) c.self.invariant.none

pub returns-in-Some-clause-apart : goal.returns-in-Some-clause-apart
returns-in-Some-clause-apart c = (invariant_of-self c).apart

pub returns-then-not-has_waiting-clause-none : goal.returns-then-not-has_waiting-clause-none
returns-then-not-has_waiting-clause-none c = (
  λ _.
      rw (← c.self.view_is)
      (HasBidAt-neither c.args.rate c.args.bidder c.args.number c.self.inside.sorted.elements
      c.self.inside.waiting.items
      (λ has.
      let key = line_key-HasBidAt c.args.rate c.args.bidder c.args.number c.self.inside.sorted.elements has in
      c.in_default.ensures.none.0 refl (key.0, record { within = key.1; same = rw c.rank.ensures key.2 }))
      (rw c.deref.ensures.value at (c.has_waiting.ensures.none c.if-not-has_waiting.true))),
  λ _. refl,
)

pub invariant_of-self-2 : goal.invariant_of-self-2
invariant_of-self-2 c =
    let rest = c.remove-2.new.self.elements in
    let moved = rw c.in_default.ensures.unchanged at c.settle.ensures.elements in
    record {
      order = earlier-lines rest c.remove-2.ensures.ordered;
      apart = rw (c.settle.ensures.none, append-nil rest)
          (apart-removed c.remove-2.result c.settle.new.sorted.elements rest
          (apart-permutation _ _ moved c.self.invariant.apart) c.remove-2.ensures.removed
          (same-unchanged c.remove-2.result c.settle.new.sorted c.remove-2.new.self c.remove-2.ensures.unchanged));
      room = rw c.settle.ensures.none (omega arith);
      none = λ _. c.settle.ensures.none;
    }

pub returns-clause-none : goal.returns-clause-none
returns-clause-none c =
    let settled = c.settle.new.sorted.elements in
    let moved = rw c.in_default.ensures.unchanged at c.settle.ensures.elements in (
      λ none.
          rw (← c.self.view_is)
          (HasBidAt-moved c.args.rate c.args.bidder c.args.number settled _ (IsPermutation-sym _ settled moved)
          (λ has.
          let key = line_key-HasBidAt c.args.rate c.args.bidder c.args.number settled has in
          c.remove-2.ensures.none.0 none (key.0, record { within = key.1; same = rw c.rank.ensures key.2 }))),
      λ lacks.
          c.remove-2.ensures.none.1 (λ has.
          HasBidAt-moved c.args.rate c.args.bidder c.args.number _ settled moved (rw (← c.self.view_is) at lacks)
          (HasBidAt-line_key c.args.rate c.args.bidder c.args.number settled
          (has.0, has.1.within, rw c.rank.ensures at has.1.same))),
    )

pub returns-clause-own : goal.returns-clause-own
returns-clause-own c =
    own-removed c.args.rate c.args.bidder c.args.number c.remove-2.result
    (rw c.rank.ensures at c.remove-2.ensures.key)

pub returns-clause-elements : goal.returns-clause-elements
returns-clause-elements c =
    rw (c.settle.ensures.none, append-nil c.remove-2.new.self.elements, ← c.self.view_is)
    (less-removed c.remove-2.result _ c.settle.new.sorted.elements c.remove-2.new.self.elements
    (rw c.in_default.ensures.unchanged at c.settle.ensures.elements) c.remove-2.ensures.removed)

pub returns-clause-unchanged : goal.returns-clause-unchanged
returns-clause-unchanged c =
    unless-missing _ c.remove-2.result
    (λ none. (returns-clause-none c).0 none
    (rw (← c.self.view_is)
    (HasBidAt-back c.args.rate c.args.bidder c.args.number c.self.inside.sorted.elements c.self.inside.waiting.items
    (rw c.deref.ensures.value at (c.has_waiting.ensures.there c.if-not-has_waiting.false)))))

pub returns-clause-apart : goal.returns-clause-apart
returns-clause-apart c = (invariant_of-self-2 c).apart
