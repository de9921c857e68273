-- The line is taken out of the book at the place of the name.
use Rattle.std.proofs.Common.{◌++◌, List, length, take, drop, ◌∙◌, sym, ap, subst}
use Rattle.tb_shelf.specs.declared.named.NamedBook.{NamedBook}
use Rattle.tb_shelf.specs.Shelves.{IsChanged, IsLowered, Shelved}
use Rattle.tb_shelf.proofs.ChangeLemmas.{IsChanged-none, changed-back}
use Rattle.tb_shelf.proofs.shelf.Shelf.take_out.Goals as goal

pub invariant_of-self : goal.invariant_of-self
invariant_of-self c =
    let placed = sym (c.place_of.ensures.book c.self.inside.books.items c.self.invariant.2) ∙ c.in-Some.is in
    let changed = changed-back c.args.auction.now c.in-Some.place (IsLowered c.args.rate c.args.bidder c.args.number)
    c.self.inside.books.items c.deref_mut.result.now c.take_at.new.books c.self.inside.books.len
    c.deref_mut.ensures.value c.deref_mut.ensures.len placed c.take_at.ensures in (
      c.self.invariant.0,
      c.self.invariant.1,
      c.self.invariant.2 ∙ sym changed.names,
      c.self.invariant.3,
      c.in-Some.ensures.own,
    )

pub returns-in-Some-clause-books : goal.returns-in-Some-clause-books
returns-in-Some-clause-books c =
    let placed = sym (c.place_of.ensures.book c.self.inside.books.items c.self.invariant.2) ∙ c.in-Some.is in
    let Lowered = IsLowered c.args.rate c.args.bidder c.args.number in
    subst (λ (old : List NamedBook). IsChanged c.args.auction.now Lowered old
    (take c.self.inside.books.len (c.take_at.new.books ++ drop (length c.take_at.new.books) c.self.inside.books.items)))
    (ap (λ (s : Shelved). s.books) c.self.view_is)
    (changed-back c.args.auction.now c.in-Some.place Lowered c.self.inside.books.items
    c.deref_mut.result.now c.take_at.new.books c.self.inside.books.len c.deref_mut.ensures.value c.deref_mut.ensures.len
    placed c.take_at.ensures)

pub returns-in_default-clause-books : goal.returns-in_default-clause-books
returns-in_default-clause-books c =
    let missing = sym (c.place_of.ensures.book c.self.inside.books.items c.self.invariant.2) ∙ c.in_default.is in
    let Lowered = IsLowered c.args.rate c.args.bidder c.args.number in
    subst (λ (books : List NamedBook). IsChanged c.args.auction.now Lowered books books)
    (ap (λ (s : Shelved). s.books) c.self.view_is)
    (IsChanged-none c.args.auction.now Lowered c.self.inside.books.items missing)
