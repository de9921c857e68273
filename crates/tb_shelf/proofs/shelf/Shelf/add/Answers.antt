-- The line is added to the book at the place of the name.
use Rattle.std.proofs.Common.{◌≡◌, ◌++◌, List, Some, length, take, drop, ◌∙◌, sym, ap, subst}
use Rattle.std.specs.Prelude.{IfSome}
use Rattle.std.specs.List.{position}
use Rattle.tb_shelf.specs.declared.named.NamedBook.{NamedBook}
use Rattle.tb_shelf.specs.Shelves.{IsAdded, IsChanged, Shelved, TakesLine, book_in, is_of}
use Rattle.tb_shelf.proofs.ChangeLemmas.{IsChanged-none, at-place, changed-back}
use Rattle.tb_shelf.proofs.shelf.Shelf.add.Goals as goal

pub add_at-requires-clause-takes : goal.add_at-requires-clause-takes
add_at-requires-clause-takes c d =
    let placed = sym (c.place_of.ensures.book c.self.inside.books.items c.self.invariant.2) ∙ c.in-Some.is in
    at-place (TakesLine c.args.line) c.deref_mut.result.now c.args.auction.now c.in-Some.place d
    (subst (λ (books : List NamedBook). position (is_of c.args.auction.now) books ≡ Some c.in-Some.place)
    (sym c.deref_mut.ensures.value) placed)
    (subst (λ (books : List NamedBook). IfSome (book_in books c.args.auction.now) (TakesLine c.args.line))
    (ap (λ (s : Shelved). s.books) (sym c.self.view_is) ∙ sym c.deref_mut.ensures.value) c.requires)

pub invariant_of-self : goal.invariant_of-self
invariant_of-self c =
    let placed = sym (c.place_of.ensures.book c.self.inside.books.items c.self.invariant.2) ∙ c.in-Some.is in
    let changed = changed-back c.args.auction.now c.in-Some.place (IsAdded c.args.line) c.self.inside.books.items
    c.deref_mut.result.now c.add_at.new.books c.self.inside.books.len c.deref_mut.ensures.value c.deref_mut.ensures.len
    placed c.add_at.ensures in (
      c.self.invariant.0,
      c.self.invariant.1,
      c.self.invariant.2 ∙ sym changed.names,
      c.self.invariant.3,
      c.in-Some.ensures.own,
    )

pub returns-in-Some-clause-books : goal.returns-in-Some-clause-books
returns-in-Some-clause-books c =
    let placed = sym (c.place_of.ensures.book c.self.inside.books.items c.self.invariant.2) ∙ c.in-Some.is in
    subst (λ (old : List NamedBook). IsChanged c.args.auction.now (IsAdded c.args.line) old
    (take c.self.inside.books.len (c.add_at.new.books ++ drop (length c.add_at.new.books) c.self.inside.books.items)))
    (ap (λ (s : Shelved). s.books) c.self.view_is)
    (changed-back c.args.auction.now c.in-Some.place (IsAdded c.args.line) c.self.inside.books.items
    c.deref_mut.result.now c.add_at.new.books c.self.inside.books.len c.deref_mut.ensures.value c.deref_mut.ensures.len
    placed c.add_at.ensures)

pub returns-in_default-clause-books : goal.returns-in_default-clause-books
returns-in_default-clause-books c =
    let missing = sym (c.place_of.ensures.book c.self.inside.books.items c.self.invariant.2) ∙ c.in_default.is in
    subst (λ (books : List NamedBook). IsChanged c.args.auction.now (IsAdded c.args.line) books books)
    (ap (λ (s : Shelved). s.books) c.self.view_is)
    (IsChanged-none c.args.auction.now (IsAdded c.args.line) c.self.inside.books.items missing)
