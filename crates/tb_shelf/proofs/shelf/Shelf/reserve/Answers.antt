-- The book at the place of the name has the places.
use Rattle.std.proofs.Common.{◌≡◌, ◌++◌, List, length, take, drop, ◌∙◌, sym, ap, subst}
use Rattle.std.specs.Prelude.{true}
use Rattle.tb_shelf.specs.declared.named.NamedBook.{NamedBook}
use Rattle.tb_shelf.specs.Shelves.{IsChanged, IsKeptBook, Shelved, has_places}
use Rattle.tb_shelf.proofs.ChangeLemmas.{IsChanged-none, changed-back, has_places-none, places-back}
use Rattle.tb_shelf.proofs.shelf.Shelf.reserve.Goals as goal

pub invariant_of-self : goal.invariant_of-self
invariant_of-self c =
    let placed = sym (c.place_of.ensures.book c.self.inside.books.items c.self.invariant.2) ∙ c.in-Some.is in
    let changed = changed-back c.args.auction.now c.in-Some.place IsKeptBook c.self.inside.books.items
    c.deref_mut.result.now c.reserve_at.new.books c.self.inside.books.len c.deref_mut.ensures.value
    c.deref_mut.ensures.len placed c.reserve_at.ensures.kept in (
      c.self.invariant.0,
      c.self.invariant.1,
      c.self.invariant.2 ∙ sym changed.names,
      c.self.invariant.3,
      c.in-Some.ensures.own,
    )

pub returns-in-Some-clause-places : goal.returns-in-Some-clause-places
returns-in-Some-clause-places c =
    let placed = sym (c.place_of.ensures.book c.self.inside.books.items c.self.invariant.2) ∙ c.in-Some.is in
    places-back c.reserve_at.result c.args.auction.now c.in-Some.place c.args.more IsKeptBook c.self.inside.books.items
    c.deref_mut.result.now c.reserve_at.new.books c.self.inside.books.len c.deref_mut.ensures.value
    c.deref_mut.ensures.len placed c.reserve_at.ensures.kept c.reserve_at.ensures.places

pub returns-in-Some-clause-books : goal.returns-in-Some-clause-books
returns-in-Some-clause-books c =
    let placed = sym (c.place_of.ensures.book c.self.inside.books.items c.self.invariant.2) ∙ c.in-Some.is in
    subst (λ (old : List NamedBook). IsChanged c.args.auction.now IsKeptBook old
    (take c.self.inside.books.len
    (c.reserve_at.new.books ++ drop (length c.reserve_at.new.books) c.self.inside.books.items)))
    (ap (λ (s : Shelved). s.books) c.self.view_is)
    (changed-back c.args.auction.now c.in-Some.place IsKeptBook c.self.inside.books.items
    c.deref_mut.result.now c.reserve_at.new.books c.self.inside.books.len c.deref_mut.ensures.value
    c.deref_mut.ensures.len placed c.reserve_at.ensures.kept)

pub returns-in-None-clause-places : goal.returns-in-None-clause-places
returns-in-None-clause-places c =
    let missing = sym (c.place_of.ensures.book c.self.inside.books.items c.self.invariant.2) ∙ c.in-None.is in
    subst (λ (books : List NamedBook). has_places books c.args.more c.args.auction.now ≡ true)
    (ap (λ (s : Shelved). s.books) c.self.view_is)
    (has_places-none c.self.inside.books.items c.args.auction.now c.args.more missing)

pub returns-in-None-clause-books : goal.returns-in-None-clause-books
returns-in-None-clause-books c =
    let missing = sym (c.place_of.ensures.book c.self.inside.books.items c.self.invariant.2) ∙ c.in-None.is in
    subst (λ (books : List NamedBook). IsChanged c.args.auction.now IsKeptBook books books)
    (ap (λ (s : Shelved). s.books) c.self.view_is)
    (IsChanged-none c.args.auction.now IsKeptBook c.self.inside.books.items missing)
