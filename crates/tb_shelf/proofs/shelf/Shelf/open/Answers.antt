-- The book that stood ready last stands behind the others.
use Rattle.std.proofs.Common.{ℕ, List, Some, [], ◌∷◌, ◌++◌, refl, ap, sym, ◌∙◌, arith}
use Rattle.std.proofs.lemmas.List.{map-append}
use Rattle.std.proofs.lemmas.List.Elements.{All-pop}
use Rattle.tb_shelf.specs.declared.named.NamedBook.{NamedBook}
use Rattle.tb_shelf.specs.Shelves.{IsReady, Shelved, names_in}
use Rattle.tb_shelf.proofs.NameLemmas.{last-more}
use Rattle.tb_shelf.proofs.shelf.Shelf.open.Goals as goal

pub invariant_of-self : goal.invariant_of-self
invariant_of-self c =
    let stood = All-pop (IsReady c.self.inside.places) c.self.inside.ready.items c.pop.new.self.items
    (Some c.in-Some.book) c.in-Some.ensures.items c.self.invariant.0 in
    let named : NamedBook = record { auction = c.args.auction; book = c.in-Some.book } in (
      stood.0,
      omega (
        arith,
        c.self.invariant.1,
        c.in-Some.ensures.len,
        c.push_reserved.ensures.len,
        c.push_reserved.ensures.capacity,
      ),
      c.push.ensures.list
          ∙ (ap (λ (names : List (List ℕ)). names ++ c.args.auction ∷ []) c.self.invariant.2
          ∙ (sym (map-append (λ (n : NamedBook). n.auction) c.self.inside.books.items (named ∷ []))
          ∙ ap names_in (sym c.push_reserved.ensures.items))),
      omega (arith, c.self.invariant.3, c.in-Some.ensures.len, c.push.ensures.spare),
      last-more c.self.inside.names.list c.push.new.self.list c.args.auction c.self.inside.last c.push.ensures.list
          c.self.invariant.4,
    )

pub returns-in-Some : goal.returns-in-Some
returns-in-Some c =
    let named : NamedBook = record { auction = c.args.auction; book = c.in-Some.book } in
    let stood = All-pop (IsReady c.self.inside.places) c.self.inside.ready.items c.pop.new.self.items
    (Some c.in-Some.book) c.in-Some.ensures.items c.self.invariant.0 in
    record {
      named = named;
      books = c.push_reserved.ensures.items ∙ ap (λ (s : Shelved). s.books ++ named ∷ []) c.self.view_is;
      name = refl;
      empty = stood.1.0;
      room = omega (arith, stood.1.1, ap (λ (s : Shelved). s.places) c.self.view_is);
      ready = omega (arith, c.in-Some.ensures.len, ap (λ (s : Shelved). s.ready) c.self.view_is);
      places = ap (λ (s : Shelved). s.places) c.self.view_is;
    }
