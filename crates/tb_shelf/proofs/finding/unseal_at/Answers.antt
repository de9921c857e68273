-- The book at the place is opened.
use Rattle.std.proofs.Common.{refl, ap, get_or, subst, arith}
use Rattle.std.proofs.lemmas.List.{get_or_default}
use Rattle.tb_shelf.specs.declared.named.NamedBook.{NamedBook}
use Rattle.tb_shelf.specs.Shelves.{IsUnsealed}
use Rattle.tb_shelf.proofs.finding.unseal_at.Goals as goal

pub returns : goal.returns
returns c =
    let old : NamedBook = get_or c.args.books.now c.args.place c.index-books-place.result in
    record {
      named = record { auction = old.auction; book = c.unseal.new.self };
      is = refl;
      name = λ d.
          ap (λ (named : NamedBook). named.auction)
          (get_or_default c.args.books.now c.args.place c.index-books-place.result d c.requires);
      changed = λ d.
          subst (λ (named : NamedBook). IsUnsealed named.book c.unseal.new.self)
          (get_or_default c.args.books.now c.args.place c.index-books-place.result d c.requires)
          (record {
            elements = c.unseal.ensures.elements;
            room = omega (arith, c.unseal.ensures.room);
            opened = c.unseal.ensures.opened;
          });
    }
