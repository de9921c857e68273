-- The line is taken out of the book at the place.
use Rattle.std.proofs.Common.{refl, ap, get_or, subst}
use Rattle.std.proofs.lemmas.List.{get_or_default}
use Rattle.tb_shelf.specs.declared.named.NamedBook.{NamedBook}
use Rattle.tb_shelf.specs.Shelves.{IsLowered}
use Rattle.tb_shelf.proofs.ChangeLemmas.{IsLowered-taken}
use Rattle.tb_shelf.proofs.finding.take_at.Goals as goal

pub returns : goal.returns
returns c =
    let old : NamedBook = get_or c.args.books.now c.args.place c.index-books-place.result in
    record {
      named = record { auction = old.auction; book = c.take_out_at.new.self };
      is = refl;
      name = λ d.
          ap (λ (named : NamedBook). named.auction)
          (get_or_default c.args.books.now c.args.place c.index-books-place.result d c.requires);
      changed = λ d.
          let left = c.take_out_at.new.self in
          let says = c.take_out_at.ensures in
          subst (λ (named : NamedBook). IsLowered c.args.rate c.args.bidder c.args.number named.book left)
          (get_or_default c.args.books.now c.args.place c.index-books-place.result d c.requires)
          (IsLowered-taken c.take_out_at.result c.args.rate c.args.bidder c.args.number old.book left
          says.none says.own says.elements says.unchanged says.room says.opened);
    }
