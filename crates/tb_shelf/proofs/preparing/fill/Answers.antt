-- One empty book more.
use Rattle.std.proofs.Common.{List, sym, subst, arith}
use Rattle.std.proofs.lemmas.List.Elements.{All-push}
use Rattle.tb_book.specs.Books.{Bids}
use Rattle.tb_shelf.specs.Shelves.{AreReady, IsReady}
use Rattle.tb_shelf.proofs.preparing.fill.Goals as goal

pub loop-preserved : goal.loop-preserved
loop-preserved c = record {
  places = subst (λ (items : List Bids). AreReady c.args.places items) (sym c.in_ok-push.ensures.items)
      (All-push (IsReady c.args.places) c.loop.ready.items c.in_ok-book.book
      c.loop.invariant.places c.in_ok-book.ensures);
  long = omega (arith, c.in_ok-push.ensures.len, c.loop.invariant.long);
}
