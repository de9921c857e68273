-- The list is written back whole.
use Rattle.std.proofs.Common.{List, sym, subst, arith}
use Rattle.std.specs.Prelude.{OnOk}
use Rattle.tb_book.specs.Books.{Bids}
use Rattle.tb_shelf.specs.Shelves.{AreReady}
use Rattle.tb_shelf.proofs.ChangeLemmas.{written_back}
use Rattle.tb_shelf.proofs.preparing.raise_all.Goals as goal

pub returns-clause-places : goal.returns-clause-places
returns-clause-places c =
    subst (λ (books : List Bids). OnOk c.raise.result (AreReady c.args.places books))
    (sym (written_back c.raise.new.ready c.args.ready.now.items c.args.ready.now.len
    (omega (arith, c.raise.ensures.length))))
    c.raise.ensures.places

pub returns-clause-kept : goal.returns-clause-kept
returns-clause-kept c few all =
    subst (λ (books : List Bids). AreReady few books)
    (sym (written_back c.raise.new.ready c.args.ready.now.items c.args.ready.now.len
    (omega (arith, c.raise.ensures.length))))
    (c.raise.ensures.kept few (subst (λ (books : List Bids). AreReady few books) (sym c.deref_mut.ensures.value) all))
