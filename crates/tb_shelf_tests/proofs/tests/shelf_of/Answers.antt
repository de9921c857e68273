-- The book that was opened can take the line.
use Rattle.std.proofs.Common.{◌∙◌, arith}
use Rattle.tb_shelf.proofs.ChangeLemmas.{takes-first}
use Rattle.tb_shelf_tests.proofs.tests.shelf_of.Goals as goal

pub add-requires : goal.add-requires
add-requires c =
    takes-first c.args.auction c.args.line c.prepare.new.self c.open.new.self
    (c.prepare.ensures.books ∙ c.new-shelf.ensures.books) (omega (arith, c.in_ok-prepare.ensures.places)) c.requires
    c.open.ensures
