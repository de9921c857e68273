-- The auction is announced, so that there is a book.
use Rattle.std.proofs.Common.{subst}
use Rattle.tb_core.specs.House.{AreTied, House}
use Rattle.tb_core.proofs.host.Host.book.Goals as goal

pub returns-clause-booked : goal.returns-clause-booked
returns-clause-booked c a announced =
    let tied : AreTied c.args.self.now.history c.self.inside.tables =
    subst (λ (h : House). AreTied h.history c.self.inside.tables) c.self.view_is c.self.invariant.tied in
    (rw c.unwrap.ensures at c.book_of.ensures.booked) c.args.self.now.history a tied announced

pub returns-clause-opened : goal.returns-clause-opened
returns-clause-opened c published =
    let tied : AreTied c.args.self.now.history c.self.inside.tables =
    subst (λ (h : House). AreTied h.history c.self.inside.tables) c.self.view_is c.self.invariant.tied in
    (rw c.unwrap.ensures at c.book_of.ensures.opened) c.args.self.now.history tied published
