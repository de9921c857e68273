-- No book that stands ready loses places.
use Rattle.std.proofs.Common.{ℕ, List, subst, sym, ap, ◌∙◌, arith}
use Rattle.std.specs.Prelude.{IfSome}
use Rattle.tb_shelf.specs.Shelves.{IsOwnPlace, names_in}
use Rattle.tb_shelf.proofs.shelf.Shelf.prepare.Goals as goal

pub invariant_of-self-in_err-raise_all : goal.invariant_of-self-in_err-raise_all
invariant_of-self-in_err-raise_all c = (
  c.raise_all.ensures.kept c.self.inside.places c.self.invariant.0,
  omega arith,
  c.reserve-2.ensures.list ∙ (c.self.invariant.2 ∙ ap names_in (sym c.reserve.ensures.items)),
  omega arith,
  subst (λ (names : List (List ℕ)). IfSome c.self.inside.last (IsOwnPlace names)) (sym c.reserve-2.ensures.list)
      c.self.invariant.4,
)
