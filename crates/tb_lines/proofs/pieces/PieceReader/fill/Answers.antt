use Rattle.std.proofs.Common.{◌≡◌, ℕ, List, ◌++◌, ◌∙◌, ap, arith, true, false, take}
use Rattle.std.specs.Prelude.{nat_lt}
use Rattle.std.proofs.lemmas.Bool.{ltb-false, ltb-true}
use Rattle.tb_lines.specs.Pieces.{waiting}
use Rattle.tb_lines.proofs.PieceLemmas.{longer, none-taken}
use Rattle.tb_lines.proofs.pieces.PieceReader.fill.Goals as goal

pub returns-in-Ok-clause-more : goal.returns-in-Ok-clause-more
returns-in-Ok-clause-more g c = λ is.
    let gives = c.in-Ok.ensures.gives in
    let some : nat_lt 0 c.in-Ok.count ≡ true = (cc) in
    longer (waiting c.args.self.now) (waiting c.receive.new.self) gives.0 c.in-Ok.count
    (gives.2 ∙ ap (λ (w : List ℕ). w ++ take c.in-Ok.count gives.0)
    (c.make_space.ensures.waiting ∙ c.settle.ensures.waiting)) gives.1.within (ltb-true _ _ some)

pub returns-in-Ok-clause-left : goal.returns-in-Ok-clause-left
returns-in-Ok-clause-left g c = λ is.
    let gives = c.in-Ok.ensures.gives in
    let none : nat_lt 0 c.in-Ok.count ≡ false = (cc) in
    none-taken (g.I.Source.source c.args.input.now).left (g.I.Source.source c.receive.new.input).left gives.0
    c.in-Ok.count gives.1.next (omega (arith, ltb-false 0 c.in-Ok.count none))
