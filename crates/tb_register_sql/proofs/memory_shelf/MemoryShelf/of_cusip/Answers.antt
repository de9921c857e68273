-- The clauses of the shelf hold of memory, and the rest is what the shelf is known to be.
use Rattle.std.proofs.Math.Logic.{∥∥₁_elim, ∥∥₁_map}
use Rattle.std.proofs.Props.{props}
use Rattle.tb_register_sql.proofs.MemoryLemmas.{memory_is_sure, shelf_is_table}
use Rattle.tb_register_sql.proofs.memory_shelf.MemoryShelf.of_cusip.Goals as goal

pub invariant_of-self : goal.invariant_of-self
invariant_of-self c =
    let told = ∥∥₁_map c.args.self.now.told (λ told. c.of_cusip.ensures.shelf memory_is_sure told) in
    record { told = told; in_order = ∥∥₁_elim told (hlevel props) (λ told. shelf_is_table _ _ told) }

pub returns-clause-gives : goal.returns-clause-gives
returns-clause-gives c =
    ∥∥₁_elim c.args.self.now.told (hlevel props) (λ told. c.of_cusip.ensures.gives memory_is_sure told)

pub returns-clause-same : goal.returns-clause-same
returns-clause-same c =
    ∥∥₁_elim c.args.self.now.told (hlevel props) (λ told. c.of_cusip.ensures.same memory_is_sure told)
