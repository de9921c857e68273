-- The clauses of the shelf hold of memory, and the rest is what the shelf is known to be.
use Rattle.std.proofs.Math.Logic.{∥∥₁_elim, ∥∥₁_map}
use Rattle.std.proofs.Props.{props}
use Rattle.tb_register_sql.proofs.MemoryLemmas.{memory_is_sure, shelf_is_table}
use Rattle.tb_register_sql.proofs.memory_shelf.MemoryShelf.put.Goals as goal

pub invariant_of-self : goal.invariant_of-self
invariant_of-self c =
    let told = ∥∥₁_map c.args.self.now.told (λ told. c.put.ensures.shelf memory_is_sure told) in
    record { told = told; in_order = ∥∥₁_elim told (hlevel props) (λ told. shelf_is_table _ _ told) }

pub returns-clause-found : goal.returns-clause-found
returns-clause-found c = ∥∥₁_elim c.args.self.now.told (hlevel props) (λ told. c.put.ensures.found memory_is_sure told)

pub returns-clause-put : goal.returns-clause-put
returns-clause-put c = ∥∥₁_elim c.args.self.now.told (hlevel props) (λ told. c.put.ensures.put memory_is_sure told)

pub returns-clause-refused : goal.returns-clause-refused
returns-clause-refused c =
    ∥∥₁_elim c.args.self.now.told (hlevel props) (λ told. c.put.ensures.refused memory_is_sure told)
