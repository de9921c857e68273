-- Statement 1 makes the table, or leaves the database empty.
use Rattle.tb_register_sql.proofs.CreatedLemmas.{made, made_empty, unmade}
use Rattle.tb_register_sql.proofs.StandingLemmas.{refused_for, stays_there}
use Rattle.tb_register_sql.proofs.statements.create.Goals as goal

pub returns-clause-made : goal.returns-clause-made
returns-clause-made g c clean is_open was = made _ _ c.run.result was (c.run.ensures.ran clean)

pub returns-clause-empty : goal.returns-clause-empty
returns-clause-empty g c clean is_open was = made_empty _ _ c.run.result was (c.run.ensures.ran clean)

pub returns-clause-refused : goal.returns-clause-refused
returns-clause-refused g c clean is_open was = unmade _ _ c.run.result was is_open (c.run.ensures.ran clean)

pub returns-clause-stays : goal.returns-clause-stays
returns-clause-stays g c clean is_open was =
    stays_there _ _ c.run.result was is_open (c.run.ensures.ran clean)

pub returns-clause-stands : goal.returns-clause-stands
returns-clause-stands g c clean was_open was =
    refused_for _ _ c.run.result was was_open (c.run.ensures.ran clean)
