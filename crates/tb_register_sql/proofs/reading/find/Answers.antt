-- The row that statement 3 answers, read, is the row of that name.
use Rattle.std.proofs.Common.{ap, map, slice_get, ◌∙◌}
use Rattle.std.proofs.lemmas.Result.{IfOk-weaker}
use Rattle.sqlite.specs.Held.{state}
use Rattle.tb_register_sql.specs.Shelves.{kept_from}
use Rattle.tb_register_sql.proofs.TableLemmas.{found_kept, first_listed}
use Rattle.tb_register_sql.proofs.reading.find.Goals as goal

pub returns-clause-found : goal.returns-clause-found
returns-clause-found g c clean was =
    let rows = (state g.S.Store c.args.conn.now).now.trees 0 in
    let shows = c.in_ok-stored.ensures.rows clean was in
    let all =
    ap (map kept_from) c.deref.ensures.value
    ∙ found_kept c.args.name.now rows c.in_ok-stored.stored.items was.rows shows in
    IfOk-weaker c.first_of.result _ _ (λ found first. first ∙ ap (λ read. slice_get read 0) all ∙ first_listed _)
    c.first_of.ensures.first
