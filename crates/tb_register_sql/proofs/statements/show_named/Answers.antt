-- Statement 3 is a query of the table.
use Rattle.std.proofs.lemmas.Result.{IfOk-weaker}
use Rattle.sqlite.specs.Held.{state}
use Rattle.tb_register_sql.specs.Auctions.{find_text}
use Rattle.tb_register_sql.proofs.EffectLemmas.{finds}
use Rattle.tb_register_sql.proofs.AddedLemmas.{query_stays, find_is_plain}
use Rattle.tb_register_sql.proofs.statements.show_named.Goals as goal

pub returns-clause-rows : goal.returns-clause-rows
returns-clause-rows g c clean was =
    let old = state g.S.Store c.args.conn.now in
    let new = state g.S.Store c.ask.new.conn in
    IfOk-weaker c.ask.result _ _
    (λ rows shown. finds old new c.args.name.now rows.items was.schema (rw c.bytes.ensures.bytes at shown))
    (c.ask.ensures.shown clean)

pub returns-clause-same : goal.returns-clause-same
returns-clause-same g c clean is_open was =
    let old = state g.S.Store c.args.conn.now in
    let new = state g.S.Store c.ask.new.conn in
    query_stays old new find_text _ (λ rows. rows.items) c.ask.result was is_open (find_is_plain old was)
    (c.ask.ensures.shown clean) (c.ask.ensures.refused clean)
