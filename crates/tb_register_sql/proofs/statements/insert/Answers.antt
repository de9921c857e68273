-- The parameters of statement 2 are the row.
use Rattle.std.proofs.Common.{subst, refl}
use Rattle.std.specs.Option.{option_map}
use Rattle.sqlite.specs.Held.{state}
use Rattle.sqlite.specs.Order.{Row}
use Rattle.tb_register_sql.specs.Statements.{Ran}
use Rattle.tb_register.specs.Rows.{kept, kept_figures}
use Rattle.tb_register_sql.specs.Auctions.{insert_text}
use Rattle.tb_register_sql.proofs.AddedLemmas.{row_added, insert_refused, bound_figure}
use Rattle.tb_register_sql.proofs.statements.insert.Goals as goal

pub returns-clause-added : goal.returns-clause-added
returns-clause-added g c clean is_open was free =
    let old = state g.S.Store c.args.conn.now in
    let new = state g.S.Store c.run.new.conn in
    let figures = option_map kept_figures c.args.row.now.figures in
    row_added old new (kept c.args.row.now) c.run.result was free
    (subst (λ (params : Row). Ran insert_text params old new c.run.result)
    (rw (
      c.bytes.ensures.bytes,
      c.day.ensures,
      c.day-2.ensures,
      c.amount.ensures,
      c.amount-2.ensures,
      c.high_of.ensures,
      c.percent_of.ensures,
      c.price_of.ensures,
      bound_figure (λ f. f.high) figures,
      bound_figure (λ f. f.percent) figures,
      bound_figure (λ f. f.price) figures,
    ) refl) (c.run.ensures.ran clean))

pub returns-clause-refused : goal.returns-clause-refused
returns-clause-refused g c clean is_open was =
    let old = state g.S.Store c.args.conn.now in
    let new = state g.S.Store c.run.new.conn in
    insert_refused old new _ c.run.result was is_open (c.run.ensures.ran clean)
