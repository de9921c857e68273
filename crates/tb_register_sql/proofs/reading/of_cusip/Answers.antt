-- What statement 4 answers, read and sorted, are the rows of the bill.
use Rattle.std.proofs.Common.{map, filter, sym, subst}
use Rattle.std.specs.List.Sorted.{IsPermutation}
use Rattle.sqlite.specs.Held.{state}
use Rattle.tb_register_sql.specs.Shelves.{is_at, shown}
use Rattle.tb_register_sql.proofs.BillLemmas.{given_if_kept}
use Rattle.tb_register_sql.proofs.reading.of_cusip.Goals as goal

pub returns-clause-gives : goal.returns-clause-gives
returns-clause-gives g c clean was =
    let rows = (state g.S.Store c.args.conn.now).now.trees 0 in
    let shows =
    subst (IsPermutation (map shown (filter (is_at 2 c.args.cusip.now.bytes) rows))) (sym c.deref.ensures.value)
    (c.in_ok-stored.ensures.rows clean was) in
    given_if_kept c.args.cusip.now.bytes rows c.deref.result.now c.in_order.result was.rows shows
    c.in_order.ensures.moved c.in_order.ensures.sorted
