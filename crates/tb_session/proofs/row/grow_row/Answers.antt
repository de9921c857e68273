-- A bid more in the row.
use Rattle.std.proofs.Common.{[], ◌∷◌, ◌++◌, arith, drop, length-drop, sym, subst, ◌∙◌}
use Rattle.tb_session.specs.Rows.{IsBidRequest}
use Rattle.tb_session.proofs.RowLemmas.{row-more, pushed}
use Rattle.tb_session.proofs.row.grow_row.Goals as goal

pub returns-clause-row : goal.returns-clause-row
returns-clause-row c =
    let row = c.args.row.now in
    let waiting = c.args.waiting.now in
    let r = c.in-Some.request in
    let before = c.requires.row in
    let found = subst (λ l. IsBidRequest row.key r l c.in-Some.bid) c.behind.ensures c.in-Some.ensures in
    record {
      requests = before.requests ++ r ∷ [];
      are = row-more row.key waiting row.used before.requests r c.in-Some.bid c.push.new.self.items
          row.bids.items before.are
          (pushed c.push.result c.push.new.self.items row.bids.items c.in-Some.bid c.push.ensures.items
          (sym c.is_err.ensures.value ∙ c.if-is_err.false)) found;
      within = (let few = c.uses.ensures.used (drop row.used waiting) r found.front in
          omega (arith, few, length-drop row.used waiting, before.within));
    }

pub overflow_add-row : goal.overflow_add-row
overflow_add-row c =
    let waiting = c.args.waiting.now in
    let used = c.args.row.now.used in
    let found = subst (λ l. IsBidRequest c.args.row.now.key c.in-Some.request l c.in-Some.bid) c.behind.ensures
    c.in-Some.ensures in
    let few = c.uses.ensures.used (drop used waiting) c.in-Some.request found.front in
    omega (arith, few, length-drop used waiting, c.requires.row.within, c.size_of-size.ensures, c.size_of-size.type_inv)
