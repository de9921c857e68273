-- The submitter's entries are as many as the rows of its number.
use Rattle.std.proofs.Common.{◌==◌, sym, ◌∙◌}
use Rattle.std.proofs.lemmas.List.Sums.{length-filter}
use Rattle.tb_history.specs.Roster.{sent_by}
use Rattle.tb_entries.specs.declared.row.Row.{Row}
use Rattle.tb_entries.proofs.RowLemmas.{counted, counted_none}
use Rattle.tb_entries.proofs.entries.Entries.count.Goals as goal

pub find_near-requires : goal.find_near-requires
find_near-requires c =
    let inside = c.self.inside in
    record {
      near = c.last_submitter-near.ensures inside.names.list inside.others.items
          (rw c.rows.ensures c.self.invariant.0);
    }

pub returns-in-Some : goal.returns-in-Some
unfolding sent_by
returns-in-Some c =
    let inside = c.self.inside in
    let are = counted inside.names.list inside.others.items c.args.submitter.now c.in-Some.place inside.rows.list
    (sym c.find_near.ensures ∙ c.in-Some.is) c.self.invariant.0 in
    rw (← c.self.view_is) (c.count.ensures
    ∙ (sym (length-filter (λ (row : Row). row.submitter == c.in-Some.place) inside.rows.list) ∙ sym are))

pub returns-in-None : goal.returns-in-None
unfolding sent_by
returns-in-None c =
    let inside = c.self.inside in
    rw (← c.self.view_is) (sym (counted_none inside.names.list inside.others.items c.args.submitter.now inside.rows.list
    (sym c.find_near.ensures ∙ c.in-None.is) c.self.invariant.0))
