-- The entry of a submitter's number is that of the row with the submitter's number and this one.
use Rattle.std.proofs.Common.{◌≡◌, ◌==◌, ◌&&◌, Some, None, sym, ap, ◌∙◌, rules}
use Rattle.std.specs.List.{find}
use Rattle.std.specs.Option.{option_copied, option_map}
use Rattle.tb_history.specs.Roster.{kept}
use Rattle.tb_entries.specs.declared.row.Row.{Row}
use Rattle.tb_entries.specs.Rows.{entry_of, IsRow}
use Rattle.tb_entries.proofs.RowLemmas.{found_is, found_of, found_none}
use Rattle.tb_entries.proofs.entries.Entries.find.Goals as goal

pub find_near-requires : goal.find_near-requires
find_near-requires c =
    let inside = c.self.inside in
    record {
      near = c.last_submitter-near.ensures inside.names.list inside.others.items
          (rw c.rows.ensures c.self.invariant.0);
    }

pub returns-in_err-place : goal.returns-in_err-place
unfolding kept
returns-in_err-place c =
    let inside = c.self.inside in
    let none : c.from_residual.result ≡ None = search rules in
    rw (none, ← c.self.view_is)
    (sym (found_none inside.names.list inside.others.items c.args.submitter.now c.args.number
    inside.rows.list (sym c.find_near.ensures ∙ c.in_err-place.was) c.self.invariant.0))

pub returns-in_err-row : goal.returns-in_err-row
unfolding kept
returns-in_err-row c =
    let inside = c.self.inside in
    let none : c.from_residual-in_err-row.result ≡ None = search rules in
    let found = found_of inside.names.list inside.others.items c.args.submitter.now c.args.number c.in_ok-place.place
    inside.rows.list (sym c.find_near.ensures ∙ c.in_ok-place.was) c.self.invariant.0 in
    let no_row : find (λ (row : Row). (row.number == c.args.number) && (row.submitter == c.in_ok-place.place))
    inside.rows.list ≡ None =
    rw (← c.keyed.ensures) (sym c.get.ensures ∙ ap option_copied c.in_err-row.was) in
    rw (none, ← c.self.view_is) (sym (found ∙ ap (option_map (entry_of inside.names.list inside.others.items)) no_row))

pub entry_in-requires : goal.entry_in-requires
entry_in-requires c =
    let inside = c.self.inside in
    let row : find (λ (row : Row). (row.number == c.args.number) && (row.submitter == c.in_ok-place.place))
    inside.rows.list ≡ Some c.in_ok-row.row.now =
    rw (← c.keyed.ensures) (sym c.get.ensures ∙ ap option_copied c.in_ok-row.was) in
    rw (c.rows-2.ensures, c.deref.ensures.value)
    (found_is (IsRow inside.names.list inside.others.items) _ inside.rows.list c.in_ok-row.row.now row
    c.self.invariant.0)

pub returns : goal.returns
unfolding kept
returns c =
    let inside = c.self.inside in
    let found = found_of inside.names.list inside.others.items c.args.submitter.now c.args.number c.in_ok-place.place
    inside.rows.list (sym c.find_near.ensures ∙ c.in_ok-place.was) c.self.invariant.0 in
    let row : find (λ (row : Row). (row.number == c.args.number) && (row.submitter == c.in_ok-place.place))
    inside.rows.list ≡ Some c.in_ok-row.row.now =
    rw (← c.keyed.ensures) (sym c.get.ensures ∙ ap option_copied c.in_ok-row.was) in
    rw (c.entry_in.ensures, c.rows-2.ensures, c.deref.ensures.value, ← c.self.view_is)
    (sym (found ∙ ap (option_map (entry_of inside.names.list inside.others.items)) row))
