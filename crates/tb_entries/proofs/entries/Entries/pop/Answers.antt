-- The rows that are left are rows still.
use Rattle.std.proofs.Common.{subst, List, ◌∷◌, []}
use Rattle.std.specs.List.{All}
use Rattle.tb_entries.specs.declared.row.Row.{Row}
use Rattle.tb_entries.specs.Rows.{IsRow}
use Rattle.tb_entries.proofs.RowLemmas.{All-front}
use Rattle.tb_entries.proofs.entries.Entries.pop.Goals as goal

pub invariant_of-self-2 : goal.invariant_of-self-2
invariant_of-self-2 c =
    let are = IsRow c.self.inside.names.list c.self.inside.others.items in (
      All-front are c.pop.new.self.list (c.in_ok-row.row ∷ [])
          (subst (λ (rows : List Row). All are rows) c.in_ok-row.ensures.some c.self.invariant.0),
      c.self.invariant.1,
    )
