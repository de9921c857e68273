-- The rows that are left are rows still.
use Rattle.std.proofs.Common.{subst, List, ◌∷◌, []}
use Rattle.std.specs.List.{All}
use Rattle.tb_entries.specs.declared.row.BidRow.{BidRow}
use Rattle.tb_entries.specs.Rows.{IsBidRow}
use Rattle.tb_entries.proofs.RowLemmas.{All-front}
use Rattle.tb_entries.proofs.bids.Bids.pop.Goals as goal

pub invariant_of-self-2 : goal.invariant_of-self-2
invariant_of-self-2 c =
    let are = IsBidRow c.self.inside.names.list in (
      All-front are c.pop.new.self.list (c.in_ok-row.row ∷ [])
          (subst (λ (rows : List BidRow). All are rows) c.in_ok-row.ensures.some c.self.invariant.0),
      c.self.invariant.1,
    )
