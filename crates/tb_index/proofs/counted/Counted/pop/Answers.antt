-- The counts are those of one row fewer.
use Rattle.std.proofs.Common.{◌∷◌, [], map}
use Rattle.std.proofs.lemmas.List.{map-append}
use Rattle.tb_index.proofs.counted.Counted.pop.Goals as goal

pub invariant_of-self-2 : goal.invariant_of-self-2
invariant_of-self-2 g c =
    let rows = c.pop.new.self.list in
    let key_of = g.Of.KeyOf.key_of in
    c.take_count.ensures.counts (map key_of rows)
    (rw (c.in_ok-row.ensures.some, map-append key_of rows (c.in_ok-row.row ∷ []), ← c.key_of.ensures)
    at c.self.invariant)
