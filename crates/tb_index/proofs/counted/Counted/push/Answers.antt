-- The counts are those of one row more.
use Rattle.std.proofs.Common.{◌^◌, ◌<◌, ◌∷◌, ◌++◌, [], map, length, arith}
use Rattle.std.proofs.lemmas.List.{length-map, length_push, map-append}
use Rattle.tb_index.proofs.counted.Counted.push.Goals as goal

pub invariant_of-self : goal.invariant_of-self
invariant_of-self g c =
    let rows = c.self.inside.keyed.list in
    let key_of = g.Of.KeyOf.key_of in
    rw (c.push.ensures.list, map-append key_of rows (c.args.row ∷ []), ← c.key_of-key.ensures)
    (c.add_count.ensures.counts (map key_of rows) c.self.invariant)

pub add_count-requires-clause-few : goal.add_count-requires-clause-few
add_count-requires-clause-few g c =
    let rows = c.self.inside.keyed.list in
    let key_of = g.Of.KeyOf.key_of in
    let few : length (rows ++ c.args.row ∷ []) < 2 ^ 64 = rw c.push.ensures.list at c.push.ensures.few in
    (map key_of rows, c.self.invariant, omega (arith, length-map rows key_of, length_push rows c.args.row, few))
