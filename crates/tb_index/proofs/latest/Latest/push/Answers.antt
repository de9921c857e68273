-- The ends are those of one row more.
use Rattle.std.proofs.Common.{◌≡◌, ◌+◌, ◌∷◌, [], map, length, vec_len, arith, rules}
use Rattle.std.proofs.lemmas.List.{length-map, map-append}
use Rattle.tb_index.proofs.latest.Latest.push.Goals as goal

pub invariant_of-self : goal.invariant_of-self
invariant_of-self g c =
    let rows = c.self.inside.rows.items in
    let key_of = g.By.KeyOf.key_of in
    let same : vec_len c.self.inside.rows ≡ length rows = search rules in
    let long : length (map key_of rows) + 1 ≡ c.len-end.result + 1 =
    omega (arith, length-map rows key_of, c.len-end.ensures, same) in
    rw (c.push_reserved.ensures.items, map-append key_of rows (c.args.row ∷ []), ← c.key_of.ensures)
    (c.add_end.ensures.ends (map key_of rows) long c.self.invariant)
