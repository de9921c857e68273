-- The counts, the ends and the links are those of one row more.
use Rattle.std.proofs.Common.{◌≡◌, ◌+◌, ◌^◌, ◌<◌, ◌∷◌, [], map, length, vec_len, arith, rules}
use Rattle.std.proofs.lemmas.List.{length-map, map-append}
use Rattle.tb_index.proofs.LinkLemmas.{AreLinks-push}
use Rattle.tb_index.proofs.chained.Chained.push.Goals as goal

pub invariant_of-self : goal.invariant_of-self
invariant_of-self g c =
    let rows = c.self.inside.rows.items in
    let key_of = g.In.KeyOf.key_of in
    let same : vec_len c.self.inside.rows ≡ length rows = search rules in
    let long : length (map key_of rows) + 1 ≡ c.len.result + 1 =
    omega (arith, length-map rows key_of, c.len.ensures, same) in (
      rw (c.push_reserved-2.ensures.items, map-append g.Of.KeyOf.key_of rows (c.args.row ∷ []), ← c.key_of.ensures)
          (c.add_count.ensures.counts (map g.Of.KeyOf.key_of rows) c.self.invariant.0),
      rw (c.push_reserved-2.ensures.items, map-append key_of rows (c.args.row ∷ []), ← c.key_of-key.ensures)
          (c.add_end-link.ensures.ends (map key_of rows) long c.self.invariant.1),
      rw (
        c.push_reserved-2.ensures.items,
        c.push_reserved.ensures.items,
        map-append key_of rows (c.args.row ∷ []),
        ← c.key_of-key.ensures,
      )
          (AreLinks-push g.In.Key.PartialEq.eq (map key_of rows) c.self.inside.links.items c.key_of-key.result
          c.add_end-link.result c.self.invariant.2 (c.add_end-link.ensures.before (map key_of rows)
          c.self.invariant.1)),
    )

pub add_count-requires-clause-few : goal.add_count-requires-clause-few
add_count-requires-clause-few g c =
    let rows = c.self.inside.rows.items in
    let key_of = g.Of.KeyOf.key_of in
    let same : vec_len c.self.inside.rows ≡ length rows = search rules in
    let few : length (map key_of rows) + 1 < 2 ^ 64 = omega (arith, length-map rows key_of, same, c.self.ranges) in
    (map key_of rows, c.self.invariant.0, omega (arith, few))
