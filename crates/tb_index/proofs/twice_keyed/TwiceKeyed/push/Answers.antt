-- The places, the ends and the links are those of one row more.
use Rattle.std.proofs.Common.{◌≡◌, ◌+◌, ◌∷◌, ◌∙◌, [], map, length, sym, vec_len, arith, rules}
use Rattle.std.proofs.lemmas.List.{length-map, map-append}
use Rattle.tb_index.proofs.LinkLemmas.{AreLinks-push}
use Rattle.tb_index.proofs.twice_keyed.TwiceKeyed.push.Goals as goal

pub invariant_of-self : goal.invariant_of-self
invariant_of-self g c =
    let rows = c.self.inside.named.list in
    let key_of = g.Or.KeyOf.key_of in
    let same : vec_len c.self.inside.links ≡ length c.self.inside.links.items = search rules in
    let long : length (map key_of rows) + 1 ≡ c.len-2.result + 1 =
    omega (arith, c.self.invariant.2.long, c.len-2.ensures, same) in
    let place : length (map key_of rows) ≡ c.len.result = length-map rows key_of ∙ sym c.len.ensures in (
      rw (c.push.ensures.list, map-append key_of rows (c.args.row ∷ []), ← c.key_of-key.ensures)
          (c.add_first.ensures.firsts (map key_of rows) place c.self.invariant.0),
      rw (c.push.ensures.list, map-append key_of rows (c.args.row ∷ []), ← c.key_of-key.ensures)
          (c.add_end-link.ensures.ends (map key_of rows) long c.self.invariant.1),
      rw (
        c.push.ensures.list,
        c.push_reserved.ensures.items,
        map-append key_of rows (c.args.row ∷ []),
        ← c.key_of-key.ensures,
      )
          (AreLinks-push g.Or.Key.PartialEq.eq (map key_of rows) c.self.inside.links.items c.key_of-key.result
          c.add_end-link.result c.self.invariant.2 (c.add_end-link.ensures.before (map key_of rows)
          c.self.invariant.1)),
    )
