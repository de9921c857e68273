-- The counts, the ends and the links are those of one row fewer.
use Rattle.std.proofs.Common.{◌∷◌, ◌++◌, [], map}
use Rattle.std.proofs.lemmas.List.{map-append}
use Rattle.tb_index.specs.Indexes.{AreCounts, AreEnds, AreLinks}
use Rattle.tb_index.proofs.LinkLemmas.{AreLinks-pop}
use Rattle.tb_index.proofs.chained.Chained.pop.Goals as goal

pub invariant_of-self-2 : goal.invariant_of-self-2
invariant_of-self-2 g c =
    let rows = c.pop.new.self.items in
    let of = g.Of.KeyOf.key_of in
    let key_of = g.In.KeyOf.key_of in
    let keys = map key_of rows in
    let same = g.In.Key.PartialEq.eq in
    let counts : AreCounts g.Of.Key.PartialEq.eq (map of rows ++ c.key_of.result ∷ []) c.self.inside.counts =
    rw (c.in_ok-row.ensures.items, map-append of rows (c.in_ok-row.row ∷ []), ← c.key_of.ensures)
    at c.self.invariant.0 in
    let ends : AreEnds same (keys ++ c.key_of-2.result ∷ []) c.self.inside.ends =
    rw (c.in_ok-row.ensures.items, map-append key_of rows (c.in_ok-row.row ∷ []), ← c.key_of-2.ensures)
    at c.self.invariant.1 in
    let links : AreLinks same (keys ++ c.key_of-2.result ∷ []) (c.pop-2.new.self.items ++ c.unwrap-link.result ∷ []) =
    rw (
      c.in_ok-row.ensures.items,
      map-append key_of rows (c.in_ok-row.row ∷ []),
      ← c.key_of-2.ensures,
      c.pop-2.ensures.items,
      c.unwrap-link.ensures,
    )
    at c.self.invariant.2 in
    let fewer = AreLinks-pop same keys c.pop-2.new.self.items c.key_of-2.result c.unwrap-link.result links in (
      c.take_count.ensures.counts (map of rows) counts,
      c.take_end.ensures.ends keys fewer.1 ends,
      fewer.0,
    )
