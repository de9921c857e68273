-- The places, the ends and the links are those of one row fewer.
use Rattle.std.proofs.Common.{◌≡◌, ◌∷◌, ◌++◌, ◌∙◌, [], map, length, sym}
use Rattle.std.proofs.lemmas.List.{length-map, map-append}
use Rattle.tb_index.specs.Indexes.{AreEnds, AreFirsts, AreLinks}
use Rattle.tb_index.proofs.LinkLemmas.{AreLinks-pop}
use Rattle.tb_index.proofs.twice_keyed.TwiceKeyed.pop.Goals as goal

pub invariant_of-self-2 : goal.invariant_of-self-2
invariant_of-self-2 g c =
    let rows = c.pop.new.self.list in
    let key_of = g.Or.KeyOf.key_of in
    let keys = map key_of rows in
    let same = g.Or.Key.PartialEq.eq in
    let firsts : AreFirsts same (keys ++ c.key_of-key.result ∷ []) c.self.inside.firsts =
    rw (c.in_ok-row.ensures.some, map-append key_of rows (c.in_ok-row.row ∷ []), ← c.key_of-key.ensures)
    at c.self.invariant.0 in
    let ends : AreEnds same (keys ++ c.key_of-key.result ∷ []) c.self.inside.ends =
    rw (c.in_ok-row.ensures.some, map-append key_of rows (c.in_ok-row.row ∷ []), ← c.key_of-key.ensures)
    at c.self.invariant.1 in
    let links : AreLinks same (keys ++ c.key_of-key.result ∷ [])
    (c.pop-2.new.self.items ++ c.unwrap-link.result ∷ []) =
    rw (
      c.in_ok-row.ensures.some,
      map-append key_of rows (c.in_ok-row.row ∷ []),
      ← c.key_of-key.ensures,
      c.pop-2.ensures.items,
      c.unwrap-link.ensures,
    )
    at c.self.invariant.2 in
    let fewer = AreLinks-pop same keys c.pop-2.new.self.items c.key_of-key.result c.unwrap-link.result links in
    let place : length keys ≡ c.len.result = length-map rows key_of ∙ sym c.len.ensures in (
      c.take_first.ensures.firsts keys place firsts,
      c.take_end.ensures.ends keys fewer.1 ends,
      fewer.0,
    )
