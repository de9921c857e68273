-- A new key has the end as its place, and one that is kept stays where it stood.
use Rattle.std.proofs.Common.{inl, inr, sym, ◌∙◌}
use Rattle.std.proofs.lemmas.Bool.{true≢false, cases_Bool}
use Rattle.tb_blocks.specs.Orders.{HasKey}
use Rattle.tb_index.proofs.PlaceLemmas.{key_in, ArePlaces-new, ArePlaces-known}
use Rattle.tb_index.proofs.places.add_place.Goals as goal

pub returns-clause-places : goal.returns-clause-places
returns-clause-places g c keys long are =
    let places = c.args.places.now.elements in
    elim (cases_Bool c.add.result) [
      | inl added ↦
          let inserted = c.add.ensures.inserted added in
          let lacks : ¬ (HasKey g.K.Ord.cmp key_in c.args.key places) =
          λ has. true≢false (sym added ∙ c.add.ensures.there.1 has) in
          rw (inserted.is, ← long)
          (ArePlaces-new g.K.Ord.cmp keys places c.args.key inserted.place g.met.K.Ord.total are lacks inserted.within
          (rw (inserted.is, ← long) at c.add.ensures.ordered))
      | inr kept ↦
          rw (c.add.ensures.unchanged kept)
          (ArePlaces-known g.K.Ord.cmp keys places c.args.key g.met.K.Ord.total are (c.add.ensures.there.0 kept))
    ]
