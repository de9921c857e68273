-- A key that stood nowhere else goes with its place, and another keeps it.
use Rattle.std.proofs.Common.{◌≡◌, ◌∷◌, ◌++◌, [], length, ap, ◌∙◌, sym, Some, refl}
use Rattle.std.specs.declared.cmp.Ordering.TheVariants.{Equal}
use Rattle.tb_blocks.specs.Orders.{IsRemoved}
use Rattle.tb_index.specs.declared.places.Place.{Place}
use Rattle.tb_index.specs.Indexes.{first_of, tied}
use Rattle.tb_index.proofs.KeyLemmas.{is-there, some-both}
use Rattle.tb_index.proofs.PlaceLemmas.{key_in, first_of-kept, ArePlaces-has, ArePlaces-kept, ArePlaces-removed}
use Rattle.tb_index.proofs.places.take_place.Goals as goal

pub returns-then-at_spot-place-clause-places : goal.returns-then-at_spot-place-clause-places
returns-then-at_spot-place-clause-places g c keys long are =
    let places = c.args.places.now.elements in
    let compare = g.K.Ord.cmp in
    let key = c.args.key.now in
    let there = is-there c.remove.result c.remove.ensures.none.0 (c.in-Some.spot.place, c.in-Some.ensures.found) in
    let out = some-both (λ (e : Place _). IsRemoved e places c.remove.new.self.elements)
    (λ (e : Place _). compare e.key key ≡ Equal) c.remove.result there c.remove.ensures.removed c.remove.ensures.key in
    let first = first_of-kept compare (keys ++ key ∷ []) places key c.in-Some.spot.place c.at_spot.result.now
    g.met.K.Ord.total are c.in-Some.ensures.found c.at_spot.ensures in
    let last : first_of (tied compare) key (keys ++ key ∷ []) ≡ Some (length keys) =
    first ∙ ap (λ n. Some n) (c.if-at_spot-place.true ∙ sym long) in
    rw out.1.is
    (ArePlaces-removed compare keys places key out.1.place g.met.K.Ord.total are last
    (record {
      within = out.1.within;
      same = λ d. ap (λ p. compare (key_in p) key) (out.1.there d) ∙ out.2;
    })
    (rw out.1.is at c.remove.ensures.ordered))

pub returns-else-at_spot-place-clause-places : goal.returns-else-at_spot-place-clause-places
returns-else-at_spot-place-clause-places g c keys long are =
    let key = c.args.key.now in
    let first = first_of-kept g.K.Ord.cmp (keys ++ key ∷ []) c.args.places.now.elements key c.in-Some.spot.place
    c.at_spot.result.now g.met.K.Ord.total are c.in-Some.ensures.found c.at_spot.ensures in
    ArePlaces-kept g.K.Ord.cmp keys c.args.places.now.elements key g.met.K.Ord.total are
    (λ last.
    let same : Some c.at_spot.result.now.place ≡ Some (length keys) = sym first ∙ last in
    let place : c.at_spot.result.now.place ≡ length keys = cc in
    c.if-at_spot-place.false (place ∙ long))

pub returns-in_default-clause-places : goal.returns-in_default-clause-places
returns-in_default-clause-places g c keys long are =
    absurd (ArePlaces-has g.K.Ord.cmp keys c.args.places.now.elements c.args.key.now g.met.K.Ord.total are
    (c.in_default.ensures.none.0 refl))
