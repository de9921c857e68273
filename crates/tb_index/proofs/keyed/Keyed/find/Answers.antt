-- The place that is kept is that of the first row.
use Rattle.std.proofs.Common.{◌≡◌, map, ap, ◌∙◌}
use Rattle.std.specs.List.{position}
use Rattle.tb_index.proofs.KeyLemmas.{first_of-rows, first_of-tied}
use Rattle.tb_index.proofs.keyed.Keyed.find.Goals as goal

pub returns : goal.returns
returns g c =
    let rows = c.self.inside.rows.items in
    let key_of = g.By.KeyOf.key_of in
    let same = g.By.Key.PartialEq.eq in
    let is : rows ≡ c.args.self.now.list = λ i. (c.self.view_is i).list in
    c.first_place.ensures (map key_of rows) c.self.invariant
    ∙ (first_of-tied same g.By.Key.Ord.cmp c.args.key.now (map key_of rows) g.met.By.Key.Ord.matches_eq
    ∙ (first_of-rows same key_of c.args.key.now rows
    ∙ ap (λ list. position (λ row. same (key_of row) c.args.key.now) list) is))
