-- The number that is kept is that of the rows.
use Rattle.std.proofs.Common.{◌≡◌, map, ap, ◌∙◌}
use Rattle.std.specs.List.{count_by}
use Rattle.tb_index.proofs.KeyLemmas.{number_of-rows}
use Rattle.tb_index.proofs.chained.Chained.count.Goals as goal

pub returns : goal.returns
returns g c =
    let rows = c.self.inside.rows.items in
    let key_of = g.Of.KeyOf.key_of in
    let same = g.Of.Key.PartialEq.eq in
    let is : rows ≡ c.args.self.now.list = λ i. (c.self.view_is i).list in
    c.count_of.ensures (map key_of rows) c.self.invariant.0
    ∙ (number_of-rows same key_of c.args.key.now rows
    ∙ ap (λ list. count_by (λ row. same (key_of row) c.args.key.now) list) is)
