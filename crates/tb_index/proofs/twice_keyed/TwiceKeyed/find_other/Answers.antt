-- The place that is kept is that of the first row.
use Rattle.std.proofs.Common.{◌≡◌, map, ap, ◌∙◌}
use Rattle.std.specs.List.{position}
use Rattle.tb_index.proofs.KeyLemmas.{first_of-rows}
use Rattle.tb_index.proofs.twice_keyed.TwiceKeyed.find_other.Goals as goal

pub returns : goal.returns
returns g c =
    let rows = c.self.inside.named.list in
    let key_of = g.Or.KeyOf.key_of in
    let same = g.Or.Key.PartialEq.eq in
    let is : rows ≡ c.args.self.now.list = λ i. (c.self.view_is i).list in
    c.first_in.ensures (map key_of rows) c.self.invariant.0
    ∙ (first_of-rows same key_of c.args.key.now rows
    ∙ ap (λ list. position (λ row. same (key_of row) c.args.key.now) list) is)
