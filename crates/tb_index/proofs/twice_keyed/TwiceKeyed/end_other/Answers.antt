-- The end that is kept is that of the rows.
use Rattle.std.proofs.Common.{◌≡◌, ◌∙◌, Bool, ap, map}
use Rattle.tb_index.specs.Indexes.{end_by}
use Rattle.tb_index.proofs.EndLemmas.{end_of-rows}
use Rattle.tb_index.proofs.twice_keyed.TwiceKeyed.end_other.Goals as goal

pub returns : goal.returns
returns g c =
    let rows = c.self.inside.named.list in
    let key_of = g.Or.KeyOf.key_of in
    let same = g.Or.Key.PartialEq.eq in
    let passes : g.row.T.Denot → Bool = λ row. same (key_of row) c.args.key.now in
    let is : rows ≡ c.args.self.now.list = λ i. (c.self.view_is i).list in
    c.end_in.ensures (map key_of rows) c.self.invariant.1
    ∙ (end_of-rows same key_of c.args.key.now rows
    ∙ ap (λ list. end_by passes list) is)
