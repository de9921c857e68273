-- Some row has the key just where there is an end.
use Rattle.std.proofs.Common.{◌≡◌, Bool, ap, ◌∙◌, map, nat_lt}
use Rattle.std.specs.List.{list_any}
use Rattle.tb_index.specs.Indexes.{end_by}
use Rattle.tb_index.proofs.EndLemmas.{any-end, end_of-rows}
use Rattle.tb_index.proofs.latest.Latest.has.Goals as goal

pub returns : goal.returns
returns g c =
    let rows = c.self.inside.rows.items in
    let key_of = g.By.KeyOf.key_of in
    let same = g.By.Key.PartialEq.eq in
    let passes : g.row.T.Denot → Bool = λ row. same (key_of row) c.args.key.now in
    let is : rows ≡ c.args.self.now.list = λ i. (c.self.view_is i).list in
    let end : c.end_in.result ≡ end_by passes rows =
    c.end_in.ensures (map key_of rows) c.self.invariant
    ∙ end_of-rows same key_of c.args.key.now rows in
    ap (nat_lt 0) end ∙ (any-end passes rows ∙ ap (list_any passes) is)
