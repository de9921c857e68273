-- The link of the row leads to the end of its key before it.
use Rattle.std.proofs.Common.{◌≡◌, ◌<◌, List, subst, sym, length, take, get_or}
use Rattle.tb_index.specs.Indexes.{end_by}
use Rattle.tb_index.proofs.LinkLemmas.{link-own}
use Rattle.tb_index.proofs.twice_keyed.TwiceKeyed.end_before.Goals as goal

pub returns : goal.returns
returns g c d =
    let same = g.Or.Key.PartialEq.eq in
    let key_of = g.Or.KeyOf.key_of in
    let is : c.self.inside.named.list ≡ c.args.self.now.list = λ i. (c.self.view_is i).list in
    let short : c.args.place < length c.self.inside.named.list =
    subst (λ (rows : List g.row.T.Denot). c.args.place < length rows) (sym is) c.requires in
    subst (λ (rows : List g.row.T.Denot). c.index.result.now
    ≡ end_by (λ other. same (key_of other) (key_of (get_or rows c.args.place d))) (take c.args.place rows)) is
    (link-own same key_of c.self.inside.named.list c.self.inside.links.items c.args.place
    c.index.result.now d g.met.Or.Key.Eq.laws c.self.invariant.2 short c.index.ensures)
