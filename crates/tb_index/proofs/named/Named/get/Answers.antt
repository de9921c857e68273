-- The row at the place is the first that has the key.
use Rattle.std.proofs.Common.{◌≡◌, ap, get_or, rules, sym, ◌∙◌, None}
use Rattle.std.specs.Option.{option_copied}
use Rattle.tb_index.proofs.PositionLemmas.{find-none, find-placed}
use Rattle.tb_index.proofs.named.Named.get.Goals as goal

pub returns-in_err-place : goal.returns-in_err-place
returns-in_err-place g c =
    let none : option_copied c.from_residual.result ≡ None = search rules in
    rw none
    (sym (find-none (λ row. g.By.Key.PartialEq.eq (g.By.KeyOf.key_of row) c.args.key.now) c.args.self.now.list
    (sym c.find.ensures ∙ c.in_err-place.was)))

pub returns : goal.returns
returns g c =
    let place = c.in_ok-place.place in
    let row = c.index.result.now in
    let is : c.self.inside.rows.items ≡ c.args.self.now.list = λ i. (c.self.view_is i).list in
    sym (find-placed (λ row. g.By.Key.PartialEq.eq (g.By.KeyOf.key_of row) c.args.key.now) c.args.self.now.list place
    row (sym c.in_ok-place.ensures) (c.index.ensures ∙ ap (λ list. get_or list place row) is))
