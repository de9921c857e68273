use Rattle.std.proofs.Common.{◌≡◌, ap, ◌∙◌, sym, true, refl, arith}
use Rattle.std.specs.Prelude.{option_map}
use Rattle.matchit.specs.Router.{RouteOf}
use Rattle.tb_wire.specs.declared.paths.Route.{Route}
use Rattle.tb_wire.specs.Rows.{are_clean, host_rows}
use Rattle.tb_wire.proofs.Picks.{exact, bytes_of}
use Rattle.tb_wire.proofs.PathLemmas.{picks-route}
use Rattle.tb_wire.proofs.paths.look_up.Goals as goal

-- no two rows take one path
clean : are_clean host_rows ≡ true
unfolding are_clean
clean = refl

pub returns-in-Ok : goal.returns-in-Ok
returns-in-Ok c =
    let path = c.args.path.now in
    let picks = exact path (bytes_of path (λ i. omega (arith, c.type_inv.path i))) host_rows clean in
    let found = rw c.requires.rows at c.in-Ok.ensures.found in
    ap (option_map (λ (row : RouteOf Route). row.value)) (sym found ∙ picks) ∙ picks-route path

pub returns-in-Err : goal.returns-in-Err
returns-in-Err c =
    let path = c.args.path.now in
    let picks = exact path (bytes_of path (λ i. omega (arith, c.type_inv.path i))) host_rows clean in
    let missing = rw c.requires.rows at c.in-Err.ensures.missing in
    ap (option_map (λ (row : RouteOf Route). row.value)) (sym missing ∙ picks) ∙ picks-route path
