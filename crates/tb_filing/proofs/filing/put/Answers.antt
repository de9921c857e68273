-- The row that is there is this one.
use Rattle.std.proofs.Common.{Option, sym, subst, ◌∙◌}
use Rattle.tb_register.specs.Keepers.{KeeperState, Puts}
use Rattle.tb_register.specs.declared.row.Row.{Row}
use Rattle.tb_filing.proofs.PutLemmas.{put-same}
use Rattle.tb_filing.proofs.SameLemmas.{equal_rows}
use Rattle.tb_filing.proofs.filing.put.Goals as goal

pub returns-in-Some-clause-put : goal.returns-in-Some-clause-put
returns-in-Some-clause-put g c =
    let old : KeeperState = g.K.Keeper.keeper c.args.keeper.now in
    let new : KeeperState = g.K.Keeper.keeper c.put.new.self in
    put-same c.args.row.now old new c.in-Some.found
    (subst (λ (found : Option Row). Puts c.args.row.now old new found) c.in-Some.is c.in_ok-put.ensures.puts)
    (equal_rows c.in-Some.found c.args.row.now (sym c.eq.ensures ∙ c.if-eq.true))
