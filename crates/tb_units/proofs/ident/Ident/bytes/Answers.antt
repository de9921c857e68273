use Rattle.tb_units.proofs.NameLemmas.{is_name-some}
use Rattle.tb_units.proofs.ident.Ident.bytes.Goals as goal

pub returns-clause-some : goal.returns-clause-some
returns-clause-some c = rw (← c.self.view_is) (is_name-some _ c.self.invariant.1)
