-- By what a turn begins with, and what a call leaves.
use Rattle.tb_session.proofs.CrashLemmas.{leaves-seen, crashes-seen, crashes-seen_together}
use Rattle.tb_session.proofs.laws.crashes_keep_what_was_seen.Goals as goal

pub returns-clause-take : goal.returns-clause-take
returns-clause-take g c = λ before after room taken leaves.
    leaves-seen g.D.Disk.disk g.C.Clock.clock before after room taken leaves

pub returns-clause-turn : goal.returns-clause-turn
returns-clause-turn g c = λ before after old new called said taken calls.
    crashes-seen g.D.Disk.disk g.C.Clock.clock before after old taken new called said calls

pub returns-clause-group : goal.returns-clause-group
returns-clause-group g c = λ before after old new key messages moment replied taken together.
    crashes-seen_together g.D.Disk.disk g.C.Clock.clock before after old taken new key messages moment replied together
