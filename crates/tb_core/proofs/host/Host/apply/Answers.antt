-- The history is legal, so that par and money are conserved in it.
use Rattle.tb_core.proofs.ConservedLemmas.{IsConserved-legal}
use Rattle.tb_core.proofs.FundedLemmas.{IsFunded-legal}
use Rattle.tb_core.proofs.host.Host.apply.Goals as goal

pub returns-clause-conserved : goal.returns-clause-conserved
returns-clause-conserved c = IsConserved-legal c.enter.new.entries.list c.enter.ensures.house.tied.legal

pub returns-clause-funded : goal.returns-clause-funded
returns-clause-funded c = IsFunded-legal c.enter.new.entries.list c.enter.ensures.house.tied.legal
