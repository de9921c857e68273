-- What is free is enough.
use Rattle.tb_holdings.specs.Book.{free_of}
use Rattle.tb_movements.specs.Movements.{Transferred}
use Rattle.tb_movements.specs.Told.{TellsMore}
use Rattle.tb_ledger.proofs.AccountLemmas.{not_refused}
use Rattle.tb_ledger.proofs.accounts.enter_transfer.Goals as goal

pub returns-clause-told : goal.returns-clause-told
returns-clause-told c =
    not_refused c.transfer.result (free_of c.args.from c.args.security c.args.accounts.now) c.args.par.value
    (TellsMore (Transferred c.args.from c.args.to c.args.security c.args.par.value)
    c.args.accounts.now c.transfer.new.accounts)
    c.transfer.ensures.refused c.requires.ready.2 c.transfer.ensures.told
