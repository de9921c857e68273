-- The caller may release so much.
use Rattle.tb_holdings.specs.Book.{mark_of}
use Rattle.tb_holdings.specs.Refusals.{MayRelease}
use Rattle.tb_movements.specs.Movements.{Released}
use Rattle.tb_movements.specs.Told.{TellsMore}
use Rattle.tb_ledger.proofs.AccountLemmas.{may_do}
use Rattle.tb_ledger.proofs.accounts.enter_release.Goals as goal

pub returns-clause-told : goal.returns-clause-told
returns-clause-told c =
    may_do c.release.result
    (MayRelease (mark_of c.args.holder c.args.number c.args.accounts.now) c.args.caller c.args.par.value)
    (TellsMore (Released c.args.holder c.args.number c.args.caller c.args.par.value)
    c.args.accounts.now c.release.new.accounts)
    c.release.ensures.released c.requires.ready c.release.ensures.told
