-- What is free is enough, and few pledges are open.
use Rattle.std.proofs.Common.{◌≤◌, ◌<◌}
use Rattle.tb_holdings.specs.Book.{free_of, open_marks_of, most_open}
use Rattle.tb_movements.specs.Movements.{Pledged}
use Rattle.tb_movements.specs.Told.{TellsMore}
use Rattle.tb_ledger.proofs.AccountLemmas.{may_do}
use Rattle.tb_ledger.proofs.accounts.enter_pledge.Goals as goal

pub returns-clause-told : goal.returns-clause-told
returns-clause-told c =
    may_do c.pledge.result
    ((c.args.par.value ≤ free_of c.args.holder c.args.security c.args.accounts.now)
    × (open_marks_of c.args.holder c.args.accounts.now < most_open))
    (TellsMore (Pledged c.args.holder c.args.number c.args.pledgee c.args.security c.args.par.value) c.args.accounts.now
    c.pledge.new.accounts)
    c.pledge.ensures.pledged (c.requires.ready.2, c.requires.ready.5) c.pledge.ensures.told
