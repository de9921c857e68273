-- What the holders hold sums to what all together hold.
use Rattle.tb_holdings.proofs.HolderLemmas.{total_in-holders}
use Rattle.tb_holdings.proofs.accounts.Accounts.total.Goals as goal

pub returns-clause-holders : goal.returns-clause-holders
returns-clause-holders c =
    rw (← c.self.view_is)
    (λ holders are. total_in-holders holders c.args.security c.self.inside.accounts.elements are)
