-- No seller has more open offers than it may.
use Rattle.tb_funds.proofs.funds.Funds.open_offers.Goals as goal

pub returns-clause-few : goal.returns-clause-few
returns-clause-few c = rw (← c.self.view_is) (c.self.invariant.few c.args.seller)
