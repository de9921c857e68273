-- An offer that is found open is there.
use Rattle.std.proofs.Common.{sym, ap, ◌∙◌}
use Rattle.tb_funds.specs.Offers.{is_open}
use Rattle.tb_funds.proofs.funds.Funds.find.Goals as goal

pub returns-clause-there : goal.returns-clause-there
returns-clause-there c = λ unclosed.
    rw (← c.self.view_is) (
      c.in_ok-kept.kept,
      record { there = sym c.find_offer.ensures ∙ c.in_ok-kept.was; unclosed = ap is_open unclosed },
    )
