-- The funds tell the history.
use Rattle.std.proofs.Common.{◌≡◌, ◌∙◌, ap, subst}
use Rattle.tb_funds.specs.Funds.{balance_of as balance_in}
use Rattle.tb_history.specs.Funds.{balance_of}
use Rattle.tb_core.specs.House.{House}
use Rattle.tb_core.proofs.ReadyLemmas.{AreFew-tied}
use Rattle.tb_core.proofs.OfferRowLemmas.{balance_tied}
use Rattle.tb_core.proofs.host.Host.balance.Goals as goal

pub holder_number-holder-requires : goal.holder_number-holder-requires
holder_number-holder-requires c =
    (AreFew-tied c.self.inside.entries.list c.self.inside.tables c.self.invariant.tied).submitters

pub returns : goal.returns
returns c =
    subst (λ (h : House). c.balance.result.value ≡ balance_of h.history c.args.participant.now) c.self.view_is
    (c.balance.ensures.balance
    ∙ (ap (λ holder. balance_in holder c.self.inside.tables.funds) c.holder_number-holder.ensures
    ∙ balance_tied c.self.inside.entries.list c.self.inside.tables c.self.invariant.tied c.args.participant.now))
