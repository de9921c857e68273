-- The offer that the funds have is that of the history.
use Rattle.std.proofs.Common.{◌∙◌, ap, refl}
use Rattle.tb_terms.specs.Rows.{refusal_in}
use Rattle.tb_history.specs.Offers.{offers, offer_of}
use Rattle.tb_refusals.specs.OfferRows.{kept_retract_rows}
use Rattle.tb_core.proofs.OfferRowLemmas.{tied_retract}
use Rattle.tb_core.proofs.host.Host.retract.Goals as goal

pub returns : goal.returns
returns c moment =
    c.retract_refusal.ensures
    ∙ (ap (λ found. refusal_in (kept_retract_rows found)) c.offer.ensures
    ∙ ap refusal_in (tied_retract c.args.self.now.history c.args.sender.now c.args.number
    (offer_of (offers c.args.self.now.history) c.args.sender.now c.args.number) refl))
