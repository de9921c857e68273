-- The funds tell the history.
use Rattle.std.proofs.Common.{◌≡◌, ◌∙◌, ap, subst}
use Rattle.std.specs.Option.{option_map}
use Rattle.tb_funds.specs.Funds.{offer_of}
use Rattle.tb_core.specs.House.{House}
use Rattle.tb_core.specs.Offered.{found_offer, shown_offer}
use Rattle.tb_core.proofs.ReadyLemmas.{AreFew-tied}
use Rattle.tb_core.proofs.OfferRowLemmas.{offer_tied}
use Rattle.tb_core.proofs.host.Host.offer.Goals as goal

pub holder_number-holder-requires : goal.holder_number-holder-requires
holder_number-holder-requires c =
    (AreFew-tied c.self.inside.entries.list c.self.inside.tables c.self.invariant.tied).submitters

pub returns : goal.returns
returns c =
    subst (λ (h : House). c.find.result ≡ found_offer h.history c.args.seller.now c.args.number) c.self.view_is
    (c.find.ensures.found
    ∙ (ap (λ holder. option_map shown_offer (offer_of holder c.args.number c.self.inside.tables.funds))
    c.holder_number-holder.ensures
    ∙ offer_tied c.self.inside.entries.list c.self.inside.tables c.self.invariant.tied c.args.seller.now c.args.number))
