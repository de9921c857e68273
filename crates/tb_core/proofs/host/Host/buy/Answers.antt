-- The offer that the funds have is that of the history, and so is what is looked up of it.
use Rattle.std.proofs.Common.{◌∙◌, ap, subst, sym}
use Rattle.tb_terms.specs.Rows.{refusal_in}
use Rattle.tb_core.specs.House.{AreTied, House}
use Rattle.tb_core.proofs.ReadyLemmas.{AreFew-tied}
use Rattle.tb_core.proofs.OfferRowLemmas.{tied_purchase, unknown_offer}
use Rattle.tb_core.proofs.TiedLemmas.{numbers-tied}
use Rattle.tb_core.proofs.host.Host.buy.Goals as goal

pub holder_number-caller-requires : goal.holder_number-caller-requires
holder_number-caller-requires c =
    (AreFew-tied c.self.inside.entries.list c.self.inside.tables c.self.invariant.tied).submitters

pub returns-in_default : goal.returns-in_default
returns-in_default c =
    ap refusal_in (unknown_offer c.args.self.now.history c.args.sender.now c.args.moment c.args.seller.now c.args.number
    (sym c.offer.ensures ∙ c.in_default.is))

pub returns : goal.returns
returns c =
    let tied : AreTied c.args.self.now.history c.self.inside.tables =
    subst (λ (h : House). AreTied h.history c.self.inside.tables) c.self.view_is c.self.invariant.tied in
    c.buy_refusal.ensures
    ∙ ap refusal_in (tied_purchase c.args.self.now.history c.self.inside.tables tied c.args.sender.now c.args.moment
    c.args.seller.now c.args.number (c.in-Some.offer, c.in-Some.state) c.holder_number-caller.result
    c.is_redeemed-redeemed.result c.terms_at-terms.result c.free-free.result.value c.balance-balance.result.value
    (sym c.offer.ensures ∙ c.in-Some.is)
    (c.holder_number-caller.ensures ∙ ap (λ numbers. numbers.holder c.args.sender.now)
    (numbers-tied c.args.self.now.history c.self.inside.tables tied))
    c.terms_at-terms.ensures c.is_redeemed-redeemed.ensures c.free-free.ensures.free c.balance-balance.ensures)
