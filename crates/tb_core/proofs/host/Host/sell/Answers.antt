-- What the tables and the funds give is what the history says.
use Rattle.std.proofs.Common.{◌≡◌, ◌∙◌, ap, subst}
use Rattle.tb_message.specs.declared.message.Message.TheVariants as message
use Rattle.tb_terms.specs.Rows.{refusal_in}
use Rattle.tb_funds.specs.Funds.{open_of}
use Rattle.tb_history.specs.Tables.{rows_of}
use Rattle.tb_core.specs.House.{House}
use Rattle.tb_core.proofs.ReadyLemmas.{AreFew-tied}
use Rattle.tb_core.proofs.OfferRowLemmas.{open_tied, tied_sell}
use Rattle.tb_core.proofs.host.Host.sell.Goals as goal

pub holder_number-seller-requires : goal.holder_number-seller-requires
holder_number-seller-requires c =
    (AreFew-tied c.self.inside.entries.list c.self.inside.tables c.self.invariant.tied).submitters

pub returns : goal.returns
returns c price =
    subst (λ (h : House). c.sell_refusal.result
    ≡ refusal_in (rows_of h.history c.args.sender.now c.args.moment
    (message.Sell c.args.cusip.now c.args.to.now c.args.amount price)))
    c.self.view_is
    (c.sell_refusal.ensures
    ∙ ap refusal_in (tied_sell c.self.inside.entries.list c.self.inside.tables c.self.invariant.tied c.args.sender.now
    c.args.moment c.args.cusip.now c.args.to.now c.args.amount price c.bill_terms-terms.result
    c.has_submitter-known.result c.is_same-own.result c.has_bill-redeemed.result c.open_offers-open_offers.result
    c.bill_terms-terms.ensures c.has_submitter-known.ensures c.is_same-own.ensures c.has_bill-redeemed.ensures
    (c.open_offers-open_offers.ensures.open_offers
    ∙ (ap (λ seller. open_of seller c.self.inside.tables.funds) c.holder_number-seller.ensures
    ∙ open_tied c.self.inside.entries.list c.self.inside.tables c.self.invariant.tied c.args.sender.now))))
