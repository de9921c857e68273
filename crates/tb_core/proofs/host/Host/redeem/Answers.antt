-- What the tables give is what the history says.
use Rattle.std.proofs.Common.{◌≡◌, ◌∙◌, ap, subst}
use Rattle.tb_message.specs.declared.message.Message.TheVariants as message
use Rattle.tb_terms.specs.Rows.{refusal_in}
use Rattle.tb_history.specs.Roster.{holidays}
use Rattle.tb_history.specs.Tables.{rows_of}
use Rattle.tb_core.specs.House.{House}
use Rattle.tb_core.proofs.ParRowLemmas.{tied_redeem, few_days, early_maturity}
use Rattle.tb_core.proofs.host.Host.redeem.Goals as goal

pub redeem_refusal-requires-clause-few : goal.redeem_refusal-requires-clause-few
redeem_refusal-requires-clause-few c = few_days c.self.inside.entries.list c.self.inside.tables c.self.invariant.tied

pub redeem_refusal-requires-clause-early : goal.redeem_refusal-requires-clause-early
redeem_refusal-requires-clause-early c =
    early_maturity c.self.inside.entries.list c.self.inside.tables c.self.invariant.tied c.args.cusip.now
    c.bill_terms-terms.result c.bill_terms-terms.ensures

pub returns : goal.returns
returns c sender =
    subst (λ (h : House). c.redeem_refusal.result
    ≡ refusal_in (rows_of h.history sender c.args.moment (message.Redeem c.args.cusip.now)))
    c.self.view_is
    (c.redeem_refusal.ensures (holidays c.self.inside.entries.list) c.self.invariant.tied.calendar_is
    ∙ ap refusal_in (tied_redeem c.self.inside.entries.list c.self.inside.tables c.self.invariant.tied sender
    c.args.moment
    c.args.cusip.now c.bill_terms-terms.result c.has_bill-redeemed.result c.unsettled_terms-unsettled.result
    c.bill_terms-terms.ensures c.has_bill-redeemed.ensures c.unsettled_terms-unsettled.ensures))
