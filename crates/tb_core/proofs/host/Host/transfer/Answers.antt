-- What the tables and the accounts give is what the history says.
use Rattle.std.proofs.Common.{◌≡◌, ◌∙◌, ap, subst, sym, true}
use Rattle.tb_terms.specs.Rows.{refusal_in}
use Rattle.tb_history.specs.Roster.{registrations, is_registered}
use Rattle.tb_history.specs.Tables.{par_rows}
use Rattle.tb_core.specs.House.{House}
use Rattle.tb_core.proofs.ReadyLemmas.{AreFew-tied}
use Rattle.tb_core.proofs.ParRowLemmas.{tied_transfer}
use Rattle.tb_core.proofs.host.Host.transfer.Goals as goal

pub free_par-free-requires-clause-submitters : goal.free_par-free-requires-clause-submitters
free_par-free-requires-clause-submitters c =
    (AreFew-tied c.self.inside.entries.list c.self.inside.tables c.self.invariant.tied).submitters

pub free_par-free-requires-clause-auctions : goal.free_par-free-requires-clause-auctions
free_par-free-requires-clause-auctions c =
    (AreFew-tied c.self.inside.entries.list c.self.inside.tables c.self.invariant.tied).auctions

pub returns : goal.returns
returns c =
    subst (λ (h : House). c.transfer_refusal.result
    ≡ refusal_in (par_rows h.history c.args.sender.now c.args.moment c.args.cusip.now c.args.to.now
    c.args.amount.value))
    c.self.view_is
    (c.transfer_refusal.ensures
    ∙ ap refusal_in (tied_transfer c.self.inside.entries.list c.self.inside.tables c.self.invariant.tied
    c.args.sender.now c.args.moment c.args.cusip.now c.args.to.now c.args.amount.value
    (subst (λ (h : House). is_registered (registrations h.history) c.args.sender.now ≡ true)
    (sym c.self.view_is) c.requires)
    c.bill_terms-terms.result c.has_submitter-known.result c.is_same-own.result c.has_bill-redeemed.result
    c.free_par-free.result
    (record {
      terms = c.bill_terms-terms.ensures;
      receiver = c.has_submitter-known.ensures;
      self = c.is_same-own.ensures;
      bill = c.has_bill-redeemed.ensures;
      free_is = c.free_par-free.ensures;
    })))
