-- What the tables and the accounts give is what the history says.
use Rattle.std.proofs.Common.{◌≡◌, ◌∙◌, ap, subst}
use Rattle.tb_terms.specs.Rows.{refusal_in}
use Rattle.tb_history.specs.Holdings.{open_marks}
use Rattle.tb_history.specs.Tables.{par_rows, pledge_rows}
use Rattle.tb_core.specs.House.{House}
use Rattle.tb_core.proofs.ReadyLemmas.{AreFew-tied}
use Rattle.tb_core.proofs.ParRowLemmas.{opens_tied}
use Rattle.tb_core.proofs.host.Host.pledge.Goals as goal

pub open_pledges-open_marks-requires : goal.open_pledges-open_marks-requires
open_pledges-open_marks-requires c =
    (AreFew-tied c.self.inside.entries.list c.self.inside.tables c.self.invariant.tied).submitters

pub returns : goal.returns
returns c =
    let opens : c.open_pledges-open_marks.result ≡ open_marks c.args.self.now.history c.args.sender.now =
    subst (λ (h : House). c.open_pledges-open_marks.result ≡ open_marks h.history c.args.sender.now) c.self.view_is
    (c.open_pledges-open_marks.ensures
    ∙ opens_tied c.self.inside.entries.list c.self.inside.tables c.self.invariant.tied c.args.sender.now) in
    c.pledge_refusal.ensures
    (par_rows c.args.self.now.history c.args.sender.now c.args.moment c.args.cusip.now c.args.to.now
    c.args.amount.value)
    c.transfer-as_transfer.ensures
    ∙ ap (λ n. refusal_in
    (pledge_rows (par_rows c.args.self.now.history c.args.sender.now c.args.moment c.args.cusip.now c.args.to.now
    c.args.amount.value) n)) opens
