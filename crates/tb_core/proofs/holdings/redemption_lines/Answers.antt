-- The roster is that of the history.
use Rattle.std.proofs.Common.{◌≡◌, ◌∙◌, All, List, nat_lt, true, sym, subst}
use Rattle.std.specs.Prelude.{filter}
use Rattle.tb_history.specs.declared.roster.Registration.{Registration}
use Rattle.tb_history.specs.Roster.{registrations, is_registered}
use Rattle.tb_history.specs.Holdings.{paid_to}
use Rattle.tb_history.specs.Readings.{ArePaidLines}
use Rattle.tb_core.proofs.ShownLemmas.{all_registered, if_ok}
use Rattle.tb_core.proofs.holdings.redemption_lines.Goals as goal

pub returns : goal.returns
returns c =
    if_ok c.paid_lines.result c.paid_lines.ensures
    (λ lines paid history tied bill.
    let same : c.rows.result.now ≡ registrations history = c.rows.ensures ∙ tied.submitters_are in
    subst (λ (holders : List Registration).
    ArePaidLines history c.args.cusip.now
    (filter (λ (r : Registration). nat_lt 0 (paid_to history r.submitter c.args.cusip.now)) holders) lines) same
    (paid history c.args.cusip.now tied bill
    (subst (λ (holders : List Registration).
    All (λ (r : Registration). is_registered (registrations history) r.submitter ≡ true) holders) (sym same)
    (all_registered (registrations history)))
    c.bill_number-security.ensures))
