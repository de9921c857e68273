-- Behind all where there is none.
use Rattle.std.proofs.Common.{◌∙◌, sym, ap, length, List}
use Rattle.tb_history.specs.declared.roster.Registration.{Registration}
use Rattle.tb_history.specs.Entries.{is_same}
use Rattle.tb_ledger.proofs.AccountLemmas.{place_missing}
use Rattle.tb_ledger.proofs.accounts.holder_number.Goals as goal

pub returns-in-None : goal.returns-in-None
returns-in-None c =
    ap (λ (rs : List Registration). length rs) c.rows.ensures
    ∙ place_missing (λ (r : Registration). is_same r.submitter c.args.name.now) c.args.submitters.now.list
    (sym c.in-None.ensures)
