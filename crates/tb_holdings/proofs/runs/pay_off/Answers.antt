-- The new run stands behind the payments before.
use Rattle.std.proofs.Common.{◌≡◌, ◌-◌, ap, ap₂, refl, subst, sym, arith, ℕ, List, filter, length, length-append}
use Rattle.tb_units.specs.Places.{HasOneMore}
use Rattle.tb_holdings.specs.declared.account.Account.{Account}
use Rattle.tb_holdings.specs.declared.runs.Run.{Run}
use Rattle.tb_holdings.specs.Holdings.{is_of}
use Rattle.tb_holdings.specs.Runs.{AreRuns}
use Rattle.tb_holdings.proofs.RunLemmas.{AreRuns-paid, AreRunsOf-paid, run_now}
use Rattle.tb_holdings.proofs.runs.pay_off.Goals as goal

-- a run
abbrev run_at : ℕ → ℕ → ℕ → Run
run_at security first count = record { security = security; first = first; count = count }

-- the run that is noted is that of the payments
noted : (c : goal.After-add_run)
    → run_at c.args.security c.len-first.result (c.len.result - c.len-first.result)
    ≡ run_now c.args.security c.args.paid.now.items c.args.accounts.now.elements
noted c =
    let before = c.args.paid.now in
    let first : c.len-first.result ≡ length before.items = omega (arith, c.len-first.ensures, before.ok.0) in
    let count : c.len.result - c.len-first.result
    ≡ length (filter (is_of c.args.security) c.args.accounts.now.elements) = omega (
      arith,
      c.len-first.ensures,
      c.len.ensures,
      before.ok.0,
      c.pay_accounts.new.paid.ok.0,
      ap length c.pay_accounts.ensures.paid,
      length-append before.items (filter (is_of c.args.security) c.args.accounts.now.elements),
    ) in
    ap₂ (run_at c.args.security) first count

pub returns-clause-runs : goal.returns-clause-runs
returns-clause-runs c =
    subst (λ (paid : List Account). AreRuns paid c.add_run.new.runs.items) (sym c.pay_accounts.ensures.paid)
    (AreRuns-paid c.args.security c.args.paid.now.items c.args.accounts.now.elements c.args.runs.now.items
    c.add_run.new.runs.items c.requires.runs c.requires.new c.requires.in_order c.requires.none_empty
    (subst (λ (run : Run). HasOneMore run c.args.runs.now.items c.add_run.new.runs.items) (noted c)
    c.add_run.ensures.runs) c.add_run.ensures.in_order)

pub returns-clause-runs_of : goal.returns-clause-runs_of
returns-clause-runs_of c = λ redeemed of.
    AreRunsOf-paid redeemed c.args.security _ c.args.runs.now.items c.add_run.new.runs.items
    c.add_run.ensures.runs refl of
