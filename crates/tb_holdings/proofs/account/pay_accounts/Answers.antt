-- The accounts of a run follow those before it.
use Rattle.std.proofs.Common.{◌≡◌, ◌+◌, ◌++◌, ap, ◌∙◌, filter, length, length-append, not, refl, take, arith}
use Rattle.std.proofs.lemmas.List.Filters.{length-filter_both}
use Rattle.tb_holdings.specs.Holdings.{is_of}
use Rattle.tb_holdings.proofs.WalkLemmas.{filter-run}
use Rattle.tb_holdings.proofs.account.pay_accounts.Goals as goal

pub loop-place-preserved : goal.loop-place-preserved
loop-place-preserved c =
    let accounts = c.args.accounts.now.elements in
    let run = c.run_from-run.result.now in
    let paid : c.pay_run.new.paid.items
    ≡ c.args.paid.now.items ++ filter (is_of c.args.security) (take (c.loop-place.place + length run) accounts) =
    c.pay_run.ensures.paid
    ∙ (ap (λ xs. xs ++ filter (is_of c.args.security) run) c.loop-place.invariant.paid
    ∙ filter-run (is_of c.args.security) c.loop-place.place c.args.paid.now.items accounts run
    c.run_from-run.ensures) in
    record {
      paid = paid;
      room = omega (
        arith,
        c.pay_run.new.paid.ok.0,
        c.loop-place.paid.ok.0,
        ap length c.pay_run.ensures.paid,
        length-append c.loop-place.paid.items (filter (is_of c.args.security) run),
        length-filter_both (is_of c.args.security) (λ account. not (is_of c.args.security account)) (λ _. refl) run,
        c.loop-place.invariant.room,
      );
      capacity = c.pay_run.ensures.capacity ∙ c.loop-place.invariant.capacity;
      within = c.run_from-run.ensures.within;
    }
