-- Each submitter in turn.
use Rattle.std.proofs.Common.{◌≡◌, List, nat_lt, take, true, subst, sym, arith}
use Rattle.std.specs.Prelude.{filter}
use Rattle.std.proofs.lemmas.List.{take_all}
use Rattle.tb_history.specs.declared.roster.Registration.{Registration}
use Rattle.tb_history.specs.Roster.{registrations, is_registered}
use Rattle.tb_history.specs.Holdings.{paid_to}
use Rattle.tb_history.specs.Readings.{ArePaidLines}
use Rattle.tb_core.proofs.ShownLemmas.{registered_more}
use Rattle.tb_core.proofs.holdings.paid_lines.Goals as goal

pub loop-registration-init : goal.loop-registration-init
loop-registration-init c history cusip tied bill known same = rw c.new-lines.ensures tt

pub loop-registration-preserved : goal.loop-registration-preserved
loop-registration-preserved c history cusip tied bill known same =
    let theirs : is_registered (registrations history) c.registration-item.result.submitter ≡ true =
    subst (λ (r : Registration). is_registered (registrations history) r.submitter ≡ true) (sym c.registration-item.is)
    (known c.loop-registration.registration-index c.registration-item.result (omega arith)) in
    subst (λ (front : List Registration).
    ArePaidLines history cusip (filter (λ (r : Registration). nat_lt 0 (paid_to history r.submitter cusip)) front)
    c.add_paid.new.lines)
    (sym (registered_more c.args.holders.now c.loop-registration.registration-index c.registration-item.result
    (omega arith)
    c.registration-item.is))
    (c.in_ok-add_paid.ensures history cusip (take c.loop-registration.registration-index c.args.holders.now)
    tied bill theirs same
    (c.loop-registration.invariant history cusip tied bill known same))

pub returns : goal.returns
returns c history cusip tied bill known same =
    subst (λ (holders : List Registration).
    ArePaidLines history cusip (filter (λ (r : Registration). nat_lt 0 (paid_to history r.submitter cusip)) holders)
    c.loop-registration.lines)
    (take_all c.loop-registration.registration-index c.args.holders.now (omega arith))
    (c.loop-registration.invariant history cusip tied bill known same)
