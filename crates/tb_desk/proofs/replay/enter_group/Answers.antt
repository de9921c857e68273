-- One entry more, or a payload that is no group.
use Rattle.std.proofs.Common.{◌≤◌, ℕ, List, length, drop, sym, ◌∙◌, subst}
use Rattle.std.proofs.lemmas.List.{take_rest}
use Rattle.std.proofs.lemmas.Result.{err_from_is_err_and}
use Rattle.tb_desk.proofs.ReplayLemmas.{IsEntered, no_record, bad_next, entered_more, entered_on, entered_all}
use Rattle.tb_desk.proofs.replay.enter_group.Goals as goal

pub returns-in_default-clause-refused : goal.returns-in_default-clause-refused
returns-in_default-clause-refused c is =
    no_record c.args.version c.args.host.now.history c.entries.host.history c.args.payload.now c.entries.rest.now
    c.entries.invariant c.in_default.ensures.none

pub returns-in_err-enter-clause-refused : goal.returns-in_err-enter-clause-refused
returns-in_err-enter-clause-refused c =
    let p = err_from_is_err_and c.from_residual.result c.from_residual.ensures.1 in
    rw (p.1) (λ is. bad_next c.args.version c.args.host.now.history c.entries.host.history c.args.payload.now
    c.entries.rest.now c.entries.invariant c.in-Some.entry c.in-Some.size c.in-Some.ensures.found
    (c.in_err-enter.ensures.refused (sym p.2 ∙ is)))

pub returns-then-is_done-clause-legal : goal.returns-then-is_done-clause-legal
returns-then-is_done-clause-legal c =
    (entered_more c.args.version c.args.host.now.history c.entries.host.history c.enter.new.host.history
    c.args.payload.now c.entries.rest.now c.entries.invariant c.in-Some.entry c.in-Some.size c.in-Some.ensures.found
    c.in_ok-enter.ensures.entered.0 c.in_ok-enter.ensures.entered.1).2

pub returns-then-is_done-clause-entered : goal.returns-then-is_done-clause-entered
returns-then-is_done-clause-entered c =
    entered_all c.args.version c.args.host.now.history c.entries.host.history c.enter.new.host.history
    c.args.payload.now c.entries.rest.now c.entries.invariant c.in-Some.entry c.in-Some.size c.in-Some.ensures.found
    c.in_ok-enter.ensures.entered.0 c.in_ok-enter.ensures.entered.1
    (sym (take_rest c.entries.rest.now c.in-Some.size) ∙ c.is_done.ensures.done c.if-is_done.true)

pub entries-preserved : goal.entries-preserved
entries-preserved c =
    let rest = c.entries.rest.now in
    let size : ℕ = c.in-Some.size in
    let some : 1 ≤ length (drop size rest) =
    subst (λ (bytes : List ℕ). 1 ≤ length bytes) (take_rest rest size) (c.is_done.ensures.more c.if-is_done.false) in
    subst (λ (bytes : List ℕ). IsEntered c.args.version c.args.host.now.history c.enter.new.host.history
    c.args.payload.now bytes) (sym (take_rest rest size))
    (entered_on c.args.version c.args.host.now.history c.entries.host.history c.enter.new.host.history
    c.args.payload.now rest c.entries.invariant c.in-Some.entry size c.in-Some.ensures.found
    c.in_ok-enter.ensures.entered.0 c.in_ok-enter.ensures.entered.1 some)
