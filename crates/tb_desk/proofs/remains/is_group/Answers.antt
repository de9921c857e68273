-- One record more, or none.
use Rattle.std.proofs.Common.{◌≤◌, ℕ, List, length, drop, sym, ◌∙◌, subst}
use Rattle.std.proofs.lemmas.List.{take_rest}
use Rattle.tb_desk.proofs.RemainsLemmas.{ReadsUpTo, reads_all, reads_no_more, reads_on}
use Rattle.tb_desk.proofs.remains.is_group.Goals as goal

pub returns-in_default-clause-none : goal.returns-in_default-clause-none
returns-in_default-clause-none c = λ answer spelled.
    reads_no_more c.args.payload.now c.entries.rest.now c.entries.invariant c.in_default.ensures.none spelled

pub returns-then-is_done-clause-group : goal.returns-then-is_done-clause-group
returns-then-is_done-clause-group c = λ answer.
    reads_all c.args.payload.now c.entries.rest.now c.in-Some._entry c.in-Some.size c.entries.invariant
    c.in-Some.ensures.found
    (sym (take_rest c.entries.rest.now c.in-Some.size) ∙ c.is_done.ensures.done c.if-is_done.true)

pub entries-preserved : goal.entries-preserved
entries-preserved c =
    let rest = c.entries.rest.now in
    let size : ℕ = c.in-Some.size in
    let some : 1 ≤ length (drop size rest) =
    subst (λ (bytes : List ℕ). 1 ≤ length bytes) (take_rest rest size) (c.is_done.ensures.more c.if-is_done.false) in
    subst (λ (bytes : List ℕ). ReadsUpTo c.args.payload.now bytes) (sym (take_rest rest size))
    (reads_on c.args.payload.now rest c.in-Some._entry size c.entries.invariant c.in-Some.ensures.found some)
