-- The payloads that were found are no two groups.
use Rattle.tb_desk.proofs.RemainsLemmas.{groups_found}
use Rattle.tb_desk.proofs.remains.has_two_groups.Goals as goal

pub returns-then-is_group-clause-none : goal.returns-then-is_group-clause-none
returns-then-is_group-clause-none c = λ answer groups.
    c.is_group-then-is_group.ensures.none answer
    (groups_found c.args.ordinal c.in-Some.first.now c.in-Some.second.now c.args.bytes.now c.in-Some.ensures.found
    groups).1

pub returns-else-is_group-clause-none : goal.returns-else-is_group-clause-none
returns-else-is_group-clause-none c = λ answer groups.
    c.is_group.ensures.none answer
    (groups_found c.args.ordinal c.in-Some.first.now c.in-Some.second.now c.args.bytes.now c.in-Some.ensures.found
    groups).0

pub returns-in-None-clause-none : goal.returns-in-None-clause-none
returns-in-None-clause-none c = λ answer groups. c.in-None.ensures.none groups.first groups.second groups.frames
