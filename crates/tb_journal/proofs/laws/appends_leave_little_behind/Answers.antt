use Rattle.std.proofs.Common.{arith}
use Rattle.tb_journal.proofs.NearLemmas.{near_added, near_added_in_part, near_further, near_made, near_synced}
use Rattle.tb_journal.proofs.laws.appends_leave_little_behind.Goals as goal

pub returns-clause-added : goal.returns-clause-added
returns-clause-added c = λ payload ordinal gate before size behind near.
    near_further gate _ _ (omega arith) (near_added payload ordinal gate before size near).reaches

pub returns-clause-failed : goal.returns-clause-failed
returns-clause-failed c = λ payload ordinal gate before now size behind near part.
    (near_added_in_part payload ordinal gate before now size near part).reaches

pub returns-clause-meanwhile : goal.returns-clause-meanwhile
returns-clause-meanwhile c = λ payload ordinal gate before size behind near.
    (near_added payload ordinal gate before size near).leaves

pub returns-clause-meanwhile_failed : goal.returns-clause-meanwhile_failed
returns-clause-meanwhile_failed c = λ payload ordinal gate before now size behind near part.
    (near_added_in_part payload ordinal gate before now size near part).leaves

pub returns-clause-synced : goal.returns-clause-synced
returns-clause-synced c = near_synced

pub returns-clause-made : goal.returns-clause-made
returns-clause-made c = near_made
