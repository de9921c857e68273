-- The lock is told the group by its bids and what the places tell.
use Rattle.std.proofs.Common.{◌∙◌, ap, length}
use Rattle.tb_session.specs.Groups.{replied_by, told_group}
use Rattle.tb_session.proofs.room.Room.group_turn.Goals as goal

pub returns-clause-told : goal.returns-clause-told
returns-clause-told g c =
    let k = c.args.key.now in
    let moment = c.group-came.result.0 in
    let came = c.group-came.result.1 in
    let count = length c.group-came.new.self.desk.host.history in
    ap (λ n. told_group came n (replied_by k moment came c.of.result.value.items c.of-2.result.value))
    c.entries.ensures.entries
    ∙ (ap (λ v. told_group came count (replied_by k moment came v.items c.of-2.result.value)) c.of.ensures
    ∙ ap (λ places. told_group came count (replied_by k moment came c.args.bids.now.items places)) c.of-2.ensures)
