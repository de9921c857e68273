-- A group is told by how it came out.
use Rattle.std.proofs.Common.{◌≡◌, ◌∙◌, refl, sym, subst}
use Rattle.tb_session.specs.declared.answer.GroupAnswer.TheVariants as group
use Rattle.tb_session.specs.declared.groups.Grouped.{Grouped}
use Rattle.tb_session.specs.declared.groups.Grouped.TheVariants as grouped
use Rattle.tb_session.specs.Groups.{TellsGroup, answer_of, replied_by, said_in}
use Rattle.tb_session.proofs.room.Room.submit_group.Goals as goal

-- want of memory is answered only where it was met
lacks : (came : Grouped) → answer_of came ≡ group.OutOfMemory → came ≡ grouped.Lacked
lacks grouped.Unknown is = absurd (cc)
lacks (grouped.Told caller) is = absurd (cc)
lacks (grouped.Doubted caller moment) is = absurd (cc)
lacks grouped.Lacked is = refl

pub returns : goal.returns
returns g c =
    let replied = replied_by c.args.key.now c.group-came.result.0 c.group-came.result.1 c.args.messages.now
    c.group-came.new.verdicts in
    record {
      calls = (
        c.group-came.result.0,
        replied,
        c.group-came.ensures.calls,
        subst (λ a. TellsGroup a c.group-came.new.verdicts (said_in replied)) (sym c.group_answer.ensures)
            c.group-came.ensures.tells,
        c.group-came.ensures.unknown,
      );
      lacked = λ is. c.group-came.ensures.lacked (lacks c.group-came.result.1 (sym c.group_answer.ensures ∙ is));
      lacks = λ is. c.group-came.ensures.lacks (lacks c.group-came.result.1 (sym c.group_answer.ensures ∙ is));
      unasked = c.group-came.ensures.unasked;
      fault = λ is. c.group-came.ensures.fault (sym c.group_answer.ensures ∙ is);
      no_fault = λ other. c.group-came.ensures.no_fault (λ is. other (c.group_answer.ensures ∙ is));
      count = c.group-came.ensures.count;
    }
