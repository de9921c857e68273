-- The next request of a link, or its end.
use Rattle.std.proofs.Common.{◌∙◌, subst}
use Rattle.tb_gates.specs.Links.{link_of}
use Rattle.tb_session.specs.Serving.{Fails}
use Rattle.tb_session.specs.Session.{Wrote}
use Rattle.tb_session.proofs.HearLemmas.{hears-end_of_input, hears-cut_short, hears-read_fault, hears-bad, hears-told, hears-unwritten, hears-lacking}
use Rattle.tb_session.proofs.hear.hear_request.Goals as goal

pub bad_front_reply-reply-requires : goal.bad_front_reply-reply-requires
bad_front_reply-reply-requires g c =
    let arm = c.in-Err-BadRequest in
    record { told = hears-told _ _ c.args.inbox.now _ arm.field-0 arm.ensures.receives arm.code arm.field-0-is }

pub returns-in-Ok-write_bytes : goal.returns-in-Ok-write_bytes
returns-in-Ok-write_bytes g c =
    let arm = c.in-Err-BadRequest in
    record {
      hears = hears-bad _ _ c.args.inbox.now _ arm.field-0 arm.ensures.receives arm.code _ arm.field-0-is
          (subst (λ l. Wrote (link_of g.K.Source.source g.K.Sink.sink c.receive_request.new.link)
          (link_of g.K.Source.source g.K.Sink.sink c.write_bytes.new.link) l)
          (c.bytes.ensures.bytes ∙ c.bad_front_reply-reply.ensures)
          c.in-Ok-write_bytes.ensures.writes);
    }

pub returns-in-Err : goal.returns-in-Err
returns-in-Err g c =
    let arm = c.in-Err-BadRequest in
    record {
      hears = hears-unwritten _ _ c.args.inbox.now _ arm.field-0 arm.ensures.receives arm.code _ arm.field-0-is
          (subst (λ l. Fails (link_of g.K.Source.source g.K.Sink.sink c.receive_request.new.link)
          (link_of g.K.Source.source g.K.Sink.sink c.write_bytes.new.link) l)
          (c.bytes.ensures.bytes ∙ c.bad_front_reply-reply.ensures)
          c.in-Err.ensures.writes);
    }

pub returns-in-Err-OutOfMemory : goal.returns-in-Err-OutOfMemory
returns-in-Err-OutOfMemory g c =
    let arm = c.in-Err-OutOfMemory in
    record {
      hears = hears-lacking _ _ c.args.inbox.now _ arm.field-0 arm.ensures.receives _ arm.field-0-is
          c.refuse_for_memory.ensures.tries;
    }

pub returns-in-Err-EndOfInput : goal.returns-in-Err-EndOfInput
returns-in-Err-EndOfInput g c =
    let arm = c.in-Err-EndOfInput in
    record { hears = hears-end_of_input _ _ c.args.inbox.now _ arm.field-0 arm.ensures.receives arm.field-0-is }

pub returns-in-Err-CutShort : goal.returns-in-Err-CutShort
returns-in-Err-CutShort g c =
    let arm = c.in-Err-CutShort in
    record { hears = hears-cut_short _ _ c.args.inbox.now _ arm.field-0 arm.ensures.receives arm.field-0-is }

pub returns-in-Err-ReadFault : goal.returns-in-Err-ReadFault
returns-in-Err-ReadFault g c =
    let arm = c.in-Err-ReadFault in
    record { hears = hears-read_fault _ _ c.args.inbox.now _ arm.field-0 arm.ensures.receives arm.field-0-is }
