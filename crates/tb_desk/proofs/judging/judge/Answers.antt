-- One message more is judged.
use Rattle.std.proofs.Common.{◌≡◌, ◌+◌, ◌∷◌, ℕ, List, length, drop, ap, sym, ◌∙◌, subst, arith, length-append}
use Rattle.std.proofs.lemmas.List.{drop_more}
use Rattle.tb_message.specs.declared.message.Entry.{Entry}
use Rattle.tb_message.specs.declared.message.Message.{Message}
use Rattle.tb_core.specs.Rooms.{Fits}
use Rattle.tb_desk.specs.Turn.{asked_of, added}
use Rattle.tb_desk.proofs.JudgeLemmas.{HasJudged, judged-more, added-length}
use Rattle.tb_desk.proofs.judging.judge.Goals as goal

pub loop-place-preserved : goal.loop-place-preserved
loop-place-preserved c =
    let old = c.args.host.now.history in
    let submitter = c.args.submitter.now in
    let moment = c.args.moment in
    let messages = c.args.messages.now in
    let count : ℕ = c.loop-place.place in
    let asked = c.index-messages-place.result in
    let now = c.loop-place in
    let new = c.judge_one.new in
    let so_far : HasJudged old now.host.history now.group.items submitter moment messages now.verdicts count = record {
      is_group = now.invariant.group;
      is_history = now.invariant.history;
      are_verdicts = now.invariant.verdicts;
    } in
    let more = judged-more old now.host.history new.host.history now.group.items new.group.items submitter moment
    messages
    now.verdicts count asked c.judge_one.result c.loop-place-test.true c.requires.few c.index-messages-place.is so_far
    c.judge_one.ensures.verdict c.judge_one.ensures.group c.judge_one.ensures.history in
    let rest : drop count messages ≡ asked ∷ drop (count + 1) messages =
    drop_more messages count asked c.loop-place-test.true
    ∙ ap (λ (one : ℕ × Message). one ∷ drop (count + 1) messages) (sym c.index-messages-place.is) in
    record {
      group = more.is_group;
      history = more.is_history;
      legal = c.judge_one.ensures.legal;
      in_time = c.judge_one.ensures.in_time;
      fits = c.judge_one.ensures.fits (asked_of (drop (count + 1) messages))
          (subst (λ (list : List (ℕ × Message)). Fits now.host.room (asked_of list)) rest now.invariant.fits);
      verdicts = more.are_verdicts;
      few = omega (
        arith,
        now.invariant.few,
        ap (λ (entries : List Entry). length entries) c.judge_one.ensures.group,
        length-append now.group.items (added now.host.history submitter moment asked),
        added-length now.host.history submitter moment asked,
      );
      room = omega (arith, c.judge_one.ensures.room, now.invariant.room);
    }
