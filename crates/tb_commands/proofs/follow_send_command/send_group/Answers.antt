use Rattle.std.proofs.Common.{◌+◌, ◌≤◌, ℕ, List, length, drop, ap, sym, ◌∙◌, subst, arith, Result}
use Rattle.std.specs.Prelude.{Err}
use Rattle.std.proofs.lemmas.List.{take_rest}
use Rattle.std.proofs.lemmas.Result.{err_from_is_err_and}
use Rattle.tb_commands.specs.FollowSteps.{SendsGroup}
use Rattle.tb_commands.specs.declared.follow_send_command.GroupFault.{GroupFault}
use Rattle.tb_commands.proofs.FollowSendLemmas.{SentUpTo, SentUpTo-fails, SentUpTo-last, SentUpTo-more, SentUpTo-next, SentUpTo-some, taken-shorter}
use Rattle.tb_commands.proofs.follow_send_command.send_group.Goals as goal

pub returns-in_default-clause-sends : goal.returns-in_default-clause-sends
returns-in_default-clause-sends g c = λ group some in_range is.
    SentUpTo-some c.args.from c.args.before group c.entries.rest.now c.entries.place (g.O.Sink.sink c.args.out.now)
    (g.O.Sink.sink c.entries.out) (c.entries.invariant.3 group some in_range is) c.in_default.ensures.none

pub returns-in_err-send-clause-sends : goal.returns-in_err-send-clause-sends
returns-in_err-send-clause-sends g c = λ group some in_range is.
    let failed = err_from_is_err_and c.from_residual.result c.from_residual.ensures.1 in
    let next = SentUpTo-next c.args.from c.args.before group c.entries.rest.now c.entries.place
    (g.O.Sink.sink c.args.out.now) (g.O.Sink.sink c.entries.out) c.in-Some.entry c.in-Some.size
    (c.entries.invariant.3 group some in_range is) c.in-Some.ensures.found in
    subst (λ (r : Result ℕ GroupFault). SendsGroup c.args.from c.args.before group r (g.O.Sink.sink c.args.out.now)
    (g.O.Sink.sink c.send.new.out)) (sym (failed.1 ∙ ap Err failed.2))
    (SentUpTo-fails c.args.from c.args.before group c.entries.rest.now c.entries.place (g.O.Sink.sink c.args.out.now)
    (g.O.Sink.sink c.entries.out) (g.O.Sink.sink c.send.new.out) c.in-Some.entry c.in-Some.size next
    c.in_err-send.ensures.fails)

pub returns-then-is_done-clause-sends : goal.returns-then-is_done-clause-sends
returns-then-is_done-clause-sends g c = λ group some in_range is.
    let rest = c.entries.rest.now in
    let size : ℕ = c.in-Some.size in
    let next = SentUpTo-next c.args.from c.args.before group rest c.entries.place
    (g.O.Sink.sink c.args.out.now) (g.O.Sink.sink c.entries.out) c.in-Some.entry size
    (c.entries.invariant.3 group some in_range is) c.in-Some.ensures.found in
    SentUpTo-last c.args.from c.args.before group rest c.entries.place (g.O.Sink.sink c.args.out.now)
    (g.O.Sink.sink c.entries.out) (g.O.Sink.sink c.send.new.out) c.in-Some.entry size next
    c.in_ok-send.ensures.takes (sym (take_rest rest size) ∙ c.is_done.ensures.done c.if-is_done.true)

pub entries-preserved : goal.entries-preserved
entries-preserved g c =
    let rest = c.entries.rest.now in
    let size : ℕ = c.in-Some.size in
    let some : 1 ≤ length (drop size rest) =
    subst (λ (bytes : List ℕ). 1 ≤ length bytes) (take_rest rest size) (c.is_done.ensures.more c.if-is_done.false) in (
      omega (arith, c.entries.invariant.0),
      subst (λ (bytes : List ℕ). c.entries.place + 1 + length bytes ≤ c.args.before + length c.args.payload.now)
          (sym (take_rest rest size))
          (omega (arith, c.entries.invariant.1, taken-shorter rest c.in-Some.entry size c.in-Some.ensures.found)),
      c.in_ok-send.ensures.takes.no_fault ∙ c.entries.invariant.2,
      λ group begun in_range is.
          let next = SentUpTo-next c.args.from c.args.before group rest c.entries.place
          (g.O.Sink.sink c.args.out.now) (g.O.Sink.sink c.entries.out) c.in-Some.entry size
          (c.entries.invariant.3 group begun in_range is) c.in-Some.ensures.found in
          subst (λ (bytes : List ℕ). SentUpTo c.args.from c.args.before group bytes (c.entries.place + 1)
          (g.O.Sink.sink c.args.out.now) (g.O.Sink.sink c.send.new.out)) (sym (take_rest rest size))
          (SentUpTo-more c.args.from c.args.before group rest c.entries.place (g.O.Sink.sink c.args.out.now)
          (g.O.Sink.sink c.entries.out) (g.O.Sink.sink c.send.new.out) c.in-Some.entry size next
          c.in_ok-send.ensures.takes some),
    )
