-- A link, request by request.
use Rattle.std.proofs.Common.{[], sym, subst, arith}
use Rattle.tb_gates.specs.Links.{link_of}
use Rattle.tb_lock.specs.Passes.{view}
use Rattle.tb_session.specs.Serving.{ServesOn}
use Rattle.tb_session.proofs.GainLemmas.{gains-nothing}
use Rattle.tb_session.proofs.SessionLemmas.{serves-few, serves-nothing, serves-ends, serves-idle, round-on, round-ended}
use Rattle.tb_session.proofs.session.serve_requests.Goals as goal

pub loop-round-init : goal.loop-round-init
loop-round-init g c =
    let v = view c.args.pass.now in
    let a = link_of g.K.Source.source g.K.Sink.sink c.args.link.now in
    record {
      own = c.requires.own;
      idle = c.requires.idle;
      on = subst (λ n. ServesOn 0 0 [] v v a a n) (sym c.new-inbox.ensures)
          (serves-nothing 0 [] v v a (omega arith) (gains-nothing v));
      least = omega arith;
    }

pub returns-in-Err-clause-served : goal.returns-in-Err-clause-served
returns-in-Err-clause-served g c =
    let few = serves-few _ _ _ _ _ _ _ c.loop-round.invariant.on in
    serves-ends 0 c.loop-round.turns c.loop-round.turns [] c.loop-round.inbox _ _ _ _ _ _ c.in-Err.ended (omega arith)
    c.loop-round.invariant.on
    (serves-idle c.loop-round.turns c.loop-round.inbox _ _ _ c.in-Err.ended few c.in-Err.ensures.hears)

pub serve_next-requires-clause-few : goal.serve_next-requires-clause-few
serve_next-requires-clause-few g c = serves-few _ _ _ _ _ _ _ c.loop-round.invariant.on

pub returns-in-Err-serve_next-clause-served : goal.returns-in-Err-serve_next-clause-served
returns-in-Err-serve_next-clause-served g c =
    round-ended c.loop-round.turns [] c.loop-round.inbox _ _ _ _ _ _ _ _ c.in-Ok.request
    c.loop-round.invariant.on c.in-Ok.ensures.hears c.in-Err-serve_next.ended c.in-Err-serve_next.ensures.ended

pub loop-round-preserved : goal.loop-round-preserved
loop-round-preserved g c = record {
  own = c.in-Ok-serve_next.ensures.own;
  idle = c.in-Ok-serve_next.ensures.idle;
  on = round-on c.loop-round.turns [] c.loop-round.inbox _ _ _ _ _ _ _ _ c.in-Ok.request c.loop-round.invariant.on
      c.in-Ok.ensures.hears c.in-Ok-serve_next.count _ c.in-Ok-serve_next.ensures.some c.in-Ok-serve_next.ensures.on;
  least = omega (arith, c.loop-round.invariant.least, c.in-Ok-serve_next.ensures.some);
}
