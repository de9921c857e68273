-- All links of a gate.
use Rattle.std.proofs.Common.{◌∙◌, refl, subst, arith}
use Rattle.tb_gates.specs.Gates.{NextLink}
use Rattle.tb_session.proofs.WorkLemmas.{works-nothing, works-link, works-finished, works-failed}
use Rattle.tb_session.proofs.links.work.Goals as goal

pub loop-init : goal.loop-init
loop-init g c = record {
  ready = c.requires.ready;
  on = works-nothing g.G.Gate.gate g.G.Conn.Source.source g.G.Conn.Sink.sink c.args.worker.now;
  no_fault = refl;
}

pub loop-preserved : goal.loop-preserved
loop-preserved g c =
    let next = subst (λ o. NextLink (g.G.Gate.gate c.loop.worker.gate) (g.G.Gate.gate c.next-in-loop.new.self) o)
    c.in-Ok-Some.field-0-is c.in-Ok-Some.ensures.gives in
    record {
      ready = record { own = c.serve_link-ended.ensures.own; idle = c.serve_link-ended.ensures.idle };
      on = works-link g.G.Gate.gate g.G.Conn.Source.source g.G.Conn.Sink.sink c.args.worker.now c.loop.worker
          c.loop.invariant.on c.next-in-loop.new.self c.done.new.self c.serve_link-ended.new.pass c.in-Ok-Some.link
          c.serve_link-ended.new.link c.serve_link-ended.result _ next c.serve_link-ended.ensures.served
          c.done.ensures.takes refl;
      no_fault = c.done.ensures.takes.no_fault ∙ (next.no_fault ∙ c.loop.invariant.no_fault);
    }

pub overflow_add-worker : goal.overflow_add-worker
overflow_add-worker g c =
    let next = subst (λ o. NextLink (g.G.Gate.gate c.loop.worker.gate) (g.G.Gate.gate c.next-in-loop.new.self) o)
    c.in-Ok-Some.field-0-is c.in-Ok-Some.ensures.gives in
    let on = c.loop.invariant.on in
    omega (arith, next.given, next.most, on.counted, on.passed.given, c.requires.few)

pub returns-in-Ok-None-clause-works : goal.returns-in-Ok-None-clause-works
returns-in-Ok-None-clause-works g c =
    let next = subst (λ o. NextLink (g.G.Gate.gate c.loop.worker.gate) (g.G.Gate.gate c.next-in-loop.new.self) o)
    c.in-Ok-None.field-0-is c.in-Ok-None.ensures.gives in
    works-finished g.G.Gate.gate g.G.Conn.Source.source g.G.Conn.Sink.sink c.args.worker.now c.loop.worker
    c.loop.invariant.on c.next-in-loop.new.self next c.loop.invariant.no_fault

pub returns-in-Err-clause-works : goal.returns-in-Err-clause-works
returns-in-Err-clause-works g c =
    works-failed g.G.Gate.gate g.G.Conn.Source.source g.G.Conn.Sink.sink c.args.worker.now c.loop.worker
    c.loop.invariant.on c.next-in-loop.new.self c.in-Err.ensures.fails
