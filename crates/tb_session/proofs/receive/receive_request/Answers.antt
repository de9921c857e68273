-- A link that ends before a request is whole, or goes on.
use Rattle.std.proofs.Common.{ℕ, Ok, Err, ap, ◌∙◌, subst, subst₂, arith}
use Rattle.httparse.specs.Spans.{RequestOverflows}
use Rattle.tb_wire.specs.Front.{IsFront, seen}
use Rattle.tb_session.specs.declared.inbox.Unread.{Unread}
use Rattle.tb_session.proofs.ReceiveLemmas.{reads-on, reads-more, receives-end_of_input, receives-cut_short, receives-read_fault, receives-crowded, receives-lacking}
use Rattle.tb_session.proofs.receive.receive_request.Goals as goal

pub returns-in-Ok-eq0 : goal.returns-in-Ok-eq0
returns-in-Ok-eq0 g c =
    let so_far = c.loop-request.invariant in
    record {
      receives = receives-end_of_input _ _ _ _ so_far.0 _ _ so_far.1 so_far.2 so_far.3 _ c.fill.ensures.fills
          (c.in-Ok-eq0.is ∙ ap (λ (n : ℕ). Ok n) c.in-Ok-eq0.field-0-test) (c.is_empty.ensures.0 c.if-is_empty.true);
    }

pub returns-in-Ok-eq0-2 : goal.returns-in-Ok-eq0-2
returns-in-Ok-eq0-2 g c =
    let so_far = c.loop-request.invariant in
    record {
      receives = receives-cut_short _ _ _ _ so_far.0 _ _ so_far.1 so_far.2 so_far.3 _ c.fill.ensures.fills
          (c.in-Ok-eq0.is ∙ ap (λ (n : ℕ). Ok n) c.in-Ok-eq0.field-0-test)
          (λ none. let t = c.is_empty.ensures.1 none in let f = c.if-is_empty.false in cc)
          (subst₂ (λ l f. IsFront l f) c.waiting.ensures.waiting c.in-Ok-More.field-0-is c.in-Ok-More.ensures.front);
    }

pub loop-request-smaller : goal.loop-request-smaller
loop-request-smaller g c =
    let so_far = c.loop-request.invariant in
    reads-more _ _ _ _ so_far.0 _ _ so_far.1 so_far.2 so_far.3 _ c.fill.ensures.fills c.in-Ok.field-0 c.in-Ok.is
    c.in-Ok.field-0-test.1
    (subst₂ (λ l f. IsFront l f) c.waiting.ensures.waiting c.in-Ok-More.field-0-is c.in-Ok-More.ensures.front)

pub loop-request-preserved : goal.loop-request-preserved
loop-request-preserved g c =
    let so_far = c.loop-request.invariant in
    reads-on _ _ _ _ so_far.0 _ _ so_far.1 so_far.2 so_far.3 _ c.fill.ensures.fills c.in-Ok.field-0 c.in-Ok.is
    c.in-Ok.field-0-test.1
    (subst₂ (λ l f. IsFront l f) c.waiting.ensures.waiting c.in-Ok-More.field-0-is c.in-Ok-More.ensures.front)

pub returns-in-Err-ReadFault : goal.returns-in-Err-ReadFault
returns-in-Err-ReadFault g c =
    let so_far = c.loop-request.invariant in
    record {
      receives = receives-read_fault _ _ _ _ so_far.0 _ _ so_far.1 so_far.2 so_far.3 _ c.fill.ensures.fills
          (c.in-Err-ReadFault.is ∙ ap (λ (u : Unread). Err u) c.in-Err-ReadFault.field-0-is)
          (subst₂ (λ l f. IsFront l f) c.waiting.ensures.waiting c.in-Ok-More.field-0-is c.in-Ok-More.ensures.front);
    }

pub returns-in-Err : goal.returns-in-Err
returns-in-Err g c =
    let so_far = c.loop-request.invariant in
    record {
      receives = receives-crowded _ _ _ so_far.0 _ so_far.1 so_far.2 so_far.3
          (subst (λ l. RequestOverflows 32 (seen l)) c.waiting.ensures.waiting c.in-Err.ensures.memory);
    }

pub returns-in-Err-OutOfMemory : goal.returns-in-Err-OutOfMemory
returns-in-Err-OutOfMemory g c =
    let so_far = c.loop-request.invariant in
    record {
      receives = receives-lacking _ _ _ _ so_far.0 _ _ so_far.1 so_far.2 so_far.3 _ c.fill.ensures.fills
          (c.in-Err-OutOfMemory.is ∙ ap (λ (u : Unread). Err u) c.in-Err-OutOfMemory.field-0-is)
          (subst₂ (λ l f. IsFront l f) c.waiting.ensures.waiting c.in-Ok-More.field-0-is c.in-Ok-More.ensures.front);
    }

pub fill-requires : goal.fill-requires
fill-requires g c =
    let few = c.waits.ensures c.loop-request.inbox
    (subst₂ (λ l f. IsFront l f) c.waiting.ensures.waiting c.in-Ok-More.field-0-is c.in-Ok-More.ensures.front) in
    record { few = omega (arith, few) }
