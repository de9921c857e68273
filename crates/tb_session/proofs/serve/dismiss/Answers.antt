-- What the workers have comes together.
use Rattle.std.proofs.Common.{◌≡◌, ◌≤◌, length, vec_len, sum_by, All, ap, subst, sym, refl, arith, rules}
use Rattle.std.specs.Prelude.{◌||◌}
use Rattle.std.proofs.lemmas.List.Elements.{All-tail}
use Rattle.tb_lock.specs.Passes.{view}
use Rattle.tb_session.specs.Work.{IsReady}
use Rattle.tb_session.specs.Serve.{Dismisses, served_of}
use Rattle.tb_session.proofs.HireLemmas.{first-left, no-elements, dismisses-none, dismisses-more, served-more, gates-all, share-all, mine-all, spans-all, failed-all}
use Rattle.tb_session.proofs.serve.dismiss.Goals as goal

pub loop-workers-init : goal.loop-workers-init
loop-workers-init g c = record {
  own = c.requires.own;
  idle = c.requires.idle;
  ready = c.requires.ready;
  dismisses = dismisses-none (view c.args.pass.now) c.args.workers.items c.args.gates.now.items c.requires.room.0;
  served = omega arith;
  room = search (rules, c.requires.room);
}

pub loop-workers-preserved : goal.loop-workers-preserved
loop-workers-preserved g c =
    let few : 1 ≤ vec_len c.loop-workers.workers = omega (arith, c.remove-gate.ensures.len) in
    let some : 1 ≤ length c.loop-workers.workers.items = search (rules, few) in
    let first = first-left c.loop-workers.workers.items c.remove-gate.new.self.items c.remove-gate.result some
    c.remove-gate.ensures.value c.remove-gate.ensures.items in
    let v = view c.args.pass.now in
    record {
      own = c.join.ensures.own;
      idle = c.join.ensures.idle;
      ready = All-tail (IsReady c.args.shared.now) c.remove-gate.result c.remove-gate.new.self.items
          (subst (λ l. All (IsReady c.args.shared.now) l) first c.loop-workers.invariant.ready);
      dismisses = subst (λ l. Dismisses v (view c.join.new.pass) c.args.workers.items c.remove-gate.new.self.items l
          (c.loop-workers.one_failed || c.remove-gate.result.failed))
          (sym c.push_reserved.ensures.items)
          (dismisses-more v (view c.loop-workers.pass) (view c.join.new.pass) c.args.workers.items
          c.loop-workers.workers.items c.remove-gate.new.self.items c.remove-gate.result c.loop-workers.gates.items
          c.loop-workers.one_failed _ c.loop-workers.invariant.dismisses first c.join.ensures.joined refl);
      served = served-more v _ _ c.loop-workers.workers.items c.remove-gate.new.self.items c.remove-gate.result
          c.loop-workers.invariant.served first;
      room = omega (
        arith,
        c.push_reserved.ensures.len,
        c.push_reserved.ensures.capacity,
        c.remove-gate.ensures.len,
        c.loop-workers.invariant.room,
      );
    }

pub returns : goal.returns
returns g c =
    let zero : length c.loop-workers.workers.items ≡ 0 = search rules in
    let none = no-elements c.loop-workers.workers.items zero in
    let v = view c.args.pass.now in
    let now = view c.loop-workers.pass in
    let all = c.args.workers.items in
    let left = c.loop-workers.workers.items in
    let back = c.loop-workers.gates.items in
    let failed = c.loop-workers.one_failed in
    let dismisses = c.loop-workers.invariant.dismisses in
    record {
      own = c.loop-workers.invariant.own;
      idle = c.loop-workers.invariant.idle;
      gates = gates-all v now all left back failed dismisses none;
      share = share-all v now all left back failed dismisses none;
      mine = mine-all v now all left back failed dismisses none;
      spans = spans-all v now all left back failed dismisses none;
      same = dismisses.same;
      served = omega (arith, c.loop-workers.invariant.served, ap (λ l. sum_by served_of l) none);
      failed = failed-all v now all left back failed dismisses none;
    }
