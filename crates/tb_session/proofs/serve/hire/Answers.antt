-- The share is enough for each gate.
use Rattle.std.proofs.Common.{◌≡◌, ◌*◌, ◌^◌, ◌<◌, ◌≤◌, false, length, vec_len, ap, ◌∙◌, subst, sym, refl, arith, rules}
use Rattle.tb_lock.specs.Passes.{view}
use Rattle.tb_session.specs.declared.worker.Worker.{Worker}
use Rattle.tb_session.specs.Serve.{Hires}
use Rattle.tb_session.proofs.HireLemmas.{first-left, no-elements, hires-none, hires-more, hires-all}
use Rattle.tb_session.proofs.Shares.{two-left}
use Rattle.tb_session.proofs.serve.hire.Goals as goal

pub loop-gates-init : goal.loop-gates-init
loop-gates-init g c =
    let enough = subst (λ n. 2 ^ n < 2 * (view c.args.pass.now).share)
    (let len : vec_len c.args.gates.now ≡ length c.args.gates.now.items = search rules in len) c.requires.share in
    record {
      own = c.requires.own;
      idle = c.requires.idle;
      hires = hires-none c.args.shared.now (view c.args.pass.now) c.args.gates.now.items c.args.workers.now.items
          c.requires.room.0 enough;
      capacity = refl;
      room = search (rules, c.requires.room);
    }

pub split-part-requires-clause-two : goal.split-part-requires-clause-two
split-part-requires-clause-two g c =
    let few : 1 ≤ vec_len c.loop-gates.gates = omega (arith, c.remove-gate.ensures.len) in
    let some : 1 ≤ length c.loop-gates.gates.items = search (rules, few) in
    let first = first-left c.loop-gates.gates.items c.remove-gate.new.self.items c.remove-gate.result some
    c.remove-gate.ensures.value c.remove-gate.ensures.items in
    (two-left _ _ _ (ap (λ l. length l) first) c.loop-gates.invariant.hires.enough).0

pub loop-gates-preserved : goal.loop-gates-preserved
loop-gates-preserved g c =
    let few : 1 ≤ vec_len c.loop-gates.gates = omega (arith, c.remove-gate.ensures.len) in
    let some : 1 ≤ length c.loop-gates.gates.items = search (rules, few) in
    let first = first-left c.loop-gates.gates.items c.remove-gate.new.self.items c.remove-gate.result some
    c.remove-gate.ensures.value c.remove-gate.ensures.items in
    let v = view c.args.pass.now in
    let w : Worker g.row.D.Denot g.row.C.Denot g.row.G.Denot = record {
      gate = c.remove-gate.result;
      pass = c.split-part.result;
      served = 0;
      failed = false;
    } in
    record {
      own = c.split-part.ensures.own.0;
      idle = c.split-part.ensures.idle.0;
      hires = subst (λ l. Hires c.args.shared.now v (view c.split-part.new.pass) c.args.gates.now.items
          c.remove-gate.new.self.items l) (sym c.push_reserved.ensures.items)
          (hires-more c.args.shared.now v (view c.loop-gates.pass) (view c.split-part.new.pass) c.args.gates.now.items
          c.loop-gates.gates.items c.remove-gate.new.self.items c.loop-gates.workers.items w
          c.loop-gates.invariant.hires first c.split-part.ensures.kept c.split-part.ensures.given
          (record { own = c.split-part.ensures.own.1; idle = c.split-part.ensures.idle.1 }) refl);
      capacity = c.remove-gate.ensures.capacity ∙ c.loop-gates.invariant.capacity;
      room = omega (
        arith,
        c.push_reserved.ensures.len,
        c.push_reserved.ensures.capacity,
        c.remove-gate.ensures.len,
        c.loop-gates.invariant.room,
      );
    }

pub returns : goal.returns
returns g c =
    let zero : length c.loop-gates.gates.items ≡ 0 = search rules in
    let none = no-elements c.loop-gates.gates.items zero in
    let hires = c.loop-gates.invariant.hires in
    record {
      own = c.loop-gates.invariant.own;
      idle = c.loop-gates.invariant.idle;
      gates = hires-all c.args.shared.now (view c.args.pass.now) (view c.loop-gates.pass) c.args.gates.now.items
          c.loop-gates.gates.items c.loop-gates.workers.items hires none;
      emptied = (none, c.loop-gates.invariant.capacity);
      hired = hires.hired;
      share = hires.share;
      same = (hires.same, hires.mine, hires.spans);
    }
