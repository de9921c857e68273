-- All workers were hired, worked and were dismissed.
use Rattle.std.proofs.Common.{◌≡◌, ◌+◌, ◌≤◌, length, map, sum_by, All, sym, ap, ◌∙◌, subst, rules}
use Rattle.std.proofs.lemmas.List.{take_at}
use Rattle.tb_lock.specs.Passes.{view}
use Rattle.tb_session.specs.Serve.{IsHired, share_of}
use Rattle.tb_session.proofs.ServeLemmas.{are_worked, turns_done, few_served}
use Rattle.tb_session.proofs.serve.turns.Goals as goal

pub returns-clause-turns : goal.returns-clause-turns
returns-clause-turns g c =
    let v = view c.args.pass.now in
    let olds = c.as_mut_slice.result.now in
    let value = c.as_mut_slice.ensures.value in
    let kept : length c.as_mut_slice.result.now ≡ length c.work_all.new.workers = search rules in
    let hired = subst (λ l. All (IsHired c.args.shared.now v) l) (sym value) c.hire.ensures.hired in
    let worked = are_worked g.G.Gate.gate g.G.Conn.Source.source g.G.Conn.Sink.sink c.args.shared.now v olds
    c.work_all.new.workers kept hired c.work_all.ensures.worked in
    let lent = subst (λ l. sum_by share_of l + (view c.hire.new.pass).share ≡ (view c.args.pass.now).share) (sym value)
    c.hire.ensures.share in
    let all = take_at c.work_all.new.workers _ c.hire.new.workers.len (sym kept ∙ c.as_mut_slice.ensures.len) in
    turns_done g.G.Gate.gate g.G.Conn.Source.source g.G.Conn.Sink.sink c.args.shared.now v (view c.hire.new.pass)
    (view c.dismiss.new.pass) olds c.work_all.new.workers _ c.args.gates.now.items c.dismiss.new.gates.items worked all
    (ap (λ l. map (λ w. w.gate) l) value ∙ c.hire.ensures.gates) c.dismiss.ensures.gates c.dismiss.ensures.mine
    c.hire.ensures.same.1 c.requires.new c.dismiss.ensures.spans c.hire.ensures.same.2
    c.dismiss.ensures.share lent c.hire.ensures.same.0 c.dismiss.ensures.same
    c.dismiss.result.0 c.dismiss.result.1 c.dismiss.ensures.served c.dismiss.ensures.failed

pub dismiss-requires-clause-few : goal.dismiss-requires-clause-few
dismiss-requires-clause-few g c κs within =
    let v = view c.args.pass.now in
    let olds = c.as_mut_slice.result.now in
    let value = c.as_mut_slice.ensures.value in
    let kept : length c.as_mut_slice.result.now ≡ length c.work_all.new.workers = search rules in
    let hired = subst (λ l. All (IsHired c.args.shared.now v) l) (sym value) c.hire.ensures.hired in
    let worked = are_worked g.G.Gate.gate g.G.Conn.Source.source g.G.Conn.Sink.sink c.args.shared.now v olds
    c.work_all.new.workers kept hired c.work_all.ensures.worked in
    let all = take_at c.work_all.new.workers _ c.hire.new.workers.len (sym kept ∙ c.as_mut_slice.ensures.len) in
    let gates : length c.args.gates.now.items ≤ 64 = search (rules, c.requires.few) in
    few_served _ _ c.work_all.new.workers c.hire.new.workers.items c.args.gates.now.items all worked.few kept value
    c.hire.ensures.gates gates
