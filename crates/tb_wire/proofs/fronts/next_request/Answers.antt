use Rattle.std.proofs.Common.{ℕ, List, length, subst}
use Rattle.tb_wire.specs.Front.{IsFrontOf}
use Rattle.tb_wire.proofs.FrontLemmas.{none_yet}
use Rattle.tb_wire.proofs.fronts.next_request.Goals as goal

pub returns-in-More-clause-front : goal.returns-in-More-clause-front
returns-in-More-clause-front c =
    let there = length c.args.bytes.now in
    let front = c.unfinished.result in
    subst (λ (text : List ℕ). IsFrontOf text there front) c.whole_lines-text.ensures.seen
    (none_yet c.whole_lines-text.result.now there front c.in-More.ensures c.unfinished.ensures)
