use Rattle.std.proofs.Common.{◌≡◌, ℕ, List, length, take, sym, subst, rules}
use Rattle.tb_wire.specs.Front.{lines_len, seen}
use Rattle.tb_wire.proofs.LineLemmas.{seen_by, seen_lines}
use Rattle.tb_wire.proofs.fronts.whole_lines.Goals as goal

pub returns-clause-lines : goal.returns-clause-lines
returns-clause-lines c =
    let bytes = c.args.bytes.now in
    let is : take c.count_lines.result bytes ≡ seen bytes = search (rules, seen_by) in
    subst (λ (text : List ℕ). lines_len text ≡ length text) (sym is) (seen_lines bytes)
