use Rattle.std.proofs.Common.{◌≡◌, ℕ, ◌+◌, ◌-◌, ◌≤◌, List, ◌++◌, ◌∙◌, ap, length, take, drop, arith}
use Rattle.std.proofs.lemmas.List.{length-append, length-drop, length-take-le, with_items_is}
use Rattle.tb_lines.proofs.PieceLemmas.{waiting-more}
use Rattle.tb_lines.proofs.pieces.PieceReader.receive.Goals as goal

pub returns-clause-gives : goal.returns-clause-gives
returns-clause-gives g c =
    let gives = c.in_ok-count.ensures.gives in
    let at = c.args.self.now.at in
    let filled = c.args.self.now.filled in
    let count = c.in_ok-count.count in
    let into = c.read.new.into in
    let space : List ℕ = c.deref_mut.result.now in
    let rest : List ℕ = drop (length space - filled) (drop filled space) in
    let after : List ℕ = take filled space ++ (into ++ rest) in
    let held : filled ≤ length space = omega (arith, ap length c.deref_mut.ensures.value, c.args.self.now.held) in
    let size : length after ≡ c.args.self.now.space.len =
    omega (
      arith,
      length-append (take filled space) (into ++ rest),
      length-append into rest,
      length-take-le filled space held,
      length-drop filled space,
      length-drop (length space - filled) (drop filled space),
      c.read.auto.into,
      c.deref_mut.ensures.len,
    ) in (
      into,
      gives,
      ap (λ (s : List ℕ). drop at (take (filled + count) s)) (with_items_is c.args.self.now.space after size)
          ∙ waiting-more at filled count space into rest c.args.self.now.given held gives.within
          ∙ ap (λ (s : List ℕ). drop at (take filled s) ++ take count into) c.deref_mut.ensures.value,
    )
