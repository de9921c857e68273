use Rattle.std.proofs.Common.{◌∙◌, ap, sym, arith}
use Rattle.std.specs.Prelude.{Ok, Option, List, ℕ, IfSome, [], ◌≡◌}
use Rattle.tb_link.specs.Sources.{before_left}
use Rattle.std.proofs.Common.{subst, refl}
use Rattle.tb_commands.proofs.TableLemmas.{HasText-end, HasText-long, ReadsToEnd-text, before_left-nothing, read-more}
use Rattle.tb_commands.proofs.table_input.read_text.Goals as goal

pub loop-space-init : goal.loop-space-init
loop-space-init g c =
    let left = (g.I.Source.source c.args.input.now).left in
    let before = before_left-nothing left ∙ ap (λ (t : List ℕ). before_left t left) (sym c.new-text.ensures.items) in
    (before, refl, omega arith)

pub loop-space-preserved : goal.loop-space-preserved
loop-space-preserved g c =
    let source = g.I.Source.source in
    let piece = c.in_ok-read_piece.ensures.piece in (
      read-more (source c.args.input.now).left (source c.loop-space.input).left (source c.read_piece.new.input).left
          c.loop-space.text.items piece.0 c.read_piece.new.text.items c.loop-space.invariant.0 piece.2 piece.1,
      c.in_ok-read_piece.ensures.no_fault ∙ c.loop-space.invariant.1,
      omega (
        arith,
        c.loop-space.invariant.2,
        c.in_ok-read_piece.ensures.one_read,
        c.in_ok-read_piece.ensures.more (ap Ok c.if-not-branch.false),
      ),
    )

pub loop-space-smaller : goal.loop-space-smaller
loop-space-smaller g c =
    omega (arith, c.loop-space-test.true, c.in_ok-read_piece.ensures.more (ap Ok c.if-not-branch.false))

pub returns-then-not-branch-clause-text : goal.returns-then-not-branch-clause-text
returns-then-not-branch-clause-text g c =
    let source = g.I.Source.source in
    let piece = c.in_ok-read_piece.ensures.piece in
    let end = c.in_ok-read_piece.ensures.end (ap Ok c.if-not-branch.true) in
    HasText-end c.read_piece.new.text.items (source c.args.input.now) (source c.read_piece.new.input)
    (read-more (source c.args.input.now).left (source c.loop-space.input).left (source c.read_piece.new.input).left
    c.loop-space.text.items piece.0 c.read_piece.new.text.items c.loop-space.invariant.0 piece.2 piece.1)
    (subst (λ (left : Option (List ℕ)). IfSome left (λ rest. rest ≡ [])) (sym end.2) end.1)

pub returns-clause-text : goal.returns-clause-text
returns-clause-text g c =
    HasText-long c.loop-space.text.items (g.I.Source.source c.args.input.now) (g.I.Source.source c.loop-space.input)
    c.loop-space.invariant.0 (omega (arith, c.loop-space-test.false))

pub returns-then-not-branch-clause-reads : goal.returns-then-not-branch-clause-reads
returns-then-not-branch-clause-reads g c =
    let source = g.I.Source.source in
    ReadsToEnd-text (source c.args.input.now).reads (source c.loop-space.input).reads
    (source c.read_piece.new.input).reads c.loop-space.text.items (source c.args.input.now).left
    (source c.loop-space.input).left c.loop-space.invariant.0 c.loop-space.invariant.2 c.read_piece.ensures.one_read

pub returns-in_err-read_piece-clause-reads : goal.returns-in_err-read_piece-clause-reads
returns-in_err-read_piece-clause-reads g c =
    let source = g.I.Source.source in
    ReadsToEnd-text (source c.args.input.now).reads (source c.loop-space.input).reads
    (source c.read_piece.new.input).reads c.loop-space.text.items (source c.args.input.now).left
    (source c.loop-space.input).left c.loop-space.invariant.0 c.loop-space.invariant.2 c.read_piece.ensures.one_read

pub returns-clause-reads : goal.returns-clause-reads
returns-clause-reads g c =
    let source = g.I.Source.source in
    ReadsToEnd-text (source c.args.input.now).reads (source c.loop-space.input).reads
    (source c.loop-space.input).reads c.loop-space.text.items (source c.args.input.now).left
    (source c.loop-space.input).left c.loop-space.invariant.0 c.loop-space.invariant.2 (omega arith)
