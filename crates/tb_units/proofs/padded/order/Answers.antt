-- The first eight bytes that differ decide.
use Rattle.std.proofs.Common.{◌≡◌, ◌+◌, ◌*◌, drop, ◌∙◌, sym, arith}
use Rattle.std.specs.Cmp.Lexicographic.{slice_cmp}
use Rattle.std.specs.Ordering.{nat_cmp}
use Rattle.tb_units.proofs.WordLemmas.{eight-apart, eight-same}
use Rattle.tb_units.proofs.padded.order.Goals as goal

pub returns-then-left-right : goal.returns-then-left-right
returns-then-left-right c =
    let place = 8 * c.words.index in
    c.cmp.ensures
    ∙ sym (c.words.invariant
    ∙ eight-apart c.args.one.now c.args.other.now place
    (omega (arith, c.told-one, c.words-test.true)) (omega (arith, c.told-other, c.words-test.true))
    c.fits-one c.fits-other
    c.word-left.result c.word-right.result c.word-left.ensures c.word-right.ensures c.if-left-right.true)

pub words-preserved : goal.words-preserved
words-preserved c =
    let place = 8 * c.words.index in
    let next : place + 8 ≡ 8 * (c.words.index + 1) = omega arith in
    c.words.invariant
    ∙ eight-same c.args.one.now c.args.other.now place
    (omega (arith, c.told-one, c.words-test.true)) (omega (arith, c.told-other, c.words-test.true))
    c.fits-one c.fits-other
    c.word-left.result c.word-right.result c.word-left.ensures c.word-right.ensures c.if-left-right.false
    ∙ (λ i. slice_cmp nat_cmp (drop (next i) c.args.one.now) (drop (next i) c.args.other.now))
