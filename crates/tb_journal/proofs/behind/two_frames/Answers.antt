-- Two frames begin with the first, and behind the gate that follows stands the second.
use Rattle.std.proofs.Common.{◌≡◌, ◌∷◌, ◌+◌, ℕ, List, length, ap, sym, ◌∙◌, subst, arith}
use Rattle.tb_journal.specs.Behind.{BeginsWithFrame}
use Rattle.tb_journal.proofs.BehindLemmas.{first_of_two}
use Rattle.tb_journal.proofs.behind.two_frames.Goals as goal

pub returns-in-None-first_frame-clause-none : goal.returns-in-None-first_frame-clause-none
returns-in-None-first_frame-clause-none c = λ first second two.
    let is = first_of_two c.args.ordinal first second _ _ c.args.bytes.now c.in_ok-first.ensures.found two in
    let same : c.in-Some._gate.now ∷ c.in-Some.between.now ≡ two.gate ∷ two.between =
    sym c.in-Some.ensures.cases.0 ∙ is in
    let between : c.in-Some.between.now ≡ two.between = cc (same) in
    let next : c.in_ok-next.next ≡ c.args.ordinal + 1 = omega (arith, c.in_ok-next.ensures) in
    c.in-None-first_frame.ensures.none second two.more
    (subst (λ (ordinal : ℕ). BeginsWithFrame ordinal second two.more c.in-Some.between.now) (sym next)
    (subst (λ (bytes : List ℕ). BeginsWithFrame (c.args.ordinal + 1) second two.more bytes) (sym between) two.goes_on))

pub returns-in-None-clause-none : goal.returns-in-None-clause-none
returns-in-None-clause-none c = λ first second two.
    let is = first_of_two c.args.ordinal first second _ _ c.args.bytes.now c.in_ok-first.ensures.found two in
    let none = c.in-None.ensures.cases in
    absurd (omega (arith, ap length is))
