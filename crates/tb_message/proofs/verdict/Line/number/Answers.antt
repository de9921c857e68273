use Rattle.std.proofs.Common.{arith, ◌∷◌}
use Rattle.std.specs.Fmt.{decimal}
use Rattle.std.proofs.lemmas.List.{length-append}
use Rattle.tb_units.proofs.ShortLemmas.{length-decimal-le_30}
use Rattle.tb_message.proofs.verdict.Line.number.Goals as goal

pub word-requires : goal.word-requires
word-requires c =
    let few = length-decimal-le_30 c.args.number c.requires.small in
    rw (c.bytes.ensures.bytes, c.whole.ensures) (omega (arith, few))

pub returns-clause-size : goal.returns-clause-size
returns-clause-size c =
    let few = length-decimal-le_30 c.args.number c.requires.small in
    let joined = length-append c.args.self.now (32 ∷ decimal c.args.number) in
    rw (c.word.ensures, c.bytes.ensures.bytes, c.whole.ensures) (omega (arith, joined, few))
