-- One place more.
use Rattle.tb_terms.specs.declared.refusal.Refusal.TheVariants as refusal
use Rattle.tb_message.specs.declared.verdict.Verdict.TheVariants as verdict
use Rattle.std.proofs.Common.{arith}
use Rattle.tb_session.proofs.GroupLemmas.{places-more}
use Rattle.tb_session.proofs.groups.refuse_each.Goals as goal

pub loop-place-preserved : goal.loop-place-preserved
loop-place-preserved c =
    places-more (verdict.Refused refusal.UnknownKey) c.loop-place.verdicts c.loop-place.place
    (omega (arith, c.loop-place-test.true, c.requires.few)) c.loop-place.invariant
