-- The places so far tell that the key is unknown.
use Rattle.std.proofs.Common.{◌≡◌, ◌-◌, ◌++◌, map, replicate, Some, None}
use Rattle.tb_terms.specs.declared.refusal.Refusal.TheVariants as refusal
use Rattle.tb_message.specs.declared.verdict.Verdict.TheVariants as verdict
use Rattle.tb_session.proofs.groups.refuse_each.Given as goal

abbrev pub invariant-loop-place : goal.invariant-loop-place
invariant-loop-place l = l.verdicts
    ≡ map Some (replicate l.place (verdict.Refused refusal.UnknownKey)) ++ replicate (64 - l.place) None
