-- Verdicts that tell what stands already.
use Rattle.std.specs.Prelude.{◌≡◌}
use Rattle.tb_units.specs.declared.moment.Moment.{Moment}
use Rattle.tb_message.specs.declared.verdict.Verdict.{Verdict}
use Rattle.tb_message.specs.declared.verdict.Verdict.TheVariants.{Accepted, Repeat, Refused}

-- the verdict is a repeat of an entry at this moment
abbrev pub IsRepeatAt : Verdict → Moment → Type 0
IsRepeatAt (Accepted number at) moment = ⊥
IsRepeatAt (Repeat number at) moment = at ≡ moment
IsRepeatAt (Refused refusal) moment = ⊥
