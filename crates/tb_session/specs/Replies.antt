-- The bytes of replies to answers.
use Rattle.std.specs.Prelude.{ℕ, List, [], ◌∷◌, ◌++◌, Bool, Option, Some, None}
use Rattle.tb_units.specs.Bytes.{line_feed}
use Rattle.tb_message.specs.declared.verdict.Verdict.{Verdict}
use Rattle.tb_message.specs.declared.verdict.Verdict.TheVariants as verdict
use Rattle.tb_message.specs.Verdicts.{verdict_text}
use Rattle.tb_report.specs.Lines.{text_of}
use Rattle.tb_report.specs.Readings.{lines_of}
use Rattle.tb_wire.specs.declared.cutting.Target.{Target}
use Rattle.tb_wire.specs.declared.cutting.Target.TheVariants as target
use Rattle.tb_wire.specs.declared.replies.Allow.{Allow}
use Rattle.tb_wire.specs.declared.replies.Allow.TheVariants as allow
use Rattle.tb_wire.specs.Codes.{code_of}
use Rattle.tb_wire.specs.Replies.{rendered, disk_fault, no_memory}
use Rattle.tb_session.specs.declared.answer.Answer.{Answer}
use Rattle.tb_session.specs.declared.answer.Answer.TheVariants as answer

-- the line that tells a verdict, with its line feed
abbrev pub verdict_body : Verdict → List ℕ
verdict_body said = verdict_text said ++ line_feed ∷ []

-- the code that tells a verdict
abbrev pub verdict_code : Verdict → ℕ
verdict_code (verdict.Accepted number moment) = 200
verdict_code (verdict.Repeat number moment) = 200
verdict_code (verdict.Refused why) = code_of why

-- the method that is told where another was used
abbrev pub allow_of : Target → Option Allow
allow_of target.GetOnly = Some allow.Get
allow_of target.PostOnly = Some allow.Post
allow_of other = None

-- the bytes that tell an answer to a request that led there, and whether the link closes
abbrev pub reply_text : Answer → Target → Bool → List ℕ
reply_text (answer.Verdict said) to close = rendered (verdict_code said) (verdict_body said) (allow_of to) close
reply_text (answer.Reading reading) to close = rendered 200 (text_of (lines_of reading)) None close
reply_text answer.DiskFault to close = disk_fault close
reply_text answer.OutOfMemory to close = no_memory

-- an answer that is always told by a reply of its own
abbrev pub IsTold : Answer → Type 0
IsTold answer.OutOfMemory = ⊥
IsTold other = Unit {0}

-- only readings, and answers that want memory, may be replied as want of memory
abbrev pub MayLack : Answer → Type 0
MayLack (answer.Reading reading) = Unit {0}
MayLack answer.OutOfMemory = Unit {0}
MayLack other = ⊥
