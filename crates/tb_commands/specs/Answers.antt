-- Answers, as they are kept until they are written.
use Rattle.std.specs.Prelude.{ℕ, List}
use Rattle.tb_commands.specs.Turns.{told, unavailable}
use Rattle.tb_commands.specs.declared.reply.Reply.{Reply}
use Rattle.tb_commands.specs.declared.reply.Reply.TheVariants as reply

-- the text of a reply
abbrev pub reply_text : Reply → List ℕ
reply_text (reply.Verdict verdict) = told verdict
reply_text reply.DiskFault = unavailable
reply_text (reply.Reading text) = text.items
