use Rattle.std.proofs.Common.{length, reverse}
use Rattle.tb_message.specs.Plain.{members_data}
use Rattle.tb_message.proofs.PlainLemmas.{IsLeft}
use Rattle.tb_message.proofs.plain.Plain.read.Given as goal

-- the members so far were found in the text
abbrev pub invariant-members : goal.invariant-members
invariant-members l = IsLeft l.text l.reader (members_data (reverse l.members.items))

abbrev pub decreases-members : goal.decreases-members
decreases-members l = length l.reader
