-- What the reader of a table answers.
use Rattle.std.specs.Prelude.{ℕ, List, Result, Ok, Err, ⊤}
use Rattle.std.specs.Global.{Vec}
use Rattle.tb_message.specs.declared.message.Message.{Message}
use Rattle.tb_import.specs.declared.reading.ImportFault.{ImportFault}
use Rattle.tb_import.specs.declared.reading.ImportFault.TheVariants as fault
use Rattle.tb_import.specs.Tables.{IsTable, IsFirstBad}

-- why none are answered: the first bad record; want of memory has no cause that is stated
abbrev pub IsCause : List ℕ → ImportFault → Type 0
IsCause bytes (fault.BadRecord place) = IsFirstBad bytes place
IsCause bytes fault.OutOfMemory = ⊤

-- the table's messages, or why there are none
abbrev pub AnswersBids : List ℕ → Result (List (ℕ × Message)) ImportFault → Type 0
AnswersBids bytes (Ok sent) = IsTable bytes sent
AnswersBids bytes (Err fault) = IsCause bytes fault

-- the same of messages in a vector
abbrev pub AnswersTable : List ℕ → Result (Vec (ℕ × Message)) ImportFault → Type 0
AnswersTable bytes (Ok sent) = IsTable bytes sent.items
AnswersTable bytes (Err fault) = IsCause bytes fault
