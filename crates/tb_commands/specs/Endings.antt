-- How a command ends, and what it says of that.
use Rattle.std.specs.Prelude.{ℕ, ◌/◌, ◌%◌, ◌⊎◌, false, List, [], ◌∷◌, ◌++◌, codes}
use Rattle.std.specs.Fmt.{decimal, digit_glyph}
use Rattle.std.specs.List.{flat_map}
use Rattle.tb_link.specs.Sinks.{SinkState, Takes, FailsToTake}
use Rattle.tb_units.specs.Bytes.{line_feed}
use Rattle.tb_desk.specs.declared.fault.OpenFault.{OpenFault}
use Rattle.tb_desk.specs.declared.fault.OpenFault.TheVariants as fault
use Rattle.tb_desk.specs.declared.fault.MigrateFault.TheVariants as migrate_fault
use Rattle.tb_commands.specs.declared.command_endings.CheckEnding.{CheckEnding}
use Rattle.tb_commands.specs.declared.command_endings.CheckEnding.TheVariants as check_ending
use Rattle.tb_commands.specs.declared.command_endings.DiskEnding.{DiskEnding}
use Rattle.tb_commands.specs.declared.command_endings.DiskEnding.TheVariants as disk_ending
use Rattle.tb_commands.specs.declared.command_endings.MigrateEnding.{MigrateEnding}
use Rattle.tb_commands.specs.declared.command_endings.MigrateEnding.TheVariants as migrate_ending
use Rattle.tb_commands.specs.declared.command_endings.PrintEnding.{PrintEnding}
use Rattle.tb_commands.specs.declared.command_endings.PrintEnding.TheVariants as print_ending
use Rattle.tb_commands.specs.declared.command_endings.RegisterEnding.{RegisterEnding}
use Rattle.tb_commands.specs.declared.command_endings.RegisterEnding.TheVariants as register_ending
use Rattle.tb_commands.specs.declared.command_endings.SendEnding.{SendEnding}
use Rattle.tb_commands.specs.declared.command_endings.SendEnding.TheVariants as send_ending
use Rattle.tb_commands.specs.declared.command_endings.ServeEnding.{ServeEnding}
use Rattle.tb_commands.specs.declared.command_endings.ServeEnding.TheVariants as serve_ending
use Rattle.tb_commands.specs.declared.command_endings.TakeEnding.{TakeEnding}
use Rattle.tb_commands.specs.declared.command_endings.TakeEnding.TheVariants as take_ending
use Rattle.tb_commands.specs.declared.command_endings.TextEnding.{TextEnding}
use Rattle.tb_commands.specs.declared.command_endings.TextEnding.TheVariants as text_ending
use Rattle.tb_commands.specs.declared.ending.Ending.{Ending}
use Rattle.tb_commands.specs.declared.ending.Ending.TheVariants as ending

-- the status of the program
abbrev pub status_of : Ending → ℕ
status_of ending.Done = 0
status_of ending.Usage = 2
status_of (ending.BadInput line) = 3
status_of ending.ReadFault = 4
status_of ending.WriteFault = 5
status_of ending.DiskFault = 6
status_of (ending.NotAJournal found) = 7
status_of (ending.Damaged place) = 8
status_of ending.OutOfMemory = 9
status_of ending.GateFault = 10
status_of (ending.Unsealed byte) = 11
status_of (ending.RegisterDiffers auction) = 12
status_of ending.KeeperFault = 13
status_of (ending.Forked place) = 14
status_of (ending.DamagedBehind place) = 15

-- the ending where the desk wasn't opened
abbrev pub ending_of : OpenFault → Ending
ending_of fault.DiskFault = ending.DiskFault
ending_of (fault.NotAJournal found) = ending.NotAJournal found
ending_of (fault.Unsealed byte) = ending.Unsealed byte
ending_of (fault.Damaged place) = ending.Damaged place
ending_of fault.OutOfMemory = ending.OutOfMemory

-- the program's ending where a command that reads a text ended so
abbrev pub of_text : TextEnding → Ending
of_text text_ending.Done = ending.Done
of_text (text_ending.BadInput number) = ending.BadInput number
of_text text_ending.ReadFault = ending.ReadFault
of_text text_ending.WriteFault = ending.WriteFault
of_text text_ending.OutOfMemory = ending.OutOfMemory

-- where one that only prints did
abbrev pub of_print : PrintEnding → Ending
of_print print_ending.Done = ending.Done
of_print print_ending.WriteFault = ending.WriteFault
of_print print_ending.OutOfMemory = ending.OutOfMemory

-- where one that opens the disk did, whose ending on a desk is that of the program
abbrev pub of_disk : {E : Type 0} → (E → Ending) → DiskEnding E → Ending
of_disk of_own (disk_ending.Opened own) = of_own own
of_disk of_own (disk_ending.Unopened why) = ending_of why

-- where `migrate` did
abbrev pub of_migrate : MigrateEnding → Ending
of_migrate migrate_ending.Done = ending.Done
of_migrate migrate_ending.WriteFault = ending.WriteFault
of_migrate (migrate_ending.Unmigrated (migrate_fault.From why)) = ending_of why
of_migrate (migrate_ending.Unmigrated migrate_fault.SpareFault) = ending.DiskFault

-- where `follow send` did, on a desk
abbrev pub of_send : SendEnding → Ending
of_send send_ending.Done = ending.Done
of_send send_ending.WriteFault = ending.WriteFault
of_send send_ending.DiskFault = ending.DiskFault
of_send (send_ending.Damaged place) = ending.Damaged place

-- where `check` did, on a desk
abbrev pub of_check : CheckEnding → Ending
of_check check_ending.Done = ending.Done
of_check check_ending.WriteFault = ending.WriteFault
of_check check_ending.DiskFault = ending.DiskFault
of_check (check_ending.DamagedBehind place) = ending.DamagedBehind place

-- where `follow take` did, with a copy that was opened
abbrev pub of_take : TakeEnding → Ending
of_take take_ending.Done = ending.Done
of_take (take_ending.BadInput number) = ending.BadInput number
of_take take_ending.ReadFault = ending.ReadFault
of_take take_ending.WriteFault = ending.WriteFault
of_take take_ending.DiskFault = ending.DiskFault
of_take (take_ending.Forked place) = ending.Forked place
of_take take_ending.OutOfMemory = ending.OutOfMemory

-- where `register` did, on a desk
abbrev pub of_register : RegisterEnding → Ending
of_register register_ending.Done = ending.Done
of_register register_ending.WriteFault = ending.WriteFault
of_register (register_ending.Differs auction) = ending.RegisterDiffers auction
of_register (register_ending.KeeperFault) = ending.KeeperFault
of_register (register_ending.OutOfMemory) = ending.OutOfMemory

-- where `serve` did
abbrev pub of_serve : ServeEnding → Ending
of_serve serve_ending.Done = ending.Done
of_serve serve_ending.WriteFault = ending.WriteFault
of_serve serve_ending.GateFault = ending.GateFault
of_serve (serve_ending.Unserved why) = ending_of why

-- the disk failed, or was refused: but for `follow` before anything was read
abbrev pub IsUnopened : Ending → Type 0
IsUnopened ending.DiskFault = Unit {0}
IsUnopened (ending.NotAJournal found) = Unit {0}
IsUnopened (ending.Unsealed byte) = Unit {0}
IsUnopened (ending.Damaged place) = Unit {0}
IsUnopened ended = ⊥

-- bytes in lower-case hexadecimal, two digits each
abbrev pub hexadecimal : List ℕ → List ℕ
hexadecimal bytes = flat_map (λ (byte : ℕ). digit_glyph false (byte / 16) ∷ digit_glyph false (byte % 16) ∷ []) bytes

-- what is told of a status
abbrev pub message_of : Ending → List ℕ
message_of ending.Done = []
message_of ending.Usage = codes "usage" ++ line_feed ∷ []
message_of (ending.BadInput line) = codes "bad input at line " ++ decimal line ++ line_feed ∷ []
message_of ending.ReadFault = codes "read fault" ++ line_feed ∷ []
message_of ending.WriteFault = codes "write fault" ++ line_feed ∷ []
message_of ending.DiskFault = codes "disk fault" ++ line_feed ∷ []
message_of (ending.NotAJournal found) = codes "not a journal " ++ hexadecimal found ++ line_feed ∷ []
message_of (ending.Damaged place) = codes "damaged at " ++ decimal place ++ line_feed ∷ []
message_of ending.OutOfMemory = codes "out of memory" ++ line_feed ∷ []
message_of ending.GateFault = codes "gate fault" ++ line_feed ∷ []
message_of (ending.Unsealed byte) = codes "unsealed " ++ hexadecimal (byte ∷ []) ++ line_feed ∷ []
message_of (ending.RegisterDiffers auction) = codes "register differs at " ++ auction ++ line_feed ∷ []
message_of ending.KeeperFault = codes "keeper fault" ++ line_feed ∷ []
message_of (ending.Forked place) = codes "forked at " ++ decimal place ++ line_feed ∷ []
message_of (ending.DamagedBehind place) = codes "damaged behind " ++ decimal place ++ line_feed ∷ []

-- the sink has taken the message whole, or failed and has taken a prefix of it
abbrev pub Tells : SinkState → SinkState → List ℕ → Type 0
Tells old new message = Takes old new message ⊎ FailsToTake old new message
