-- Which endings a command may have, by what its input and its disk tell.
use Rattle.std.specs.Prelude.{◌≡◌, ◌⊎◌, ℕ, List, [], ◌∷◌, ◌++◌, Some, Ok, Err, IfSome}
use Rattle.std.specs.Str.Lines.{lines}
use Rattle.tb_link.specs.Sources.{SourceState}
use Rattle.tb_disk.specs.Disks.{DiskState}
use Rattle.tb_disk.specs.Past.{Past, contents_of}
use Rattle.tb_history.specs.Legal.{IsLegal}
use Rattle.tb_desk.specs.Stands.{StandsForHistoryIn}
use Rattle.tb_desk.specs.Replay.{IsExact, IsTrueIn, SpeaksOfFile}
use Rattle.tb_desk.specs.declared.fault.OpenFault.{OpenFault}
use Rattle.tb_message.specs.declared.message.Entry.{Entry}
use Rattle.tb_message.specs.declared.version.Version.{Version}
use Rattle.tb_message.specs.declared.version.Version.TheVariants.{First, Second}
use Rattle.tb_import.specs.Tables.{IsFirstBad, IsTable}
use Rattle.tb_parcel.specs.declared.parcel.Parcel.{Parcel}
use Rattle.tb_replica.specs.declared.taken.TakeFault.TheVariants as fault
use Rattle.tb_words.specs.declared.command.Command.{Command}
use Rattle.tb_words.specs.declared.command.Command.TheVariants as command
use Rattle.tb_text_book.specs.Books.{HasBadLine, HasBook}
use Rattle.tb_commands.specs.Endings.{ending_of}
use Rattle.tb_commands.specs.FollowTakeRun.{BreaksAt, IsFirstBadParcel, IsParcels, bytes_of}
use Rattle.tb_commands.specs.ImportRun.{SentRow}
use Rattle.tb_commands.specs.Scripts.{HasScript, LeavesScript}
use Rattle.tb_lines.specs.Told.{WhereTold}
use Rattle.tb_commands.specs.declared.ending.Ending.{Ending}
use Rattle.tb_commands.specs.declared.ending.Ending.TheVariants as ending

-- the disk tells that it stands for a legal history in this version
abbrev pub HasHistoryIn : Version → DiskState → Type 0
HasHistoryIn version disk = (past : Past) × (disk.past ≡ Some past)
    × (history : List Entry) × StandsForHistoryIn version history (contents_of past) × IsLegal history

-- memory ran out, which may come at any time
abbrev pub LackedMemory : Ending → Type 0
LackedMemory ended = ended ≡ ending.OutOfMemory

-- the input failed, or memory ran out
abbrev pub LackedInput : Ending → Type 0
LackedInput ended = (ended ≡ ending.ReadFault) ⊎ LackedMemory ended

-- all was done, or the output failed, or memory ran out
abbrev pub IsAnswered : Ending → Type 0
IsAnswered ended = (ended ≡ ending.Done) ⊎ (ended ≡ ending.WriteFault) ⊎ LackedMemory ended

-- a line is told
abbrev pub IsRefused : Ending → Type 0
IsRefused ended = (number : ℕ) × (ended ≡ ending.BadInput number)

-- The disk is opened where it stands for a legal history in this version, unless it fails or memory runs out; a file
-- that is no journal, unsealed or damaged is told so, with the same exceptions.
pub record OpensIn (version : Version) (disk : DiskState) (ended : Ending) (Then : Type 0) : Type 0 where
  pub history : HasHistoryIn version disk → (ended ≡ ending.DiskFault) ⊎ LackedMemory ended ⊎ Then
  pub refused : IfSome disk.past (λ past. (why : OpenFault)
      → IsTrueIn version (contents_of past) (Err why)
      → SpeaksOfFile (Err why)
      → (ended ≡ ending_of why) ⊎ (ended ≡ ending.DiskFault) ⊎ LackedMemory ended)

-- the same in the second
abbrev pub Opens : DiskState → Ending → Type 0 → Type 0
Opens disk ended Then = OpensIn Second disk ended Then

-- A text in the grammar is answered, unless the input fails; and one outside it is refused.
pub record Answers (ended : Ending) (IsIn IsOutside : Type 0) : Type 0 where
  pub answered : IsIn → LackedInput ended ⊎ IsAnswered ended
  pub refused : IsOutside → LackedInput ended ⊎ IsRefused ended

-- the same of a script, whose lines are answered before the one that is outside
pub record AnswersScript (ended : Ending) (IsIn IsOutside : Type 0) : Type 0 where
  pub answered : IsIn → LackedInput ended ⊎ IsAnswered ended
  pub refused : IsOutside → LackedInput ended ⊎ (ended ≡ ending.WriteFault) ⊎ IsRefused ended

-- the register had another row of an auction, which is named
abbrev pub HasDiffered : Ending → Type 0
HasDiffered ended = (auction : List ℕ) × (ended ≡ ending.RegisterDiffers auction)

-- damage was found behind the gate at a place, which is told
abbrev pub FoundDamage : Ending → Type 0
FoundDamage ended = (place : ℕ) × (ended ≡ ending.DamagedBehind place)

-- the disk failed, or memory ran out
abbrev pub LackedDisk : Ending → Type 0
LackedDisk ended = (ended ≡ ending.DiskFault) ⊎ LackedMemory ended

-- one of the parcels of a text is a fork of the history that the disk stands for, and is told
pub record IsForked (disk : DiskState) (text : List ℕ) (ended : Ending) : Type 0 where
  pub place : ℕ
  pub told : ended ≡ ending.Forked place
  pub history : List Entry
  pub stood : IfSome disk.past (λ past. IsExact (contents_of past) (Ok history))
  pub parcels : List Parcel
  pub parcel : Parcel
  pub last : List Entry
  pub forks : BreaksAt (fault.Forked place) parcels parcel history last (λ now. Unit {0})
  pub rest : List ℕ
  pub is : text ≡ bytes_of (parcels ++ parcel ∷ []) ++ rest

-- Parcels are all taken, unless the input or the disk fails or one of them is a fork; and a text with a bad one is
-- refused.
pub record AnswersParcels (disk : DiskState) (text : List ℕ) (ended : Ending) : Type 0 where
  pub answered : (parcels : List Parcel) → IsParcels parcels text
      → LackedDisk ended ⊎ (ended ≡ ending.ReadFault) ⊎ IsForked disk text ended ⊎ IsAnswered ended
  pub refused : (number : ℕ) (parcels : List Parcel) → IsFirstBadParcel number parcels text
      → LackedDisk ended ⊎ (ended ≡ ending.ReadFault) ⊎ IsForked disk text ended ⊎ (ended ≡ ending.BadInput number)

-- Each command is answered: its input and its disk decide how it ends, unless an object fails or memory runs out.
abbrev pub Completes : Command → SourceState → DiskState → Ending → Type 0
Completes (command.Award full) input disk ended =
    WhereTold input.left (λ text. Answers ended (HasBook (lines text)) (HasBadLine (lines text)))
Completes (command.Run operator) input disk ended =
    Opens disk ended (WhereTold input.left (λ text. AnswersScript ended (HasScript (lines text))
    ((number : ℕ) × LeavesScript number (lines text))))
Completes (command.Serve operator port workers links) input disk ended =
    Opens disk ended ((ended ≡ ending.GateFault) ⊎ IsAnswered ended)
Completes (command.Import operator caller) input disk ended =
    Opens disk ended (WhereTold input.left (λ text. Answers ended ((rows : List SentRow) × IsTable text rows)
    ((number : ℕ) × IsFirstBad text number)))
Completes (command.Report operator caller asked csv) input disk ended = Opens disk ended (IsAnswered ended)
Completes command.Migrate input disk ended = OpensIn First disk ended (IsAnswered ended)
Completes command.Check input disk ended =
    Opens disk ended ((ended ≡ ending.DiskFault) ⊎ FoundDamage ended ⊎ IsAnswered ended)
Completes (command.FollowSend from) input disk ended = Opens disk ended ((ended ≡ ending.DiskFault) ⊎ IsAnswered ended)
Completes command.FollowTake input disk ended =
    Opens disk ended (WhereTold input.left (λ text. AnswersParcels disk text ended))
Completes (command.Register bill) input disk ended =
    Opens disk ended ((ended ≡ ending.KeeperFault) ⊎ HasDiffered ended ⊎ IsAnswered ended)
Completes (command.Trial seed count) input disk ended = IsAnswered ended
