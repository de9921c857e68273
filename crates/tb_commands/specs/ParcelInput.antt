-- The parcels that a source still has, and what reading one of them does.
use Rattle.std.specs.Prelude.{◌≡◌, ℕ, ◌<◌, ◌≤◌, List, [], ◌++◌, length, take, Option, Some, None, Result, Ok, Err}
use Rattle.tb_link.specs.Sources.{SourceState}
use Rattle.tb_parcel.specs.declared.parcel.Parcel.{Parcel}
use Rattle.tb_parcel.specs.declared.parcel.ParcelFront.TheVariants.{More}
use Rattle.tb_parcel.specs.Parcels.{BeginsWithNone, IsFront, IsShort, parcel_bytes}
use Rattle.tb_lines.specs.Pieces.{coming, waiting}
use Rattle.tb_lines.specs.Reads.{AreReads}
use Rattle.tb_lines.specs.Told.{WhereTold}
use Rattle.tb_lines.specs.declared.pieces.InputFault.{InputFault}
use Rattle.tb_lines.specs.declared.pieces.InputFault.TheVariants as input_fault
use Rattle.tb_commands.specs.declared.parcel_input.ParcelFault.{ParcelFault}
use Rattle.tb_commands.specs.declared.parcel_input.ParcelFault.TheVariants as fault
use Rattle.tb_commands.specs.declared.parcel_input.ParcelReader.{ParcelReader}

-- a fault of the input, where a parcel was to be read
abbrev pub fault_of : InputFault → ParcelFault
fault_of input_fault.Read = fault.Read
fault_of input_fault.OutOfMemory = fault.OutOfMemory

-- the bytes that the reader has and has not given yet
abbrev pub ungiven : ParcelReader → List ℕ
ungiven reader = waiting reader.pieces

-- the bytes to come, where the source tells those left
abbrev pub to_come : ParcelReader → SourceState → Option (List ℕ)
to_come reader source = coming reader.pieces source

-- What is found in front of bytes to come, and what is to come then: a parcel, or their end, or no parcel; and where a
-- read failed those that were read before are none yet, nor are they bad.
abbrev pub FindsParcel : Result (Option Parcel) ParcelFault → List ℕ → Option (List ℕ) → List ℕ → Type 0
FindsParcel (Ok (Some parcel)) text behind read =
    (rest : List ℕ) × (behind ≡ Some rest) × (text ≡ parcel_bytes parcel ++ rest)
FindsParcel (Ok None) text behind read = (text ≡ []) × (behind ≡ Some [])
FindsParcel (Err fault.Bad) text behind read = (1 ≤ length text) × BeginsWithNone text
FindsParcel (Err fault.Read) text behind read =
    (rest : List ℕ) × (text ≡ read ++ rest) × (behind ≡ Some text) × IsFront read More
FindsParcel (Err fault.OutOfMemory) text behind read = Unit {0}

-- the same, where the source tells its bytes
abbrev pub FindsWhereTold : Option (List ℕ) → Result (Option Parcel) ParcelFault → Option (List ℕ) → List ℕ → Type 0
FindsWhereTold ahead found behind read = WhereTold ahead (λ text. FindsParcel found text behind read)

-- what stands in front tells of these bytes only once they are all there
abbrev pub TellsLast : List ℕ → Type 0
TellsLast bytes = (count : ℕ) → count < length bytes → IsShort (take count bytes)

-- Nothing was read of a text behind the bytes that tell what it begins with: each read gave at least one of these, but
-- for one that found the end of the input.
pub record ReadsFront (before after : ℕ) (text : List ℕ) : Type 0 where
  pub front : List ℕ
  pub rest : List ℕ
  pub text_is : text ≡ front ++ rest
  pub tells : TellsLast front
  pub reads : AreReads before after front rest
