-- What the command `follow take` takes and prints, and what it does to its input, its output and its disk.
use Rattle.std.specs.Prelude.{◌≡◌, ◌⊎◌, ℕ, ◌+◌, ◌^◌, ◌≤◌, List, [], ◌∷◌, ◌++◌, length, All, Some, Err, codes}
use Rattle.std.specs.Fmt.{decimal}
use Rattle.std.specs.List.{flat_map}
use Rattle.tb_units.specs.Bytes.{line_feed}
use Rattle.tb_link.specs.Counts.{Rose}
use Rattle.tb_link.specs.Sources.{SourceState}
use Rattle.tb_link.specs.Sinks.{Takes, FailsToTake}
use Rattle.tb_message.specs.declared.message.Entry.{Entry}
use Rattle.tb_message.specs.Spelling.{IsInRange}
use Rattle.tb_parcel.specs.declared.parcel.Parcel.{Parcel}
use Rattle.tb_parcel.specs.declared.parcel.ParcelFront.TheVariants.{More}
use Rattle.tb_parcel.specs.Parcels.{BeginsWithNone, IsFront, parcel_bytes}
use Rattle.tb_replica.specs.Arrival.{AreTaken}
use Rattle.tb_replica.specs.Crashes.{IsInDoubt, WaitsFor}
use Rattle.tb_replica.specs.Followers.{IsFresh}
use Rattle.tb_replica.specs.Following as followed
use Rattle.tb_replica.specs.Following.{Following}
use Rattle.tb_replica.specs.declared.taken.TakeFault.{TakeFault}
use Rattle.tb_replica.specs.declared.taken.TakeFault.TheVariants as fault
use Rattle.tb_commands.specs.RunEnds.{Devices, EndsOnDisk}
use Rattle.tb_commands.specs.Standings.{Standing, held_at, in_doubt}
use Rattle.tb_lines.specs.Reads.{ReadsToEnd}
use Rattle.tb_lines.specs.Told.{WhereTold}
use Rattle.tb_commands.specs.ParcelInput.{ReadsFront}
use Rattle.tb_commands.specs.declared.command_endings.DiskEnding.{DiskEnding}
use Rattle.tb_commands.specs.declared.command_endings.TakeEnding.{TakeEnding}
use Rattle.tb_commands.specs.declared.command_endings.TakeEnding.TheVariants as ending

-- parcels of one input, at most
abbrev pub most_parcels : ℕ
most_parcels = 2 ^ 40

-- the bytes of parcels, one behind the other
abbrev pub bytes_of : List Parcel → List ℕ
bytes_of parcels = flat_map parcel_bytes parcels

-- an input has no more parcels than this, and the values of each are in their ranges
pub record AreParcels (parcels : List Parcel) : Type 0 where
  pub few : length parcels ≤ most_parcels
  pub in_range : All (λ (parcel : Parcel). IsInRange parcel.entry) parcels

-- the text is these parcels and nothing else
abbrev pub IsParcels : List Parcel → List ℕ → Type 0
IsParcels parcels text = AreParcels parcels × (text ≡ bytes_of parcels)

-- The text has more than the parcels before this one: its rest is no parcel, or cut short, or one parcel too many.
pub record IsFirstBadParcel (number : ℕ) (parcels : List Parcel) (text : List ℕ) : Type 0 where
  pub before : AreParcels parcels
  pub counted : number ≡ length parcels + 1
  pub rest : List ℕ
  pub is : text ≡ bytes_of parcels ++ rest
  pub more : 1 ≤ length rest
  pub bad : BeginsWithNone rest ⊎ (length parcels ≡ most_parcels)

-- A copy of this history, which keeps nothing ahead, has taken these parcels, one after another.
pub record HasTaken (history : List Entry) (parcels : List Parcel) (now : Following) : Type 0 where
  pub opened : Following
  pub begins : opened.history ≡ history
  pub fresh : IsFresh opened
  pub taken : AreTaken parcels opened now

-- nothing is in doubt, and nothing was on the way
abbrev pub IsSureSince : Standing → Standing → Type 0
IsSureSince first last = (last.doubt ≡ []) × (last.doubted ≡ first.doubted)

-- the copy has taken these parcels, which make the first history the last one
abbrev pub HasCome : List Parcel → Standing → Standing → Type 0
HasCome parcels first last =
    (now : Following) × HasTaken first.history parcels now × (last.history ≡ now.history) × IsSureSince first last

-- the copy has taken these parcels, and the one behind them was answered so, which leaves this to the copy before it
abbrev pub BreaksAt : TakeFault → List Parcel → Parcel → List Entry → List Entry → (Following → Type 0) → Type 0
BreaksAt why parcels parcel first last Leaves =
    (now after : Following) × HasTaken first parcels now × followed.Takes parcel now after (Err why)
    × (last ≡ after.history)
    × Leaves now

-- What the answer to a parcel leaves in doubt. After a fault of the disk it is what waited for the place behind the
-- history, the entry of the parcel or one that was kept, and nothing else ever was.
abbrev pub LeavesInDoubt : TakeFault → Parcel → Standing → Standing → Following → Type 0
LeavesInDoubt fault.DiskFault parcel first last now =
    IsInDoubt (WaitsFor parcel now) (held_at last) × (last.doubted ≡ first.doubted ++ in_doubt last ∷ [])
LeavesInDoubt why parcel first last now = IsSureSince first last

-- the copy has taken these parcels, and the one behind them was answered so and ended the command
abbrev pub BreaksBehind : TakeFault → List Parcel → Parcel → Standing → Standing → Type 0
BreaksBehind why parcels parcel first last =
    BreaksAt why parcels parcel first.history last.history (LeavesInDoubt why parcel first last)

-- where the input is told it begins with these parcels, and this is so of the rest of it
abbrev pub BeginsWithParcels : List Parcel → SourceState → (List ℕ → Type 0) → Type 0
BeginsWithParcels parcels input Holds =
    AreParcels parcels × WhereTold input.left (λ text. (rest : List ℕ) × (text ≡ bytes_of parcels ++ rest) × Holds rest)

-- each read gave at least one byte of these parcels, so that nothing behind them was read
abbrev pub ReadsParcels : List Parcel → SourceState → SourceState → Type 0
ReadsParcels parcels input input' = input'.reads ≤ input.reads + length (bytes_of parcels)

-- Behind these parcels nothing was read of a text but the bytes that tell what comes next: each read gave at least one
-- byte of these or of those, but for one that found the end of the input.
pub record ReadsBehind (parcels : List Parcel) (before after : ℕ) (text : List ℕ) : Type 0 where
  pub rest : List ℕ
  pub text_is : text ≡ bytes_of parcels ++ rest
  pub reads : ReadsFront (before + length (bytes_of parcels)) after rest

-- the whole input is parcels, each of them was taken, and the end of the input was found once
abbrev pub TakesAll : SourceState → SourceState → Standing → Standing → Type 0
TakesAll input input' first last =
    (parcels : List Parcel) × HasCome parcels first last
    × BeginsWithParcels parcels input (λ rest. (rest ≡ []) × (input'.left ≡ Some []))
    × WhereTold input.left (ReadsToEnd input.reads input'.reads)

-- the parcels before this one were taken, which is the first bad one, and nothing was read behind what tells this
abbrev pub TakesBefore : ℕ → SourceState → SourceState → Standing → Standing → Type 0
TakesBefore number input input' first last =
    (parcels : List Parcel) × HasCome parcels first last
    × AreParcels parcels
    × WhereTold input.left (IsFirstBadParcel number parcels)
    × WhereTold input.left (ReadsBehind parcels input.reads input'.reads)

-- the parcels that were whole in the bytes read were taken: what was read behind them begins with none yet, and isn't
-- bad
abbrev pub TakesWhole : SourceState → SourceState → Standing → Standing → Type 0
TakesWhole input input' first last =
    (parcels : List Parcel) × HasCome parcels first last
    × BeginsWithParcels parcels input (λ rest. (begun : List ℕ) × (left : List ℕ) × (rest ≡ begun ++ left)
    × (input'.left ≡ Some left)
    × IsFront begun More)
    × WhereTold input.left (ReadsBehind parcels input.reads input'.reads)

-- the first parcels of the input were taken, and nothing was read behind what tells the next
abbrev pub TakesFirst : SourceState → SourceState → Standing → Standing → Type 0
TakesFirst input input' first last =
    (parcels : List Parcel) × HasCome parcels first last × BeginsWithParcels parcels input (λ rest. Unit {0})
    × WhereTold input.left (ReadsBehind parcels input.reads input'.reads)

-- the first parcels of the input were taken, the one behind them was answered so, and nothing was read behind that
abbrev pub BreaksOff : TakeFault → SourceState → SourceState → Standing → Standing → Type 0
BreaksOff why input input' first last =
    (parcels : List Parcel) × (parcel : Parcel) × BreaksBehind why parcels parcel first last
    × BeginsWithParcels (parcels ++ parcel ∷ []) input (λ rest. Unit {0})
    × ReadsParcels (parcels ++ parcel ∷ []) input input'

-- the line that tells how many entries there are
abbrev pub next_text : ℕ → List ℕ
next_text entries = codes "next " ++ decimal entries ++ line_feed ∷ []

-- How the parcels of an input were taken up to an ending that is told before anything is printed; the disk's count of
-- faults goes from the first to the second. A read that failed is told as nothing but a read that failed, so that none
-- is made while a whole parcel waits, or a bad one.
abbrev pub TakesInPart : TakeEnding → SourceState → SourceState → ℕ → ℕ → Standing → Standing → Type 0
TakesInPart (ending.BadInput number) input input' faults faults' first last =
    TakesBefore number input input' first last × (input'.faults ≡ input.faults) × (faults' ≡ faults)
TakesInPart ending.ReadFault input input' faults faults' first last =
    TakesWhole input input' first last × Rose input.faults input'.faults × (faults' ≡ faults)
TakesInPart ending.DiskFault input input' faults faults' first last =
    BreaksOff fault.DiskFault input input' first last × Rose faults faults' × (input'.faults ≡ input.faults)
TakesInPart (ending.Forked place) input input' faults faults' first last =
    BreaksOff (fault.Forked place) input input' first last
    × (last.doubt ≡ [])
    × (input'.faults ≡ input.faults)
    × (faults' ≡ faults)
TakesInPart ending.OutOfMemory input input' faults faults' first last =
    (BreaksOff fault.OutOfMemory input input' first last ⊎ TakesFirst input input' first last)
    × (last.doubt ≡ [])
    × (input'.faults ≡ input.faults)
    × (faults' ≡ faults)
TakesInPart ended input input' faults faults' first last = ⊥

-- How the parcels of an input were taken, with a copy that was opened. The number of entries is printed where all of
-- them were, and nothing else ever is.
abbrev pub TakeEnds : TakeEnding → SourceState → SourceState → Devices → Devices → Standing → Standing → Type 0
TakeEnds ending.Done input input' old new first last =
    TakesAll input input' first last × Takes old.out new.out (next_text (length last.history))
    × (input'.faults ≡ input.faults)
TakeEnds ending.WriteFault input input' old new first last =
    TakesAll input input' first last × FailsToTake old.out new.out (next_text (length last.history))
    × (input'.faults ≡ input.faults)
TakeEnds ended input input' old new first last =
    TakesInPart ended input input' old.disk.faults new.disk.faults first last × (new.out ≡ old.out)

-- How the command ends: parcels were taken, or no copy was opened.
abbrev pub FollowTakeEnds : DiskEnding TakeEnding → SourceState → SourceState → Devices → Devices → Type 0
FollowTakeEnds ended input input' old new =
    EndsOnDisk (λ own. TakeEnds own input input' old new) ended input input' old new
