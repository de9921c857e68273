-- The bytes of parcels.
use Rattle.std.specs.Prelude.{◌≡◌, ◌⊎◌, ℕ, ◌+◌, ◌<◌, ◌≤◌, List, ◌++◌, length, take, drop}
use Rattle.std.specs.Int.{w32, w64, to_be_bytes, from_be_bytes}
use Rattle.tb_message.specs.Spelling.{spelling, IsInRange}
use Rattle.tb_parcel.specs.declared.parcel.Parcel.{Parcel}
use Rattle.tb_parcel.specs.declared.parcel.ParcelFront.{ParcelFront}
use Rattle.tb_parcel.specs.declared.parcel.ParcelFront.TheVariants.{Whole, More, Bad}

-- four bytes of the record's length, eight of the place, and the record
abbrev pub parcel_bytes : Parcel → List ℕ
parcel_bytes parcel =
    to_be_bytes w32 (length (spelling parcel.entry)) ++ (to_be_bytes w64 parcel.place ++ spelling parcel.entry)

-- the bytes begin with the parcel, which is so long
pub record BeginsWith (bytes : List ℕ) (parcel : Parcel) (size : ℕ) : Type 0 where
  pub in_range : IsInRange parcel.entry
  pub begins : bytes ≡ parcel_bytes parcel ++ drop size bytes
  pub whole : size ≡ length (parcel_bytes parcel)

abbrev pub BeginsWithNone : List ℕ → Type 0
BeginsWithNone bytes = (parcel : Parcel) (size : ℕ) → ¬ (BeginsWith bytes parcel size)

-- the length that the first four bytes say
abbrev pub length_in : List ℕ → ℕ
length_in bytes = from_be_bytes w32 (take 4 bytes)

-- fewer than four bytes, or fewer than a good length needs
abbrev pub IsShort : List ℕ → Type 0
IsShort bytes =
    (length bytes < 4)
    ⊎ ((1 ≤ length_in bytes) × (length_in bytes ≤ 512) × (length bytes < 12 + length_in bytes))

-- what the bytes begin with
abbrev pub IsFront : List ℕ → ParcelFront → Type 0
IsFront bytes (Whole parcel size) = BeginsWith bytes parcel size
IsFront bytes More = BeginsWithNone bytes × IsShort bytes
IsFront bytes Bad = BeginsWithNone bytes × (¬ (IsShort bytes))
