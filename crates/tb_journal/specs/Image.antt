-- Which bytes stand for which payloads, and which stand for none.
use Rattle.std.specs.Prelude.{◌≡◌, ◌≢◌, ◌⊎◌, ℕ, ◌+◌, ◌<◌, ◌≤◌, List, [], ◌∷◌, ◌++◌, length, take, slice_index}
use Rattle.std.specs.Int.{w32, from_be_bytes}
use Rattle.tb_journal.specs.declared.form.Form.{Form}
use Rattle.tb_journal.specs.declared.form.Form.TheVariants.{Second}
use Rattle.tb_journal.specs.Frames.{title_of, open_gate, sealed, empty_of, head_of, head_in, ArePayloads, front_in}

-- the header, the frames, a gate byte that isn't 1 (which is open), and anything after
pub record IsFramedIn (form : Form) (payloads : List (List ℕ)) (file : List ℕ) : Type 0 where
  pub sizes : ArePayloads payloads
  pub gate : ℕ
  pub rest : List ℕ
  pub is : file ≡ front_in form payloads ++ gate ∷ rest
  pub closed : gate ≢ open_gate

-- Files no longer than an empty journal stand for no payload, whatever they are.
abbrev pub StandsIn : Form → List (List ℕ) → List ℕ → Type 0
StandsIn form payloads file =
    ((length file ≤ empty_of form) × (payloads ≡ []))
    ⊎ ((empty_of form < length file) × IsFramedIn form payloads file)

-- a longer file that doesn't begin with the title, but with these bytes
pub record IsForeignTo (form : Form) (file found : List ℕ) : Type 0 where
  pub long : empty_of form < length file
  pub begins : found ≡ take 16 file
  pub differs : found ≢ title_of form

-- more than 18 bytes with the title, and this byte that isn't 1 in the place of the seal
pub record IsUnsealed (file : List ℕ) (byte : ℕ) : Type 0 where
  pub long : empty_of Second < length file
  pub begins : take 16 file ≡ title_of Second
  pub is : slice_index file 16 ≡ byte
  pub differs : byte ≢ sealed

-- the number in the first four bytes
abbrev pub length_in : List ℕ → ℕ
length_in bytes = from_be_bytes w32 (take 4 bytes)

-- behind a gate byte: a length outside 1 to 32,768, or one that runs past the end, or another ordinal
abbrev pub IsNoFrameIn : Form → ℕ → List ℕ → Type 0
IsNoFrameIn form ordinal rest =
    (length rest < head_of form) ⊎ (length_in rest < 1) ⊎ (32768 < length_in rest)
    ⊎ (length rest < head_of form + length_in rest)
    ⊎ (take (head_of form) rest ≢ head_in form ordinal (length_in rest))

-- where the gate byte of the frame with this ordinal should stand: the end of the file, or an open gate before no frame
abbrev pub IsBrokenIn : Form → ℕ → List ℕ → Type 0
IsBrokenIn form ordinal [] = Unit {0}
IsBrokenIn form ordinal (gate ∷ rest) = (gate ≡ open_gate) × IsNoFrameIn form ordinal rest

-- behind whole frames, at this place, there is no gate byte, or an open one before no frame
pub record IsDamagedIn (form : Form) (file : List ℕ) (place : ℕ) : Type 0 where
  pub long : empty_of form < length file
  pub payloads : List (List ℕ)
  pub sizes : ArePayloads payloads
  pub rest : List ℕ
  pub is : file ≡ front_in form payloads ++ rest
  pub at : length (front_in form payloads) ≡ place
  pub broken : IsBrokenIn form (length payloads) rest

-- the same in the second form
abbrev pub IsFramed : List (List ℕ) → List ℕ → Type 0
IsFramed payloads file = IsFramedIn Second payloads file

abbrev pub StandsFor : List (List ℕ) → List ℕ → Type 0
StandsFor payloads file = StandsIn Second payloads file

abbrev pub IsNoJournal : List ℕ → List ℕ → Type 0
IsNoJournal file found = IsForeignTo Second file found

abbrev pub IsDamaged : List ℕ → ℕ → Type 0
IsDamaged file place = IsDamagedIn Second file place
