-- Tables of bids, as `csv` reads records.
use Rattle.std.specs.Prelude.{◌≡◌, ◌≢◌, ◌⊎◌, ℕ, ◌+◌, ◌≤◌, ◌<◌, List, [], ◌∷◌, ◌++◌, length, map, Some, codes}
use Rattle.std.specs.Borrow.{Bor}
use Rattle.csv.specs.Reading.{AreRecords, Reached, Ready, default_config, source_of, strip_bom}
use Rattle.csv.specs.declared.parser.State.{State}
use Rattle.csv.specs.declared.parser.State.TheVariants as st
use Rattle.csv.specs.declared.reader.Reader.{Reader}
use Rattle.csv.specs.declared.reader.Trim.TheVariants as trim
use Rattle.tb_message.specs.declared.message.Message.{Message}
use Rattle.tb_import.specs.declared.row.Row.{Row}
use Rattle.tb_import.specs.Rows.{Fields, AreRowsOf, IsRowOf, first_seen, row_of}

-- the fields of the first record
abbrev pub header : Fields
header = codes "number" ∷ codes "auction" ∷ codes "bidder" ∷ codes "rate" ∷ codes "amount" ∷ []

-- these are all records of the input, behind a byte order mark if it has one
abbrev pub AreRecordsOf : List ℕ → List Fields → Type 0
AreRecordsOf bytes records = AreRecords default_config st.StartRecord (strip_bom bytes) records

-- the records of the input begin with these
abbrev pub BeginsWith : List ℕ → List Fields → Type 0
BeginsWith bytes records =
    (state : State) × (left : List ℕ) × Reached default_config st.StartRecord (strip_bom bytes) records state left

-- the reader has read these records of the input
pub record HasRead (bytes : List ℕ) (records : List Fields) (reader : Reader (Bor (List ℕ))) : Type 0 where
  pub untrimmed : reader.trim ≡ trim.None
  pub ready : Ready reader
  pub plain : reader.config ≡ default_config
  pub left : List ℕ
  pub source : source_of (λ s. Some s.now) reader ≡ Some left
  pub reached : Reached default_config st.StartRecord (strip_bom bytes) records reader.state left

-- bytes of an input, and rows behind its header, at most
abbrev pub most_bytes : ℕ
most_bytes = 134217728

abbrev pub most_rows : ℕ
most_rows = 999999

-- the messages sent are those of the rows of the records behind the header, each row once, at the place where it was
-- first seen
pub record IsTable (bytes : List ℕ) (sent : List (ℕ × Message)) : Type 0 where
  pub records : List Fields
  pub rows : List Row
  pub few_bytes : length bytes ≤ most_bytes
  pub few_rows : length records ≤ most_rows
  pub all : AreRecordsOf bytes (header ∷ records)
  pub read : AreRowsOf records rows
  pub distinct : map row_of sent ≡ map Some (first_seen rows)

-- the record behind these rows is no row, or one too many
pub record HasBadRow (bytes : List ℕ) (place : ℕ) : Type 0 where
  pub records : List Fields
  pub rows : List Row
  pub bad : Fields
  pub few_bytes : length bytes ≤ most_bytes
  pub begins : BeginsWith bytes (header ∷ records ++ bad ∷ [])
  pub read : AreRowsOf records rows
  pub within : length records ≤ most_rows
  pub cause : (length records ≡ most_rows) ⊎ ((row : Row) → ¬ (IsRowOf bad row))
  pub here : place ≡ length records + 2

-- the first record is bad: there are too many bytes, there is none, or it is another than the header
abbrev pub HasBadHeader : List ℕ → Type 0
HasBadHeader bytes =
    (most_bytes < length bytes)
    ⊎ (AreRecordsOf bytes [] ⊎ ((first : Fields) × BeginsWith bytes (first ∷ []) × (first ≢ header)))

-- the first record that isn't of the form is this one, counted from 1
abbrev pub IsFirstBad : List ℕ → ℕ → Type 0
IsFirstBad bytes place = (HasBadHeader bytes × (place ≡ 1)) ⊎ HasBadRow bytes place
