-- Records of entries: the one spelling of each entry.
use Rattle.std.specs.Prelude.{◌≡◌, ◌≢◌, ℕ, List, [], ◌∷◌, ◌++◌, length, drop, true, ⊤}
use Rattle.std.specs.List.{flat_map}
use Rattle.std.specs.Int.{w16, w32, w64, to_be_bytes, cast_unsigned}
use Rattle.tb_message.specs.declared.message.Entry.{Entry}
use Rattle.tb_message.specs.declared.message.Message.{Message}
use Rattle.tb_message.specs.declared.version.Version.{Version}
use Rattle.tb_message.specs.declared.version.Version.TheVariants.{First, Second}
use Rattle.tb_message.specs.Forms.{Form, name, cusip, amount, money, number, position, rate, day}
use Rattle.tb_message.specs.Forms.{minute, moment, width_of, Part, text, whole, signed, is_of}
use Rattle.tb_message.specs.Kinds.{tag_of, forms_of}
use Rattle.tb_message.specs.Messages.{kind_of, parts_of}

-- a name is one length byte and its bytes, a CUSIP its nine bytes; numbers are big-endian, a position in two's
-- complement
unfoldable pub spelled : Form → Part → List ℕ
spelled name (text t) = length t ∷ t
spelled cusip (text t) = t
spelled amount (whole n) = to_be_bytes w64 n
spelled money (whole n) = to_be_bytes w64 n
spelled number (whole n) = to_be_bytes w64 n
spelled position (signed z) = to_be_bytes w64 (cast_unsigned w64 z)
spelled rate (whole n) = to_be_bytes w32 n
spelled day (whole n) = to_be_bytes w32 n
spelled minute (whole n) = to_be_bytes w16 n
spelled (moment version) (whole n) = to_be_bytes (width_of version) n
spelled form part = []

-- fields, one after another
abbrev pub spelled_all : List Form → List Part → List ℕ
spelled_all [] parts = []
spelled_all (form ∷ forms) [] = []
spelled_all (form ∷ forms) (part ∷ parts) = spelled form part ++ spelled_all forms parts

-- each part is in the range of its form
abbrev pub AreOf : List Form → List Part → Type 0
AreOf [] [] = ⊤
AreOf [] (part ∷ parts) = ⊥
AreOf (form ∷ forms) [] = ⊥
AreOf (form ∷ forms) (part ∷ parts) = (is_of form part ≡ true) × AreOf forms parts

-- the fields of a message
abbrev pub fields_of : Message → List ℕ
fields_of message = spelled_all (forms_of (kind_of message)) (parts_of message)

-- its values are in the ranges of its fields
abbrev pub FitsFields : Message → Type 0
FitsFields message = AreOf (forms_of (kind_of message)) (parts_of message)

-- what stands in front of the tag
abbrev pub heads_in : Version → List Form
heads_in version = name ∷ number ∷ moment version ∷ []

abbrev pub head_of : Entry → List Part
head_of entry = text entry.submitter ∷ whole entry.number ∷ whole entry.moment.seconds ∷ []

-- the values of the entry are in their ranges, which are those of each version
pub record IsInRange (entry : Entry) : Type 0 where
  pub head : AreOf (heads_in Second) (head_of entry)
  pub body : FitsFields entry.message

-- a number and a message that an entry can carry
pub record IsNumbered (n : ℕ) (message : Message) : Type 0 where
  pub number_fits : is_of number (whole n) ≡ true
  pub message_fits : FitsFields message

-- in a version of the journal: submitter, number, moment, tag, and the fields of the kind
abbrev pub spelling_in : Version → Entry → List ℕ
spelling_in version entry =
    spelled_all (heads_in version) (head_of entry) ++ tag_of (kind_of entry.message) ∷ fields_of entry.message

-- the spelling of an entry is that of the second version
abbrev pub spelling : Entry → List ℕ
spelling entry = spelling_in Second entry

-- and this that of the first
abbrev pub first_spelling : Entry → List ℕ
first_spelling entry = spelling_in First entry

-- the spellings of a list of entries, one behind the other
abbrev pub spellings_in : Version → List Entry → List ℕ
spellings_in version entries = flat_map (spelling_in version) entries

abbrev pub spellings : List Entry → List ℕ
spellings entries = spellings_in Second entries

abbrev pub first_spellings : List Entry → List ℕ
first_spellings entries = spellings_in First entries

-- the bytes begin with the spelling of the entry, which is in its ranges, and that is so many bytes
pub record IsTakenIn (version : Version) (bytes : List ℕ) (entry : Entry) (size : ℕ) : Type 0 where
  pub in_range : IsInRange entry
  pub begins : bytes ≡ spelling_in version entry ++ drop size bytes
  pub whole : size ≡ length (spelling_in version entry)

abbrev pub IsTaken : List ℕ → Entry → ℕ → Type 0
IsTaken bytes entry size = IsTakenIn Second bytes entry size

-- no spelling of an entry in its ranges begins the bytes
abbrev pub IsNoRecordIn : Version → List ℕ → Type 0
IsNoRecordIn version bytes =
    (entry : Entry) → IsInRange entry → (rest : List ℕ) → bytes ≢ spelling_in version entry ++ rest
