-- How payloads are spelled in a journal, in either form.
use Rattle.std.specs.Prelude.{ℕ, ◌≤◌, ◌+◌, List, [], ◌∷◌, ◌++◌, length, codes}
use Rattle.std.specs.Int.{w32, w64, to_be_bytes}
use Rattle.tb_journal.specs.declared.form.Form.{Form}
use Rattle.tb_journal.specs.declared.form.Form.TheVariants.{First, Second}

-- the first sixteen bytes of a journal
unfoldable pub title_of : Form → List ℕ
title_of First = codes "TBHOSTJOURNAL001"
title_of Second = codes "TBHOSTJOURNAL002"

-- the byte of a sealed journal
abbrev pub sealed : ℕ
sealed = 1

-- the title, and in the second form the seal
abbrev pub header_of : Form → List ℕ
header_of First = title_of First
header_of Second = title_of Second ++ sealed ∷ []

-- the place of the first gate byte
abbrev pub first_place : Form → ℕ
first_place First = 16
first_place Second = 17

-- the gate byte before a frame that counts, and the one that is written behind the last frame
abbrev pub open_gate : ℕ
open_gate = 1

abbrev pub closed_gate : ℕ
closed_gate = 0

-- how long an empty journal is: the header and a gate byte
abbrev pub empty_of : Form → ℕ
empty_of First = 17
empty_of Second = 18

-- how many bytes of a frame stand between its gate byte and its payload
abbrev pub head_of : Form → ℕ
head_of First = 4
head_of Second = 12

-- how long a payload may be
pub record IsPayload (payload : List ℕ) : Type 0 where
  pub some : 1 ≤ length payload
  pub short : length payload ≤ 32768

-- each of them is a payload
abbrev pub ArePayloads : List (List ℕ) → Type 0
ArePayloads [] = Unit {0}
ArePayloads (payload ∷ payloads) = IsPayload payload × ArePayloads payloads

-- in the second form a frame has the number of frames before it
abbrev pub ordinal_in : Form → ℕ → List ℕ
ordinal_in First ordinal = []
ordinal_in Second ordinal = to_be_bytes w64 ordinal

-- what stands before the payload: four bytes of length, and the ordinal
unfoldable pub head_in : Form → ℕ → ℕ → List ℕ
head_in form ordinal size = to_be_bytes w32 size ++ ordinal_in form ordinal

-- a frame without its gate byte
abbrev pub framed_in : Form → ℕ → List ℕ → List ℕ
framed_in form ordinal payload = head_in form ordinal (length payload) ++ payload

-- frames whose gates are open, of which the first has this ordinal
abbrev pub frames_in : Form → ℕ → List (List ℕ) → List ℕ
frames_in form ordinal [] = []
frames_in form ordinal (payload ∷ payloads) =
    open_gate ∷ (framed_in form ordinal payload ++ frames_in form (ordinal + 1) payloads)

-- the header, and the frames of these payloads
abbrev pub front_in : Form → List (List ℕ) → List ℕ
front_in form payloads = header_of form ++ frames_in form 0 payloads

-- the same in the second form
abbrev pub header : List ℕ
header = header_of Second

abbrev pub framed : ℕ → List ℕ → List ℕ
framed ordinal payload = framed_in Second ordinal payload

abbrev pub frames : ℕ → List (List ℕ) → List ℕ
frames ordinal payloads = frames_in Second ordinal payloads

abbrev pub front : List (List ℕ) → List ℕ
front payloads = front_in Second payloads

abbrev pub empty_size : ℕ
empty_size = empty_of Second
