-- A text in an array of 32 bytes, with zeros behind it. The lemmas stand here, since a type's `inverse` cites them.
use Rattle.std.specs.Prelude.{◌≡◌, ℕ, ◌-◌, ◌≤◌, List, ◌++◌, length, take, drop, replicate}
use Rattle.std.proofs.Common.{arith, ap, ◌∙◌}
use Rattle.std.proofs.lemmas.List.{take-append-drop, length-take-le}
use Rattle.tb_units.specs.declared.ident.Ident.TheInside.{Inside}

pub record IsPadded (bytes : List ℕ) (len : ℕ) : Type 0 where
  pub whole : length bytes ≡ 32
  pub within : len ≤ 32
  pub zeros : drop len bytes ≡ replicate (32 - len) 0

-- the text without the zeros is as long as it says
pub IsPadded-length : (bytes : List ℕ) (len : ℕ) → IsPadded bytes len → length (take len bytes) ≡ len
IsPadded-length bytes len padded = length-take-le _ _ (omega arith)

-- the text and as many zeros as it lacks are the array
pub IsPadded-bytes : (bytes : List ℕ) (len : ℕ)
    → IsPadded bytes len
    → take len bytes ++ replicate (32 - length (take len bytes)) 0 ≡ bytes
IsPadded-bytes bytes len padded =
    rw (IsPadded-length bytes len padded, ← padded.zeros) (take-append-drop len bytes)

-- such an array, given its text
abbrev pub padded_with : List ℕ → ℕ → Inside
padded_with bytes used = record { bytes = bytes; used = used }

-- an array with its length is told by its text
pub IsPadded-inverse : (name : Inside)
    → IsPadded name.bytes name.used
    → (let text = take name.used name.bytes in
    padded_with (text ++ replicate (32 - length text) 0) (length text) ≡ name)
IsPadded-inverse name padded =
    let long = length (take name.used name.bytes) in
    let whole = ap (λ bytes. padded_with bytes long) (IsPadded-bytes name.bytes name.used padded) in
    let used = ap (padded_with name.bytes) (IsPadded-length name.bytes name.used padded) in
    whole ∙ used
