-- Lists of bytes.
use Rattle.std.proofs.Common.{ℕ, zero, suc, ◌+◌, ◌<◌, List, [], ◌∷◌, get_or, take, drop, arith}
use Rattle.std.proofs.lemmas.List.{get_or-drop}

-- each element is a byte
abbrev pub AreBytes : List ℕ → Type 0
AreBytes list = (place : ℕ) → get_or list place 0 < 256

-- the front of bytes is bytes
pub take-bytes : (count : ℕ) (list : List ℕ) → AreBytes list → AreBytes (take count list)
take-bytes zero list small place = omega arith
take-bytes (suc count) [] small place = small place
take-bytes (suc count) (x ∷ list) small zero = small zero
take-bytes (suc count) (x ∷ list) small (suc place) = take-bytes count list (λ at. small (suc at)) place

-- and what is behind it
pub drop-bytes : (count : ℕ) (list : List ℕ) → AreBytes list → AreBytes (drop count list)
drop-bytes count list small place = omega (arith, get_or-drop count list place 0, small (count + place))

-- and what is behind the first
pub rest-bytes : (byte : ℕ) (list : List ℕ) → AreBytes (byte ∷ list) → AreBytes list
rest-bytes byte list small place = small (suc place)
