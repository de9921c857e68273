-- A key word is a text.
use Rattle.std.proofs.Common.{◌≡◌, ℕ, zero, suc, ◌<◌, List, [], ◌∷◌, take, drop, true, refl, inl, inr, arith}
use Rattle.std.specs.Prelude.{◌&&◌, nat_lt, nat_le, None, IsUtf8, codes, slice_index, length}
use Rattle.std.specs.List.{list_all}
use Rattle.std.specs.Str.{IsAscii, bytes_eq}
use Rattle.std.proofs.lemmas.Bool.{cases_Bool}
use Rattle.std.proofs.lemmas.Str.{IsUtf8-from_ascii}
use Rattle.tb_units.specs.Names.{is_name, is_name_byte, is_name_start, most_name_bytes}
use Rattle.tb_message.specs.Keys.{key_of}
use Rattle.tb_wire.proofs.Picks.{both_true}

-- a byte of a name is ASCII
ascii_byte : (byte : ℕ) → is_name_byte byte ≡ true → byte < 128
ascii_byte byte of_name = grind (arith, of_name)

-- so are all bytes of one
ascii_bytes : (bytes : List ℕ) → list_all is_name_byte bytes ≡ true → IsAscii bytes
ascii_bytes [] all i = omega arith
ascii_bytes (byte ∷ bytes) all zero =
    ascii_byte byte ((both_true (is_name_byte byte) (list_all is_name_byte bytes) all).0)
ascii_bytes (byte ∷ bytes) all (suc i) =
    ascii_bytes bytes ((both_true (is_name_byte byte) (list_all is_name_byte bytes) all).1) i

-- a name is ASCII
ascii_name : (bytes : List ℕ) → is_name bytes ≡ true → IsAscii bytes
unfolding is_name
ascii_name bytes name =
    let others =
    nat_lt 0 (length bytes) && nat_le (length bytes) most_name_bytes && is_name_start (slice_index bytes 0) in
    ascii_bytes bytes ((both_true others (list_all is_name_byte bytes) name).1)

-- and so is a text that is one behind `op:`
ascii_operator : (bytes : List ℕ)
    → bytes_eq (take 3 bytes) (codes "op:") ≡ true
    → IsAscii (drop 3 bytes)
    → IsAscii bytes
ascii_operator [] front ascii i = cc
ascii_operator (a ∷ []) front ascii i = grind arith
ascii_operator (a ∷ b ∷ []) front ascii i = grind arith
ascii_operator (a ∷ b ∷ c ∷ rest) front ascii zero = grind (arith, front)
ascii_operator (a ∷ b ∷ c ∷ rest) front ascii (suc zero) = grind (arith, front)
ascii_operator (a ∷ b ∷ c ∷ rest) front ascii (suc (suc zero)) = grind (arith, front)
ascii_operator (a ∷ b ∷ c ∷ rest) front ascii (suc (suc (suc i))) = ascii i

-- what is no text is no key word
pub no_key : (bytes : List ℕ) → ¬ (IsUtf8 bytes) → key_of bytes ≡ None
no_key bytes no_text = elim (cases_Bool (bytes_eq (take 3 bytes) (codes "op:"))) [
  | inl front ↦ elim (cases_Bool (is_name (drop 3 bytes))) [
    | inl name ↦
        let ascii = ascii_operator bytes front (ascii_name (drop 3 bytes) name) in
        absurd (no_text (IsUtf8-from_ascii bytes ascii))
    | inr other ↦ rw (front, other) refl
  ]
  | inr other ↦ elim (cases_Bool (is_name bytes)) [
    | inl name ↦ absurd (no_text (IsUtf8-from_ascii bytes (ascii_name bytes name)))
    | inr no_name ↦ rw (other, no_name) refl
  ]
]
