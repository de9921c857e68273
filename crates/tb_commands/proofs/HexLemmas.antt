-- Bytes in hexadecimal.
use Rattle.std.proofs.Common.{◌≡◌, ℕ, ◌+◌, ◌*◌, ◌<◌, ◌≤◌, List, [], ◌∷◌, ◌++◌, length, get_or, take, false, refl, ap, arith, add-one}
use Rattle.std.specs.Prelude.{◌/◌, ◌%◌, codes}
use Rattle.std.proofs.lemmas.List.{length-append, length-take}
use Rattle.std.specs.Fmt.{digit_glyph}
use Rattle.std.proofs.Math.Seq.{take-suc}
use Rattle.std.proofs.lemmas.Grind.{flat_map-append}
use Rattle.tb_commands.specs.Endings.{hexadecimal}

-- the two digits of a byte
abbrev pub digits_of : ℕ → List ℕ
digits_of byte = digit_glyph false (byte / 16) ∷ digit_glyph false (byte % 16) ∷ []

-- one byte more
pub hexadecimal-more : (bytes : List ℕ) (i d : ℕ)
    → i < length bytes
    → hexadecimal (take (i + 1) bytes) ≡ hexadecimal (take i bytes) ++ digits_of (get_or bytes i d)
hexadecimal-more bytes i d here =
    rw (add-one, take-suc bytes i d) (flat_map-append digits_of (take i bytes) (get_or bytes i d ∷ []))

-- each byte has two digits
pub length-hexadecimal : (bytes : List ℕ) → length (hexadecimal bytes) ≡ 2 * length bytes
length-hexadecimal [] = refl
length-hexadecimal (byte ∷ bytes) = let rest = length-hexadecimal bytes in omega (arith, rest)

-- how long the message is at most after so many bytes
pub length-told : (bytes : List ℕ) (i : ℕ) (message : List ℕ)
    → message ≡ codes "not a journal " ++ hexadecimal (take i bytes)
    → length message ≤ 14 + 2 * i
length-told bytes i message is =
    omega (
      arith,
      ap length is,
      length-append (codes "not a journal ") (hexadecimal (take i bytes)),
      length-hexadecimal (take i bytes),
      length-take i bytes,
    )
