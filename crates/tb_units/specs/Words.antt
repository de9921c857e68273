-- Bytes as numbers.
use Rattle.std.specs.Prelude.{ℕ, ◌+◌, ◌*◌, List, [], ◌∷◌}

-- the number that the bytes spell behind another, the first weighing most
abbrev pub big_endian : ℕ → List ℕ → ℕ
big_endian before [] = before
big_endian before (byte ∷ bytes) = big_endian (before * 256 + byte) bytes
