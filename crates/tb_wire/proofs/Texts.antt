-- Texts, one piece behind another.
use Rattle.std.proofs.Common.{◌≡◌, ℕ, ◌^◌, ◌<◌, ◌≤◌, List, ◌++◌, length, append_assoc, arith}
use Rattle.std.proofs.lemmas.List.{append-nil}
use Rattle.std.proofs.lemmas.Fmt.{length-decimal-le}
use Rattle.std.specs.Fmt.{decimal}

-- in one order of brackets
pub ruleset joined = (append_assoc, append-nil)

-- two lines, the second with a number, behind a text
pub two_lines : (text first end second number : List ℕ)
    → ((((text ++ first) ++ end) ++ second) ++ number) ++ end ≡ text ++ (first ++ (end ++ (second ++ (number ++ end))))
two_lines text first end second number = simp append_assoc

-- a number of 64 bits has at most 20 digits
pub number_few : (n : ℕ) → n < 2 ^ 64 → length (decimal n) ≤ 20
number_few n small = length-decimal-le 20 n (omega arith) (omega (arith, small)) small
