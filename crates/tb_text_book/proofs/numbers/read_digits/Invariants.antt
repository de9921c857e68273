use Rattle.std.proofs.Common.{◌≡◌, take}
use Rattle.std.specs.Str.Parse.{digits_value}
use Rattle.tb_text_book.proofs.DigitLemmas.{HasDigits}
use Rattle.tb_text_book.proofs.numbers.read_digits.Given as goal

-- the bytes so far are digits, and the number is theirs
abbrev pub invariant-loop-byte : goal.invariant-loop-byte
invariant-loop-byte l = record {
  digits : HasDigits l.text l.byte-index;
  value : l.number ≡ digits_value 10 (take l.byte-index l.text);
}
