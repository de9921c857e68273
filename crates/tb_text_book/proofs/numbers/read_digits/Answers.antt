use Rattle.std.proofs.Common.{◌≡◌, ◌+◌, ◌-◌, ◌*◌, ℕ, length, get_or, below_more, ap, ◌∙◌, arith}
use Rattle.std.specs.Int.{IsInRange}
use Rattle.std.specs.Str.Parse.{digits_value}
use Rattle.std.proofs.lemmas.Bool.Decides.{nat_tests}
use Rattle.std.proofs.lemmas.List.{take_all}
use Rattle.tb_text_book.proofs.DigitLemmas.{HasDigits-all, HasDigits-small, digits-other, digits_value-digit}
use Rattle.tb_text_book.proofs.numbers.read_digits.Goals as goal

pub returns-then-not-is_ascii_digit-clause-none : goal.returns-then-not-is_ascii_digit-clause-none
returns-then-not-is_ascii_digit-clause-none c = λ _.
    let other : ¬ (IsInRange 48 57 (get_or c.args.text.now c.loop-byte.byte-index 0)) =
    λ digit. grind (arith, nat_tests) in
    digits-other c.args.text.now c.loop-byte.byte-index (omega arith) other

pub overflow_mul-number : goal.overflow_mul-number
overflow_mul-number c =
    let small = HasDigits-small c.args.text.now c.loop-byte.byte-index c.loop-byte.invariant.digits (omega arith)
    c.requires.few in
    let value = c.loop-byte.invariant.value in
    omega (arith, small, value)

pub overflow_add-number : goal.overflow_add-number
overflow_add-number c =
    let small = HasDigits-small c.args.text.now c.loop-byte.byte-index c.loop-byte.invariant.digits (omega arith)
    c.requires.few in
    let value = c.loop-byte.invariant.value in
    let digit : IsInRange 48 57 (get_or c.args.text.now c.loop-byte.byte-index 0) = grind (arith, nat_tests) in
    omega (arith, small, value, digit)

pub loop-byte-preserved : goal.loop-byte-preserved
loop-byte-preserved c =
    let digit : IsInRange 48 57 (get_or c.args.text.now c.loop-byte.byte-index 0) = grind (arith, nat_tests) in
    record {
      digits = below_more _ _ c.loop-byte.invariant.digits digit;
      value = ap (λ (n : ℕ). 10 * n + (get_or c.args.text.now c.loop-byte.byte-index 0 - 48))
          c.loop-byte.invariant.value
          ∙ digits_value-digit c.args.text.now c.loop-byte.byte-index (omega arith) digit;
    }

pub returns-clause-read : goal.returns-clause-read
returns-clause-read c =
    let whole : c.loop-byte.byte-index ≡ length c.args.text.now = omega arith in (
      HasDigits-all c.args.text.now (λ k below. c.loop-byte.invariant.digits k (omega arith)),
      c.loop-byte.invariant.value
          ∙ ap (digits_value 10) (take_all c.loop-byte.byte-index c.args.text.now (omega arith)),
    )
