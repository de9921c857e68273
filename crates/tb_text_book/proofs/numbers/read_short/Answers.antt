use Rattle.std.proofs.Common.{arith}
use Rattle.std.proofs.lemmas.Bool.Decides.{nat_tests}
use Rattle.tb_units.proofs.RateLemmas.{short_numeral_of-below, short_numeral_of-small}
use Rattle.tb_text_book.proofs.DigitLemmas.{short_numeral-is}
use Rattle.tb_text_book.proofs.numbers.read_short.Goals as goal

pub returns-clause-value : goal.returns-clause-value
returns-clause-value c =
    short_numeral-is c.args.text.now c.read_digits.result (grind (arith, nat_tests)) (omega arith)
    c.read_digits.ensures.read c.read_digits.ensures.none

pub returns-clause-digits : goal.returns-clause-digits
returns-clause-digits c = rw (returns-clause-value c) (short_numeral_of-below c.args.text.now)

pub returns-clause-small : goal.returns-clause-small
returns-clause-small c = rw (returns-clause-value c) (short_numeral_of-small c.args.text.now)
