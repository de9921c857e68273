use Rattle.std.proofs.Common.{refl}
use Rattle.tb_units.proofs.NumberLemmas.{parse-read, parse-none, decimal-front}
use Rattle.tb_units.proofs.number.read_number.Goals as goal

pub returns-clause-read : goal.returns-clause-read
returns-clause-read c =
    let plain = c.if-not-has_plain_front.ensures.plain refl in
    rw c.ok.ensures.value (parse-read _ plain.0 plain.1 _ c.parse.ensures.value.0)

pub returns-clause-none : goal.returns-clause-none
returns-clause-none c =
    let plain = c.if-not-has_plain_front.ensures.plain refl in
    rw c.ok.ensures.value (parse-none _ plain.0 plain.1 _ c.parse.ensures.value.0)

pub returns-then-not-has_plain_front-clause-none : goal.returns-then-not-has_plain_front-clause-none
returns-then-not-has_plain_front-clause-none c = decimal-front _ (c.if-not-has_plain_front.ensures.other refl)
