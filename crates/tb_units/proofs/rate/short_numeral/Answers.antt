use Rattle.std.proofs.Common.{◌∙◌, arith, rules}
use Rattle.tb_units.proofs.RateLemmas.{parse-short_numeral, short_numeral_of-below, short_numeral_of-small}
use Rattle.tb_units.proofs.rate.short_numeral.Goals as goal

pub returns-clause-value : goal.returns-clause-value
returns-clause-value c =
    c.ok.ensures.value ∙ parse-short_numeral c.args.text.now _
    (rw c.as_bytes.ensures.value at c.if-as_bytes-eq43.false) (search rules) (omega arith) c.parse.ensures.value.0

pub returns-clause-digits : goal.returns-clause-digits
returns-clause-digits c = rw (returns-clause-value c) (short_numeral_of-below c.args.text.now)

pub returns-clause-small : goal.returns-clause-small
returns-clause-small c = rw (returns-clause-value c) (short_numeral_of-small c.args.text.now)
