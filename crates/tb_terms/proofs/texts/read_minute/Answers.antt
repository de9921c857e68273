use Rattle.tb_terms.proofs.SpellingFacts.{minute_of-read}
use Rattle.tb_terms.proofs.texts.read_minute.Goals as goal

pub returns-clause-minute : goal.returns-clause-minute
returns-clause-minute c =
    rw (← c.as_bytes.ensures.value)
    (minute_of-read c.as_bytes.result.now c.minute_in.result c.minute_in.ensures.read c.minute_in.ensures.none)
