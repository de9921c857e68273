use Rattle.tb_terms.proofs.SpellingFacts.{day_of-read}
use Rattle.tb_terms.proofs.texts.read_day.Goals as goal

pub returns-clause-day : goal.returns-clause-day
returns-clause-day c =
    rw (← c.as_bytes.ensures.value)
    (day_of-read c.as_bytes.result.now c.day_in.result c.day_in.ensures.read c.day_in.ensures.none)
