-- A rank below all that have no rate has one.
use Rattle.std.proofs.Common.{sym}
use Rattle.tb_book.proofs.StoredLemmas.{rate_at-steps}
use Rattle.tb_book.proofs.stored_line.rate.Goals as goal

pub returns-then-rank-lt-NO_RATE : goal.returns-then-rank-lt-NO_RATE
returns-then-rank-lt-NO_RATE c = sym (rate_at-steps _)
