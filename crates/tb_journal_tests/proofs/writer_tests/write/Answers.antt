-- The payloads are few and short.
use Rattle.std.proofs.Common.{arith}
use Rattle.tb_journal.specs.Frames.{title_of, head_in}
use Rattle.tb_journal_tests.proofs.writer_tests.write.Goals as goal

pub rewrite-requires-clause-end : goal.rewrite-requires-clause-end
unfolding title_of head_in
rewrite-requires-clause-end c = omega arith
