use Rattle.std.proofs.Common.{arith, inl, inr}
use Rattle.tb_journal.proofs.BehindLemmas.{BeginsWithFrame-some, head_there, no_size}
use Rattle.tb_journal.proofs.behind.first_frame.Goals as goal

pub returns-in_default-clause-none : goal.returns-in_default-clause-none
returns-in_default-clause-none c = λ payload rest begins.
    BeginsWithFrame-some c.args.ordinal payload rest c.args.bytes.now begins
    (no_size c.args.ordinal c.args.bytes.now c.in_default.ensures.none)

pub overflow_sub-bytes : goal.overflow_sub-bytes
overflow_sub-bytes c =
    omega (
      arith,
      head_there c.args.ordinal c.in-Some.size c.args.bytes.now c.in-Some.ensures.spelled,
      c.head_size-head.ensures,
    )

pub returns-then-bytes-head-clause-none : goal.returns-then-bytes-head-clause-none
returns-then-bytes-head-clause-none c = λ payload rest begins.
    BeginsWithFrame-some c.args.ordinal payload rest c.args.bytes.now begins
    (inr (inr (inr (inl (omega (
      arith,
      head_there c.args.ordinal c.in-Some.size c.args.bytes.now c.in-Some.ensures.spelled,
      c.head_size-head.ensures,
      c.in-Some.ensures.found.0,
      c.if-bytes-head.true,
    ))))))
