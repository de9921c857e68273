-- The replies so far were written.
use Rattle.std.proofs.Common.{take}
use Rattle.tb_gates.specs.Links.{link_of}
use Rattle.tb_session.specs.Groups.{answers_at}
use Rattle.tb_session.specs.Rows.{AreWritten}
use Rattle.tb_session.proofs.session.reply_row.Given as goal

abbrev pub invariant-loop-place : goal.invariant-loop-place
invariant-loop-place g l =
    AreWritten (link_of g.K.Source.source g.K.Sink.sink l.fn.link) (link_of g.K.Source.source g.K.Sink.sink l.link)
    (take l.place (answers_at l.said l.verdicts l.count))
