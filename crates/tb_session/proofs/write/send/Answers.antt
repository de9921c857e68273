-- A verdict is told by its reply.
use Rattle.tb_session.proofs.WriteLemmas.{sends-verdict}
use Rattle.tb_session.proofs.write.send.Goals as goal

pub returns-in-Verdict : goal.returns-in-Verdict
returns-in-Verdict g c = record {
  sends = sends-verdict _ _ c.args.answer.now c.in-Verdict.verdict c.args.target c.find_allow.result c.args.close
      c.verdict_reply-reply.result c.bytes.result.now c.write_reply.result c.in-Verdict.is c.find_allow.ensures
      c.verdict_reply-reply.ensures c.bytes.ensures c.write_reply.ensures.writes;
}
