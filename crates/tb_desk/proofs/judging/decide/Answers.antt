-- The entry of an accepted message can follow.
use Rattle.std.proofs.Common.{sym, ◌∙◌}
use Rattle.tb_desk.proofs.JudgeLemmas.{accepted-follows}
use Rattle.tb_desk.proofs.judging.decide.Goals as goal

pub returns-in-Accepted-clause-follows : goal.returns-in-Accepted-clause-follows
returns-in-Accepted-clause-follows c =
    accepted-follows c.args.host.now.history c.args.submitter.now c.args.number c.args.moment c.args.message.now
    c.in-Accepted.number c.in-Accepted.moment c.bytes.ensures.name c.requires.numbered c.requires.in_time
    (sym c.decide-verdict.ensures.verdict ∙ c.in-Accepted.is)
