use Rattle.tb_message.proofs.record.Record.body.Goals as goal

pub returns-in-Announce : goal.returns-in-Announce
returns-in-Announce c = rw c.in-Announce.is c.terms.ensures
