use Rattle.std.proofs.Common.{refl}
use Rattle.tb_import.proofs.SentLemmas.{sent_of-row}
use Rattle.tb_import.proofs.row.Row.sent.Goals as goal

pub returns : goal.returns
returns c = sent_of-row c.args.self.now c.rate.result _ c.requires c.rate.ensures refl
