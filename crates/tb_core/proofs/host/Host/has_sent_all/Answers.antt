-- Where there are fewer entries, nobody has sent so many.
use Rattle.std.proofs.Common.{ap, length, arith}
use Rattle.std.proofs.lemmas.Bool.Decides.{nat_tests}
use Rattle.tb_core.specs.House.{House}
use Rattle.tb_core.proofs.VerdictLemmas.{sent_by-few}
use Rattle.tb_core.proofs.host.Host.has_sent_all.Goals as goal

pub returns-else-len-ge-MOST_MESSAGES : goal.returns-else-len-ge-MOST_MESSAGES
returns-else-len-ge-MOST_MESSAGES c =
    let all = ap (λ (h : House). length h.history) c.self.view_is in
    let few = sent_by-few c.args.self.now.history c.args.submitter.now in
    grind (arith, nat_tests)
