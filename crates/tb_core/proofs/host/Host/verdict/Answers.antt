-- Past the common rows the message's own refusal decides.
use Rattle.std.proofs.Common.{rules, ◌∙◌, sym, ap}
use Rattle.tb_message.specs.declared.verdict.Verdict.TheVariants as verdict
use Rattle.tb_core.proofs.VerdictLemmas.{outcome, verdict_on-own_rows}
use Rattle.tb_core.proofs.host.Host.verdict.Goals as goal

pub returns-in-Some-refusal : goal.returns-in-Some-refusal
returns-in-Some-refusal c =
    sym (verdict_on-own_rows c.args.self.now.history c.args.submitter.now c.args.number c.args.moment c.args.message.now
    (search rules) (search rules) (search rules) (search rules)
    ∙ ap (λ r. outcome r (verdict.Accepted c.args.number c.args.moment)) (sym c.refusal.ensures ∙ c.in-Some-refusal.is))

pub returns-in-None : goal.returns-in-None
returns-in-None c =
    sym (verdict_on-own_rows c.args.self.now.history c.args.submitter.now c.args.number c.args.moment c.args.message.now
    (search rules) (search rules) (search rules) (search rules)
    ∙ ap (λ r. outcome r (verdict.Accepted c.args.number c.args.moment)) (sym c.refusal.ensures ∙ c.in-None.is))
