-- The quota comes behind what a transfer is refused for.
use Rattle.std.proofs.Common.{◌∙◌, ◌∷◌, [], sym, nat_le}
use Rattle.tb_terms.specs.declared.refusal.Refusal.TheVariants as refusals
use Rattle.tb_terms.proofs.RowLemmas.{refusal_in-append, refusal_in-front}
use Rattle.tb_refusals.proofs.par_refusals.pledge_refusal.Goals as goal

pub returns-in-Some : goal.returns-in-Some
returns-in-Some c rows is =
    sym (refusal_in-front rows ((refusals.PledgeQuota, nat_le 1000 c.args.open_marks) ∷ []) c.in-Some.refusal
    (sym is ∙ c.in-Some.is))

pub returns-in-None : goal.returns-in-None
returns-in-None c rows is =
    c.quota_refusal.ensures
    ∙ sym (refusal_in-append rows ((refusals.PledgeQuota, nat_le 1000 c.args.open_marks) ∷ []) (sym is ∙ c.in-None.is))
