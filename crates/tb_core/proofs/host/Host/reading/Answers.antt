-- The bill whose redemption is read is announced.
use Rattle.std.proofs.Common.{◌≡◌, None, refl, subst}
use Rattle.tb_message.specs.declared.query.Query.{Query}
use Rattle.tb_message.specs.declared.query.Query.TheVariants as query
use Rattle.tb_history.specs.Answer.{query_refusal}
use Rattle.tb_core.proofs.QueryLemmas.{passed-bill, passed-published}
use Rattle.tb_core.proofs.host.Host.reading.Goals as goal

pub redemption-requires : goal.redemption-requires
redemption-requires c =
    passed-bill c.args.self.now.history c.args.caller.now c.in-Redemption.cusip
    (subst (λ (q : Query). query_refusal c.args.self.now.history c.args.caller.now q ≡ None)
    c.in-Redemption.is c.requires)

pub results-requires-clause-published : goal.results-requires-clause-published
results-requires-clause-published c =
    passed-published c.args.self.now.history c.args.caller.now c.in-Results.auction
    (query.Results c.in-Results.auction) refl
    (subst (λ (q : Query). query_refusal c.args.self.now.history c.args.caller.now q ≡ None)
    c.in-Results.is c.requires)

pub awards-requires-clause-published : goal.awards-requires-clause-published
awards-requires-clause-published c =
    passed-published c.args.self.now.history c.args.caller.now c.in-Awards.auction
    (query.Awards c.in-Awards.auction) refl
    (subst (λ (q : Query). query_refusal c.args.self.now.history c.args.caller.now q ≡ None)
    c.in-Awards.is c.requires)
