-- Each clause is a lemma on legal histories.
use Rattle.std.proofs.Common.{ap, ◌∙◌, sym, refl, List}
use Rattle.tb_message.specs.declared.query.Query.TheVariants as query
use Rattle.tb_message.specs.declared.message.Entry.{Entry}
use Rattle.tb_history.specs.Roster.{announcement_of}
use Rattle.tb_history.specs.Verdict.{verdict_on}
use Rattle.tb_history.proofs.LegalLemmas.{IsLegal-orderly}
use Rattle.tb_history.proofs.OwnLemmas.{announcements-own}
use Rattle.tb_history.proofs.SealedLemmas.{IsLegal-sealed}
use Rattle.tb_history.proofs.QueryLemmas.{caller_of-own, query_refusal-own, refusal_for-own, shown-refused}
use Rattle.tb_history.proofs.QueryLemmas.{verdict_for-own, bid_lines-own}
use Rattle.tb_history.proofs.sealed.replies_are_sealed.Goals as goal

pub returns-clause-verdicts : goal.returns-clause-verdicts
returns-clause-verdicts c history submitter number moment message legal still =
    IsLegal-sealed submitter history legal number moment message still

pub returns-clause-two_worlds : goal.returns-clause-two_worlds
returns-clause-two_worlds c one other submitter number moment message legal_one legal_other alike still =
    IsLegal-sealed submitter one legal_one number moment message still
    ∙ (ap (λ (history : List Entry). verdict_on history submitter number moment message) alike
    ∙ sym (IsLegal-sealed submitter other legal_other number moment message still))

pub returns-clause-keys : goal.returns-clause-keys
returns-clause-keys c history name submitter key legal = caller_of-own submitter history legal name key

pub returns-clause-by_key : goal.returns-clause-by_key
returns-clause-by_key c history name submitter key number moment other message legal still caller agree =
    verdict_for-own history name submitter key number moment other message legal still caller agree

pub returns-clause-queries : goal.returns-clause-queries
returns-clause-queries c history submitter query legal = query_refusal-own submitter history legal query

pub returns-clause-queries_by_key : goal.returns-clause-queries_by_key
returns-clause-queries_by_key c history name submitter key query legal caller =
    refusal_for-own history name submitter key query legal caller

pub returns-clause-unpublished : goal.returns-clause-unpublished
returns-clause-unpublished c history submitter auction not_yet = (
  shown-refused history submitter auction (query.Results auction)
      not_yet refl,
  shown-refused history submitter auction (query.Awards auction) not_yet refl,
)

pub returns-clause-terms : goal.returns-clause-terms
returns-clause-terms c history submitter auction legal =
    let orderly = IsLegal-orderly history legal in
    ap (λ announced. announcement_of announced auction) (sym (announcements-own submitter history orderly))

pub returns-clause-bids : goal.returns-clause-bids
returns-clause-bids c history submitter auction = bid_lines-own submitter history auction
