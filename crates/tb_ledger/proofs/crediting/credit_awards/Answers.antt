-- The awards that were put into the scratch array are the bidders', and the add-on is credited behind them.
use Rattle.std.proofs.Common.{◌∙◌, ◌==◌, List, ap, arith, eq-eqb, length, refl, sym}
use Rattle.std.proofs.lemmas.Bool.{cond-true}
use Rattle.tb_movements.specs.Movements.{credited_in_all}
use Rattle.tb_movements.proofs.TellingLemmas.{TellsMore-settled}
use Rattle.tb_history.specs.declared.roster.Enrolment.{Enrolment}
use Rattle.tb_history.specs.Holdings.{if_awarded}
use Rattle.tb_results.specs.Outcomes.{awards_of}
use Rattle.tb_ledger.specs.Credits.{add_on_for, credits_for, settled_for}
use Rattle.tb_ledger.proofs.CreditingLemmas.{credited-joined}
use Rattle.tb_ledger.proofs.crediting.credit_awards.Goals as goal

pub award_all-requires-clause-bidding : goal.award_all-requires-clause-bidding
award_all-requires-clause-bidding c = (
  c.requires.bidding.0,
  c.requires.bidding.1,
  ap (λ (es : List Enrolment). length es) (sym c.requires.bidding.2),
)

pub credit_each-requires-clause-awards : goal.credit_each-requires-clause-awards
credit_each-requires-clause-awards c =
    let bidding = c.requires.bidding.0 in
    let same = c.requires.bidding.2 in
    let submitters = c.args.submitters.now.list in (
      bidding,
      c.deref.ensures.value
          ∙ (c.award_all.ensures.awards bidding c.requires.bidding.1
          (ap (λ (es : List Enrolment). length es) (sym same))
          ∙ ap (awards_of bidding) same),
      omega (
        arith,
        c.requires.bidding.3,
        credited-joined (credits_for submitters bidding c.args.bidders.now)
            (add_on_for submitters (if_awarded bidding c.args.add_on.now)),
      ),
    )

pub credit_add_on-requires-clause-fits : goal.credit_add_on-requires-clause-fits
credit_add_on-requires-clause-fits c =
    let bidding = c.requires.bidding.0 in
    let same = c.requires.bidding.2 in
    let submitters = c.args.submitters.now.list in
    let security = c.args.security in
    let credits = credits_for submitters bidding c.args.bidders.now in
    let credited = c.credit_each.ensures.credits bidding
    (c.deref.ensures.value
    ∙ (c.award_all.ensures.awards bidding c.requires.bidding.1 (ap (λ (es : List Enrolment). length es) (sym same))
    ∙ ap (awards_of bidding) same)) in (
      bidding,
      c.args.book.now.lines,
      c.args.scratch.now.recognised.lines,
      c.requires.bidding.1,
      omega (
        arith,
        c.requires.bidding.3,
        credited-joined credits (add_on_for submitters (if_awarded bidding c.args.add_on.now)),
        credited.total security,
        cond-true (security == security) (credited_in_all credits) 0 (eq-eqb security security refl),
      ),
    )

pub returns-clause-told : goal.returns-clause-told
returns-clause-told c bidding cut same =
    let submitters = c.args.submitters.now.list in
    TellsMore-settled c.args.security (settled_for submitters bidding c.args.bidders.now c.args.add_on.now)
    c.args.accounts.now c.credit_add_on.new.accounts c.requires.live
    (c.credit_add_on.ensures.credits bidding c.args.book.now.lines c.args.scratch.now.recognised.lines
    (credits_for submitters bidding c.args.bidders.now) c.args.accounts.now cut
    (c.credit_each.ensures.credits bidding
    (c.deref.ensures.value
    ∙ (c.award_all.ensures.awards bidding cut (ap (λ (es : List Enrolment). length es) (sym same))
    ∙ ap (awards_of bidding) same))))
