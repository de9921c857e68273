-- Each number has its bidder's award.
use Rattle.std.proofs.Common.{◌∙◌, subst, arith}
use Rattle.tb_award.specs.declared.outcome.Outcome.{Outcome}
use Rattle.tb_results.specs.Outcomes.{IsCutIn}
use Rattle.tb_results.proofs.AmountLemmas.{amounts-cut, amounts-limited, amounts-none, known-recognised}
use Rattle.tb_results.proofs.AwardedLemmas.{hundreds-recognised, recognised-limited}
use Rattle.tb_results.proofs.amounts.award_all.Goals as goal

pub award_by_cut-requires-clause-known : goal.award_by_cut-requires-clause-known
award_by_cut-requires-clause-known c k d below =
    omega (
      arith,
      known-recognised c.requires.bidding.0 c.args.book.now.lines c.args.recognised.now.lines c.args.outcome.now
          c.requires.bidding.1 k d below,
      c.requires.bidding.2,
    )

pub award_by_cut-requires-clause-hundreds : goal.award_by_cut-requires-clause-hundreds
award_by_cut-requires-clause-hundreds c =
    hundreds-recognised c.requires.bidding.0 c.args.book.now.lines c.args.recognised.now.lines c.args.outcome.now
    c.requires.bidding.1

pub award_by_cut-requires-clause-fits : goal.award_by_cut-requires-clause-fits
award_by_cut-requires-clause-fits c k =
    recognised-limited c.requires.bidding.0 c.args.book.now.lines c.args.recognised.now.lines c.args.outcome.now k
    c.requires.bidding.1

pub returns-in-NoAwards-clause-awards : goal.returns-in-NoAwards-clause-awards
returns-in-NoAwards-clause-awards c bidding is all =
    let lines = c.args.book.now.lines in
    let recognised = c.args.recognised.now.lines in
    c.award_nothing.ensures.amounts
    ∙ amounts-none bidding lines recognised c.args.bidders
    (subst (λ (answer : Outcome). IsCutIn bidding lines recognised answer) c.in-NoAwards.is is) all

pub returns-in-Cut-clause-awards : goal.returns-in-Cut-clause-awards
returns-in-Cut-clause-awards c bidding is all =
    let lines = c.args.book.now.lines in
    let recognised = c.args.recognised.now.lines in
    amounts-cut bidding lines recognised c.in-Cut.cut c.award_by_cut.new.amounts.items
    (subst (λ (answer : Outcome). IsCutIn bidding lines recognised answer) c.in-Cut.is is)
    (c.award_by_cut.ensures.count ∙ all)
    (λ k inside. c.award_by_cut.ensures.awards k (omega (arith, inside, all)))

pub returns-in-Cut-clause-limited : goal.returns-in-Cut-clause-limited
returns-in-Cut-clause-limited c =
    let bidding = c.requires.bidding.0 in
    let is = c.requires.bidding.1 in
    let lines = c.args.book.now.lines in
    let recognised = c.args.recognised.now.lines in
    amounts-limited lines recognised c.in-Cut.cut c.award_by_cut.new.amounts.items
    (hundreds-recognised bidding lines recognised c.args.outcome.now is)
    (λ k. recognised-limited bidding lines recognised c.args.outcome.now k is)
    (λ k below. c.award_by_cut.ensures.awards k (omega (arith, below, c.award_by_cut.ensures.count)))
