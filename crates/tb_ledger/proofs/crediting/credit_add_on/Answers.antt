-- The add-on is credited just where there is a cut.
use Rattle.std.proofs.Common.{◌≡◌, ◌++◌, ◌∷◌, [], List, ap, append-nil, arith, subst, sym}
use Rattle.tb_award.specs.declared.outcome.Outcome.{Outcome}
use Rattle.tb_movements.specs.Credits.{CreditsBook}
use Rattle.tb_movements.specs.Movements.{Credit, credited_in_all}
use Rattle.tb_movements.proofs.CreditLemmas.{CreditsBook-push}
use Rattle.tb_history.specs.Holdings.{if_awarded}
use Rattle.tb_results.specs.Outcomes.{IsCutIn}
use Rattle.tb_results.proofs.AwardedLemmas.{none-recognised, some-recognised}
use Rattle.tb_ledger.specs.Credits.{add_on_credit, add_on_for}
use Rattle.tb_ledger.proofs.CreditingLemmas.{add_on_for-awarded, add_on_for-nothing, credited-one, none-cut}
use Rattle.tb_ledger.proofs.crediting.credit_add_on.Goals as goal

pub returns-in_default-clause-credits : goal.returns-in_default-clause-credits
returns-in_default-clause-credits c bidding lines recognised given first is credits =
    let none = none-recognised bidding lines recognised
    (subst (λ (o : Outcome). IsCutIn bidding lines recognised o) (none-cut c.args.outcome.now c.in_default.not-Cut)
    is) in
    subst (λ (more : List Credit). CreditsBook c.args.security (given ++ more) first c.args.accounts.now)
    (sym (add_on_for-nothing c.args.submitters.now.list bidding c.args.add_on.now none))
    (subst (λ (all : List Credit). CreditsBook c.args.security all first c.args.accounts.now) (sym (append-nil given))
    credits)

pub credit-requires-clause-limit : goal.credit-requires-clause-limit
credit-requires-clause-limit c =
    let bidding = c.requires.fits.0 in
    let some = some-recognised bidding c.requires.fits.1 c.requires.fits.2 c.in-Cut.field-0
    (subst (λ (o : Outcome). IsCutIn bidding c.requires.fits.1 c.requires.fits.2 o) c.in-Cut.is c.requires.fits.3) in
    let given : add_on_for c.args.submitters.now.list (if_awarded bidding c.args.add_on.now)
    ≡ add_on_credit c.args.submitters.now.list c.in-Some.add_on ∷ [] =
    rw c.in-Some.is (add_on_for-awarded c.args.submitters.now.list bidding c.in-Some.add_on some) in
    omega (
      arith,
      c.requires.fits.4,
      ap credited_in_all given,
      credited-one (add_on_credit c.args.submitters.now.list c.in-Some.add_on),
    )

pub returns-clause-credits : goal.returns-clause-credits
returns-clause-credits c bidding lines recognised given first is credits =
    let some = some-recognised bidding lines recognised c.in-Cut.field-0
    (subst (λ (o : Outcome). IsCutIn bidding lines recognised o) c.in-Cut.is is) in
    let credit = add_on_credit c.args.submitters.now.list c.in-Some.add_on in
    let same : add_on_for c.args.submitters.now.list (if_awarded bidding c.args.add_on.now) ≡ credit ∷ [] =
    rw c.in-Some.is (add_on_for-awarded c.args.submitters.now.list bidding c.in-Some.add_on some) in
    subst (λ (more : List Credit). CreditsBook c.args.security (given ++ more) first c.credit.new.self) (sym same)
    (CreditsBook-push c.args.security given credit first c.args.accounts.now c.credit.new.self credits
    (rw c.holder_number-holder.ensures at c.credit.ensures.accounts) c.credit.ensures.others)
