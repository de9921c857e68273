-- Each bidder's award in turn.
use Rattle.std.proofs.Common.{◌≡◌, ◌<◌, ◌∙◌, List, ap, get_or, length, take, sym, subst, arith}
use Rattle.std.specs.Prelude.{Contains}
use Rattle.std.proofs.lemmas.List.{take_all}
use Rattle.tb_movements.specs.Credits.{CreditsBook}
use Rattle.tb_movements.proofs.CreditLemmas.{CreditsBook-push}
use Rattle.tb_movements.specs.Movements.{Credit}
use Rattle.std.specs.List.{position_or_len}
use Rattle.tb_history.specs.Entries.{is_same}
use Rattle.tb_history.specs.declared.roster.Registration.{Registration}
use Rattle.tb_history.specs.declared.roster.Enrolment.{Enrolment}
use Rattle.tb_history.specs.Awarded.{awarded}
use Rattle.tb_ledger.specs.Credits.{credit_for, credits_for}
use Rattle.tb_results.proofs.AmountLemmas.{award_at, awards-many}
use Rattle.tb_ledger.proofs.CreditingLemmas.{credits_more, next_fits}
use Rattle.tb_ledger.proofs.crediting.credit_each.Goals as goal

pub bounds-awards-place : goal.bounds-awards-place
bounds-awards-place c =
    omega (arith, awards-many c.requires.awards.0 c.args.bidders.now c.args.awards.now c.requires.awards.1)

pub invariant_of-par : goal.invariant_of-par
invariant_of-par c =
    omega (
      arith,
      c.requires.limited c.loop-place.place 0
          (omega (arith, awards-many c.requires.awards.0 c.args.bidders.now c.args.awards.now c.requires.awards.1)),
    )

pub credit-requires-clause-live : goal.credit-requires-clause-live
credit-requires-clause-live c redeemed =
    c.requires.live (subst (λ securities. Contains securities c.args.security) c.loop-place.invariant.redeemed redeemed)

pub credit-requires-clause-limit : goal.credit-requires-clause-limit
credit-requires-clause-limit c =
    let bidding = c.requires.awards.0 in
    let short : c.loop-place.place < length c.args.bidders.now = omega arith in
    next_fits c.args.submitters.now.list bidding c.args.bidders.now c.loop-place.place c.index-bidders-place.result
    c.args.security (get_or c.args.awards.now c.loop-place.place 0) c.args.accounts.now c.loop-place.accounts short
    c.index-bidders-place.is
    (award_at bidding c.args.bidders.now c.args.awards.now c.loop-place.place c.index-bidders-place.result short
    c.index-bidders-place.is c.requires.awards.1)
    c.requires.awards.2
    (c.loop-place.invariant.credits bidding c.requires.awards.1)

pub loop-place-preserved : goal.loop-place-preserved
loop-place-preserved c = record {
  credits = λ bidding same.
      let e : Enrolment = c.index-bidders-place.result in
      let short : c.loop-place.place < length c.args.bidders.now = omega arith in
      let due : get_or c.args.awards.now c.loop-place.place 0 ≡ awarded bidding e.bidder =
      award_at bidding c.args.bidders.now c.args.awards.now c.loop-place.place e short c.index-bidders-place.is same in
      let named : c.holder_number-holder.result
      ≡ position_or_len (λ (r : Registration). is_same r.submitter e.submitter) c.args.submitters.now.list =
      c.holder_number-holder.ensures
      ∙ ap (λ (x : Enrolment). position_or_len (λ (r : Registration). is_same r.submitter x.submitter)
      c.args.submitters.now.list)
      (sym c.index-bidders-place.is) in
      let given : List Credit =
      credits_for c.args.submitters.now.list bidding (take c.loop-place.place c.args.bidders.now) in
      subst (λ (credits : List Credit). CreditsBook c.args.security credits c.args.accounts.now c.credit.new.self)
      (sym (credits_more c.args.submitters.now.list bidding c.args.bidders.now c.loop-place.place e short
      c.index-bidders-place.is))
      (CreditsBook-push c.args.security given (credit_for c.args.submitters.now.list bidding e) c.args.accounts.now
      c.loop-place.accounts c.credit.new.self (c.loop-place.invariant.credits bidding same)
      (rw (named, due) at c.credit.ensures.accounts) c.credit.ensures.others);
  room = record {
    spare_accounts = omega (arith, c.loop-place.invariant.room.spare_accounts, c.credit.ensures.room.spare_accounts);
    spare_marks = omega (arith, c.loop-place.invariant.room.spare_marks, c.credit.ensures.room.spare_marks);
    spare_redeems = omega (arith, c.loop-place.invariant.room.spare_redeems, c.credit.ensures.room.spare_redeems);
  };
  redeemed = c.credit.ensures.others.redeemed ∙ c.loop-place.invariant.redeemed;
}

pub returns-clause-credits : goal.returns-clause-credits
returns-clause-credits c bidding same =
    subst (λ (es : List Enrolment).
    CreditsBook c.args.security (credits_for c.args.submitters.now.list bidding es) c.args.accounts.now
    c.loop-place.accounts)
    (take_all c.loop-place.place c.args.bidders.now (omega arith)) (c.loop-place.invariant.credits bidding same)
