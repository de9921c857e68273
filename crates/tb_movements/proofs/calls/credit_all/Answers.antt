-- Each credit in turn.
use Rattle.std.proofs.Common.{◌==◌, refl, sym, subst, take, eq-eqb, arith}
use Rattle.std.proofs.lemmas.Bool.{cond-true}
use Rattle.tb_movements.specs.Movements.{credited_in_all}
use Rattle.tb_movements.specs.Credits.{credit_of, credits_of, CreditsBook}
use Rattle.tb_movements.proofs.CreditLemmas.{CreditsBook-push, CreditsBook-all, credits_more, next_fits}
use Rattle.tb_movements.proofs.TellingLemmas.{TellsMore-settled}
use Rattle.tb_movements.proofs.calls.credit_all.Goals as goal

pub credit-requires-clause-limit : goal.credit-requires-clause-limit
credit-requires-clause-limit c =
    omega (
      arith,
      c.loop-award.invariant.credits.total c.args.security,
      cond-true (c.args.security == c.args.security)
          (credited_in_all (credits_of (take c.loop-award.award-index c.args.awards.now))) 0
          (eq-eqb c.args.security c.args.security refl),
      next_fits c.args.awards.now c.loop-award.award-index c.award-item.result (omega arith) c.award-item.is,
    )

pub loop-award-preserved : goal.loop-award-preserved
loop-award-preserved c = record {
  credits =
      subst (λ given. CreditsBook c.args.security given c.args.accounts.now c.credit.new.self)
      (sym (credits_more c.args.awards.now c.loop-award.award-index c.award-item.result (omega arith) c.award-item.is))
      (CreditsBook-push c.args.security (credits_of (take c.loop-award.award-index c.args.awards.now))
      (credit_of c.award-item.result) c.args.accounts.now c.loop-award.accounts c.credit.new.self
      c.loop-award.invariant.credits c.credit.ensures.accounts c.credit.ensures.others);
  room = record {
    spare_accounts = omega (arith, c.loop-award.invariant.room.spare_accounts, c.credit.ensures.room.spare_accounts);
    spare_marks = omega (arith, c.loop-award.invariant.room.spare_marks, c.credit.ensures.room.spare_marks);
    spare_redeems = omega (arith, c.loop-award.invariant.room.spare_redeems, c.credit.ensures.room.spare_redeems);
  };
}

pub returns-clause-told : goal.returns-clause-told
returns-clause-told c =
    TellsMore-settled c.args.security (credits_of c.args.awards.now) c.args.accounts.now c.loop-award.accounts
    c.requires.live
    (CreditsBook-all c.args.security c.args.awards.now c.loop-award.award-index
    c.args.accounts.now c.loop-award.accounts c.loop-award-test.false c.loop-award.invariant.credits)
