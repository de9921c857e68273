-- The book is the one that a redemption makes.
use Rattle.tb_movements.proofs.TellingLemmas.{TellsMore-redeemed}
use Rattle.tb_movements.proofs.calls.redeem.Goals as goal

pub returns-clause-told : goal.returns-clause-told
returns-clause-told c =
    TellsMore-redeemed c.args.security c.args.accounts.now c.redeem.new.self c.requires.live
    (record {
      accounts = c.redeem.ensures.accounts;
      marks = c.redeem.ensures.marks;
      redeemed = c.redeem.ensures.redeemed;
      paid = c.redeem.ensures.paid;
    })
