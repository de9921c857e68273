-- Nothing has moved.
use Rattle.tb_movements.proofs.TellingLemmas.{IsTold-empty}
use Rattle.tb_movements.proofs.calls.empty_book.Goals as goal

pub returns-clause-told : goal.returns-clause-told
returns-clause-told c =
    IsTold-empty c.new.result (record {
      accounts = c.new.ensures.accounts;
      marks = c.new.ensures.marks;
      redeemed = c.new.ensures.redeemed.0;
      paid = c.new.ensures.redeemed.1;
    })
