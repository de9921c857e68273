-- The empty history is legal, and the tables are empty.
use Rattle.std.proofs.Common.{subst, sym, arith, List}
use Rattle.tb_message.specs.declared.message.Entry.{Entry}
use Rattle.tb_core.specs.House.{AreTied}
use Rattle.tb_core.proofs.TiedLemmas.{AreTied-empty}
use Rattle.tb_core.proofs.host.Host.new.Goals as goal

pub invariant_of-result : goal.invariant_of-result
invariant_of-result c = record {
  tied = subst (λ (h : List Entry). AreTied h c.new-3.result) (sym c.new-2.ensures.list)
      (AreTied-empty c.new-3.result c.new-3.ensures.roster c.new-3.ensures.auctions c.new-3.ensures.bids
      c.new-3.ensures.shelf c.new-3.ensures.accounts c.new-3.ensures.funds c.new-3.ensures.last);
  roomy = record {
    rows = record {
      submitters = omega arith;
      bidders = omega arith;
      holidays = omega arith;
      auctions = omega arith;
      bids = omega arith;
      cancels = omega arith;
      reports = omega arith;
      published = omega arith;
      settled = omega arith;
      redeemed = omega arith;
      add_ons = omega arith;
      places = omega arith;
      calendar = omega arith;
    };
    accounts = record { accounts = omega arith; marks = omega arith; redeems = omega arith };
    money = record { balances = omega arith; offers = omega arith };
  };
  spare = omega arith;
  scratch = record {
    lines = λ some. absurd (omega (arith, some, c.new-3.ensures.shelf.1));
    bidders_too = λ some. absurd (omega (arith, some, c.new-3.ensures.shelf.1));
    positions = λ some. absurd (omega (arith, some, c.new-3.ensures.shelf.1));
    awards = λ some. absurd (omega (arith, some, c.new-3.ensures.shelf.1));
  };
}
