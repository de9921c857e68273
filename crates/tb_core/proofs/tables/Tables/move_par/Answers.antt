-- A settlement credits what is awarded, and each other message moves what it says.
use Rattle.std.proofs.Common.{◌≡◌, false, Option, refl, rules, sym, subst, arith}
use Rattle.tb_message.specs.declared.message.Message.{Message}
use Rattle.tb_movements.specs.Movements.{Movement}
use Rattle.tb_ledger.specs.Accounting.{TellsNext}
use Rattle.tb_history.specs.Trades.{is_purchase}
use Rattle.tb_shelving.specs.Shelving.{TakesMessage}
use Rattle.tb_core.specs.Crediting.{movement_in}
use Rattle.tb_tables.specs.Kinds.{settles}
use Rattle.tb_core.proofs.EnterLemmas.{moves-plain}
use Rattle.tb_core.proofs.tables.Tables.move_par.Goals as goal

pub settle-requires-clause-opened : goal.settle-requires-clause-opened
settle-requires-clause-opened c =
    subst (λ (m : Message). TakesMessage c.args.self.now.bidders.list c.args.sender.now c.args.number m
    c.args.self.now.shelf) c.in-Settle.is c.requires.takes

pub returns-in-Settle-clause-told : goal.returns-in-Settle-clause-told
returns-in-Settle-clause-told c =
    subst (λ (m : Message). TellsNext (movement_in c.args.self.now c.args.sender.now c.args.number m)
    c.args.self.now.accounts
    c.settle.new.self.accounts) (sym c.in-Settle.is) c.settle.ensures.told

pub returns-in-Buy-clause-told : goal.returns-in-Buy-clause-told
returns-in-Buy-clause-told c =
    subst (λ (m : Message). TellsNext (movement_in c.args.self.now c.args.sender.now c.args.number m)
    c.args.self.now.accounts
    c.sell.new.self.accounts) (sym c.in-Buy.is) c.sell.ensures.told

pub returns-in_default-clause-keeps : goal.returns-in_default-clause-keeps
returns-in_default-clause-keeps c = record {
  same = refl;
  scratch = record {
    lasts = refl;
    lines = omega arith;
    bidders = omega arith;
    positions = omega arith;
    awards = omega arith;
  };
}

pub returns-in_default-clause-told : goal.returns-in_default-clause-told
returns-in_default-clause-told c =
    let plain : settles c.args.message.now ≡ false = search rules in
    let unbought : is_purchase c.args.message.now ≡ false = search rules in
    subst (λ (next : Option Movement). TellsNext next c.args.self.now.accounts c.account.new.accounts)
    (moves-plain c.args.self.now c.args.sender.now c.args.number c.args.message.now plain unbought)
    c.account.ensures.told

pub returns-in_default-clause-room : goal.returns-in_default-clause-room
returns-in_default-clause-room c = record {
  spare_accounts = omega (arith, c.account.ensures.room.spare_accounts);
  spare_marks = omega (arith, c.account.ensures.room.spare_marks);
  spare_redeems = omega (arith, c.account.ensures.room.spare_redeems);
}
