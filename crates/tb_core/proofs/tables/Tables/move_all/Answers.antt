-- The money moves by the rows that were there before the par was moved.
use Rattle.std.proofs.Common.{◌+◌, length, sym, subst}
use Rattle.tb_holdings.specs.Book.{Book, TakesRoom}
use Rattle.tb_funds.specs.Funds.{Money, TakesRoom as TakesMoneyRoom}
use Rattle.tb_core.specs.declared.tables.Tables.{Tables}
use Rattle.tb_ledger.specs.Accounting.{TellsNext}
use Rattle.tb_core.specs.Crediting.{movement_in}
use Rattle.tb_core.specs.House.{AreFew}
use Rattle.tb_core.proofs.EnterLemmas.{KeepsRows-both}
use Rattle.tb_core.proofs.MoneyLemmas.{CanEnter-kept, HasMoneyRoom-kept, TellsNext-kept}
use Rattle.tb_core.proofs.tables.Tables.move_all.Goals as goal

pub enter_money-requires-clause-room : goal.enter_money-requires-clause-room
enter_money-requires-clause-room c =
    HasMoneyRoom-kept 1 c.args.self.now.funds c.move_par.new.self.funds c.move_par.ensures.funds c.requires.room.money

pub enter_money-requires-clause-numbered : goal.enter_money-requires-clause-numbered
enter_money-requires-clause-numbered c =
    subst (λ (tables : Tables). AreFew tables) (sym c.move_par.ensures.keeps.same) (record {
      submitters = c.requires.numbered.submitters;
      auctions = c.requires.numbered.auctions;
    })

pub enter_money-requires-clause-next : goal.enter_money-requires-clause-next
enter_money-requires-clause-next c =
    CanEnter-kept c.args.sender.now c.args.number c.args.message.now c.args.self.now c.move_par.new.self
    c.move_par.ensures.keeps c.move_par.ensures.funds c.requires.next

pub returns-clause-keeps : goal.returns-clause-keeps
returns-clause-keeps c =
    KeepsRows-both c.args.self.now c.move_par.new.self c.enter_money.new.self c.move_par.ensures.keeps
    c.enter_money.ensures.keeps

pub returns-clause-told : goal.returns-clause-told
returns-clause-told c =
    subst (λ (book : Book). TellsNext (movement_in c.args.self.now c.args.sender.now c.args.number c.args.message.now)
    c.args.self.now.accounts book) (sym c.enter_money.ensures.accounts) c.move_par.ensures.told

pub returns-clause-funds : goal.returns-clause-funds
returns-clause-funds c =
    TellsNext-kept c.args.sender.now c.args.number c.args.message.now c.args.self.now c.move_par.new.self
    c.enter_money.new.self.funds c.move_par.ensures.keeps c.move_par.ensures.funds c.enter_money.ensures.told

pub returns-clause-room : goal.returns-clause-room
returns-clause-room c =
    subst (λ (book : Book). TakesRoom (length c.args.self.now.bidders.list + 1) 1 1 c.args.self.now.accounts book)
    (sym c.enter_money.ensures.accounts) c.move_par.ensures.room

pub returns-clause-spends : goal.returns-clause-spends
returns-clause-spends c =
    subst (λ (money : Money). TakesMoneyRoom 1 1 money c.enter_money.new.self.funds) c.move_par.ensures.funds
    c.enter_money.ensures.room
