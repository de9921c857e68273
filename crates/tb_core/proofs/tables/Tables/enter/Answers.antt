-- The rows are those before par and money were moved.
use Rattle.std.proofs.Common.{◌≡◌, ◌<◌, ◌^◌, length, sym, subst}
use Rattle.tb_holdings.specs.Book.{Book}
use Rattle.tb_funds.specs.Funds.{Money}
use Rattle.tb_history.specs.LiveBids.{bids}
use Rattle.tb_core.specs.declared.tables.Tables.{Tables}
use Rattle.tb_ledger.specs.Accounting.{TellsNext}
use Rattle.tb_cashbook.specs.Cashbook.{Means, TellsNext as TellsMoney}
use Rattle.tb_core.specs.Crediting.{cash_in, movement_in}
use Rattle.tb_shelving.specs.Shelving.{TakesMessage}
use Rattle.tb_core.proofs.EnterLemmas.{HasEntered-kept, HasRoom-left, HasRows-kept}
use Rattle.tb_core.proofs.tables.Tables.enter.Goals as goal

pub move_all-requires-clause-tied : goal.move_all-requires-clause-tied
move_all-requires-clause-tied c = (c.args.entries.now.list, c.requires.tied)

pub enter_rows-requires-clause-tied : goal.enter_rows-requires-clause-tied
enter_rows-requires-clause-tied c =
    subst (λ (tables : Tables). tables.bids.list ≡ bids c.args.entries.now.list) (sym c.move_all.ensures.keeps.same)
    c.requires.tied.bids_are

pub enter_rows-requires-clause-room : goal.enter_rows-requires-clause-room
enter_rows-requires-clause-room c =
    HasRows-kept 1 c.args.self.now c.move_all.new.self c.move_all.ensures.keeps c.requires.room.rows

pub enter_rows-requires-clause-few : goal.enter_rows-requires-clause-few
enter_rows-requires-clause-few c =
    subst (λ (tables : Tables). length tables.bidders.list < 2 ^ 32) (sym c.move_all.ensures.keeps.same) c.requires.few

pub enter_rows-requires-clause-takes : goal.enter_rows-requires-clause-takes
enter_rows-requires-clause-takes c =
    subst (λ (tables : Tables).
    TakesMessage tables.bidders.list c.args.sender.now c.args.number c.args.message.now tables.shelf)
    (sym c.move_all.ensures.keeps.same) c.requires.takes

pub returns-clause-entered : goal.returns-clause-entered
returns-clause-entered c =
    HasEntered-kept c.args.sender.now c.args.number c.args.message.now c.args.self.now c.move_all.new.self
    c.enter_rows.new.self c.move_all.ensures.keeps c.enter_rows.ensures.entered

pub returns-clause-told : goal.returns-clause-told
returns-clause-told c =
    subst (λ (book : Book). TellsNext (movement_in c.args.self.now c.args.sender.now c.args.number c.args.message.now)
    c.args.self.now.accounts book) (sym c.enter_rows.ensures.accounts) c.move_all.ensures.told

pub returns-clause-funds : goal.returns-clause-funds
returns-clause-funds c =
    subst (λ (money : Money).
    TellsMoney (Means (cash_in c.args.self.now c.args.sender.now c.args.number c.args.message.now))
    c.args.self.now.funds money)
    (sym c.enter_rows.ensures.funds) c.move_all.ensures.funds

pub returns-clause-room : goal.returns-clause-room
returns-clause-room c =
    HasRoom-left c.args.sender.now c.args.number c.args.message.now c.args.self.now c.move_all.new.self
    c.enter_rows.new.self c.move_all.ensures.keeps c.enter_rows.ensures.entered c.enter_rows.ensures.accounts
    c.enter_rows.ensures.funds c.move_all.ensures.room c.move_all.ensures.spends c.enter_rows.ensures.room
