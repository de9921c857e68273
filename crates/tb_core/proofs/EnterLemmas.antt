-- What a message moves and what it adds to the tables, together.
use Rattle.std.proofs.Common.{◌≡◌, ℕ, ◌+◌, ◌*◌, ◌≤◌, ◌∙◌, false, List, [], length, length-append, refl, sym, ap, subst}
use Rattle.std.proofs.Common.{arith}
use Rattle.std.proofs.Math.Nat.{mul-le-mul_left}
use Rattle.tb_message.specs.declared.message.Message.{Message}
use Rattle.tb_message.specs.declared.message.Message.TheVariants as message
use Rattle.tb_holdings.specs.Book.{Book, TakesRoom}
use Rattle.tb_funds.specs.Funds.{Money, TakesRoom as TakesMoneyRoom}
use Rattle.tb_history.specs.declared.roster.Enrolment.{Enrolment}
use Rattle.tb_history.specs.Entries.{enrolled_by}
use Rattle.tb_history.specs.Moves.{movement_by}
use Rattle.tb_history.specs.Trades.{is_purchase}
use Rattle.tb_ledger.specs.declared.scratch.Scratch.{Scratch}
use Rattle.tb_core.specs.declared.tables.Tables.{Tables}
use Rattle.tb_ledger.specs.Accounting.{numbers_in}
use Rattle.tb_core.specs.Crediting.{movement_in}
use Rattle.tb_tables.specs.Kinds.{settles}
use Rattle.tb_ledger.specs.Settling.{IsTaken, KeepsScratch}
use Rattle.tb_core.specs.House.{HasAccountRoom, HasEntered, HasMoneyRoom, HasRows, HasRoom, KeepsRows, with_accounts}

-- what is no settlement and no purchase moves by its numbers alone
pub moves-plain : (tables : Tables) (s : List ℕ) (n : ℕ) (m : Message)
    → settles m ≡ false
    → is_purchase m ≡ false
    → movement_by (numbers_in tables.submitters.list tables.auctions.list) [] s n m ≡ movement_in tables s n m
moves-plain tables s n (message.Settle auction) other unbought = absurd cc
moves-plain tables s n (message.Buy seller offer) other unbought = absurd cc
moves-plain tables s n plain other unbought = refl

-- rows are kept by what keeps them twice
pub KeepsRows-both : (old middle new : Tables) → KeepsRows old middle → KeepsRows middle new → KeepsRows old new
KeepsRows-both old middle new first second = record {
  same = second.same
      ∙ ap (λ (tables : Tables). with_accounts tables new.accounts new.funds new.scratch) first.same;
  scratch = KeepsScratch-both old.scratch middle.scratch new.scratch first.scratch second.scratch;
}
  where
    -- and so is the scratch list
    KeepsScratch-both : (old middle new : Scratch) → KeepsScratch old middle → KeepsScratch middle new
        → KeepsScratch old new
    KeepsScratch-both old middle new first second = record {
      lasts = second.lasts ∙ first.lasts;
      lines = omega (arith, first.lines, second.lines);
      bidders = omega (arith, first.bidders, second.bidders);
      positions = omega (arith, first.positions, second.positions);
      awards = omega (arith, first.awards, second.awards);
    }

-- tables that keep their rows have the room for rows
pub HasRows-kept : (room : ℕ) (old new : Tables) → KeepsRows old new → HasRows room old → HasRows room new
HasRows-kept room old new keeps has =
    subst (λ (tables : Tables). HasRows room tables) (sym keeps.same) (assumption has)

-- a scratch list with as much room lasts as long
IsTaken-kept : (old kept new : Scratch) → KeepsScratch old kept → IsTaken kept new → IsTaken old new
IsTaken-kept old kept new keeps taken = record {
  lasts = omega (arith, keeps.lasts, taken.lasts);
  has = λ bids bidders has. taken.has bids bidders (record {
    lines = λ some. omega (arith, keeps.lasts, keeps.lines, has.lines (omega (arith, some, keeps.lasts)));
    bidders_too = λ some. omega (arith, keeps.lasts, keeps.bidders, has.bidders_too (omega (arith, some, keeps.lasts)));
    positions = λ some. omega (arith, keeps.lasts, keeps.positions, has.positions (omega (arith, some, keeps.lasts)));
    awards = λ some. omega (arith, keeps.lasts, keeps.awards, has.awards (omega (arith, some, keeps.lasts)));
  });
}

-- what is added to tables that keep their rows is added to the tables before
pub HasEntered-kept : (s : List ℕ) (n : ℕ) (m : Message) (old kept new : Tables)
    → KeepsRows old kept
    → HasEntered s n m kept new
    → HasEntered s n m old new
HasEntered-kept s n m old kept new keeps entered =
    let same : HasEntered s n m (with_accounts old kept.accounts kept.funds kept.scratch) new =
    subst (λ (tables : Tables). HasEntered s n m tables new) keeps.same entered in
    let taken : IsTaken old.scratch new.scratch =
    IsTaken-kept old.scratch kept.scratch new.scratch keeps.scratch entered.scratch in
    assumption (taken, same)

-- where a message takes so many accounts, and enrols a bidder at most, there is room for one message fewer
accounts_left : (room before after old new : ℕ)
    → after ≤ before + 1
    → (room + 1) * (before + (room + 1) + 1) ≤ old
    → old ≤ new + (before + 1)
    → room * (after + room + 1) ≤ new
accounts_left room before after old new more has left =
    let step : room * (after + room + 1) ≤ room * (before + 1 + room + 1) =
    mul-le-mul_left room (omega (arith, more)) in
    omega (arith, step, has, left)

-- a message enrols a bidder at most
pub one-bidder : (m : Message) → length (enrolled_by m) ≤ 1
one-bidder (message.Enrol bidder submitter) = omega arith
one-bidder other = omega arith

-- so there is room for one message fewer
pub HasRoom-left : (s : List ℕ) (n : ℕ) (m : Message) (old kept new : Tables)
    → KeepsRows old kept
    → HasEntered s n m kept new
    → new.accounts ≡ kept.accounts
    → new.funds ≡ kept.funds
    → TakesRoom (length old.bidders.list + 1) 1 1 old.accounts kept.accounts
    → TakesMoneyRoom 1 1 old.funds kept.funds
    → ((room : ℕ) → HasRows (room + 1) kept → HasRows room new)
    → (room : ℕ) → HasRoom (room + 1) old → HasRoom room new
HasRoom-left s n m old kept new keeps entered accounts money takes spends rows room has =
    let all : HasEntered s n m old new = HasEntered-kept s n m old kept new keeps entered in
    let more : length new.bidders.list ≤ length old.bidders.list + 1 =
    omega (
      arith,
      ap (λ (es : List Enrolment). length es) all.bidders,
      length-append old.bidders.list (enrolled_by m),
      one-bidder m,
    ) in
    record {
      rows = rows room (HasRows-kept (room + 1) old kept keeps has.rows);
      accounts = subst (λ (book : Book). HasAccountRoom room (length new.bidders.list) book) (sym accounts) (record {
        accounts = accounts_left room (length old.bidders.list) (length new.bidders.list) old.accounts.spare_accounts
            kept.accounts.spare_accounts more has.accounts.accounts takes.spare_accounts;
        marks = omega (arith, has.accounts.marks, takes.spare_marks);
        redeems = omega (arith, has.accounts.redeems, takes.spare_redeems);
      });
      money = subst (λ (funds : Money). HasMoneyRoom room funds) (sym money) (record {
        balances = omega (arith, has.money.balances, spends.spare_balances);
        offers = omega (arith, has.money.offers, spends.spare_offers);
      });
    }
