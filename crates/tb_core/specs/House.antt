-- The host as contracts see it, and how its tables are tied to the history.
use Rattle.std.specs.Prelude.{◌≡◌, ℕ, ◌+◌, ◌*◌, ◌^◌, ◌<◌, ◌≤◌, ◌++◌, List, [], ◌∷◌, length}
use Rattle.tb_message.specs.declared.message.Entry.{Entry}
use Rattle.tb_message.specs.declared.message.Message.{Message}
use Rattle.tb_message.specs.declared.message.Message.TheVariants as message
use Rattle.tb_shelf.specs.Shelves.{IsChanged, IsLowered, Shelved}
use Rattle.tb_units.specs.declared.moment.Moment.{Moment}
use Rattle.tb_history.specs.declared.bids.Bid.{Bid}
use Rattle.tb_history.specs.Readings.{place_of}
use Rattle.tb_history.specs.Entries.{registered_by, enrolled_by, entered_by, announced_by, published_by, settled_by}
use Rattle.tb_history.specs.Entries.{redeemed_by, added_by, bid_by, cancelled_by, reported_by}
use Rattle.tb_history.specs.Roster.{registrations, enrolments, holidays, announcements, publications, settlements}
use Rattle.tb_history.specs.Roster.{redemptions, add_ons}
use Rattle.tb_history.specs.LiveBids.{bids, cancels, reports}
use Rattle.tb_history.specs.Legal.{IsLegal, last_of}
use Rattle.tb_movements.specs.Told.{IsTold}
use Rattle.tb_holdings.specs.Book.{Book}
use Rattle.tb_ledger.specs.declared.scratch.Scratch.{Scratch}
use Rattle.tb_core.specs.declared.tables.Tables.{Tables}
use Rattle.tb_tables.specs.Auctions.{announced_in}
use Rattle.tb_tables.specs.Calendar.{IsCalendar, AddsDays}
use Rattle.tb_funds.specs.Funds.{Money, SameMoney}
use Rattle.tb_cashbook.specs.Cashbook.{TellsFunds}
use Rattle.tb_ledger.specs.Accounting.{moved_in, TellsSame}
use Rattle.tb_shelving.specs.Rooms.{Room}
use Rattle.tb_ledger.specs.Settling.{HasScratch, IsTaken, KeepsScratch}
use Rattle.tb_shelving.specs.Shelving.{AreBooks, HasShelved, IsKeptShelf}
use Rattle.tb_index.specs.Listed.{Listed}

-- the history, and for which messages there is room
pub record House : Type 0 where
  pub history : List Entry
  pub room : Room

-- the history is legal, and each table is what it says
pub record AreTied (history : List Entry) (tables : Tables) : Type 0 where
  pub legal : IsLegal history
  pub last_is : tables.last.seconds ≡ last_of history
  pub submitters_are : tables.submitters.list ≡ registrations history
  pub bidders_are : tables.bidders.list ≡ enrolments history
  pub holidays_are : tables.holidays.list ≡ holidays history
  pub auctions_are : announced_in tables.auctions.list ≡ announcements history
  pub bids_are : tables.bids.list ≡ bids history
  pub cancels_are : tables.cancels.list ≡ cancels history
  pub reports_are : tables.reports.list ≡ reports history
  pub published_are : tables.published.list ≡ publications history
  pub settled_are : tables.settled.list ≡ settlements history
  pub redeemed_are : tables.redeemed.list ≡ redemptions history
  pub add_ons_are : tables.add_ons.list ≡ add_ons history
  pub books_are : AreBooks history tables.shelf.books
  pub calendar_is : IsCalendar tables.calendar.list (holidays history)
  pub accounts_tell : IsTold (moved_in history) tables.accounts
  pub funds_tell : TellsFunds history tables.funds

-- so many adds are sure in each table, and in each book that stands ready
pub record HasRows (room : ℕ) (tables : Tables) : Type 0 where
  pub submitters : room ≤ tables.submitters.spare
  pub bidders : room ≤ tables.bidders.spare
  pub holidays : room ≤ tables.holidays.spare
  pub auctions : room ≤ tables.auctions.spare
  pub bids : room ≤ tables.bids.spare
  pub cancels : room ≤ tables.cancels.spare
  pub reports : room ≤ tables.reports.spare
  pub published : room ≤ tables.published.spare
  pub settled : room ≤ tables.settled.spare
  pub redeemed : room ≤ tables.redeemed.spare
  pub add_ons : room ≤ tables.add_ons.spare
  pub places : room ≤ tables.shelf.places
  pub calendar : room ≤ tables.calendar.spare

-- so many messages may move par, where there are so many bidders: a settlement may open an account for each and one for
-- the holder of an add-on, and each message may enrol one more
pub record HasAccountRoom (room bidders : ℕ) (book : Book) : Type 0 where
  pub accounts : room * (bidders + room + 1) ≤ book.spare_accounts
  pub marks : room ≤ book.spare_marks
  pub redeems : room ≤ book.spare_redeems

-- so many messages may move money or make offers
pub record HasMoneyRoom (room : ℕ) (money : Money) : Type 0 where
  pub balances : room ≤ money.spare_balances
  pub offers : room ≤ money.spare_offers

-- so many messages may be entered
pub record HasRoom (room : ℕ) (tables : Tables) : Type 0 where
  pub rows : HasRows room tables
  pub accounts : HasAccountRoom room (length tables.bidders.list) tables.accounts
  pub money : HasMoneyRoom room tables.funds

-- the tables with other accounts and other funds, and another scratch list
abbrev pub with_accounts : Tables → Book → Money → Scratch → Tables
with_accounts tables accounts money scratch = record tables { accounts = accounts; funds = money; scratch = scratch }

-- nothing but the accounts and the funds is changed, and the room of settlements stays
pub record KeepsRows (old new : Tables) : Type 0 where
  pub same : new ≡ with_accounts old new.accounts new.funds new.scratch
  pub scratch : KeepsScratch old.scratch new.scratch

-- there are few participants and bills to number
pub record AreFew (tables : Tables) : Type 0 where
  pub submitters : length tables.submitters.list < 2 ^ 32
  pub auctions : length tables.auctions.list < 2 ^ 32

-- each table is longer by what the message of a sender under a number says
pub record HasEntered (submitter : List ℕ) (number : ℕ) (message : Message) (old new : Tables) : Type 0 where
  pub submitters : new.submitters.list ≡ old.submitters.list ++ registered_by message
  pub bidders : new.bidders.list ≡ old.bidders.list ++ enrolled_by message
  pub holidays : new.holidays.list ≡ old.holidays.list ++ entered_by message
  pub auctions : announced_in new.auctions.list ≡ announced_in old.auctions.list ++ announced_by message
  pub bids : new.bids.list ≡ old.bids.list ++ bid_by submitter number message
  pub cancels : new.cancels.list ≡ old.cancels.list ++ cancelled_by submitter message
  pub reports : new.reports.list ≡ old.reports.list ++ reported_by submitter message
  pub published : new.published.list ≡ old.published.list ++ published_by message
  pub settled : new.settled.list ≡ old.settled.list ++ settled_by message
  pub redeemed : new.redeemed.list ≡ old.redeemed.list ++ redeemed_by message
  pub add_ons : new.add_ons.list ≡ old.add_ons.list ++ added_by message
  pub shelf : HasShelved old.bidders.list old.bids.list submitter number message old.shelf new.shelf
  pub scratch : IsTaken old.scratch new.scratch
  pub calendar : AddsDays (entered_by message) old.calendar.list new.calendar.list

-- each table has the same rows
pub record AreSame (old new : Tables) : Type 0 where
  pub last : new.last ≡ old.last
  pub submitters : new.submitters.list ≡ old.submitters.list
  pub bidders : new.bidders.list ≡ old.bidders.list
  pub holidays : new.holidays.list ≡ old.holidays.list
  pub auctions : new.auctions.list ≡ old.auctions.list
  pub bids : new.bids.list ≡ old.bids.list
  pub cancels : new.cancels.list ≡ old.cancels.list
  pub reports : new.reports.list ≡ old.reports.list
  pub published : new.published.list ≡ old.published.list
  pub settled : new.settled.list ≡ old.settled.list
  pub redeemed : new.redeemed.list ≡ old.redeemed.list
  pub add_ons : new.add_ons.list ≡ old.add_ons.list
  pub shelf : IsKeptShelf old.shelf new.shelf
  pub lasts : old.scratch.lasts ≤ new.scratch.lasts
  pub calendar : new.calendar.list ≡ old.calendar.list
  pub accounts : TellsSame old.accounts new.accounts
  pub funds : SameMoney old.funds new.funds

-- the message is a bid
abbrev pub IsBid : Message → Type 0
IsBid (message.Bid auction bidder rate amount) = Unit {0}
IsBid other = ⊥

-- the last entry is a bid, and the entry before it, if there is one, has this moment
pub record EndsWithBid (history : List Entry) (before : Moment) : Type 0 where
  pub earlier : List Entry
  pub last : Entry
  pub is : history ≡ earlier ++ last ∷ []
  pub bid : IsBid last.message
  pub moment : before.seconds ≡ last_of earlier

-- the tables with other bids and books, and another last moment
abbrev pub with_bids : Tables → Listed Bid → Shelved → Moment → Tables
with_bids tables bids shelf last = record tables { bids = bids; shelf = shelf; last = last }

-- the last bid is taken back, its line is out of its auction's book, and the last moment is the one before it
pub record IsTakenBack (before : Moment) (old new : Tables) : Type 0 where
  pub bid : Bid
  pub bids : old.bids.list ≡ new.bids.list ++ bid ∷ []
  pub spare : old.bids.spare ≤ new.bids.spare
  pub books : IsChanged bid.auction (IsLowered bid.rate (place_of old.bidders.list bid.bidder) bid.number)
      old.shelf.books new.shelf.books
  pub ready : new.shelf.ready ≡ old.shelf.ready
  pub places : new.shelf.places ≡ old.shelf.places
  pub same : new ≡ with_bids old new.bids new.shelf before

-- the host's entries and tables are tied, so many messages may be applied, and a settlement finds its room
pub record IsHouse (entries : Listed Entry) (tables : Tables) (room : ℕ) : Type 0 where
  pub tied : AreTied entries.list tables
  pub roomy : HasRoom room tables
  pub spare : room ≤ entries.spare
  pub scratch : HasScratch (length tables.bids.list) (length tables.bidders.list) tables.scratch

-- what there is room for, by what is kept
abbrev pub room_of : ℕ → Tables → Room
room_of room tables = record { messages = room; shelf = tables.shelf; settling = tables.scratch.lasts }
