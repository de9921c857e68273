-- The books of auctions: what they have of a history, and how they go by a message.
use Rattle.std.specs.Prelude.{◌≡◌, ℕ, ◌+◌, ◌<◌, ◌≤◌, true, Option, Some, None, IfSome, List, length, map, IsPermutation}
use Rattle.tb_terms.specs.declared.announcement.Announcement.{Announcement}
use Rattle.tb_message.specs.declared.message.Entry.{Entry}
use Rattle.tb_message.specs.declared.message.Message.{Message}
use Rattle.tb_message.specs.declared.message.Message.TheVariants as message
use Rattle.tb_shelf.specs.declared.named.NamedBook.{NamedBook}
use Rattle.tb_shelf.specs.Shelves.{Goes, IsAdded, IsChanged, IsKeptBook, IsLowered, IsOpened, IsUnsealed, Shelved, TakesLine, book_in, is_open, names_in}
use Rattle.tb_history.specs.declared.roster.Enrolment.{Enrolment}
use Rattle.tb_history.specs.declared.bids.Bid.{Bid}
use Rattle.tb_history.specs.declared.bids.Cancel.{Cancel}
use Rattle.tb_history.specs.Entries.{announced_by}
use Rattle.tb_history.specs.Roster.{announcements, enrolments, is_named, publications}
use Rattle.tb_history.specs.LiveBids.{bid_of, bids, cancels, live_bids_in}
use Rattle.tb_history.specs.Readings.{place_of}
use Rattle.tb_results.specs.Biddings.{book_line_of}

-- each book has the live bids of its auction, in some order
abbrev pub AreShelved : List Enrolment → List Bid → List Cancel → List NamedBook → Type 0
AreShelved enrolled all cancelled books =
    (auction : List ℕ)
    → IfSome (book_in books auction)
    (λ book. IsPermutation (map (book_line_of enrolled) (live_bids_in all cancelled auction)) book.lines)

-- each of the auctions named has a book that is open
abbrev pub AreOpen : List (List ℕ) → List NamedBook → Type 0
AreOpen names books = (auction : List ℕ) → is_named names auction ≡ true → is_open (book_in books auction) ≡ true

-- there is a book for each announced auction, and it has the live bids; once the auction is published it is open
pub record AreBooks (history : List Entry) (books : List NamedBook) : Type 0 where
  pub names : names_in books ≡ map (λ (a : Announcement). a.auction) (announcements history)
  pub lines : AreShelved (enrolments history) (bids history) (cancels history) books
  pub opened : AreOpen (publications history) books

-- the line of a bid is the one that the books can take, and what is settled is read from an open book
abbrev pub TakesMessage : List Enrolment → List ℕ → ℕ → Message → Shelved → Type 0
TakesMessage enrolled submitter number (message.Announce terms) shelf = 0 < shelf.ready
TakesMessage enrolled submitter number (message.Bid auction bidder rate amount) shelf =
    IfSome (book_in shelf.books auction)
    (TakesLine (record { bidder = place_of enrolled bidder; number = number; rate = rate; amount = amount }))
TakesMessage enrolled submitter number (message.Settle auction) shelf = is_open (book_in shelf.books auction) ≡ true
TakesMessage enrolled submitter number other shelf = Unit {0}

-- the bid that is cancelled leaves its book
abbrev pub IsOut : List Enrolment → Option Bid → List ℕ → ℕ → List NamedBook → List NamedBook → Type 0
IsOut enrolled None auction number old new = new ≡ old
IsOut enrolled (Some bid) auction number old new =
    IsChanged auction (IsLowered bid.rate (place_of enrolled bid.bidder) number) old new

-- a message of the submitter under the number puts a book there, adds a line, takes one out, opens a book, or leaves
-- all books
abbrev pub Shelves : List Enrolment → List Bid → List ℕ → ℕ → Message → Shelved → Shelved → Type 0
Shelves enrolled all submitter number (message.Announce terms) old new = IsOpened terms.auction old new
Shelves enrolled all submitter number (message.Bid auction bidder rate amount) old new =
    IsChanged auction
    (IsAdded (record { bidder = place_of enrolled bidder; number = number; rate = rate; amount = amount }))
    old.books new.books
Shelves enrolled all submitter number (message.Cancel auction bid) old new =
    IsOut enrolled (bid_of all submitter auction bid) auction bid old.books new.books
Shelves enrolled all submitter number (message.Publish auction) old new =
    IsChanged auction IsUnsealed old.books new.books
Shelves enrolled all submitter number other old new = new.books ≡ old.books

-- so the books go, and of those that stand ready one is opened at most
pub record HasShelved (enrolled : List Enrolment) (all : List Bid) (submitter : List ℕ) (number : ℕ) (message : Message)
    (old new : Shelved) : Type 0 where
  pub books : Shelves enrolled all submitter number message old new
  pub ready : old.ready ≤ new.ready + length (announced_by message)
  pub places : new.places ≡ old.places

-- each book has the lines and at least the room that it had, and as many stand ready
pub record IsKeptShelf (old new : Shelved) : Type 0 where
  pub names : names_in new.books ≡ names_in old.books
  pub books : (auction : List ℕ) → Goes IsKeptBook (book_in old.books auction) (book_in new.books auction)
  pub ready : old.ready ≤ new.ready
  pub places : old.places ≤ new.places
