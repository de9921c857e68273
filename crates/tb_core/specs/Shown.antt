-- The lines of what is held and of what was paid, each as it is shown or left out.
use Rattle.std.specs.Prelude.{◌≡◌, ℕ, ◌&&◌, Bool, true, false, nat_lt, Option, Some, None, List}
use Rattle.std.specs.List.{AllWithin}
use Rattle.tb_terms.specs.declared.announcement.Announcement.{Announcement}
use Rattle.tb_terms.specs.declared.cusip.Cusip.{Cusip}
use Rattle.tb_message.specs.declared.message.Entry.{Entry}
use Rattle.tb_holdings.specs.Book.{Book, held_of, pledged_of, free_of}
use Rattle.tb_history.specs.declared.roster.Registration.{Registration}
use Rattle.tb_history.specs.declared.readings.HoldingLine.{HoldingLine}
use Rattle.tb_history.specs.declared.readings.PaidLine.{PaidLine}
use Rattle.tb_history.specs.Roster.{announcements, bill_of, is_registered, registrations}
use Rattle.tb_history.specs.Holdings as history
use Rattle.tb_history.specs.Readings.{is_first, IsHoldingLine, IsPaidLine}
use Rattle.tb_core.specs.declared.tables.Tables.{Tables}
use Rattle.tb_tables.specs.Auctions.{announced_in}
use Rattle.tb_ledger.specs.Accounting.{numbers_in}
use Rattle.tb_core.specs.House.{AreTied}

-- the line is what the book has of a holder and a security
pub record IsLineOf (book : Book) (holder security : ℕ) (cusip : Cusip) (line : HoldingLine) : Type 0 where
  pub which : line.cusip ≡ cusip
  pub held : line.held.value ≡ held_of holder security book
  pub pledged : line.pledged.value ≡ pledged_of holder security book
  pub free : line.free.value ≡ free_of holder security book

-- the announcement is the first of its bill, and the participant holds some of it
abbrev pub is_shown : List Entry → List ℕ → Announcement → Bool
is_shown entries participant a =
    is_first (bill_of (announcements entries) a.cusip) a && nat_lt 0 (history.held_of entries participant a.cusip)

-- then it has its line
abbrev pub IsShown : List Entry → List ℕ → Announcement → Option HoldingLine → Type 0
IsShown entries participant a None = is_shown entries participant a ≡ false
IsShown entries participant a (Some line) =
    (is_shown entries participant a ≡ true) × IsHoldingLine entries participant a.cusip line

-- whoever has this number has no line for the announcements from one place up to another
abbrev pub HasNoLine : Tables → ℕ → ℕ → ℕ → Type 0
HasNoLine tables holder from to =
    (entries : List Entry) (participant : List ℕ)
    → AreTied entries tables
    → is_registered (registrations entries) participant ≡ true
    → holder ≡ (numbers_in tables.submitters.list tables.auctions.list).holder participant
    → AllWithin (λ (a : Announcement). is_shown entries participant a ≡ false) (announced_in tables.auctions.list) from
    to

-- the submitter was paid something, and has its line
abbrev pub IsPaidOut : List Entry → Cusip → Registration → Option PaidLine → Type 0
IsPaidOut entries cusip r None = nat_lt 0 (history.paid_to entries r.submitter cusip) ≡ false
IsPaidOut entries cusip r (Some line) =
    (nat_lt 0 (history.paid_to entries r.submitter cusip) ≡ true) × IsPaidLine entries cusip r.submitter line
