-- The books of tables that are tied to a history have what stands of a bidder.
use Rattle.std.proofs.Common.{◌≡◌, ℕ, List, Option, Some, None, is_some, true, ◌∙◌, sym, ap, subst}
use Rattle.std.specs.Prelude.{IfNone, IfSome}
use Rattle.std.specs.List.{filter}
use Rattle.tb_message.specs.declared.message.Entry.{Entry}
use Rattle.tb_terms.specs.declared.announcement.Announcement.{Announcement}
use Rattle.tb_book.specs.Books.{Bids}
use Rattle.tb_shelf.specs.Shelves.{book_in, is_open}
use Rattle.tb_history.specs.Holdings.{bidding_in}
use Rattle.tb_history.specs.Roster.{announcement_of, announcements, is_published}
use Rattle.tb_results.specs.Biddings.{AreBooked}
use Rattle.tb_history.specs.LiveBids.{bids_of, competitive_in, is_live, noncompetitive_in, par_of}
use Rattle.tb_history.specs.Readings.{place_of}
use Rattle.tb_history.proofs.LegalLemmas.{IsLegal-orderly}
use Rattle.tb_core.specs.declared.tables.Tables.{Tables}
use Rattle.tb_core.specs.House.{AreTied}
use Rattle.tb_shelving.specs.Standings.{competitive_there, noncompetitive_there}
use Rattle.tb_shelving.proofs.SumLemmas.{book-announced, book-booked, competitive-booked, noncompetitive-booked}

-- its competitive par
pub tied-competitive : (h : List Entry) (tables : Tables) → AreTied h tables
    → (auction bidder : List ℕ) (number : ℕ)
    → number ≡ place_of tables.bidders.list bidder
    → competitive_there number (book_in tables.shelf.books auction)
    ≡ par_of (competitive_in (filter (is_live tables.cancels.list) (bids_of tables.bids.list auction bidder)))
tied-competitive h tables tied auction bidder number is =
    rw (is, tied.bidders_are, tied.bids_are, tied.cancels_are)
    (competitive-booked h tables.shelf.books auction bidder (IsLegal-orderly h tied.legal) tied.books_are)

-- and its noncompetitive par
pub tied-noncompetitive : (h : List Entry) (tables : Tables) → AreTied h tables
    → (auction bidder : List ℕ) (number : ℕ)
    → number ≡ place_of tables.bidders.list bidder
    → noncompetitive_there number (book_in tables.shelf.books auction)
    ≡ par_of (noncompetitive_in (filter (is_live tables.cancels.list) (bids_of tables.bids.list auction bidder)))
tied-noncompetitive h tables tied auction bidder number is =
    rw (is, tied.bidders_are, tied.bids_are, tied.cancels_are)
    (noncompetitive-booked h tables.shelf.books auction bidder (IsLegal-orderly h tied.legal) tied.books_are)

-- a book that is found by the name of an announced auction has the live bids of its bidding
pub booked-found : {B : Type 0} (book_at : B → Bids) (found : Option B) (tables : Tables) (auction : List ℕ)
    → IfSome found (λ b. book_in tables.shelf.books auction ≡ Some (book_at b))
    → IfSome found (λ b. (h : List Entry) (a : Announcement) → AreTied h tables
    → announcement_of (announcements h) auction ≡ Some a → AreBooked (bidding_in h a) (book_at b).lines)
booked-found book_at None tables auction is = tt
booked-found book_at (Some b) tables auction is = λ h a tied announced.
    book-booked h tables.shelf.books auction a (book_at b) tied.books_are announced is

-- and it is open where the auction is published
pub open-found : {B : Type 0} (book_at : B → Bids) (found : Option B) (tables : Tables) (auction : List ℕ)
    → IfSome found (λ b. book_in tables.shelf.books auction ≡ Some (book_at b))
    → IfSome found (λ b. (h : List Entry) → AreTied h tables → is_published h auction ≡ true
    → (book_at b).opened ≡ true)
open-found book_at None tables auction is = tt
open-found book_at (Some b) tables auction is = λ h tied published.
    subst (λ (there : Option Bids). is_open there ≡ true) is (tied.books_are.opened auction published)

-- and one is found just where the auction is announced
pub there-found : {B : Type 0} (book_at : B → Bids) (found : Option B) (tables : Tables) (auction : List ℕ)
    → IfSome found (λ b. book_in tables.shelf.books auction ≡ Some (book_at b))
    → IfNone found (book_in tables.shelf.books auction ≡ None)
    → (h : List Entry) → AreTied h tables
    → is_some found ≡ is_some (announcement_of (announcements h) auction)
there-found book_at None tables auction is none h tied =
    ap is_some (sym none) ∙ book-announced h tables.shelf.books auction tied.books_are
there-found book_at (Some b) tables auction is none h tied =
    ap is_some (sym is) ∙ book-announced h tables.shelf.books auction tied.books_are
