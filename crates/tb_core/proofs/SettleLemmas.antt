-- The book of an announced auction and the reports are those of its bidding, and a settlement finds its room.
use Rattle.std.proofs.Common.{◌≡◌, ℕ, ◌<◌, ◌≤◌, Bool, true, false, is_some, Option, Some, None, inl, inr, List, [], ◌∷◌, map, length, refl, sym, ap, ◌∙◌, subst, arith}
use Rattle.std.specs.Prelude.{pos, IfSome, IsPermutation}
use Rattle.std.specs.List.{filter}
use Rattle.std.proofs.lemmas.Bool.{and_parts, cases_Bool}
use Rattle.std.proofs.lemmas.List.{length-map}
use Rattle.std.proofs.lemmas.List.Sorted.{length_permutation}
use Rattle.tb_terms.specs.declared.announcement.Announcement.{Announcement}
use Rattle.tb_terms.specs.declared.terms.Terms.{Terms}
use Rattle.tb_message.specs.declared.message.Entry.{Entry}
use Rattle.tb_message.specs.declared.message.Message.{Message}
use Rattle.tb_message.specs.declared.message.Message.TheVariants as message
use Rattle.tb_book.specs.Books.{Bids}
use Rattle.tb_shelf.specs.Shelves.{book_in}
use Rattle.tb_history.specs.declared.roster.Enrolment.{Enrolment}
use Rattle.tb_history.specs.declared.bids.Bid.{Bid}
use Rattle.tb_history.specs.declared.bids.Report.{Report}
use Rattle.tb_history.specs.Entries.{is_same}
use Rattle.tb_history.specs.Roster.{announcement_of, announcements, enrolments}
use Rattle.tb_history.specs.LiveBids.{bids, cancels, is_live, is_report_of, last_position, live_bids_in, position_of, reports}
use Rattle.tb_history.specs.Holdings.{bidding_in}
use Rattle.tb_history.specs.Readings.{positions_of}
use Rattle.tb_history.proofs.PartLemmas.{AllByRecursion-from, filter-filter}
use Rattle.tb_results.specs.Biddings.{IsBookOf, book_line_of}
use Rattle.tb_results.proofs.LegalLemmas.{IsLegal-sound}
use Rattle.tb_core.specs.declared.tables.Tables.{Tables}
use Rattle.tb_core.specs.House.{AreTied, IsHouse, room_of}
use Rattle.tb_index.specs.Listed.{Listed}
use Rattle.tb_shelving.specs.Rooms.{Fits}
use Rattle.tb_tables.specs.Kinds.{settles}
use Rattle.tb_ledger.specs.Settling.{positions_by}
use Rattle.tb_core.specs.Crediting.{HasSettleRoom, bidding_on}
use Rattle.tb_history.specs.Awarded.{Bidding}
use Rattle.tb_units.proofs.PlaceLemmas.{find_passes}
use Rattle.tb_history.proofs.SameLemmas.{is_same-equal}
use Rattle.tb_shelving.proofs.SumLemmas.{book-announced, book-booked}

-- a position in an auction is that by the reports in the auction
position_of-own : (reported : List Report) (auction bidder : List ℕ)
    → position_of (filter (λ (r : Report). is_same r.auction auction) reported) auction bidder
    ≡ position_of reported auction bidder
position_of-own reported auction bidder =
    ap (last_position (pos 0))
    (filter-filter (is_report_of auction bidder) (λ (r : Report). is_same r.auction auction) reported
    (AllByRecursion-from (λ (r : Report). is_report_of auction bidder r ≡ true → is_same r.auction auction ≡ true)
    (λ r own. (and_parts (is_same r.auction auction) (is_same r.bidder bidder) own).0) reported))

-- so they are the positions of the bidding
pub positions-tied : (h : List Entry) (tables : Tables) (a : Announcement) → AreTied h tables
    → positions_by tables.reports.list a.auction tables.bidders.list ≡ positions_of (bidding_in h a)
unfolding positions_of
positions-tied h tables a tied =
    rw (tied.reports_are, tied.bidders_are)
    (agree (enrolments h))
  where
    -- by each bidder: other auctions' reports say nothing of this one
    agree : (enrolled : List Enrolment)
        → positions_by (reports h) a.auction enrolled
        ≡ map (λ (e : Enrolment). position_of (filter (λ (r : Report). is_same r.auction a.auction) (reports h))
        a.auction e.bidder) enrolled
    agree [] = refl
    agree (e ∷ enrolled) =
        ap (λ n. n ∷ positions_by (reports h) a.auction enrolled) (sym (position_of-own (reports h) a.auction e.bidder))
        ∙ ap (λ rest. position_of (filter (λ (r : Report). is_same r.auction a.auction) (reports h))
        a.auction e.bidder ∷ rest)
        (agree enrolled)

-- the terms of an announced auction, its book and the reports are those of its bidding
pub book-of : (h : List Entry) (tables : Tables) (auction : List ℕ) (terms : Terms) (book : Bids)
    → AreTied h tables
    → announcement_of (announcements h) auction ≡ Some terms.announcement
    → book_in tables.shelf.books auction ≡ Some book
    → IsBookOf (bidding_in h terms.announcement) terms book.lines
    (positions_by tables.reports.list terms.announcement.auction tables.bidders.list)
book-of h tables auction terms book tied announced found = record {
  sound = IsLegal-sound h auction terms.announcement tied.legal announced;
  announced = refl;
  booked = book-booked h tables.shelf.books auction terms.announcement book tied.books_are announced found;
  reported = positions-tied h tables terms.announcement tied;
}

-- some of a list are no more than all of it
filter-few : {X : Type 0} (test : X → Bool) (xs : List X) → length (filter test xs) ≤ length xs
filter-few test [] = omega arith
filter-few test (x ∷ xs) =
    let rest = filter-few test xs in
    elim (cases_Bool (test x)) [ inl is ↦ rw is (omega (arith, rest)) | inr isnt ↦ rw isnt (omega (arith, rest)) ]

-- a book has no more lines than there are bids
pub lines-few : (h : List Entry) (tables : Tables) (auction : List ℕ) (book : Bids)
    → AreTied h tables
    → book_in tables.shelf.books auction ≡ Some book
    → length book.lines ≤ length tables.bids.list
lines-few h tables auction book tied found =
    let own : Bid → Bool = λ b. is_same b.auction auction in
    let live = live_bids_in (bids h) (cancels h) auction in
    let has : IsPermutation (map (book_line_of (enrolments h)) live) book.lines =
    subst (λ (there : Option Bids). IfSome there (λ b. IsPermutation (map (book_line_of (enrolments h)) live) b.lines))
    found (tied.books_are.lines auction) in
    omega (
      arith,
      length_permutation (map (book_line_of (enrolments h)) live) book.lines has,
      length-map live (book_line_of (enrolments h)),
      filter-few (is_live (cancels h)) (filter own (bids h)),
      filter-few own (bids h),
      ap length tied.bids_are,
    )

-- the room of a settlement that fits is there
pub settle-room : (entries : Listed Entry) (tables : Tables) (room : ℕ) (auction : List ℕ)
    → IsHouse entries tables room
    → Fits (room_of room tables) (message.Settle auction ∷ [])
    → HasSettleRoom tables
settle-room entries tables room auction house fits =
    let some : 0 < tables.scratch.lasts = omega (arith, fits.ahead.settling refl) in
    record {
      lines = omega (arith, house.scratch.lines some);
      bidders = omega (arith, house.scratch.bidders_too some);
      positions = omega (arith, house.scratch.positions some);
      awards = omega (arith, house.scratch.awards some);
    }

-- whatever the message is
pub settle-room_of : (entries : Listed Entry) (tables : Tables) (room : ℕ) (m : Message)
    → IsHouse entries tables room
    → Fits (room_of room tables) (m ∷ [])
    → settles m ≡ true
    → HasSettleRoom tables
settle-room_of entries tables room (message.Settle auction) house fits is =
    settle-room entries tables room auction house fits
settle-room_of entries tables room plain house fits is = absurd cc

-- the bidding by the tables is that by the history
pub bidding-tied : (h : List Entry) (tables : Tables) (a : Announcement)
    → AreTied h tables
    → bidding_on tables a ≡ bidding_in h a
bidding-tied h tables a tied = rw (tied.bidders_are, tied.bids_are, tied.cancels_are, tied.reports_are) refl

-- so the terms, the book and the reports are of that bidding
pub book-on : (h : List Entry) (tables : Tables) (terms : Terms) (book : Bids)
    → AreTied h tables
    → announcement_of (announcements h) terms.announcement.auction ≡ Some terms.announcement
    → book_in tables.shelf.books terms.announcement.auction ≡ Some book
    → IsBookOf (bidding_on tables terms.announcement) terms book.lines
    (positions_by tables.reports.list terms.announcement.auction tables.bidders.list)
book-on h tables terms book tied announced found =
    subst (λ (bidding : Bidding). IsBookOf bidding terms book.lines
    (positions_by tables.reports.list terms.announcement.auction tables.bidders.list))
    (sym (bidding-tied h tables terms.announcement tied))
    (book-of h tables terms.announcement.auction terms book tied announced found)

-- there is a book of an announced auction
pub book-there : (h : List Entry) (tables : Tables) (auction : List ℕ) (a : Announcement)
    → AreTied h tables
    → announcement_of (announcements h) auction ≡ Some a
    → book_in tables.shelf.books auction ≡ None
    → ⊥
book-there h tables auction a tied announced none =
    let wrong : false ≡ true =
    ap is_some (sym none)
    ∙ (book-announced h tables.shelf.books auction tied.books_are ∙ ap is_some announced) in
    cc

-- what is found by a name has that name
pub found-named : (announced : List Announcement) (auction : List ℕ) (a : Announcement)
    → announcement_of announced auction ≡ Some a
    → announcement_of announced a.auction ≡ Some a
found-named announced auction a found =
    let named : a.auction ≡ auction =
    is_same-equal a.auction auction (find_passes (λ (x : Announcement). is_same x.auction auction) announced a found) in
    subst (λ (name : List ℕ). announcement_of announced name ≡ Some a) (sym named) found
