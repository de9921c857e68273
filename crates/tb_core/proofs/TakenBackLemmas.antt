-- A host whose last entry was a bid, without it.
use Rattle.std.proofs.Common.{◌≡◌, ℕ, ◌+◌, ◌≤◌, true, Option, Some, None, List, [], ◌∷◌, ◌++◌, map, length, length-append, append-nil, refl, sym, ap, ◌∙◌, subst, arith}
use Rattle.std.specs.Prelude.{◌↔◌, IfSome, IsNone, IsPermutation}
use Rattle.std.proofs.lemmas.List.{map-append, same_from_push}
use Rattle.std.proofs.lemmas.List.Sorted.{IsPermutation-push_more, IsPermutation-refl, IsPermutation-sym, IsPermutation-trans}
use Rattle.tb_units.specs.declared.moment.Moment.{Moment}
use Rattle.tb_units.specs.declared.day.Day.{Day}
use Rattle.tb_terms.specs.declared.announcement.Announcement.{Announcement}
use Rattle.tb_message.specs.declared.message.Entry.{Entry}
use Rattle.tb_message.specs.declared.message.Message.{Message}
use Rattle.tb_message.specs.declared.message.Message.TheVariants as message
use Rattle.tb_book.specs.declared.book_line.BookLine.{BookLine}
use Rattle.tb_index.specs.Listed.{Listed}
use Rattle.tb_movements.specs.Movements.{Movement}
use Rattle.tb_movements.specs.Told.{IsTold}
use Rattle.tb_shelf.specs.declared.named.NamedBook.{NamedBook}
use Rattle.tb_shelf.specs.Shelves.{IsChanged, IsLowered, has_places}
use Rattle.tb_history.specs.declared.bids.Bid.{Bid}
use Rattle.tb_history.specs.Entries.{bid_by}
use Rattle.tb_history.specs.Roster.{announcement_of, announcements, enrolments, is_enrolled, publications}
use Rattle.tb_history.specs.LiveBids.{bids, cancels, is_live, live_bids_in, reports, standing_of}
use Rattle.tb_history.specs.Readings.{place_of}
use Rattle.tb_history.specs.Legal.{last_of}
use Rattle.tb_history.proofs.SameLemmas.{is_same-refl}
use Rattle.tb_history.proofs.HistoryLemmas.{IsLegal-last}
use Rattle.tb_history.proofs.GrowthLemmas.{registrations-snoc, enrolments-snoc, holidays-snoc, announcements-snoc, publications-snoc, settlements-snoc, redemptions-snoc, add_ons-snoc, bids-snoc, cancels-snoc, reports-snoc}
use Rattle.tb_history.proofs.NumberingLemmas.{movements-grow}
use Rattle.tb_results.specs.Biddings.{book_line_of}
use Rattle.tb_cashbook.proofs.CashbookLemmas.{tells-back}
use Rattle.tb_core.specs.declared.tables.Tables.{Tables}
use Rattle.tb_ledger.specs.Accounting.{moved_in}
use Rattle.tb_tables.specs.Calendar.{IsCalendar}
use Rattle.tb_shelving.specs.Shelving.{AreShelved}
use Rattle.tb_ledger.specs.Settling.{HasScratch}
use Rattle.tb_core.specs.House.{AreTied, EndsWithBid, HasRoom, IsBid, IsHouse, IsTakenBack, room_of}
use Rattle.tb_shelving.specs.Rooms.{KeepsRoom, has_place}
use Rattle.tb_shelving.proofs.BookLemmas.{Follows-next, IsNext, apart-lines, bid_rows-known, lines_in, uncancelled}
use Rattle.tb_core.proofs.HouseLemmas.{HasScratch-less}
use Rattle.tb_shelving.proofs.KeptLemmas.{list_all-weaker}
use Rattle.tb_shelving.proofs.LiveLemmas.{live-more, live-other}
use Rattle.tb_shelving.proofs.OpenLemmas.{open-changed}
use Rattle.tb_shelving.proofs.RoomLemmas.{place-message, places-changed}
use Rattle.tb_shelving.proofs.ShelfLemmas.{lines-changed, lines-taken}

-- a bid that was the next message
abbrev IsNextBid : List Entry → Moment → Bid → Type 0
IsNextBid h moment bid =
    IsNext h bid.submitter bid.number moment (message.Bid bid.auction bid.bidder bid.rate bid.amount)

-- each book has the live bids again where the line of the last bid is out of its book
shelved-back : (h : List Entry) (moment : Moment) (bid : Bid) (old new : List NamedBook)
    → IsNextBid h moment bid
    → AreShelved (enrolments h) (bids h ++ bid ∷ []) (cancels h) old
    → IsChanged bid.auction (IsLowered bid.rate (place_of (enrolments h) bid.bidder) bid.number) old new
    → AreShelved (enrolments h) (bids h) (cancels h) new
shelved-back h moment bid old new next shelved changed =
    let line_of = book_line_of (enrolments h) in
    let before : List ℕ → List BookLine =
    λ auction. map line_of (live_bids_in (bids h ++ bid ∷ []) (cancels h) auction) in
    let after : List BookLine = lines_in h bid.auction in
    let enrolled : is_enrolled h bid.bidder bid.submitter ≡ true =
    bid_rows-known (announcement_of (announcements h) bid.auction) (is_enrolled h bid.bidder bid.submitter)
    (standing_of (bids h) (cancels h) (reports h) bid.auction bid.bidder) moment bid.rate bid.amount.value next.rows in
    let live : is_live (cancels h) bid ≡ true =
    rw (uncancelled h bid.submitter bid.auction bid.number (cancels h) next.unused next.numbered.cancels_used) refl in
    let more : before bid.auction ≡ after ++ line_of bid ∷ [] =
    ap (map line_of) (live-more (bids h) (cancels h) bid bid.auction (is_same-refl bid.auction) live)
    ∙ map-append line_of (live_bids_in (bids h) (cancels h) bid.auction) (bid ∷ []) in
    let first : IsPermutation (before bid.auction) (line_of bid ∷ after) =
    subst (λ (lines : List BookLine). IsPermutation lines (line_of bid ∷ after)) (sym more)
    (IsPermutation-push_more after after (line_of bid ∷ after) (line_of bid) (IsPermutation-refl after)
    (IsPermutation-refl (line_of bid ∷ after))) in
    lines-changed bid.auction (IsLowered bid.rate (place_of (enrolments h) bid.bidder) bid.number) before (lines_in h)
    old new changed shelved
    (λ one other lowered has.
    lines-taken (line_of bid) after one other
    (IsPermutation-trans one.lines (before bid.auction) (line_of bid ∷ after)
    (IsPermutation-sym (before bid.auction) one.lines has) first)
    (apart-lines h bid after next.orderly next.numbered next.unused enrolled (IsPermutation-refl after))
    lowered)
    (λ auction apart. sym (ap (map line_of) (live-other (bids h) (cancels h) bid auction apart)))

-- a table that was what the longer history says is what the history says, where the last entry adds nothing to it
unchanged : {X : Type 0} (table longer before : List X) → table ≡ longer → longer ≡ before ++ [] → table ≡ before
unchanged table longer before is says = is ∙ says ∙ append-nil before

-- the tables without the last bid are tied to the history before its entry
tied-back : (h : List Entry) (moment before : Moment) (bid : Bid) (old new : Tables)
    → AreTied (h ++ (record {
      submitter = bid.submitter;
      number = bid.number;
      moment = moment;
      message = message.Bid bid.auction bid.bidder bid.rate bid.amount;
    }) ∷ []) old
    → before.seconds ≡ last_of h
    → IsTakenBack before old new
    → AreTied h new
tied-back h moment before bid old new tied earlier taken =
    let e : Entry = record {
      submitter = bid.submitter;
      number = bid.number;
      moment = moment;
      message = message.Bid bid.auction bid.bidder bid.rate bid.amount;
    } in
    let last = IsLegal-last h e tied.legal in
    let bidders : enrolments (h ++ e ∷ []) ≡ enrolments h = enrolments-snoc h e ∙ append-nil (enrolments h) in
    let cancelled : cancels (h ++ e ∷ []) ≡ cancels h = cancels-snoc h e ∙ append-nil (cancels h) in
    let announced : announcements (h ++ e ∷ []) ≡ announcements h = announcements-snoc h e
    ∙ append-nil (announcements h) in
    let rows = same_from_push new.bids.list (bids h) taken.bid bid (sym taken.bids ∙ tied.bids_are ∙ bids-snoc h e) in
    let changed : IsChanged bid.auction (IsLowered bid.rate (place_of (enrolments h) bid.bidder) bid.number)
    old.shelf.books new.shelf.books =
    subst (λ (b : Bid). IsChanged b.auction (IsLowered b.rate (place_of (enrolments h) b.bidder) b.number)
    old.shelf.books new.shelf.books) rows.1
    (rw (← bidders, ← tied.bidders_are) taken.books) in
    let shelved : AreShelved (enrolments h) (bids h ++ bid ∷ []) (cancels h) old.shelf.books =
    rw (← bidders, ← cancelled, ← bids-snoc h e) tied.books_are.lines in
    let told : IsTold (moved_in h ++ []) old.accounts =
    subst (λ (ms : List Movement). IsTold ms old.accounts) (movements-grow h e last.legal last.follows)
    tied.accounts_tell in
    subst (λ (tables : Tables). AreTied h tables) (sym taken.same) (record {
      legal = last.legal;
      last_is = earlier;
      submitters_are = unchanged _ _ _ tied.submitters_are (registrations-snoc h e);
      bidders_are = unchanged _ _ _ tied.bidders_are (enrolments-snoc h e);
      holidays_are = unchanged _ _ _ tied.holidays_are (holidays-snoc h e);
      auctions_are = unchanged _ _ _ tied.auctions_are (announcements-snoc h e);
      bids_are = rows.0;
      cancels_are = unchanged _ _ _ tied.cancels_are (cancels-snoc h e);
      reports_are = unchanged _ _ _ tied.reports_are (reports-snoc h e);
      published_are = unchanged _ _ _ tied.published_are (publications-snoc h e);
      settled_are = unchanged _ _ _ tied.settled_are (settlements-snoc h e);
      redeemed_are = unchanged _ _ _ tied.redeemed_are (redemptions-snoc h e);
      add_ons_are = unchanged _ _ _ tied.add_ons_are (add_ons-snoc h e);
      books_are = record {
        names = changed.names ∙ tied.books_are.names ∙ ap (map (λ (a : Announcement). a.auction)) announced;
        lines = shelved-back h moment bid old.shelf.books new.shelf.books (Follows-next h e last.legal last.follows)
            shelved
            changed;
        opened = λ auction published.
            open-changed bid.auction (IsLowered bid.rate (place_of (enrolments h) bid.bidder) bid.number)
            old.shelf.books new.shelf.books changed (λ one other lowered was. lowered.opened ∙ was) auction
            (tied.books_are.opened auction
            (rw (publications-snoc h e, append-nil (publications h)) published));
      };
      calendar_is = subst (λ (days : List Day). IsCalendar old.calendar.list days)
          (holidays-snoc h e ∙ append-nil _) tied.calendar_is;
      accounts_tell = subst (λ (ms : List Movement). IsTold ms old.accounts) (append-nil (moved_in h)) told;
      funds_tell = tells-back h e old.funds last.legal last.follows
          (record { cash = refl; purchase = refl; offered = refl; retracted = refl }) refl tied.funds_tell;
    })

-- whatever bid the last entry is
pub AreTied-back : (h : List Entry) (s : List ℕ) (n : ℕ) (moment before : Moment) (m : Message) (old new : Tables)
    → AreTied (h ++ (record { submitter = s; number = n; moment = moment; message = m }) ∷ []) old
    → IsBid m
    → before.seconds ≡ last_of h
    → IsTakenBack before old new
    → AreTied h new
AreTied-back h s n moment before (message.Bid auction bidder rate amount) old new tied bid earlier taken =
    let row : Bid = record {
      submitter = s;
      number = n;
      auction = auction;
      bidder = bidder;
      rate = rate;
      amount = amount;
    } in
    tied-back h moment before row old new tied earlier taken
AreTied-back h s n moment before other old new tied bid earlier taken = absurd bid

-- no room is lost
HasRoom-back : (before : Moment) (room : ℕ) (old new : Tables)
    → IsTakenBack before old new
    → HasRoom room old
    → HasRoom room new
HasRoom-back before room old new taken has =
    subst (λ (tables : Tables). HasRoom room tables) (sym taken.same) (record {
      rows = record {
        submitters = has.rows.submitters;
        bidders = has.rows.bidders;
        holidays = has.rows.holidays;
        auctions = has.rows.auctions;
        bids = omega (arith, has.rows.bids, taken.spare);
        cancels = has.rows.cancels;
        reports = has.rows.reports;
        published = has.rows.published;
        settled = has.rows.settled;
        redeemed = has.rows.redeemed;
        add_ons = has.rows.add_ons;
        places = omega (arith, has.rows.places, taken.places);
        calendar = has.rows.calendar;
      };
      accounts = has.accounts;
      money = has.money;
    })

-- and what fitted still fits
pub KeepsRoom-back : (before : Moment) (room : ℕ) (old new : Tables)
    → IsTakenBack before old new
    → KeepsRoom (room_of room old) (room_of room new)
KeepsRoom-back before room old new taken messages fits =
    let n = length messages in
    let lowered = IsLowered taken.bid.rate (place_of old.bidders.list taken.bid.bidder) taken.bid.number in
    let places : (auction : List ℕ) → has_places old.shelf.books n auction ≡ true
    → has_places new.shelf.books n auction ≡ true =
    places-changed taken.bid.auction lowered old.shelf.books new.shelf.books n n (omega arith)
    (λ one other less enough. omega (arith, less.room, enough)) taken.books in
    record {
      rows = fits.rows;
      ahead = record {
        ready = omega (arith, fits.ahead.ready, taken.ready);
        places = list_all-weaker (has_place old.shelf.books n) (has_place new.shelf.books n) messages
            (λ m has. place-message old.shelf.books new.shelf.books n n m places has) fits.ahead.places;
        settling = λ is. subst (λ (tables : Tables). n ≤ tables.scratch.lasts) (sym taken.same)
            (fits.ahead.settling is);
      };
    }

-- what is popped off a list with a last element is that one
pub popped : {X : Type 0} (row : Option X) (old new earlier : List X) (last : X)
    → old ≡ earlier ++ last ∷ []
    → IsNone row ↔ (old ≡ [])
    → IfSome row (λ x. old ≡ new ++ x ∷ [])
    → new ≡ earlier
popped None old new earlier last is none some =
    absurd (omega (arith, ap length (none.0 refl), ap length is, length-append earlier (last ∷ [])))
popped (Some x) old new earlier last is none some = (same_from_push new earlier x last (sym some ∙ is)).0

-- a row that is taken out of an option that holds it
pub IfSome-found : {X : Type 0} (P : X → Type 0) (found : Option X) (x : X) → found ≡ Some x → IfSome found P → P x
IfSome-found P found x is holds = subst (λ found. IfSome found P) is holds

-- a history that ends with a bid has a bid
has-bids : (h : List Entry) (s : List ℕ) (n : ℕ) (moment : Moment) (m : Message)
    → IsBid m
    → bids (h ++ (record { submitter = s; number = n; moment = moment; message = m }) ∷ []) ≡ []
    → ⊥
has-bids h s n moment (message.Bid auction bidder rate amount) bid none =
    let e : Entry =
    record { submitter = s; number = n; moment = moment; message = message.Bid auction bidder rate amount } in
    let more : length (bids h ++ bid_by s n e.message) ≡ 0 = ap length (sym (bids-snoc h e) ∙ none) in
    omega (arith, more, length-append (bids h) (bid_by s n e.message))
has-bids h s n moment other bid none = absurd bid

-- and so have its tables
pub has_bids-tied : (h : List Entry) (before : Moment) (tables : Tables)
    → AreTied h tables → EndsWithBid h before → tables.bids.list ≡ [] → ⊥
has_bids-tied h before tables tied ends none =
    let e = ends.last in
    has-bids ends.earlier e.submitter e.number e.moment e.message ends.bid
    (subst (λ (whole : List Entry). bids whole ≡ []) ends.is (sym tied.bids_are ∙ none))

-- a host whose last entry was a bid is one without it
pub house_back : (old new : Listed Entry) (before : Moment) (tables after : Tables) (ends : EndsWithBid old.list before)
    → new.list ≡ ends.earlier
    → old.spare ≤ new.spare
    → IsTakenBack before tables after
    → (room : ℕ) → IsHouse old tables room → IsHouse new after room
house_back old new before tables after ends list spare taken room house =
    let e = ends.last in
    let fewer : length tables.bids.list ≡ length after.bids.list + 1 =
    ap length taken.bids ∙ length-append after.bids.list (taken.bid ∷ []) in
    record {
      tied = subst (λ (h : List Entry). AreTied h after) (sym list)
          (AreTied-back ends.earlier e.submitter e.number e.moment before e.message tables after
          (subst (λ (h : List Entry). AreTied h tables) ends.is house.tied) ends.bid ends.moment taken);
      roomy = HasRoom-back before room tables after taken house.roomy;
      spare = omega (arith, house.spare, spare);
      scratch = subst (λ (t : Tables). HasScratch (length t.bids.list) (length t.bidders.list) t.scratch)
          (sym taken.same)
          (HasScratch-less (length tables.bids.list) (length tables.bidders.list) (length after.bids.list)
          (length tables.bidders.list) tables.scratch (omega (arith, fewer)) (omega arith) house.scratch);
    }
