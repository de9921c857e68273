-- With each accepted message the books have the live bids again.
use Rattle.std.proofs.Common.{◌≡◌, ℕ, ◌+◌, ◌<◌, ◌≤◌, ◌==◌, ◌&&◌, Bool, true, false, Option, Some, None, is_some, List, [], ◌∷◌, ◌++◌, map, nat_le, append-nil, refl, sym, ap, ap₂, ◌∙◌, subst, arith}
use Rattle.std.specs.Prelude.{IfSome, IsPermutation}
use Rattle.std.specs.Option.{option_map_or}
use Rattle.std.specs.List.{All, AllByRecursion, filter}
use Rattle.std.proofs.lemmas.Bool.{and_parts, eqb-true, false_from_ne_true, leb-true, not-false}
use Rattle.std.proofs.lemmas.List.{map-append}
use Rattle.std.proofs.lemmas.List.Elements.{All-map}
use Rattle.std.proofs.lemmas.List.Sorted.{All-permutation, IsPermutation-map, IsPermutation-push_more, IsPermutation-refl, IsPermutation-sym, IsPermutation-trans, sum_by-IsPermutation}
use Rattle.std.proofs.lemmas.List.Sums.{sum_by-append, sum_by-cons}
use Rattle.tb_units.specs.declared.moment.Moment.{Moment}
use Rattle.tb_units.specs.declared.rate.Rate.{Rate}
use Rattle.tb_units.proofs.PlaceLemmas.{find_passes}
use Rattle.tb_terms.specs.declared.announcement.Announcement.{Announcement}
use Rattle.tb_rules.specs.BidRule.{Standing}
use Rattle.tb_message.specs.declared.message.Entry.{Entry}
use Rattle.tb_message.specs.declared.message.Message.{Message}
use Rattle.tb_message.specs.declared.message.Message.TheVariants as message
use Rattle.tb_book.specs.declared.book_line.BookLine.{BookLine}
use Rattle.tb_book.specs.Books.{Bids, most_bid, par_in}
use Rattle.tb_book.proofs.CallerLemmas.{HasBid-none, IsOther}
use Rattle.tb_shelf.specs.declared.named.NamedBook.{NamedBook}
use Rattle.tb_shelf.specs.Shelves.{IsAdded, IsChanged, IsLowered, IsOpened, IsUnsealed, Shelved, TakesLine, book_in, names_in}
use Rattle.tb_history.specs.declared.roster.Enrolment.{Enrolment}
use Rattle.tb_history.specs.declared.bids.Bid.{Bid}
use Rattle.tb_history.specs.declared.bids.Cancel.{Cancel}
use Rattle.tb_history.specs.Entries.{announced_by, bid_by, cancelled_by, enrolled_by, is_same, published_by}
use Rattle.tb_history.specs.Roster.{announcement_of, announcements, enrolment_of, enrolments, is_enrolled, is_published, is_settled, kept, publications}
use Rattle.tb_history.specs.LiveBids.{bid_of, bids, cancels, is_cancelled, is_live, live_bids_in, par_of, reports, standing_of}
use Rattle.tb_history.specs.Readings.{place_of}
use Rattle.tb_history.specs.Tables.{bid_rows, rows_of}
use Rattle.tb_history.specs.Legal.{Follows, IsLegal}
use Rattle.tb_history.proofs.SameLemmas.{is_same-equal, is_same-refl}
use Rattle.tb_history.proofs.GrowthLemmas.{announcements-snoc, bids-snoc, cancels-snoc, enrolments-snoc, publications-snoc}
use Rattle.tb_history.proofs.AcceptedLemmas.{IsClear, accepted-passes}
use Rattle.tb_history.proofs.LegalLemmas.{IsLegal-orderly, IsOrderly, IsPlaced}
use Rattle.tb_history.proofs.ClosedLemmas.{found-in}
use Rattle.tb_history.proofs.CloseLemmas.{All-from}
use Rattle.tb_results.specs.Biddings.{book_line_of}
use Rattle.tb_results.proofs.BookedLemmas.{sum_by-mapped}
use Rattle.tb_shelving.specs.Rooms.{has_place}
use Rattle.tb_tables.specs.Kinds.{announces}
use Rattle.tb_shelving.specs.Shelving.{AreBooks, AreOpen, AreShelved, HasShelved, IsOut, Shelves, TakesMessage}
use Rattle.tb_shelving.proofs.NumberLemmas.{AreNumbered, IsLegal-numbered, IsUsed, cancel_rows-clear, is_bid, none-of, unused}
use Rattle.tb_shelving.proofs.LiveLemmas.{All-live, All-live_with, lines-enrolled, live-cancel_other, live-more, live-other, live-taken, live-unannounced, meant-parts, not_meant, under-some}
use Rattle.tb_shelving.proofs.ShelfLemmas.{lines-changed, lines-opened, lines-taken, other-line}
use Rattle.tb_shelving.proofs.OpenLemmas.{open-message, open-published, open-same, settle_rows-published}
use Rattle.tb_shelving.proofs.StandingLemmas.{par_of-filter}
use Rattle.tb_shelving.proofs.SumLemmas.{book-announced}

-- the lines that the live bids of an auction are
abbrev pub lines_in : List Entry → List ℕ → List BookLine
lines_in h auction = map (book_line_of (enrolments h)) (live_bids_in (bids h) (cancels h) auction)

-- what is known of a legal history and the next message
pub record IsNext (h : List Entry) (s : List ℕ) (n : ℕ) (moment : Moment) (m : Message) : Type 0 where
  pub orderly : IsOrderly h
  pub numbered : AreNumbered h
  pub unused : kept h s n ≡ None
  pub rows : AllByRecursion IsClear (rows_of h s moment m)

-- an accepted entry is next
pub Follows-next : (h : List Entry) (e : Entry) → IsLegal h → Follows h e
    → IsNext h e.submitter e.number e.moment e.message
Follows-next h e legal follows =
    let passed = accepted-passes h e.submitter e.number e.moment e.message follows.accepted in
    record {
      orderly = IsLegal-orderly h legal;
      numbered = IsLegal-numbered h legal;
      unused = passed.unused;
      rows = passed.rows;
    }

-- an accepted bid is of a bidder that is enrolled under its sender
pub bid_rows-known : (found : Option Announcement) (enrolled : Bool) (standing : Standing) (moment : Moment)
    (rate : Option Rate) (amount : ℕ)
    → AllByRecursion IsClear (bid_rows found enrolled standing moment rate amount)
    → enrolled ≡ true
bid_rows-known None enrolled standing moment rate amount clear = let wrong : true ≡ false = clear.0 in absurd cc
bid_rows-known (Some a) enrolled standing moment rate amount clear = not-false enrolled clear.0

-- no cancel is of a number that isn't used
pub uncancelled : (h : List Entry) (s auction : List ℕ) (n : ℕ) (cancelled : List Cancel)
    → kept h s n ≡ None
    → AllByRecursion (λ (c : Cancel). IsUsed h c.submitter c.bid) cancelled
    → is_cancelled cancelled s auction n ≡ false
uncancelled h s auction n [] none used = refl
uncancelled h s auction n (c ∷ cancelled) none used =
    let test = is_same c.submitter s && is_same c.auction auction && (c.bid == n) in
    let fails : test ≡ false = false_from_ne_true test (λ is.
    let both = and_parts (is_same c.submitter s && is_same c.auction auction) (c.bid == n) is in
    let names = and_parts (is_same c.submitter s) (is_same c.auction auction) both.0 in
    unused h s n none
    (subst (λ (x : List ℕ). IsUsed h x n) (is_same-equal c.submitter s names.0)
    (subst (λ (x : ℕ). IsUsed h c.submitter x) (eqb-true c.bid n both.1) used.0))) in
    rw fails (uncancelled h s auction n cancelled none used.1)

-- an announcement opens a book that has no lines, as the auction has no bids
shelved-announce : (h : List Entry) (a : Announcement) (old new : Shelved)
    → IsOrderly h
    → is_some (announcement_of (announcements h) a.auction) ≡ false
    → AreBooks h old.books
    → IsOpened a.auction old new
    → AreShelved (enrolments h) (bids h) (cancels h) new.books
shelved-announce h a old new orderly unknown books opened auction =
    subst (λ (now : List NamedBook). IfSome (book_in now auction)
    (λ book. IsPermutation (lines_in h auction) book.lines))
    (sym opened.books)
    (lines-opened old.books opened.named auction (lines_in h auction) (books.lines auction)
    (λ own.
    let name : a.auction ≡ auction = sym opened.name ∙ is_same-equal opened.named.auction auction own in
    let none : lines_in h auction ≡ [] =
    ap (map (book_line_of (enrolments h)))
    (live-unannounced h auction orderly
    (subst (λ (x : List ℕ). is_some (announcement_of (announcements h) x) ≡ false) name unknown)) in
    rw (none, opened.empty) (IsPermutation-refl [])))

-- a bid adds its line to the book of its auction
shelved-bid : (h : List Entry) (bid : Bid) (old new : List NamedBook)
    → is_live (cancels h) bid ≡ true
    → AreBooks h old
    → IsChanged bid.auction (IsAdded (book_line_of (enrolments h) bid)) old new
    → AreShelved (enrolments h) (bids h ++ bid ∷ []) (cancels h) new
shelved-bid h bid old new live books changed =
    let line_of = book_line_of (enrolments h) in
    let after : List ℕ → List BookLine =
    λ auction. map line_of (live_bids_in (bids h ++ bid ∷ []) (cancels h) auction) in
    let own : is_same bid.auction bid.auction ≡ true = is_same-refl bid.auction in
    let more : after bid.auction ≡ lines_in h bid.auction ++ line_of bid ∷ [] =
    ap (map line_of) (live-more (bids h) (cancels h) bid bid.auction own live)
    ∙ map-append line_of (live_bids_in (bids h) (cancels h) bid.auction) (bid ∷ []) in
    lines-changed bid.auction (IsAdded (line_of bid)) (lines_in h) after old new changed books.lines
    (λ one other added has.
    subst (λ (lines : List BookLine). IsPermutation lines other.lines) (sym more)
    (IsPermutation-push_more (lines_in h bid.auction) one.lines other.lines (line_of bid) has added.elements))
    (λ auction apart. ap (map line_of) (live-other (bids h) (cancels h) bid auction apart))

-- a cancel takes the bid's line out of the book of its auction
shelved-cancel : (h : List Entry) (s auction : List ℕ) (n : ℕ) (bid : Bid) (old new : List NamedBook)
    → IsOrderly h
    → AreNumbered h
    → bid_of (bids h) s auction n ≡ Some bid
    → is_cancelled (cancels h) s auction n ≡ false
    → AreBooks h old
    → IsChanged auction (IsLowered bid.rate (place_of (enrolments h) bid.bidder) n) old new
    → AreShelved (enrolments h) (bids h) (cancels h ++ (record { submitter = s; auction = auction; bid = n }) ∷ []) new
shelved-cancel h s auction n bid old new orderly numbered found still books changed =
    let c : Cancel = record { submitter = s; auction = auction; bid = n } in
    let line_of = book_line_of (enrolments h) in
    let left : List ℕ → List Bid = λ name. live_bids_in (bids h) (cancels h ++ c ∷ []) name in
    let test : Bid → Bool = λ b. is_same b.submitter s && is_same b.auction auction && (b.number == n) in
    let meant = meant-parts s auction n bid (find_passes test (bids h) bid found) in
    let placed : IsPlaced h bid = found-in (IsPlaced h) test (bids h) bid orderly.bidders found in
    let both = and_parts (is_same bid.submitter s) (bid.number == n) meant.1 in
    let number : bid.number ≡ n = eqb-true bid.number n both.1 in
    let enrolled : is_enrolled h bid.bidder s ≡ true =
    subst (λ (x : List ℕ). is_enrolled h bid.bidder x ≡ true) (is_same-equal bid.submitter s both.0) placed.1 in
    let Apart : BookLine → Type 0 = IsOther (line_of bid).bidder (line_of bid).number in
    let others : All Apart (map line_of (left auction)) =
    All-map Apart line_of (left auction)
    (All-from (λ b. Apart (line_of b)) (left auction)
    (All-live_with (IsPlaced h) (λ b. Apart (line_of b)) (bids h) (cancels h ++ c ∷ []) auction
    (λ b is own live.
    subst (λ (x : ℕ). IsOther (place_of (enrolments h) bid.bidder) x (line_of b)) (sym number)
    (other-line h s n bid.bidder b enrolled is (not_meant (cancels h) s auction n b live own)))
    orderly.bidders)) in
    let taken : IsPermutation (lines_in h auction) (line_of bid ∷ map line_of (left auction)) =
    IsPermutation-map line_of (live_bids_in (bids h) (cancels h) auction) (bid ∷ left auction)
    (live-taken (bids h) (cancels h) s auction n bid found still (numbered.once s n)) in
    lines-changed auction (IsLowered bid.rate (place_of (enrolments h) bid.bidder) n) (lines_in h)
    (λ name. map line_of (left name)) old new changed books.lines
    (λ one other lowered has.
    lines-taken (line_of bid) (map line_of (left auction)) one other
    (IsPermutation-trans one.lines (lines_in h auction) (line_of bid ∷ map line_of (left auction))
    (IsPermutation-sym (lines_in h auction) one.lines has) taken)
    others
    (subst (λ (x : ℕ). IsLowered bid.rate (place_of (enrolments h) bid.bidder) x one other) (sym number) lowered))
    (λ name apart. ap (map line_of) (live-cancel_other (bids h) (cancels h) c name apart))

-- more bidders leave the lines
shelved-enrol : (h : List Entry) (more : List Enrolment) (books : List NamedBook)
    → IsOrderly h
    → AreBooks h books
    → AreShelved (enrolments h ++ more) (bids h) (cancels h) books
shelved-enrol h more books orderly are auction =
    let known : AllByRecursion (λ (b : Bid). is_some (enrolment_of (enrolments h) b.bidder) ≡ true)
    (live_bids_in (bids h) (cancels h) auction) =
    All-live_with (IsPlaced h) (λ b. is_some (enrolment_of (enrolments h) b.bidder) ≡ true) (bids h) (cancels h) auction
    (λ b placed own live. under-some b.submitter (enrolment_of (enrolments h) b.bidder) placed.1) orderly.bidders in
    subst (λ (lines : List BookLine). IfSome (book_in books auction) (λ book. IsPermutation lines book.lines))
    (sym (lines-enrolled (enrolments h) more (live_bids_in (bids h) (cancels h) auction) known)) (are.lines auction)

-- what the books are to have with the message
abbrev AreNow : List Entry → List ℕ → ℕ → Message → List NamedBook → Type 0
AreNow h s n m books =
    AreShelved (enrolments h ++ enrolled_by m) (bids h ++ bid_by s n m) (cancels h ++ cancelled_by s m) books

-- lists to which nothing is added
AreNow-same : (h : List Entry) (books : List NamedBook)
    → AreShelved (enrolments h) (bids h) (cancels h) books
    → AreShelved (enrolments h ++ []) (bids h ++ []) (cancels h ++ []) books
AreNow-same h books are = rw (append-nil (enrolments h), append-nil (bids h), append-nil (cancels h)) are

-- whatever the message is
shelved-message : (h : List Entry) (s : List ℕ) (n : ℕ) (moment : Moment) (m : Message) (old new : Shelved)
    → IsNext h s n moment m
    → AreBooks h old.books
    → Shelves (enrolments h) (bids h) s n m old new
    → AreNow h s n m new.books
shelved-message h s n moment (message.Announce a) old new next books goes =
    AreNow-same h new.books (shelved-announce h a old new next.orderly next.rows.0 books goes)
shelved-message h s n moment (message.Bid auction bidder rate amount) old new next books goes =
    let bid : Bid = record {
      submitter = s;
      number = n;
      auction = auction;
      bidder = bidder;
      rate = rate;
      amount = amount;
    } in
    let live : is_live (cancels h) bid ≡ true =
    rw (uncancelled h s auction n (cancels h) next.unused next.numbered.cancels_used) refl in
    rw (append-nil (enrolments h), append-nil (cancels h)) (shelved-bid h bid old.books new.books live books goes)
shelved-message h s n moment (message.Cancel auction number) old new next books goes =
    let found =
    cancel_rows-clear (announcement_of (announcements h) auction) (bid_of (bids h) s auction number)
    (is_cancelled (cancels h) s auction number) moment next.rows in
    let out : IsOut (enrolments h) (Some found.bid) auction number old.books new.books =
    subst (λ (x : Option Bid). IsOut (enrolments h) x auction number old.books new.books) found.is goes in
    rw (append-nil (enrolments h), append-nil (bids h))
    (shelved-cancel h s auction number found.bid old.books new.books next.orderly next.numbered found.is found.still
    books out)
shelved-message h s n moment (message.Enrol bidder submitter) old new next books goes =
    rw (append-nil (bids h), append-nil (cancels h), goes)
    (shelved-enrol h ((record { bidder = bidder; submitter = submitter }) ∷ []) old.books next.orderly books)
shelved-message h s n moment (message.Publish name) old new next books goes =
    AreNow-same h new.books
    (lines-changed name IsUnsealed (lines_in h) (lines_in h) old.books new.books goes books.lines
    (λ one other unsealed has. IsPermutation-trans (lines_in h name) one.lines other.lines has unsealed.elements)
    (λ auction apart. refl))
shelved-message h s n moment other old new next books goes = AreNow-same h new.books (rw goes books.lines)

-- and there is a book for each auction
names-message : (h : List Entry) (s : List ℕ) (n : ℕ) (m : Message) (old new : Shelved)
    → AreBooks h old.books
    → Shelves (enrolments h) (bids h) s n m old new
    → names_in new.books ≡ map (λ (a : Announcement). a.auction) (announcements h ++ announced_by m)
names-message h s n (message.Announce a) old new books goes =
    ap names_in goes.books
    ∙ map-append (λ (named : NamedBook). named.auction) old.books (goes.named ∷ [])
    ∙ ap₂ (λ names name. names ++ name ∷ []) books.names goes.name
    ∙ sym (map-append (λ (a : Announcement). a.auction) (announcements h) (a ∷ []))
names-message h s n (message.Bid auction bidder rate amount) old new books goes =
    rw (append-nil (announcements h)) (goes.names ∙ books.names)
names-message h s n (message.Cancel auction number) old new books goes =
    rw (append-nil (announcements h))
    (names-out (enrolments h) (bid_of (bids h) s auction number) auction number old.books new.books goes ∙ books.names)
  where
    -- a bid that leaves its book leaves the names
    names-out : (enrolled : List Enrolment) (found : Option Bid) (auction : List ℕ) (number : ℕ)
        (old new : List NamedBook)
        → IsOut enrolled found auction number old new → names_in new ≡ names_in old
    names-out enrolled None auction number old new out = ap names_in out
    names-out enrolled (Some bid) auction number old new out = out.names
names-message h s n (message.Publish name) old new books goes =
    rw (append-nil (announcements h)) (goes.names ∙ books.names)
names-message h s n other old new books goes = rw (append-nil (announcements h)) (ap names_in goes ∙ books.names)

-- and those of published auctions are open
opened-message : (h : List Entry) (s : List ℕ) (n : ℕ) (moment : Moment) (m : Message) (old new : Shelved)
    → IsNext h s n moment m
    → AreBooks h old.books
    → Shelves (enrolments h) (bids h) s n m old new
    → AreOpen (publications h ++ published_by m) new.books
opened-message h s n moment (message.Publish name) old new next books goes =
    open-published (publications h) name (announcement_of (announcements h) name) (is_published h name) moment old.books
    new.books next.rows (book-announced h old.books name books) books.opened goes
opened-message h s n moment other old new next books goes =
    open-same (publications h) new.books
    (λ auction published. open-message (enrolments h) (bids h) s n other old new goes auction
    (books.opened auction published))

-- so the books are those of the history with an accepted entry
pub AreBooks-push : (h : List Entry) (e : Entry) (old new : Shelved)
    → IsLegal h
    → Follows h e
    → AreBooks h old.books
    → HasShelved (enrolments h) (bids h) e.submitter e.number e.message old new
    → AreBooks (h ++ e ∷ []) new.books
AreBooks-push h e old new legal follows books goes =
    record {
      names = names-message h e.submitter e.number e.message old new books goes.books
          ∙ ap (map (λ (a : Announcement). a.auction)) (sym (announcements-snoc h e));
      lines = rw (enrolments-snoc h e, bids-snoc h e, cancels-snoc h e)
          (shelved-message h e.submitter e.number e.moment e.message old new (Follows-next h e legal follows)
          books goes.books);
      opened = rw (publications-snoc h e)
          (opened-message h e.submitter e.number e.moment e.message old new (Follows-next h e legal follows)
          books goes.books);
    }

-- in the empty history there is no book
pub AreBooks-nil : (books : List NamedBook) → books ≡ [] → AreBooks [] books
unfolding announcements enrolments bids cancels publications
AreBooks-nil books none =
    rw none (record { names = refl; lines = λ auction. tt; opened = λ auction published. published })

-- the par of the lines of a book is within that of all bids
par-within : (h : List Entry) (auction : List ℕ) (lines : List BookLine)
    → IsPermutation (lines_in h auction) lines → par_in lines ≤ par_of (bids h)
par-within h auction lines has =
    let amount : BookLine → ℕ = λ line. line.amount.value in
    let own : Bid → Bool = λ b. is_same b.auction auction in
    let live = live_bids_in (bids h) (cancels h) auction in
    omega (
      arith,
      sum_by-IsPermutation amount (lines_in h auction) lines has,
      sum_by-mapped amount (book_line_of (enrolments h)) live,
      par_of-filter (is_live (cancels h)) (filter own (bids h)),
      par_of-filter own (bids h),
    )

-- what a book has that takes a line
takes-line : (line : BookLine) (lines : List BookLine) (found : Option Bids)
    → IfSome found (λ book. IsPermutation lines book.lines)
    → option_map_or (λ (book : Bids). nat_le 1 book.spare) found true ≡ true
    → ((book : Bids) → IsPermutation lines book.lines → 1 ≤ book.spare → TakesLine line book)
    → IfSome found (TakesLine line)
takes-line line lines None has room step = tt
takes-line line lines (Some book) has room step = step book has (leb-true 1 book.spare room)

-- a bid under a number that isn't used has another line than each that stands in the book of its auction
pub apart-lines : (h : List Entry) (bid : Bid) (lines : List BookLine)
    → IsOrderly h
    → AreNumbered h
    → kept h bid.submitter bid.number ≡ None
    → is_enrolled h bid.bidder bid.submitter ≡ true
    → IsPermutation (lines_in h bid.auction) lines
    → All (IsOther (place_of (enrolments h) bid.bidder) bid.number) lines
apart-lines h bid lines orderly numbered none enrolled has =
    let line_of = book_line_of (enrolments h) in
    let live = live_bids_in (bids h) (cancels h) bid.auction in
    let Apart : BookLine → Type 0 = IsOther (place_of (enrolments h) bid.bidder) bid.number in
    let fails : AllByRecursion (λ (b : Bid). is_bid bid.submitter bid.number b ≡ false) (bids h) =
    none-of h bid.submitter bid.number (bids h) none numbered.bids_used in
    let both : AllByRecursion (λ (b : Bid). Apart (line_of b)) live =
    All-live (λ b. Apart (line_of b)) (bids h) (cancels h) bid.auction (joined (bids h) orderly.bidders fails) in
    All-permutation Apart (lines_in h bid.auction) lines has
    (All-map Apart line_of live (All-from (λ b. Apart (line_of b)) live both))
  where
    -- each of the bids has another line, where it is placed and isn't the one under the number
    joined : (all : List Bid)
        → AllByRecursion (IsPlaced h) all
        → AllByRecursion (λ (b : Bid). is_bid bid.submitter bid.number b ≡ false) all
        → AllByRecursion (λ (b : Bid). IsOther (place_of (enrolments h) bid.bidder) bid.number
        (book_line_of (enrolments h) b)) all
    joined [] placed apart = tt
    joined (b ∷ all) placed apart =
        (other-line h bid.submitter bid.number bid.bidder b enrolled placed.0 apart.0, joined all placed.1 apart.1)

-- the books can take an accepted bid that has a place
takes-bid : (h : List Entry) (bid : Bid) (books : List NamedBook)
    → IsOrderly h
    → AreNumbered h
    → kept h bid.submitter bid.number ≡ None
    → is_enrolled h bid.bidder bid.submitter ≡ true
    → par_of (bids h ++ bid ∷ []) ≤ most_bid
    → AreBooks h books
    → option_map_or (λ (book : Bids). nat_le 1 book.spare) (book_in books bid.auction) true ≡ true
    → IfSome (book_in books bid.auction) (TakesLine (book_line_of (enrolments h) bid))
takes-bid h bid books orderly numbered none enrolled few are room =
    let amount : Bid → ℕ = λ b. b.amount.value in
    let sum : par_of (bids h ++ bid ∷ []) ≡ par_of (bids h) + amount bid =
    sum_by-append amount (bids h) (bid ∷ []) ∙ omega (arith, sum_by-cons amount bid []) in
    takes-line (book_line_of (enrolments h) bid) (lines_in h bid.auction) (book_in books bid.auction)
    (are.lines bid.auction) room
    (λ book has spare. record {
      room = omega (arith, spare);
      new = HasBid-none (place_of (enrolments h) bid.bidder) bid.number book.lines
          (apart-lines h bid book.lines orderly numbered none enrolled has);
      fits = omega (arith, par-within h bid.auction book.lines has, sum, few);
    })

-- what room the shelf has for the next message
pub record HasNextRoom (m : Message) (shelf : Shelved) : Type 0 where
  pub ready : announces m ≡ true → 0 < shelf.ready
  pub place : has_place shelf.books 1 m ≡ true

-- so the books can take any accepted message
pub takes-message : (h : List Entry) (s : List ℕ) (n : ℕ) (moment : Moment) (m : Message) (shelf : Shelved)
    → IsNext h s n moment m
    → par_of (bids h ++ bid_by s n m) ≤ most_bid
    → AreBooks h shelf.books
    → HasNextRoom m shelf
    → TakesMessage (enrolments h) s n m shelf
takes-message h s n moment (message.Announce a) shelf next few books room = room.ready refl
takes-message h s n moment (message.Bid auction bidder rate amount) shelf next few books room =
    let bid : Bid = record {
      submitter = s;
      number = n;
      auction = auction;
      bidder = bidder;
      rate = rate;
      amount = amount;
    } in
    let enrolled : is_enrolled h bidder s ≡ true =
    bid_rows-known (announcement_of (announcements h) auction) (is_enrolled h bidder s)
    (standing_of (bids h) (cancels h) (reports h) auction bidder) moment rate amount.value next.rows in
    takes-bid h bid shelf.books next.orderly next.numbered next.unused enrolled few books room.place
takes-message h s n moment (message.Settle auction) shelf next few books room =
    books.opened auction
    (settle_rows-published (announcement_of (announcements h) auction) (is_published h auction) (is_settled h auction)
    moment next.rows)
takes-message h s n moment other shelf next few books room = tt
