-- What a book has of a bidder is what its live bids come to.
use Rattle.std.proofs.Common.{◌≡◌, ℕ, ◌+◌, ◌==◌, ◌&&◌, Bool, true, false, cond, Option, Some, None, is_some, is_none, inl, inr, List, [], ◌∷◌, map, sum_by, refl, sym, ap, ap₂, ◌∙◌, subst}
use Rattle.std.specs.Prelude.{IfSome, IsPermutation}
use Rattle.std.specs.Option.{option_map_or}
use Rattle.std.specs.List.{AllByRecursion, filter, list_any}
use Rattle.std.proofs.lemmas.Bool.{and_parts, both_ways, cases_Bool, eq-eqb, eqb-true, false_from_ne_true}
use Rattle.std.proofs.lemmas.List.Sorted.{sum_by-IsPermutation}
use Rattle.std.proofs.lemmas.List.Sums.{sum_by-cons}
use Rattle.tb_units.specs.declared.rate.Rate.{Rate}
use Rattle.tb_units.proofs.SumLemmas.{sum_by-filter}
use Rattle.tb_terms.specs.declared.announcement.Announcement.{Announcement}
use Rattle.tb_message.specs.declared.message.Entry.{Entry}
use Rattle.tb_book.specs.declared.book_line.BookLine.{BookLine}
use Rattle.tb_book.specs.Books.{Bids, competitive_of, noncompetitive_of}
use Rattle.tb_shelf.specs.declared.named.NamedBook.{NamedBook}
use Rattle.tb_shelf.specs.Shelves.{book_in, is_of, names_in}
use Rattle.tb_history.specs.declared.bids.Bid.{Bid}
use Rattle.tb_history.specs.Entries.{is_same}
use Rattle.tb_history.specs.Roster.{announcement_of, announcements, enrolment_of, enrolments}
use Rattle.tb_history.specs.LiveBids.{bids, bids_of, cancels, is_live, live_bids_in, par_of}
use Rattle.tb_history.specs.LiveBids as live
use Rattle.tb_history.specs.Readings.{place_of}
use Rattle.tb_history.proofs.PartLemmas.{AllByRecursion-weaker}
use Rattle.tb_history.proofs.SameLemmas.{is_same-equal, is_same-refl}
use Rattle.tb_history.proofs.LegalLemmas.{IsOrderly, IsPlaced}
use Rattle.tb_history.proofs.StableLemmas.{announced-name, filter-none}
use Rattle.tb_history.specs.Holdings.{bidding_in}
use Rattle.tb_results.specs.Biddings.{AreBooked, book_line_of}
use Rattle.tb_results.proofs.BookedLemmas.{sum_by-mapped}
use Rattle.tb_shelving.specs.Shelving.{AreBooks}
use Rattle.tb_shelving.proofs.LiveLemmas.{under-some}
use Rattle.tb_shelving.proofs.ShelfLemmas.{place_of-one}

-- sums of numbers that agree on the elements
sum_by-on : {X : Type 0} (f g : X → ℕ) (xs : List X) → AllByRecursion (λ x. f x ≡ g x) xs → sum_by f xs ≡ sum_by g xs
sum_by-on f g [] same = refl
sum_by-on f g (x ∷ xs) same =
    sum_by-cons f x xs ∙ ap₂ (λ a b. a + b) same.0 (sum_by-on f g xs same.1) ∙ sym (sum_by-cons g x xs)

-- four tests, in whatever order
conds : (a l b r : Bool) (n : ℕ) → cond a (cond l (cond (b && r) n 0) 0) 0 ≡ cond (a && b) (cond l (cond r n 0) 0) 0
conds false l b r n = refl
conds true l true r n = refl
conds true true false r n = refl
conds true false false r n = refl

-- a placed bid's bidder has a bidder's place just where it is that bidder
same-place : (h : List Entry) (b : Bid) (bidder : List ℕ)
    → IsPlaced h b
    → (place_of (enrolments h) b.bidder == place_of (enrolments h) bidder) ≡ is_same b.bidder bidder
same-place h b bidder placed =
    let own = place_of (enrolments h) b.bidder in
    let place = place_of (enrolments h) bidder in
    elim (cases_Bool (is_same b.bidder bidder)) [
      | inl is ↦ rw is (eq-eqb own place (ap (place_of (enrolments h)) (is_same-equal b.bidder bidder is)))
      | inr isnt ↦ rw isnt (false_from_ne_true (own == place) (λ equal.
          let one : b.bidder ≡ bidder =
          place_of-one (enrolments h) b.bidder bidder
          (under-some b.submitter (enrolment_of (enrolments h) b.bidder) placed.1) (eqb-true own place equal) in
          both_ways (is_same b.bidder bidder) isnt
          (subst (λ (x : List ℕ). is_same b.bidder x ≡ true) one (is_same-refl b.bidder))))
    ]

-- the par of a bidder's lines of a kind
abbrev par_in_book : (Option Rate → Bool) → ℕ → List BookLine → ℕ
par_in_book kind number lines =
    sum_by (λ (line : BookLine). cond ((line.bidder == number) && kind line.rate) line.amount.value 0) lines

-- and of its live bids of that kind in an auction
abbrev par_bid : (Option Rate → Bool) → List Entry → List ℕ → List ℕ → ℕ
par_bid kind h auction bidder =
    par_of (filter (λ (b : Bid). kind b.rate) (filter (is_live (cancels h)) (bids_of (bids h) auction bidder)))

-- are the same where the book has the live bids
par-booked : (kind : Option Rate → Bool) (h : List Entry) (auction bidder : List ℕ) (lines : List BookLine)
    → IsOrderly h
    → IsPermutation (map (book_line_of (enrolments h)) (live_bids_in (bids h) (cancels h) auction)) lines
    → par_in_book kind (place_of (enrolments h) bidder) lines ≡ par_bid kind h auction bidder
par-booked kind h auction bidder lines orderly has =
    let k = place_of (enrolments h) bidder in
    let line_of = book_line_of (enrolments h) in
    let f : BookLine → ℕ = λ line. cond ((line.bidder == k) && kind line.rate) line.amount.value 0 in
    let g : Bid → ℕ = λ b. f (line_of b) in
    let amount : Bid → ℕ = λ b. b.amount.value in
    let A : Bid → Bool = λ b. is_same b.auction auction in
    let B : Bid → Bool = λ b. is_same b.bidder bidder in
    let L : Bid → Bool = is_live (cancels h) in
    let R : Bid → Bool = λ b. kind b.rate in
    let in_book = live_bids_in (bids h) (cancels h) auction in
    let theirs = bids_of (bids h) auction bidder in
    let before : Bid → ℕ = λ b. cond (A b) (cond (L b) (g b) 0) 0 in
    let after : Bid → ℕ = λ b. cond (A b && B b) (cond (L b) (cond (R b) (amount b) 0) 0) 0 in
    sum_by-IsPermutation f (map line_of in_book) lines has
    ∙ sum_by-mapped f line_of in_book
    ∙ sum_by-filter g L (filter A (bids h))
    ∙ sum_by-filter (λ (b : Bid). cond (L b) (g b) 0) A (bids h)
    ∙ sum_by-on before after (bids h)
    (AllByRecursion-weaker (IsPlaced h) (λ b. before b ≡ after b)
    (λ b placed. rw (same-place h b bidder placed) (conds (A b) (L b) (B b) (R b) (amount b))) (bids h) orderly.bidders)
    ∙ sym (sum_by-filter (λ (b : Bid). cond (L b) (cond (R b) (amount b) 0) 0) (live.is_of auction bidder) (bids h))
    ∙ sym (sum_by-filter (λ (b : Bid). cond (R b) (amount b) 0) L theirs)
    ∙ sym (sum_by-filter amount R (filter L theirs))

-- there is a book just where there is one of that name
book-named : (books : List NamedBook) (auction : List ℕ)
    → is_some (book_in books auction) ≡ list_any (λ name. is_same name auction) (names_in books)
book-named [] auction = refl
book-named (named ∷ books) auction =
    elim (cases_Bool (is_of auction named)) [ inl is ↦ rw is refl | inr isnt ↦ rw isnt (book-named books auction) ]

-- and so it is with announcements
announced-named : (announced : List Announcement) (auction : List ℕ)
    → is_some (announcement_of announced auction)
    ≡ list_any (λ name. is_same name auction) (map (λ (a : Announcement). a.auction) announced)
announced-named [] auction = refl
announced-named (a ∷ announced) auction =
    elim (cases_Bool (is_same a.auction auction)) [
      | inl is ↦ rw is refl
      | inr isnt ↦ rw isnt (announced-named announced auction)
    ]

-- so there is a book of each announced auction, and of no other
pub book-announced : (h : List Entry) (books : List NamedBook) (auction : List ℕ)
    → AreBooks h books
    → is_some (book_in books auction) ≡ is_some (announcement_of (announcements h) auction)
book-announced h books auction are =
    book-named books auction
    ∙ ap (list_any (λ name. is_same name auction)) are.names
    ∙ sym (announced-named (announcements h) auction)

-- an auction that isn't announced has no bids of the bidder
unbid : (h : List Entry) (auction bidder : List ℕ)
    → IsOrderly h
    → is_some (announcement_of (announcements h) auction) ≡ false
    → bids_of (bids h) auction bidder ≡ []
unbid h auction bidder orderly unknown =
    filter-none (live.is_of auction bidder) (bids h)
    (AllByRecursion-weaker (IsPlaced h) (λ (b : Bid). live.is_of auction bidder b ≡ false)
    (λ b placed. false_from_ne_true (live.is_of auction bidder b) (λ same.
    both_ways (is_some (announcement_of (announcements h) auction)) unknown
    (subst (λ (x : List ℕ). is_some (announcement_of (announcements h) x) ≡ true)
    (is_same-equal b.auction auction (and_parts (is_same b.auction auction) (is_same b.bidder bidder) same).0)
    placed.0)))
    (bids h) orderly.bidders)

-- what the book that is found has of a bidder
par-found : (kind : Option Rate → Bool) (h : List Entry) (auction bidder : List ℕ) (found : Option Bids)
    → IsOrderly h
    → is_some found ≡ is_some (announcement_of (announcements h) auction)
    → IfSome found
    (λ book. IsPermutation (map (book_line_of (enrolments h)) (live_bids_in (bids h) (cancels h) auction)) book.lines)
    → option_map_or (λ (book : Bids). par_in_book kind (place_of (enrolments h) bidder) book.lines) found 0
    ≡ par_bid kind h auction bidder
par-found kind h auction bidder None orderly named has =
    ap (λ (bs : List Bid). par_of (filter (λ (b : Bid). kind b.rate) (filter (is_live (cancels h)) bs)))
    (sym (unbid h auction bidder orderly (sym named)))
par-found kind h auction bidder (Some book) orderly named has = par-booked kind h auction bidder book.lines orderly has

-- so it is with competitive bids
pub competitive-booked : (h : List Entry) (books : List NamedBook) (auction bidder : List ℕ)
    → IsOrderly h
    → AreBooks h books
    → option_map_or (λ (book : Bids). competitive_of (place_of (enrolments h) bidder) book.lines)
    (book_in books auction) 0
    ≡ par_of (live.competitive_in (filter (is_live (cancels h)) (bids_of (bids h) auction bidder)))
competitive-booked h books auction bidder orderly are =
    par-found is_some h auction bidder (book_in books auction) orderly (book-announced h books auction are)
    (are.lines auction)

-- and noncompetitive ones
pub noncompetitive-booked : (h : List Entry) (books : List NamedBook) (auction bidder : List ℕ)
    → IsOrderly h
    → AreBooks h books
    → option_map_or (λ (book : Bids). noncompetitive_of (place_of (enrolments h) bidder) book.lines)
    (book_in books auction) 0
    ≡ par_of (live.noncompetitive_in (filter (is_live (cancels h)) (bids_of (bids h) auction bidder)))
noncompetitive-booked h books auction bidder orderly are =
    par-found is_none h auction bidder (book_in books auction) orderly (book-announced h books auction are)
    (are.lines auction)

-- the book of an announced auction has the live bids of its bidding
pub book-booked : (h : List Entry) (books : List NamedBook) (auction : List ℕ) (a : Announcement) (book : Bids)
    → AreBooks h books
    → announcement_of (announcements h) auction ≡ Some a
    → book_in books auction ≡ Some book
    → AreBooked (bidding_in h a) book.lines
book-booked h books auction a book are announced found =
    let has : IsPermutation (map (book_line_of (enrolments h)) (live_bids_in (bids h) (cancels h) auction)) book.lines =
    subst (λ (there : Option Bids). IfSome there
    (λ b. IsPermutation (map (book_line_of (enrolments h)) (live_bids_in (bids h) (cancels h) auction)) b.lines)) found
    (are.lines auction) in
    subst (λ (name : List ℕ). IsPermutation (map (book_line_of (enrolments h)) (live_bids_in (bids h) (cancels h) name))
    book.lines)
    (sym (announced-name (announcements h) auction a announced)) has
