-- The books stay what the history says as it grows.
use Rattle.std.proofs.Common.{◌≡◌, ℕ, zero, suc, ◌<◌, ◌==◌, Bool, true, false, Option, Some, None, is_some, inl, inr, List, [], ◌∷◌, ◌++◌, length, get_or, sym, ap, ◌∙◌, subst, arith}
use Rattle.std.specs.Prelude.{IfSome, IsPermutation}
use Rattle.std.specs.List.{All, Contains, find, position_or_len}
use Rattle.std.proofs.lemmas.Bool.{and_from, both_ways, cases_Bool, eq-eqb}
use Rattle.std.proofs.lemmas.List.Elements.{Contains-get_or, at_from_Contains}
use Rattle.std.proofs.lemmas.List.Sorted.{Contains-permutation, IsPermutation-sym, IsPermutation-trans}
use Rattle.std.proofs.lemmas.List.Sums.{passes_at_first}
use Rattle.tb_message.specs.declared.message.Entry.{Entry}
use Rattle.tb_book.specs.declared.book_line.BookLine.{BookLine}
use Rattle.tb_book.specs.Books.{Bids, HasBidAt}
use Rattle.tb_book.proofs.CallerLemmas.{IsOther}
use Rattle.tb_shelf.specs.declared.named.NamedBook.{NamedBook}
use Rattle.tb_shelf.specs.Shelves.{Goes, IsChanged, IsLowered, book_in, is_of}
use Rattle.tb_shelf.proofs.SumsLemmas.{IsPermutation-rest}
use Rattle.tb_history.specs.declared.roster.Enrolment.{Enrolment}
use Rattle.tb_history.specs.declared.bids.Bid.{Bid}
use Rattle.tb_history.specs.Entries.{is_same}
use Rattle.tb_history.specs.Roster.{enrolment_of, enrolments, is_enrolled, is_under}
use Rattle.tb_history.specs.Readings.{place_of}
use Rattle.tb_history.proofs.SameLemmas.{is_same-equal, is_same-refl}
use Rattle.tb_history.proofs.LegalLemmas.{IsPlaced}
use Rattle.tb_results.specs.Biddings.{book_line_of}
use Rattle.tb_shelving.proofs.NumberLemmas.{is_bid}
use Rattle.tb_shelving.proofs.LiveLemmas.{under-some}

-- what is found has a place
within-some : {X : Type 0} (test : X → Bool) (xs : List X)
    → is_some (find test xs) ≡ true → position_or_len test xs < length xs
within-some test [] found = absurd cc
within-some test (x ∷ xs) found =
    elim (cases_Bool (test x)) [
      | inl is ↦ rw is (omega arith)
      | inr isnt ↦ let rest = within-some test xs (rw isnt at found) in rw isnt (omega (arith, rest))
    ]

-- an enrolled bidder's place is no other's
pub place_of-one : (enrolled : List Enrolment) (one other : List ℕ)
    → is_some (enrolment_of enrolled one) ≡ true
    → place_of enrolled one ≡ place_of enrolled other
    → one ≡ other
place_of-one enrolled one other known same =
    let d : Enrolment = record { bidder = one; submitter = one } in
    let first : Enrolment → Bool = λ e. is_same e.bidder one in
    let second : Enrolment → Bool = λ e. is_same e.bidder other in
    let within : place_of enrolled one < length enrolled = within-some first enrolled known in
    let here : first (get_or enrolled (place_of enrolled one) d) ≡ true = passes_at_first first enrolled d within in
    let there : second (get_or enrolled (place_of enrolled one) d) ≡ true =
    subst (λ (k : ℕ). second (get_or enrolled k d) ≡ true) (sym same)
    (passes_at_first second enrolled d (subst (λ (k : ℕ). k < length enrolled) same within)) in
    sym (is_same-equal (get_or enrolled (place_of enrolled one) d).bidder one here)
    ∙ is_same-equal (get_or enrolled (place_of enrolled one) d).bidder other there

-- a bidder has one submitter
one-submitter : (found : Option Enrolment) (one other : List ℕ)
    → is_under one found ≡ true → is_under other found ≡ true → one ≡ other
one-submitter None one other first second = absurd cc
one-submitter (Some e) one other first second =
    sym (is_same-equal e.submitter one first) ∙ is_same-equal e.submitter other second

-- a bid that isn't the submitter's of the number has another line than any of its bidders under the number
pub other-line : (h : List Entry) (s : List ℕ) (n : ℕ) (bidder : List ℕ) (b : Bid)
    → is_enrolled h bidder s ≡ true
    → IsPlaced h b
    → is_bid s n b ≡ false
    → IsOther (place_of (enrolments h) bidder) n (book_line_of (enrolments h) b)
other-line h s n bidder b enrolled placed apart same =
    let one : b.bidder ≡ bidder =
    place_of-one (enrolments h) b.bidder bidder
    (under-some b.submitter (enrolment_of (enrolments h) b.bidder) placed.1) same.0 in
    let theirs : b.submitter ≡ s =
    one-submitter (enrolment_of (enrolments h) bidder) b.submitter s
    (subst (λ (x : List ℕ). is_enrolled h x b.submitter ≡ true) one placed.1) enrolled in
    both_ways (is_bid s n b) apart
    (and_from (is_same b.submitter s) (b.number == n)
    (subst (λ (x : List ℕ). is_same b.submitter x ≡ true) theirs (is_same-refl b.submitter)) (eq-eqb b.number n same.1))

-- what a book that goes so has, where its lines go along
goes-lines : (Change : Bids → Bids → Type 0) (before after : Option Bids) (old new : List BookLine)
    → Goes Change before after
    → IfSome before (λ book. IsPermutation old book.lines)
    → ((one other : Bids) → Change one other → IsPermutation old one.lines → IsPermutation new other.lines)
    → IfSome after (λ book. IsPermutation new book.lines)
goes-lines Change None None old new goes has step = tt
goes-lines Change None (Some after) old new goes has step = absurd goes
goes-lines Change (Some before) None old new goes has step = absurd goes
goes-lines Change (Some before) (Some after) old new goes has step = step before after goes has

-- so it is with all books where one goes so
pub lines-changed : (name : List ℕ) (Change : Bids → Bids → Type 0) (before after : List ℕ → List BookLine)
    (old new : List NamedBook)
    → IsChanged name Change old new
    → ((auction : List ℕ) → IfSome (book_in old auction) (λ book. IsPermutation (before auction) book.lines))
    → ((one other : Bids) → Change one other → IsPermutation (before name) one.lines
    → IsPermutation (after name) other.lines)
    → ((auction : List ℕ) → is_same name auction ≡ false → after auction ≡ before auction)
    → (auction : List ℕ) → IfSome (book_in new auction) (λ book. IsPermutation (after auction) book.lines)
lines-changed name Change before after old new changed has step stays auction =
    elim (cases_Bool (is_same name auction)) [
      | inl is ↦
          subst (λ (x : List ℕ). IfSome (book_in new x) (λ book. IsPermutation (after x) book.lines))
          (is_same-equal name auction is)
          (goes-lines Change (book_in old name) (book_in new name) (before name) (after name) changed.changed
          (has name) step)
      | inr isnt ↦
          subst (λ (found : Option Bids). IfSome found (λ book. IsPermutation (after auction) book.lines))
          (sym (changed.others auction isnt))
          (subst (λ (lines : List BookLine). IfSome (book_in old auction) (λ book. IsPermutation lines book.lines))
          (sym (stays auction isnt)) (has auction))
    ]

-- with a book more, whose lines are none where it is the one that is found
pub lines-opened : (old : List NamedBook) (named : NamedBook) (auction : List ℕ) (lines : List BookLine)
    → IfSome (book_in old auction) (λ book. IsPermutation lines book.lines)
    → (is_of auction named ≡ true → IsPermutation lines named.book.lines)
    → IfSome (book_in (old ++ named ∷ []) auction) (λ book. IsPermutation lines book.lines)
lines-opened [] named auction lines has own =
    elim (cases_Bool (is_of auction named)) [ inl is ↦ rw is (own is) | inr isnt ↦ rw isnt tt ]
lines-opened (first ∷ old) named auction lines has own =
    elim (cases_Bool (is_of auction first)) [
      | inl is ↦ rw is (rw is at has)
      | inr isnt ↦ rw isnt (lines-opened old named auction lines (rw isnt at has) own)
    ]

-- the line of a bid stands among those of which it is the only one of its bidder and number
same-line : (line : BookLine) (lines : List BookLine) (other : BookLine) (k : ℕ)
    → All (IsOther line.bidder line.number) lines
    → k < length (line ∷ lines)
    → get_or (line ∷ lines) k other ≡ other
    → other.bidder ≡ line.bidder
    → other.number ≡ line.number
    → other ≡ line
same-line line lines other zero others within is bidder number = sym is
same-line line lines other (suc k) others within is bidder number =
    let short : k < length lines = omega (arith, within) in
    absurd (others k other short
    (ap (λ (l : BookLine). l.bidder) is ∙ bidder, ap (λ (l : BookLine). l.number) is ∙ number))

-- a line that is taken out of a book leaves the others
pub lines-taken : (line : BookLine) (rest : List BookLine) (old new : Bids)
    → IsPermutation old.lines (line ∷ rest)
    → All (IsOther line.bidder line.number) rest
    → IsLowered line.rate line.bidder line.number old new
    → IsPermutation rest new.lines
lines-taken line rest old new has others lowered =
    let here : Contains old.lines line =
    Contains-permutation (line ∷ rest) old.lines line (IsPermutation-sym old.lines (line ∷ rest) has)
    (Contains-get_or (line ∷ rest) 0 line (omega arith)) in
    let at = at_from_Contains old.lines line here in
    let bid : HasBidAt line.rate line.bidder line.number old.lines = (
      at.0,
      at.1,
      λ d. (
        ap (λ (l : BookLine). l.rate) (at.2 d),
        ap (λ (l : BookLine). l.bidder) (at.2 d),
        ap (λ (l : BookLine). l.number) (at.2 d),
      ),
    ) in
    let taken = lowered.taken bid in
    let among : Contains (line ∷ rest) taken.0 =
    Contains-permutation old.lines (line ∷ rest) taken.0 has
    (Contains-permutation (taken.0 ∷ new.lines) old.lines taken.0
    (IsPermutation-sym old.lines (taken.0 ∷ new.lines) taken.4)
    (Contains-get_or (taken.0 ∷ new.lines) 0 taken.0 (omega arith))) in
    let found = at_from_Contains (line ∷ rest) taken.0 among in
    let same : taken.0 ≡ line =
    same-line line rest taken.0 found.0 others found.1 (found.2 taken.0) taken.2 taken.3 in
    IsPermutation-rest line rest new.lines
    (IsPermutation-trans (line ∷ rest) old.lines (line ∷ new.lines) (IsPermutation-sym old.lines (line ∷ rest) has)
    (subst (λ (l : BookLine). IsPermutation old.lines (l ∷ new.lines)) same taken.4))
