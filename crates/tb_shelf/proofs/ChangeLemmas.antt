-- What a change of the book at a place means for the books by name.
use Rattle.std.proofs.Common.{◌≡◌, ℕ, ◌+◌, ◌<◌, ◌≤◌, suc, zero, Bool, true, false, cond, Option, Some, None, List, [], ◌∷◌, ◌++◌, refl, sym, ap, ◌∙◌, subst, length, get_or, inl, inr, take, drop, Result, Ok, Err, arith}
use Rattle.std.specs.Prelude.{◌↔◌, IfNone, IfSome, IsNone, IsPermutation, OnOk}
use Rattle.std.specs.List.{find, position}
use Rattle.std.specs.Option.{option_map}
use Rattle.std.specs.Str.{bytes_eq}
use Rattle.std.proofs.Math.ListN.{set, length-set}
use Rattle.std.proofs.lemmas.Bool.{cases_Bool, le-leb}
use Rattle.std.proofs.lemmas.List.{get_or_default, get_or-set_same, take_all, take-append-le}
use Rattle.std.proofs.lemmas.List.Folds.{position_or_len-set}
use Rattle.std.proofs.lemmas.List.Recursion.{found_set_other}
use Rattle.std.proofs.lemmas.Slice.Eq.{bytes_eq-Decides}
use Rattle.tb_units.specs.declared.rate.Rate.{Rate}
use Rattle.tb_book.specs.declared.book_line.BookLine.{BookLine}
use Rattle.tb_book.specs.Books.{Bids, HasBidAt, most_bid, par_in}
use Rattle.tb_shelf.specs.declared.named.NamedBook.{NamedBook}
use Rattle.tb_shelf.specs.Shelves.{IsChanged, IsChangedAt, IsLowered, IsOpened, Shelved, TakesLine, book_in, has_places, is_of, names_in}
use Rattle.tb_shelf.proofs.FindLemmas.{position-place, found_at, found_none}
use Rattle.tb_shelf.proofs.NameLemmas.{passes-at}

-- the book of a first element or of the others
one_more : (b : Bool) (named : NamedBook) (rest : Option NamedBook)
    → option_map (λ (n : NamedBook). n.book) (cond b (Some named) rest)
    ≡ cond b (Some named.book) (option_map (λ (n : NamedBook). n.book) rest)
one_more true named rest = refl
one_more false named rest = refl

-- the book at the place that a name has
pub book_in-at : (books : List NamedBook) (auction : List ℕ) (place : ℕ) (d : NamedBook)
    → position (is_of auction) books ≡ Some place
    → book_in books auction ≡ Some (get_or books place d).book
book_in-at books auction place d placed =
    let within = (position-place (is_of auction) books place placed).0 in
    let named = get_or books place d in
    ap (option_map (λ (n : NamedBook). n.book))
    (found_at (is_of auction) books place named placed (get_or_default books place d named within))

-- where a name has no place there is no book
pub book_in-none : (books : List NamedBook) (auction : List ℕ)
    → position (is_of auction) books ≡ None → book_in books auction ≡ None
book_in-none books auction none =
    ap (option_map (λ (n : NamedBook). n.book)) (found_none (is_of auction) books none)

-- a book put in the place of one of the same name leaves the names
names-set : (books : List NamedBook) (place : ℕ) (named d : NamedBook)
    → named.auction ≡ (get_or books place d).auction
    → names_in (set books place named) ≡ names_in books
names-set [] place named d same = refl
names-set (first ∷ books) zero named d same = ap (λ (name : List ℕ). name ∷ names_in books) same
names-set (first ∷ books) (suc place) named d same =
    ap (λ (names : List (List ℕ)). first.auction ∷ names) (names-set books place named d same)

-- a name's place stays there
position-set : (books : List NamedBook) (auction : List ℕ) (place : ℕ) (named d : NamedBook)
    → position (is_of auction) books ≡ Some place
    → named.auction ≡ (get_or books place d).auction
    → position (is_of auction) (set books place named) ≡ Some place
position-set books auction place named d placed same =
    let p = is_of auction in
    let first = position-place p books place placed in
    let alike : p named ≡ p (get_or books place d) = ap (λ (name : List ℕ). bytes_eq name auction) same in
    rw (position_or_len-set p books place named d alike, length-set books place named) placed

-- the book at a place is the auction's
name-at : (books : List NamedBook) (auction : List ℕ) (place : ℕ) (d : NamedBook)
    → position (is_of auction) books ≡ Some place
    → (get_or books place d).auction ≡ auction
name-at books auction place d placed =
    (bytes_eq-Decides (get_or books place d).auction auction).0 (passes-at (is_of auction) books place d placed)

-- so a change at the place of a name is one of that name's book
pub IsChanged-at : (auction : List ℕ) (place : ℕ) (Change : Bids → Bids → Type 0) (old new : List NamedBook)
    → position (is_of auction) old ≡ Some place
    → IsChangedAt place Change old new
    → IsChanged auction Change old new
IsChanged-at auction place Change old new placed at =
    let d = at.named in
    let within = (position-place (is_of auction) old place placed).0 in
    let here = name-at old auction place d placed in
    let before = book_in-at old auction place d placed in
    let after : book_in (set old place d) auction ≡ Some d.book =
    book_in-at (set old place d) auction place d (position-set old auction place d d placed (at.name d))
    ∙ ap (λ (n : NamedBook). Some n.book) (get_or-set_same old place d d within) in
    subst (λ (books : List NamedBook). IsChanged auction Change old books) (sym at.is)
    (record {
      names = names-set old place d d (at.name d);
      changed = rw (before, after) (at.changed d);
      others = λ other apart.
          let fails : is_of other (get_or old place d) ≡ false =
          subst (λ (name : List ℕ). bytes_eq name other ≡ false) (sym here) apart in
          let own : is_of other d ≡ false =
          subst (λ (name : List ℕ). bytes_eq name other ≡ false) (sym (at.name d ∙ here)) apart in
          found_set_other (λ (books : List NamedBook). book_in books other) (is_of other)
          (λ (n : NamedBook). Some n.book) None refl
          (λ n books. one_more (is_of other n) n (find (is_of other) books)) old place d d fails own;
    })

-- where there is no book nothing goes
pub IsChanged-none : (auction : List ℕ) (Change : Bids → Bids → Type 0) (books : List NamedBook)
    → position (is_of auction) books ≡ None
    → IsChanged auction Change books books
IsChanged-none auction Change books none =
    record { names = refl; changed = rw (book_in-none books auction none) tt; others = λ other apart. refl }

-- a line was taken out of a book, or there was none
pub IsLowered-taken : (taken : Option BookLine) (rate : Option Rate) (bidder number : ℕ) (old new : Bids)
    → IsNone taken ↔ (¬ (HasBidAt rate bidder number old.lines))
    → IfSome taken (λ line. (line.rate ≡ rate) × (line.bidder ≡ bidder) × (line.number ≡ number))
    → IfSome taken (λ line. IsPermutation old.lines (line ∷ new.lines))
    → IfNone taken (new ≡ old)
    → old.spare ≤ new.spare
    → new.opened ≡ old.opened
    → IsLowered rate bidder number old new
IsLowered-taken None rate bidder number old new none is elements unchanged room opened =
    record {
      taken = λ has. absurd (none.0 refl has);
      none = λ lacks. ap (λ (book : Bids). book.lines) unchanged;
      room = room;
      opened = opened;
    }
IsLowered-taken (Some line) rate bidder number old new none is elements unchanged room opened =
    record {
      taken = λ has. (line, is.0, is.1, is.2, elements);
      none = λ lacks. let wrong : true ≡ false = none.1 lacks in absurd cc;
      room = room;
      opened = opened;
    }

-- what holds of a name's book holds of the book at its place
pub at-place : (P : Bids → Type 0) (books : List NamedBook) (auction : List ℕ) (place : ℕ) (d : NamedBook)
    → position (is_of auction) books ≡ Some place
    → IfSome (book_in books auction) P
    → P (get_or books place d).book
at-place P books auction place d placed has =
    subst (λ (found : Option Bids). IfSome found P) (book_in-at books auction place d placed) has

-- a list that is written back whole is what was written
pub written_back : {X : Type 0} (new items : List X) (count : ℕ)
    → length new ≡ count → take count (new ++ drop (length new) items) ≡ new
written_back {X} new items count same =
    let rest : List X = drop (length new) items in
    rw (← same) (take-append-le (length new) new rest (omega arith) ∙ take_all (length new) new (omega arith))

-- so a change of the book at a name's place, written back, is one of the name's book
pub changed-back : (auction : List ℕ) (place : ℕ) (Change : Bids → Bids → Type 0)
    (items old new : List NamedBook) (count : ℕ)
    → old ≡ items
    → length old ≡ count
    → position (is_of auction) items ≡ Some place
    → IsChangedAt place Change old new
    → IsChanged auction Change items (take count (new ++ drop (length new) items))
changed-back auction place Change items old new count same long placed at =
    let size : length new ≡ count = ap length at.is ∙ length-set old place at.named ∙ long in
    subst (λ (now : List NamedBook). IsChanged auction Change items now) (sym (written_back new items count size))
    (subst (λ (before : List NamedBook). IsChanged auction Change before new) same
    (IsChanged-at auction place Change old new
    (subst (λ (before : List NamedBook). position (is_of auction) before ≡ Some place) (sym same) placed) at))

-- the room of a name's book, by its place
pub has_places-at : (books : List NamedBook) (auction : List ℕ) (place more : ℕ) (d : NamedBook)
    → position (is_of auction) books ≡ Some place
    → more ≤ (get_or books place d).book.spare
    → has_places books more auction ≡ true
has_places-at books auction place more d placed enough =
    rw (book_in-at books auction place d placed) (le-leb more (get_or books place d).book.spare enough)

-- and where it has no book
pub has_places-none : (books : List NamedBook) (auction : List ℕ) (more : ℕ)
    → position (is_of auction) books ≡ None
    → has_places books more auction ≡ true
has_places-none books auction more none = rw (book_in-none books auction none) refl

-- the places of a book that was changed at a name's place, written back
pub places-back : {E : Type 0} (result : Result Unit E) (auction : List ℕ) (place more : ℕ)
    (Change : Bids → Bids → Type 0) (items old new : List NamedBook) (count : ℕ)
    → old ≡ items
    → length old ≡ count
    → position (is_of auction) items ≡ Some place
    → IsChangedAt place Change old new
    → ((d : NamedBook) → OnOk result (more ≤ (get_or new place d).book.spare))
    → OnOk result (has_places (take count (new ++ drop (length new) items)) more auction ≡ true)
places-back (Err e) auction place more Change items old new count same long placed at enough = tt
places-back (Ok u) auction place more Change items old new count same long placed at enough =
    let d = at.named in
    let size : length new ≡ count = ap length at.is ∙ length-set old place d ∙ long in
    let before : position (is_of auction) old ≡ Some place =
    subst (λ (books : List NamedBook). position (is_of auction) books ≡ Some place) (sym same) placed in
    let after : position (is_of auction) new ≡ Some place =
    subst (λ (books : List NamedBook). position (is_of auction) books ≡ Some place) (sym at.is)
    (position-set old auction place d d before (at.name d)) in
    subst (λ (now : List NamedBook). has_places now more auction ≡ true) (sym (written_back new items count size))
    (has_places-at new auction place more d after (enough d))

-- an empty book that is the only one can take a line
pub takes-first : (auction : List ℕ) (line : BookLine) (old new : Shelved)
    → old.books ≡ []
    → 0 < old.places
    → line.amount.value ≤ most_bid
    → IsOpened auction old new
    → IfSome (book_in new.books auction) (TakesLine line)
takes-first auction line old new none some few opened =
    let only : new.books ≡ opened.named ∷ [] =
    opened.books ∙ ap (λ (books : List NamedBook). books ++ opened.named ∷ []) none in
    subst (λ (books : List NamedBook). IfSome (book_in books auction) (TakesLine line)) (sym only)
    (elim (cases_Bool (is_of auction opened.named)) [
      | inr isnt ↦ rw isnt tt
      | inl is ↦ rw is
          (subst (λ (book : Bids). TakesLine line book) refl
          (record {
            room = omega (arith, some, opened.room);
            new = λ has. absurd (omega (arith, has.1, ap length opened.empty));
            fits = subst (λ (lines : List BookLine). par_in lines + line.amount.value ≤ most_bid) (sym opened.empty)
                (omega (arith, few));
          }))
    ])
