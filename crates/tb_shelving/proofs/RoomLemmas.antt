-- Room for a list of messages.
use Rattle.std.proofs.Common.{◌≡◌, ℕ, suc, ◌+◌, ◌<◌, ◌≤◌, ◌&&◌, ◌||◌, ◌∙◌, Bool, true, false, Option, Some, None, inl, inr, refl, sym, ap, ap₂, subst, List, [], ◌∷◌, ◌++◌, map, nat_le, length, length-append, get_or, take, Result, Ok, Err, arith}
use Rattle.std.specs.Prelude.{OnOk}
use Rattle.std.specs.Option.{option_map_or}
use Rattle.std.specs.List.{filter, list_all, list_any}
use Rattle.std.proofs.lemmas.Bool.{and_from, and_parts, cases_Bool, leb-true, le-leb, or_left, or_right}
use Rattle.std.proofs.lemmas.List.{length-map}
use Rattle.std.proofs.lemmas.List.Elements.{filter-append}
use Rattle.std.proofs.lemmas.List.Folds.{list_all-append, list_all-map, list_all_more, list_any-append}
use Rattle.tb_message.specs.declared.message.Entry.{Entry}
use Rattle.tb_message.specs.declared.message.Message.{Message}
use Rattle.tb_message.specs.declared.message.Message.TheVariants as message
use Rattle.tb_book.specs.Books.{Bids}
use Rattle.tb_shelf.specs.declared.named.NamedBook.{NamedBook}
use Rattle.tb_shelf.specs.Shelves.{Goes, IsAdded, IsChanged, IsLowered, IsUnsealed, Shelved, book_in, has_places, is_of}
use Rattle.tb_history.specs.declared.roster.Enrolment.{Enrolment}
use Rattle.tb_history.specs.declared.bids.Bid.{Bid}
use Rattle.tb_history.specs.Entries.{announced_by, is_same}
use Rattle.tb_history.specs.LiveBids.{bid_of}
use Rattle.tb_history.specs.Readings.{place_of}
use Rattle.tb_history.proofs.SameLemmas.{is_same-equal}
use Rattle.tb_shelving.specs.Rooms.{Fits, Room, TakesRoom, behind_all, has_place}
use Rattle.tb_tables.specs.Kinds.{announces, settles}
use Rattle.tb_shelving.specs.Shelving.{HasShelved, IsKeptShelf, IsOut, Shelves}
use Rattle.tb_shelving.proofs.KeptLemmas.{has_place-kept, list_all-weaker}

-- as many messages as entries that are undecided and messages that are asked
pub length-behind : (ahead : List Entry) (messages : List (ℕ × Message))
    → length (behind_all ahead messages) ≡ length ahead + length messages
length-behind ahead messages =
    length-append (map (λ (entry : Entry). entry.message) ahead) (map (λ (asked : ℕ × Message). asked.1) messages)
    ∙ ap₂ (λ a b. a + b) (length-map ahead (λ (entry : Entry). entry.message))
    (length-map messages (λ (asked : ℕ × Message). asked.1))

-- as many messages pass as elements that have such a message
filter-mapped : {X : Type 0} (message_of : X → Message) (test : Message → Bool) (xs : List X)
    → length (filter test (map message_of xs)) ≡ length (filter (λ x. test (message_of x)) xs)
filter-mapped message_of test [] = refl
filter-mapped message_of test (x ∷ xs) =
    elim (cases_Bool (test (message_of x))) [
      | inl is ↦ rw is (ap (λ n. suc n) (filter-mapped message_of test xs))
      | inr isnt ↦ rw isnt (filter-mapped message_of test xs)
    ]

-- as many of them pass as do among the entries and among what is asked
pub count-behind : (test : Message → Bool) (ahead : List Entry) (messages : List (ℕ × Message))
    → length (filter test (behind_all ahead messages))
    ≡ length (filter (λ (entry : Entry). test entry.message) ahead)
    + length (filter (λ (asked : ℕ × Message). test asked.1) messages)
count-behind test ahead messages =
    let before = map (λ (entry : Entry). entry.message) ahead in
    let behind = map (λ (asked : ℕ × Message). asked.1) messages in
    ap length (filter-append test before behind)
    ∙ length-append (filter test before) (filter test behind)
    ∙ ap₂ (λ a b. a + b) (filter-mapped (λ (entry : Entry). entry.message) test ahead)
    (filter-mapped (λ (asked : ℕ × Message). asked.1) test messages)

-- whether each of them passes
pub all-behind : (test : Message → Bool) (ahead : List Entry) (messages : List (ℕ × Message))
    → list_all test (behind_all ahead messages)
    ≡ (list_all (λ (entry : Entry). test entry.message) ahead
    && list_all (λ (asked : ℕ × Message). test asked.1) messages)
all-behind test ahead messages =
    list_all-append test (map (λ (entry : Entry). entry.message) ahead)
    (map (λ (asked : ℕ × Message). asked.1) messages)
    ∙ ap₂ (λ a b. a && b) (list_all-map test (λ (entry : Entry). entry.message) ahead)
    (list_all-map test (λ (asked : ℕ × Message). asked.1) messages)

-- some message passes just where an element's does
any-mapped : {X : Type 0} (message_of : X → Message) (test : Message → Bool) (xs : List X)
    → list_any test (map message_of xs) ≡ list_any (λ x. test (message_of x)) xs
any-mapped message_of test [] = refl
any-mapped message_of test (x ∷ xs) = ap (λ b. test (message_of x) || b) (any-mapped message_of test xs)

-- whether one of them passes
pub any-behind : (test : Message → Bool) (ahead : List Entry) (messages : List (ℕ × Message))
    → list_any test (behind_all ahead messages)
    ≡ (list_any (λ (entry : Entry). test entry.message) ahead
    || list_any (λ (asked : ℕ × Message). test asked.1) messages)
any-behind test ahead messages =
    list_any-append test (map (λ (entry : Entry). entry.message) ahead)
    (map (λ (asked : ℕ × Message). asked.1) messages)
    ∙ ap₂ (λ a b. a || b) (any-mapped (λ (entry : Entry). entry.message) test ahead)
    (any-mapped (λ (asked : ℕ × Message). asked.1) test messages)

-- a test or none
or_false : (b : Bool) → (b || false) ≡ b
or_false true = refl
or_false false = refl

-- a book with places has fewer too
places-less : (found : Option Bids) (n fewer : ℕ)
    → fewer ≤ n
    → option_map_or (λ (book : Bids). nat_le n book.spare) found true ≡ true
    → option_map_or (λ (book : Bids). nat_le fewer book.spare) found true ≡ true
places-less None n fewer less has = refl
places-less (Some book) n fewer less has = le-leb fewer book.spare (omega (arith, leb-true n book.spare has, less))

-- so has each message's book
pub has_place-less : (books : List NamedBook) (n fewer : ℕ) (m : Message)
    → fewer ≤ n
    → has_place books n m ≡ true
    → has_place books fewer m ≡ true
has_place-less books n fewer (message.Bid auction bidder rate amount) less has =
    places-less (book_in books auction) n fewer less has
has_place-less books n fewer other less has = refl

-- a message counts as an announcement or not
announces-cons : (m : Message) (ms : List Message)
    → length (filter announces (m ∷ ms)) ≡ length (announced_by m) + length (filter announces ms)
announces-cons (message.Announce a) ms = omega arith
announces-cons other ms = omega arith

-- no message needs no room
pub Fits-nil : (room : Room) → Fits room []
Fits-nil room =
    record {
      rows = omega arith;
      ahead = record {
        ready = omega arith;
        places = refl;
        settling = λ none. let wrong : false ≡ true = none in absurd cc;
      };
    }

-- room for messages is room for the first of them alone
pub Fits-one : (room : Room) (m : Message) (ms : List Message) → Fits room (m ∷ ms) → Fits room (m ∷ [])
Fits-one room m ms fits =
    let books = room.shelf.books in
    let parts = and_parts (has_place books (length (m ∷ ms)) m) (list_all (has_place books (length (m ∷ ms))) ms)
    fits.ahead.places in
    record {
      rows = omega (arith, fits.rows);
      ahead = record {
        ready = omega (arith, fits.ahead.ready, announces-cons m ms, announces-cons m []);
        places = and_from (has_place books 1 m) true
            (has_place-less books (length (m ∷ ms)) 1 m (omega arith) parts.0) refl;
        settling = λ is. omega (
          arith,
          fits.ahead.settling (or_left (settles m) (list_any settles ms) (sym (or_false (settles m)) ∙ is)),
        );
      };
    }

-- and for the others
pub Fits-rest : (room : Room) (m : Message) (ms : List Message) → Fits room (m ∷ ms) → Fits room ms
Fits-rest room m ms fits =
    let books = room.shelf.books in
    let parts = and_parts (has_place books (length (m ∷ ms)) m) (list_all (has_place books (length (m ∷ ms))) ms)
    fits.ahead.places in
    record {
      rows = omega (arith, fits.rows);
      ahead = record {
        ready = omega (arith, fits.ahead.ready, announces-cons m ms);
        places = list_all-weaker (has_place books (length (m ∷ ms))) (has_place books (length ms)) ms
            (λ x has. has_place-less books (length (m ∷ ms)) (length ms) x (omega arith) has) parts.1;
        settling = λ is. omega (arith, fits.ahead.settling (or_right (settles m) (list_any settles ms) is));
      };
    }

-- a book that goes so has so many places where it had so many more
goes-places : (Change : Bids → Bids → Type 0) (before after : Option Bids) (more n : ℕ)
    → ((one other : Bids) → Change one other → more ≤ one.spare → n ≤ other.spare)
    → Goes Change before after
    → option_map_or (λ (book : Bids). nat_le more book.spare) before true ≡ true
    → option_map_or (λ (book : Bids). nat_le n book.spare) after true ≡ true
goes-places Change None None more n takes goes has = refl
goes-places Change None (Some after) more n takes goes has = absurd goes
goes-places Change (Some before) None more n takes goes has = absurd goes
goes-places Change (Some before) (Some after) more n takes goes has =
    le-leb n after.spare (takes before after goes (leb-true more before.spare has))

-- so it is with all books where one goes so
pub places-changed : (name : List ℕ) (Change : Bids → Bids → Type 0) (old new : List NamedBook) (more n : ℕ)
    → n ≤ more
    → ((one other : Bids) → Change one other → more ≤ one.spare → n ≤ other.spare)
    → IsChanged name Change old new
    → (auction : List ℕ) → has_places old more auction ≡ true → has_places new n auction ≡ true
places-changed name Change old new more n fewer takes changed auction has =
    elim (cases_Bool (is_same name auction)) [
      | inl is ↦
          let same = is_same-equal name auction is in
          subst (λ (x : List ℕ). has_places new n x ≡ true) same
          (goes-places Change (book_in old name) (book_in new name) more n takes changed.changed
          (subst (λ (x : List ℕ). has_places old more x ≡ true) (sym same) has))
      | inr isnt ↦
          subst (λ (found : Option Bids). option_map_or (λ (book : Bids). nat_le n book.spare) found true ≡ true)
          (sym (changed.others auction isnt)) (places-less (book_in old auction) more n fewer has)
    ]

-- with a book more that has the places
places-opened : (old : List NamedBook) (named : NamedBook) (auction : List ℕ) (n : ℕ)
    → n ≤ named.book.spare
    → has_places old n auction ≡ true
    → has_places (old ++ named ∷ []) n auction ≡ true
places-opened [] named auction n enough has =
    elim (cases_Bool (is_of auction named)) [
      | inl is ↦ rw is (le-leb n named.book.spare enough)
      | inr isnt ↦ rw isnt refl
    ]
places-opened (first ∷ old) named auction n enough has =
    elim (cases_Bool (is_of auction first)) [
      | inl is ↦ rw is (rw is at has)
      | inr isnt ↦ rw isnt (places-opened old named auction n enough (rw isnt at has))
    ]

-- a cancel takes no place
places-out : (enrolled : List Enrolment) (found : Option Bid) (name : List ℕ) (number : ℕ) (old new : List NamedBook)
    (n : ℕ)
    → IsOut enrolled found name number old new
    → (auction : List ℕ) → has_places old (n + 1) auction ≡ true → has_places new n auction ≡ true
places-out enrolled None name number old new n out auction has =
    rw out (places-less (book_in old auction) (n + 1) n (omega arith) has)
places-out enrolled (Some bid) name number old new n out auction has =
    places-changed name (IsLowered bid.rate (place_of enrolled bid.bidder) number) old new (n + 1) n (omega arith)
    (λ one other lowered enough. omega (arith, lowered.room, enough)) out auction has

-- a message takes one place of a book at most
places-message : (enrolled : List Enrolment) (all : List Bid) (s : List ℕ) (number : ℕ) (m : Message)
    (old new : Shelved) (n : ℕ)
    → n + 1 ≤ old.places
    → Shelves enrolled all s number m old new
    → (auction : List ℕ) → has_places old.books (n + 1) auction ≡ true → has_places new.books n auction ≡ true
places-message enrolled all s number (message.Announce a) old new n enough goes auction has =
    rw goes.books
    (places-opened old.books goes.named auction n (omega (arith, goes.room, enough))
    (places-less (book_in old.books auction) (n + 1) n (omega arith) has))
places-message enrolled all s number (message.Bid name bidder rate amount) old new n enough goes auction has =
    places-changed name
    (IsAdded (record { bidder = place_of enrolled bidder; number = number; rate = rate; amount = amount }))
    old.books new.books (n + 1) n (omega arith) (λ one other added enough. omega (arith, added.room, enough)) goes
    auction has
places-message enrolled all s number (message.Cancel name bid) old new n enough goes auction has =
    places-out enrolled (bid_of all s name bid) name bid old.books new.books n goes auction has
places-message enrolled all s number (message.Publish name) old new n enough goes auction has =
    places-changed name IsUnsealed old.books new.books (n + 1) n (omega arith)
    (λ one other unsealed enough. omega (arith, unsealed.room, enough)) goes auction has
places-message enrolled all s number other old new n enough goes auction has =
    rw goes (places-less (book_in old.books auction) (n + 1) n (omega arith) has)

-- so another message keeps its place
pub place-message : (old new : List NamedBook) (more n : ℕ) (m : Message)
    → ((auction : List ℕ) → has_places old more auction ≡ true → has_places new n auction ≡ true)
    → has_place old more m ≡ true
    → has_place new n m ≡ true
place-message old new more n (message.Bid auction bidder rate amount) takes has = takes auction has
place-message old new more n other takes has = refl

-- what a message takes of the room
pub record IsTakenBy (enrolled : List Enrolment) (all : List Bid) (s : List ℕ) (number : ℕ) (m : Message)
    (old new : Room) : Type 0 where
  pub shelf : HasShelved enrolled all s number m old.shelf new.shelf
  pub rows : old.messages ≤ new.messages + 1
  pub enough : old.messages ≤ old.shelf.places
  pub lasts : old.settling ≤ new.settling + 1

-- leaves what the others need
pub TakesRoom-by : (enrolled : List Enrolment) (all : List Bid) (s : List ℕ) (number : ℕ) (m : Message) (old new : Room)
    → IsTakenBy enrolled all s number m old new
    → TakesRoom m old new
TakesRoom-by enrolled all s number m old new taken ms fits =
    let n = length ms in
    let count : length (m ∷ ms) ≡ n + 1 = omega arith in
    let places : list_all (has_place old.shelf.books (n + 1)) (m ∷ ms) ≡ true =
    subst (λ (k : ℕ). list_all (has_place old.shelf.books k) (m ∷ ms) ≡ true) count fits.ahead.places in
    let parts = and_parts (has_place old.shelf.books (n + 1) m) (list_all (has_place old.shelf.books (n + 1)) ms)
    places in
    record {
      rows = omega (arith, fits.rows, taken.rows);
      ahead = record {
        ready = omega (arith, fits.ahead.ready, announces-cons m ms, taken.shelf.ready);
        places = list_all-weaker (has_place old.shelf.books (n + 1)) (has_place new.shelf.books n) ms
            (λ x has. place-message old.shelf.books new.shelf.books (n + 1) n x
            (places-message enrolled all s number m old.shelf new.shelf n (omega (arith, fits.rows, taken.enough))
            taken.shelf.books) has) parts.1;
        settling = λ is. omega (
          arith,
          fits.ahead.settling (or_right (settles m) (list_any settles ms) is),
          taken.lasts,
        );
      };
    }

-- with the next message in its place
pub places-more : {X : Type 0} (message_of : X → Message) (old new : Shelved) (n : ℕ) (items : List X) (i : ℕ)
    (next : X)
    → i < length items
    → next ≡ get_or items i next
    → IsKeptShelf old new
    → list_all (λ x. has_place old.books n (message_of x)) (take i items) ≡ true
    → has_place new.books n (message_of next) ≡ true
    → list_all (λ x. has_place new.books n (message_of x)) (take (i + 1) items) ≡ true
places-more {X} message_of old new n items i next within is kept has here =
    let before : X → Bool = λ x. has_place old.books n (message_of x) in
    let now : X → Bool = λ x. has_place new.books n (message_of x) in
    list_all_more now items i next within
    ∙ and_from (list_all now (take i items)) (now (get_or items i next))
    (list_all-weaker before now (take i items) (λ x was. has_place-kept old new n (message_of x) kept was) has)
    (subst (λ (x : X). now x ≡ true) is here)

-- the places of the entries' messages and of those that are asked
pub places-behind : {E : Type 0} (result : Result Unit E) (old new : Shelved) (n : ℕ) (ahead : List Entry)
    (messages : List (ℕ × Message))
    → IsKeptShelf old new
    → list_all (λ (entry : Entry). has_place old.books n entry.message) ahead ≡ true
    → OnOk result (list_all (λ (asked : ℕ × Message). has_place new.books n asked.1) messages ≡ true)
    → OnOk result (list_all (has_place new.books n) (behind_all ahead messages) ≡ true)
places-behind (Err e) old new n ahead messages kept has here = tt
places-behind (Ok u) old new n ahead messages kept has here =
    let before : Entry → Bool = λ entry. has_place old.books n entry.message in
    let now : Entry → Bool = λ entry. has_place new.books n entry.message in
    all-behind (has_place new.books n) ahead messages
    ∙ and_from (list_all now ahead) (list_all (λ (asked : ℕ × Message). has_place new.books n asked.1) messages)
    (list_all-weaker before now ahead (λ entry was. has_place-kept old new n entry.message kept was) has) here

-- a fact that holds whatever the result
pub whatever : {E : Type 0} {P : Type 0} (result : Result Unit E) → P → OnOk result P
whatever (Err e) fact = tt
whatever (Ok u) fact = fact
