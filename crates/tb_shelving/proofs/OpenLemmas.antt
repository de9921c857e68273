-- The books of published auctions are open, and stay so.
use Rattle.std.proofs.Common.{◌≡◌, ℕ, Bool, true, false, Option, Some, None, is_some, inl, inr, List, [], ◌∷◌, ◌++◌, append-nil, refl, sym, ◌∙◌, subst}
use Rattle.std.specs.List.{AllByRecursion}
use Rattle.std.proofs.lemmas.Bool.{cases_Bool, not-false, or_cases}
use Rattle.std.proofs.lemmas.List.Folds.{list_any-append}
use Rattle.tb_units.specs.declared.moment.Moment.{Moment}
use Rattle.tb_terms.specs.declared.announcement.Announcement.{Announcement}
use Rattle.tb_message.specs.declared.message.Message.{Message}
use Rattle.tb_message.specs.declared.message.Message.TheVariants as message
use Rattle.tb_book.specs.Books.{Bids}
use Rattle.tb_shelf.specs.declared.named.NamedBook.{NamedBook}
use Rattle.tb_shelf.specs.Shelves.{Goes, IsAdded, IsChanged, IsLowered, IsUnsealed, Shelved, book_in, is_of, is_open}
use Rattle.tb_history.specs.declared.roster.Enrolment.{Enrolment}
use Rattle.tb_history.specs.declared.bids.Bid.{Bid}
use Rattle.tb_history.specs.Entries.{is_same}
use Rattle.tb_history.specs.LiveBids.{bid_of}
use Rattle.tb_history.specs.Readings.{place_of}
use Rattle.tb_history.specs.Roster.{is_named}
use Rattle.tb_history.specs.Tables.{publish_rows, settle_rows}
use Rattle.tb_history.proofs.AcceptedLemmas.{IsClear}
use Rattle.tb_history.proofs.SameLemmas.{is_same-equal}
use Rattle.tb_shelving.specs.Shelving.{AreOpen, IsOut, Shelves}

-- an open book that goes so is open
pub goes-open : (Change : Bids → Bids → Type 0) (before after : Option Bids)
    → Goes Change before after
    → ((one other : Bids) → Change one other → one.opened ≡ true → other.opened ≡ true)
    → is_open before ≡ true
    → is_open after ≡ true
goes-open Change None None goes stays opened = opened
goes-open Change None (Some after) goes stays opened = absurd goes
goes-open Change (Some before) None goes stays opened = absurd goes
goes-open Change (Some before) (Some after) goes stays opened = stays before after goes opened

-- so it is with all books where one goes so
pub open-changed : (name : List ℕ) (Change : Bids → Bids → Type 0) (old new : List NamedBook)
    → IsChanged name Change old new
    → ((one other : Bids) → Change one other → one.opened ≡ true → other.opened ≡ true)
    → (auction : List ℕ)
    → is_open (book_in old auction) ≡ true
    → is_open (book_in new auction) ≡ true
open-changed name Change old new changed stays auction opened =
    elim (cases_Bool (is_same name auction)) [
      | inl is ↦
          let own : auction ≡ name = sym (is_same-equal name auction is) in
          rw own
          (goes-open Change (book_in old name) (book_in new name) changed.changed stays (rw own at opened))
      | inr isnt ↦ subst (λ (found : Option Bids). is_open found ≡ true) (sym (changed.others auction isnt)) opened
    ]

-- with a book more
open-more : (books : List NamedBook) (named : NamedBook) (auction : List ℕ)
    → is_open (book_in books auction) ≡ true
    → is_open (book_in (books ++ named ∷ []) auction) ≡ true
open-more [] named auction opened = absurd cc
open-more (first ∷ books) named auction opened =
    elim (cases_Bool (is_of auction first)) [
      | inl is ↦ rw is (rw is at opened)
      | inr isnt ↦ rw isnt (open-more books named auction (rw isnt at opened))
    ]

-- a cancel leaves books open
open-out : (enrolled : List Enrolment) (found : Option Bid) (name : List ℕ) (number : ℕ) (old new : List NamedBook)
    → IsOut enrolled found name number old new
    → (auction : List ℕ)
    → is_open (book_in old auction) ≡ true
    → is_open (book_in new auction) ≡ true
open-out enrolled None name number old new out auction opened = rw out opened
open-out enrolled (Some bid) name number old new out auction opened =
    open-changed name (IsLowered bid.rate (place_of enrolled bid.bidder) number) old new out
    (λ one other lowered was. lowered.opened ∙ was) auction opened

-- whatever the message is an open book stays open
pub open-message : (enrolled : List Enrolment) (all : List Bid) (s : List ℕ) (n : ℕ) (m : Message) (old new : Shelved)
    → Shelves enrolled all s n m old new
    → (auction : List ℕ)
    → is_open (book_in old.books auction) ≡ true
    → is_open (book_in new.books auction) ≡ true
open-message enrolled all s n (message.Announce a) old new goes auction opened =
    rw goes.books (open-more old.books goes.named auction opened)
open-message enrolled all s n (message.Bid name bidder rate amount) old new goes auction opened =
    open-changed name
    (IsAdded (record { bidder = place_of enrolled bidder; number = n; rate = rate; amount = amount }))
    old.books new.books goes (λ one other added was. added.opened ∙ was) auction opened
open-message enrolled all s n (message.Cancel name bid) old new goes auction opened =
    open-out enrolled (bid_of all s name bid) name bid old.books new.books goes auction opened
open-message enrolled all s n (message.Publish name) old new goes auction opened =
    open-changed name IsUnsealed old.books new.books goes (λ one other unsealed was. unsealed.opened) auction opened
open-message enrolled all s n other old new goes auction opened = rw goes opened

-- the book that is opened is open
unsealed-open : (before after : Option Bids)
    → Goes IsUnsealed before after
    → is_some before ≡ true
    → is_open after ≡ true
unsealed-open None None goes some = some
unsealed-open None (Some after) goes some = absurd goes
unsealed-open (Some before) None goes some = absurd goes
unsealed-open (Some before) (Some after) goes some = goes.opened

-- an accepted publication is of an announced auction
publish_rows-announced : (found : Option Announcement) (published : Bool) (moment : Moment)
    → AllByRecursion IsClear (publish_rows found published moment)
    → is_some found ≡ true
publish_rows-announced None published moment clear = let wrong : true ≡ false = clear.0 in absurd cc
publish_rows-announced (Some a) published moment clear = refl

-- an accepted settlement is of a published auction
pub settle_rows-published : (found : Option Announcement) (published settled : Bool) (moment : Moment)
    → AllByRecursion IsClear (settle_rows found published settled moment)
    → published ≡ true
settle_rows-published None published settled moment clear = let wrong : true ≡ false = clear.0 in absurd cc
settle_rows-published (Some a) published settled moment clear = not-false published clear.0

-- with an accepted publication the published auctions have open books
pub open-published : (names : List (List ℕ)) (name : List ℕ) (found : Option Announcement) (published : Bool)
    (moment : Moment) (old new : List NamedBook)
    → AllByRecursion IsClear (publish_rows found published moment)
    → is_some (book_in old name) ≡ is_some found
    → AreOpen names old
    → IsChanged name IsUnsealed old new
    → AreOpen (names ++ name ∷ []) new
open-published names name found published moment old new clear there opened changed auction named =
    elim (or_cases (is_named names auction) (is_named (name ∷ []) auction)
    (sym (list_any-append (λ one. is_same one auction) names (name ∷ [])) ∙ named)) [
      | inl before ↦
          open-changed name IsUnsealed old new changed (λ one other unsealed was. unsealed.opened) auction
          (opened auction before)
      | inr own ↦
          elim (cases_Bool (is_same name auction)) [
            | inl is ↦
                subst (λ (one : List ℕ). is_open (book_in new one) ≡ true) (is_same-equal name auction is)
                (unsealed-open (book_in old name) (book_in new name) changed.changed
                (there ∙ publish_rows-announced found published moment clear))
            | inr isnt ↦ let wrong : false ≡ true = rw isnt at own in absurd cc
          ]
    ]

-- and where nothing is published they keep them
pub open-same : (names : List (List ℕ)) (books : List NamedBook) → AreOpen names books → AreOpen (names ++ []) books
open-same names books opened = rw (append-nil names) opened
