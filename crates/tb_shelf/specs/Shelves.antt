-- The sealed books of auctions, by name, and the empty books that stand ready for the next ones.
use Rattle.std.specs.Prelude.{◌≡◌, ℕ, ◌+◌, ◌<◌, ◌≤◌, Bool, true, false, nat_le, Option, Some, None, List, [], ◌∷◌, ◌++◌, map, length, slice_index_or, slice_set, All, IsPermutation}
use Rattle.std.specs.List.{find, position}
use Rattle.std.specs.Option.{option_map, option_map_or}
use Rattle.std.specs.Str.{bytes_eq}
use Rattle.tb_units.specs.declared.rate.Rate.{Rate}
use Rattle.tb_book.specs.declared.book_line.BookLine.{BookLine}
use Rattle.tb_book.specs.Books.{Bids, HasBid, HasBidAt, par_in, most_bid}
use Rattle.tb_shelf.specs.declared.named.NamedBook.{NamedBook}

-- what a contract sees of a shelf: the books under the names of their auctions, in the order in which these were
-- opened, how many empty books stand ready, and for how many lines each of those has room
pub record Shelved : Type 0 where
  pub books : List NamedBook
  pub ready : ℕ
  pub places : ℕ

-- a book is the auction's
abbrev pub is_of : List ℕ → NamedBook → Bool
is_of auction named = bytes_eq named.auction auction

-- the book of the auction
abbrev pub book_in : List NamedBook → List ℕ → Option Bids
book_in books auction = option_map (λ (named : NamedBook). named.book) (find (is_of auction) books)

-- the names of the auctions
abbrev pub names_in : List NamedBook → List (List ℕ)
names_in books = map (λ (named : NamedBook). named.auction) books

-- the place is the first of the name that stands there
pub record IsOwnPlace (names : List (List ℕ)) (place : ℕ) : Type 0 where
  pub within : place < length names
  pub first : position (λ name. bytes_eq name (slice_index_or names place [])) names ≡ Some place

-- the line can be added to the book
pub record TakesLine (line : BookLine) (book : Bids) : Type 0 where
  pub room : 0 < book.spare
  pub new : ¬ (HasBid line.bidder line.number book.lines)
  pub fits : par_in book.lines + line.amount.value ≤ most_bid

-- the line is added, which takes the room of one line at most
pub record IsAdded (line : BookLine) (old new : Bids) : Type 0 where
  pub elements : IsPermutation (line ∷ old.lines) new.lines
  pub room : old.spare ≤ new.spare + 1
  pub opened : new.opened ≡ old.opened

-- the bidder's line of this rate, or of none, and of this number is taken out, if it is there
pub record IsLowered (rate : Option Rate) (bidder number : ℕ) (old new : Bids) : Type 0 where
  pub taken : HasBidAt rate bidder number old.lines
      → (line : BookLine) × (line.rate ≡ rate) × (line.bidder ≡ bidder) × (line.number ≡ number)
      × IsPermutation old.lines (line ∷ new.lines)
  pub none : ¬ (HasBidAt rate bidder number old.lines) → new.lines ≡ old.lines
  pub room : old.spare ≤ new.spare
  pub opened : new.opened ≡ old.opened

-- the book is open, and has its lines in some order
pub record IsUnsealed (old new : Bids) : Type 0 where
  pub elements : IsPermutation old.lines new.lines
  pub room : old.spare ≤ new.spare
  pub opened : new.opened ≡ true

-- the lines stay, and no room is lost
pub record IsKeptBook (old new : Bids) : Type 0 where
  pub lines : new.lines ≡ old.lines
  pub room : old.spare ≤ new.spare
  pub opened : new.opened ≡ old.opened

-- a book that is there goes so, and none comes where there is none
abbrev pub Goes : (Bids → Bids → Type 0) → Option Bids → Option Bids → Type 0
Goes Change None None = Unit {0}
Goes Change None (Some after) = ⊥
Goes Change (Some before) None = ⊥
Goes Change (Some before) (Some after) = Change before after

-- an empty book with so many places
abbrev pub IsReady : ℕ → Bids → Type 0
IsReady places book = (book.lines ≡ []) × (places ≤ book.spare)

-- so are all of them
abbrev pub AreReady : ℕ → List Bids → Type 0
AreReady places ready = All (IsReady places) ready

-- an empty book stands under the auction's name behind the others, with the places of those that stood ready
pub record IsOpened (auction : List ℕ) (old new : Shelved) : Type 0 where
  pub named : NamedBook
  pub books : new.books ≡ old.books ++ named ∷ []
  pub name : named.auction ≡ auction
  pub empty : named.book.lines ≡ []
  pub room : old.places ≤ named.book.spare
  pub ready : new.ready + 1 ≡ old.ready
  pub places : new.places ≡ old.places

-- the auction's book goes so, and all others stay
pub record IsChanged (auction : List ℕ) (Change : Bids → Bids → Type 0) (old new : List NamedBook) : Type 0 where
  pub names : names_in new ≡ names_in old
  pub changed : Goes Change (book_in old auction) (book_in new auction)
  pub others : (other : List ℕ) → bytes_eq auction other ≡ false → book_in new other ≡ book_in old other

-- the book at a place goes so, and all others stay
pub record IsChangedAt (place : ℕ) (Change : Bids → Bids → Type 0) (old new : List NamedBook) : Type 0 where
  pub named : NamedBook
  pub is : new ≡ slice_set old place named
  pub name : (d : NamedBook) → named.auction ≡ (slice_index_or old place d).auction
  pub changed : (d : NamedBook) → Change (slice_index_or old place d).book named.book

-- there is a book, and it is open
abbrev pub is_open : Option Bids → Bool
is_open found = option_map_or (λ (book : Bids). book.opened) found false

-- the book of the auction, if it is there, has so many places
abbrev pub has_places : List NamedBook → ℕ → List ℕ → Bool
has_places books places auction = option_map_or (λ (book : Bids). nat_le places book.spare) (book_in books auction) true
