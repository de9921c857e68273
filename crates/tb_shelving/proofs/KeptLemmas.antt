-- Books that keep their lines are still those of the history, and have the places that they had.
use Rattle.std.proofs.Common.{◌≡◌, ℕ, ◌≤◌, Bool, true, Option, Some, None, inl, inr, List, [], ◌∷◌, nat_le, length, refl, sym, ◌∙◌, subst, arith}
use Rattle.std.specs.Prelude.{IfSome, IsPermutation}
use Rattle.std.specs.Option.{option_map_or}
use Rattle.std.specs.List.{list_all}
use Rattle.std.proofs.lemmas.Bool.{and_from, and_parts, cases_Bool, leb-true, le-leb}
use Rattle.tb_message.specs.declared.message.Entry.{Entry}
use Rattle.tb_message.specs.declared.message.Message.{Message}
use Rattle.tb_message.specs.declared.message.Message.TheVariants as message
use Rattle.tb_book.specs.declared.book_line.BookLine.{BookLine}
use Rattle.tb_book.specs.Books.{Bids}
use Rattle.tb_shelf.specs.declared.named.NamedBook.{NamedBook}
use Rattle.tb_shelf.specs.Shelves.{Goes, IsChanged, IsKeptBook, Shelved, book_in}
use Rattle.tb_shelving.proofs.OpenLemmas.{goes-open}
use Rattle.tb_history.specs.Entries.{is_same}
use Rattle.tb_history.proofs.SameLemmas.{is_same-equal}
use Rattle.tb_shelving.specs.Rooms.{KeepsRoom, Room, has_place}
use Rattle.tb_shelving.specs.Shelving.{AreBooks, IsKeptShelf}

-- a book is as it is
goes-same : (found : Option Bids) → Goes IsKeptBook found found
goes-same None = tt
goes-same (Some book) = record { lines = refl; room = omega arith; opened = refl }

-- and what keeps its lines twice has kept them
goes-both : (one two three : Option Bids) → Goes IsKeptBook one two → Goes IsKeptBook two three
    → Goes IsKeptBook one three
goes-both None None three first second = second
goes-both None (Some two) three first second = absurd first
goes-both (Some one) None three first second = absurd first
goes-both (Some one) (Some two) None first second = absurd second
goes-both (Some one) (Some two) (Some three) first second =
    record {
      lines = second.lines ∙ first.lines;
      room = omega (arith, first.room, second.room);
      opened = second.opened ∙ first.opened;
    }

-- where one book keeps its lines and the others stay, all keep them
goes-kept : (auction : List ℕ) (old new : List NamedBook)
    → IsChanged auction IsKeptBook old new
    → (other : List ℕ) → Goes IsKeptBook (book_in old other) (book_in new other)
goes-kept auction old new changed other =
    elim (cases_Bool (is_same auction other)) [
      | inl is ↦
          subst (λ (name : List ℕ). Goes IsKeptBook (book_in old name) (book_in new name))
          (is_same-equal auction other is)
          changed.changed
      | inr isnt ↦
          subst (λ (found : Option Bids). Goes IsKeptBook (book_in old other) found) (sym (changed.others other isnt))
          (goes-same (book_in old other))
    ]

-- a shelf is as it is
pub IsKeptShelf-same : (shelf : Shelved) → IsKeptShelf shelf shelf
IsKeptShelf-same shelf =
    record {
      names = refl;
      books = λ auction. goes-same (book_in shelf.books auction);
      ready = omega arith;
      places = omega arith;
    }

-- with the same books and no less room it is kept
pub IsKeptShelf-books : (old new : Shelved)
    → new.books ≡ old.books
    → old.ready ≤ new.ready
    → old.places ≤ new.places
    → IsKeptShelf old new
IsKeptShelf-books old new same ready places =
    record {
      names = rw same refl;
      books = λ auction. rw same (goes-same (book_in old.books auction));
      ready = ready;
      places = places;
    }

-- and where one book keeps its lines
pub IsKeptShelf-changed : (old new : Shelved) (auction : List ℕ)
    → IsChanged auction IsKeptBook old.books new.books
    → new.ready ≡ old.ready
    → new.places ≡ old.places
    → IsKeptShelf old new
IsKeptShelf-changed old new auction changed ready places =
    record {
      names = changed.names;
      books = goes-kept auction old.books new.books changed;
      ready = omega (arith, ready);
      places = omega (arith, places);
    }

-- what is kept twice is kept
pub IsKeptShelf-both : (one two three : Shelved) → IsKeptShelf one two → IsKeptShelf two three → IsKeptShelf one three
IsKeptShelf-both one two three first second =
    record {
      names = second.names ∙ first.names;
      books = λ auction. goes-both (book_in one.books auction) (book_in two.books auction) (book_in three.books auction)
          (first.books auction) (second.books auction);
      ready = omega (arith, first.ready, second.ready);
      places = omega (arith, first.places, second.places);
    }

-- the lines of a kept book
lines-kept : (before after : Option Bids) (lines : List BookLine)
    → Goes IsKeptBook before after
    → IfSome before (λ book. IsPermutation lines book.lines)
    → IfSome after (λ book. IsPermutation lines book.lines)
lines-kept None None lines goes has = tt
lines-kept None (Some after) lines goes has = absurd goes
lines-kept (Some before) None lines goes has = absurd goes
lines-kept (Some before) (Some after) lines goes has =
    subst (λ (now : List BookLine). IsPermutation lines now) (sym goes.lines) has

-- so the books are still those of the history
pub AreBooks-kept : (h : List Entry) (old new : Shelved) → AreBooks h old.books → IsKeptShelf old new
    → AreBooks h new.books
AreBooks-kept h old new books kept =
    record {
      names = kept.names ∙ books.names;
      lines = λ auction. lines-kept (book_in old.books auction) (book_in new.books auction) _ (kept.books auction)
          (books.lines auction);
      opened = λ auction published.
          goes-open IsKeptBook (book_in old.books auction) (book_in new.books auction) (kept.books auction)
          (λ one other kept_book opened. kept_book.opened ∙ opened) (books.opened auction published);
    }

-- the places of a kept book
places-kept : (before after : Option Bids) (n : ℕ)
    → Goes IsKeptBook before after
    → option_map_or (λ (book : Bids). nat_le n book.spare) before true ≡ true
    → option_map_or (λ (book : Bids). nat_le n book.spare) after true ≡ true
places-kept None None n goes has = refl
places-kept None (Some after) n goes has = absurd goes
places-kept (Some before) None n goes has = absurd goes
places-kept (Some before) (Some after) n goes has =
    le-leb n after.spare (omega (arith, leb-true n before.spare has, goes.room))

-- so a message that had its place has it
pub has_place-kept : (old new : Shelved) (n : ℕ) (m : Message)
    → IsKeptShelf old new → has_place old.books n m ≡ true → has_place new.books n m ≡ true
has_place-kept old new n (message.Bid auction bidder rate amount) kept has =
    places-kept (book_in old.books auction) (book_in new.books auction) n (kept.books auction) has
has_place-kept old new n other kept has = refl

-- what follows for each element of a list
pub list_all-weaker : {X : Type 0} (p q : X → Bool) (xs : List X)
    → ((x : X) → p x ≡ true → q x ≡ true)
    → list_all p xs ≡ true
    → list_all q xs ≡ true
list_all-weaker p q [] weaker all = refl
list_all-weaker p q (x ∷ xs) weaker all =
    let parts = and_parts (p x) (list_all p xs) all in
    and_from (q x) (list_all q xs) (weaker x parts.0) (list_all-weaker p q xs weaker parts.1)

-- no room is lost
pub KeepsRoom-kept : (old new : Room)
    → old.messages ≤ new.messages
    → IsKeptShelf old.shelf new.shelf
    → old.settling ≤ new.settling
    → KeepsRoom old new
KeepsRoom-kept old new rows kept settling messages fits =
    record {
      rows = omega (arith, fits.rows, rows);
      ahead = record {
        ready = omega (arith, fits.ahead.ready, kept.ready);
        places = list_all-weaker (has_place old.shelf.books (length messages))
            (has_place new.shelf.books (length messages))
            messages (λ m has. has_place-kept old.shelf new.shelf (length messages) m kept has) fits.ahead.places;
        settling = λ settles. omega (arith, fits.ahead.settling settles, settling);
      };
    }
