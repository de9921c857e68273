-- Room for a list of messages.
use Rattle.std.specs.Prelude.{◌≡◌, ℕ, ◌≤◌, Bool, true, List, [], ◌∷◌, ◌++◌, length, map}
use Rattle.std.specs.List.{filter, list_all, list_any}
use Rattle.tb_message.specs.declared.message.Entry.{Entry}
use Rattle.tb_message.specs.declared.message.Message.{Message}
use Rattle.tb_message.specs.declared.message.Message.TheVariants as message
use Rattle.tb_tables.specs.Kinds.{announces, settles}
use Rattle.tb_shelf.specs.declared.named.NamedBook.{NamedBook}
use Rattle.tb_shelf.specs.Shelves.{Shelved, has_places}

-- room for so many more messages in each plain table; the books of auctions, each with room of its own, and those that
-- stand ready; and for how many more messages the room of a settlement lasts
pub record Room : Type 0 where
  pub messages : ℕ
  pub shelf : Shelved
  pub settling : ℕ

-- where the message is a bid in an auction that has a book, the book has so many places
abbrev pub has_place : List NamedBook → ℕ → Message → Bool
has_place books places (message.Bid auction bidder rate amount) = has_places books places auction
has_place books places other = true

-- the books have the room for the messages, and a settlement among them finds its room
pub record HasRoomAhead (shelf : Shelved) (lasts : ℕ) (messages : List Message) : Type 0 where
  pub ready : length (filter announces messages) ≤ shelf.ready
  pub places : list_all (has_place shelf.books (length messages)) messages ≡ true
  pub settling : list_any settles messages ≡ true → length messages ≤ lasts

-- There is room to apply the messages in order, or those of them that are accepted: each takes at most one place of
-- each table and of one book; a book stands ready for each announcement, with a place for each message; and a
-- settlement finds its room.
pub record Fits (room : Room) (messages : List Message) : Type 0 where
  pub rows : length messages ≤ room.messages
  pub ahead : HasRoomAhead room.shelf room.settling messages

-- what fitted still fits
abbrev pub KeepsRoom : Room → Room → Type 0
KeepsRoom old new = (messages : List Message) → Fits old messages → Fits new messages

-- what fitted behind the message fits once the message is applied
abbrev pub TakesRoom : Message → Room → Room → Type 0
TakesRoom message old new = (messages : List Message) → Fits old (message ∷ messages) → Fits new messages

-- the messages of the entries that are still undecided, and then those that are asked, each under a number
abbrev pub behind_all : List Entry → List (ℕ × Message) → List Message
behind_all ahead messages =
    map (λ (entry : Entry). entry.message) ahead ++ map (λ (asked : ℕ × Message). asked.1) messages

-- and one more
abbrev pub behind : List Entry → Message → List Message
behind ahead message = map (λ (entry : Entry). entry.message) ahead ++ message ∷ []
