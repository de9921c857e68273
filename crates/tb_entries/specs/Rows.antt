-- Rows for entries: what they say.
use Rattle.std.specs.Prelude.{◌≡◌, ℕ, ◌-◌, ◌/◌, ◌^◌, ◌<◌, min, List, [], ◌++◌, Some, length, slice_index_or}
use Rattle.std.specs.List.{position}
use Rattle.tb_message.specs.declared.message.Entry.{Entry}
use Rattle.tb_message.specs.declared.message.Message.{Message}
use Rattle.tb_message.specs.declared.message.Message.TheVariants as message
use Rattle.tb_history.specs.Entries.{is_same}
use Rattle.tb_history.specs.declared.bids.Bid.{Bid}
use Rattle.tb_entries.specs.declared.row.Row.{Row}
use Rattle.tb_entries.specs.declared.row.BidRow.{BidRow}
use Rattle.tb_entries.specs.declared.said.Said.{Said}
use Rattle.tb_entries.specs.declared.said.Said.TheVariants as said

-- for so many entries there is room for three names each, whose numbers have 32 bits
abbrev pub spare_in : List (List ℕ) → ℕ → ℕ
spare_in names spare = min spare (2 ^ 32 - length names) / 3

-- the name of a number
abbrev pub name_at : List (List ℕ) → ℕ → List ℕ
name_at names number = slice_index_or names number []

-- what is said, with the names of its numbers
abbrev pub message_of : List (List ℕ) → List Message → Said → Message
message_of names others (said.Bid auction bidder rate amount) =
    message.Bid (name_at names auction) (name_at names bidder) rate amount
message_of names others (said.Cancel auction bid) = message.Cancel (name_at names auction) bid
message_of names others (said.Position auction bidder position) =
    message.Position (name_at names auction) (name_at names bidder) position
message_of names others (said.Transfer cusip to amount) = message.Transfer cusip (name_at names to) amount
message_of names others (said.Pledge cusip to amount) = message.Pledge cusip (name_at names to) amount
message_of names others (said.Release holder pledge amount) = message.Release (name_at names holder) pledge amount
message_of names others (said.Whole place) = slice_index_or others place (message.Publish [])

-- the entry of a row
abbrev pub entry_of : List (List ℕ) → List Message → Row → Entry
entry_of names others row = record {
  submitter = name_at names row.submitter;
  number = row.number;
  moment = row.moment;
  message = message_of names others row.said;
}

-- the bid of a row
abbrev pub bid_in : List (List ℕ) → BidRow → Bid
bid_in names row = record {
  submitter = name_at names row.submitter;
  number = row.number;
  auction = name_at names row.auction;
  bidder = name_at names row.bidder;
  rate = row.rate;
  amount = row.amount;
}

-- the number is the first place of the name
pub record IsNumber (names : List (List ℕ)) (name : List ℕ) (number : ℕ) : Type 0 where
  pub within : number < length names
  pub named : name_at names number ≡ name
  pub first : position (λ other. is_same other name) names ≡ Some number

-- the number is the first place of the name that stands there
abbrev pub IsOwnNumber : List (List ℕ) → ℕ → Type 0
IsOwnNumber names number = IsNumber names (name_at names number) number

-- all numbers are of names, an auction's is the first place of its name, and a place is of a message
abbrev pub IsSaid : List (List ℕ) → List Message → Said → Type 0
IsSaid names others (said.Bid auction bidder rate amount) = IsOwnNumber names auction × (bidder < length names)
IsSaid names others (said.Cancel auction bid) = IsOwnNumber names auction
IsSaid names others (said.Position auction bidder position) = IsOwnNumber names auction × (bidder < length names)
IsSaid names others (said.Transfer cusip to amount) = to < length names
IsSaid names others (said.Pledge cusip to amount) = to < length names
IsSaid names others (said.Release holder pledge amount) = holder < length names
IsSaid names others (said.Whole place) = place < length others

pub record IsRow (names : List (List ℕ)) (others : List Message) (row : Row) : Type 0 where
  pub submitter : IsOwnNumber names row.submitter
  pub said : IsSaid names others row.said

pub record IsBidRow (names : List (List ℕ)) (row : BidRow) : Type 0 where
  pub submitter : IsOwnNumber names row.submitter
  pub auction : IsOwnNumber names row.auction
  pub bidder : IsOwnNumber names row.bidder

-- a list is longer by some
abbrev pub Grown : {X : Type 0} → List X → List X → Type 0
Grown {X} old now = (more : List X) × (now ≡ old ++ more)
