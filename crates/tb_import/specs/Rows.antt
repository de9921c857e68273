-- Rows of a table of bids.
use Rattle.std.specs.Prelude.{◌≡◌, ℕ, ◌*◌, ◌≤◌, ◌^◌, ◌&&◌, List, [], ◌∷◌, Bool, true, false}
use Rattle.std.specs.Prelude.{nat_eq, Option, Some, None, option_map, fold, IsUtf8, ⊤}
use Rattle.std.specs.Fmt.{decimal}
use Rattle.std.specs.Str.{bytes_eq}
use Rattle.indexmap.specs.IndexSet.{insert_key}
use Rattle.tb_units.specs.Names.{is_name}
use Rattle.tb_units.specs.Rates.{thousandths_of}
use Rattle.tb_message.specs.declared.message.Message.{Message}
use Rattle.tb_message.specs.declared.message.Message.TheVariants as message
use Rattle.tb_import.specs.declared.row.Row.{Row}

abbrev pub Text : Type 0
Text = List ℕ

-- a record's fields in order
abbrev pub Fields : Type 0
Fields = List Text

-- no text, for a bid without a rate; else a rate in percent, in steps of 0.005
abbrev pub IsRateOf : Option ℕ → Text → Type 0
IsRateOf None text = text ≡ []
IsRateOf (Some steps) text = IsUtf8 text × (thousandths_of text ≡ Some (5 * steps))

-- five fields: number, auction, bidder, rate, amount; numbers are decimal without leading zeros
abbrev pub IsRowOf : Fields → Row → Type 0
IsRowOf (number ∷ auction ∷ bidder ∷ rate ∷ amount ∷ []) row =
    ((number ≡ decimal row.number) × (1 ≤ row.number) × (row.number ≤ 10 ^ 15))
    × ((auction ≡ row.auction) × (is_name row.auction ≡ true))
    × ((bidder ≡ row.bidder) × (is_name row.bidder ≡ true))
    × IsRateOf row.steps rate
    × ((amount ≡ decimal row.amount) × (row.amount ≤ 10 ^ 12))
IsRowOf other row = ⊥

-- the rows of records, one by one
abbrev pub AreRowsOf : List Fields → List Row → Type 0
AreRowsOf [] [] = ⊤
AreRowsOf [] (row ∷ rows) = ⊥
AreRowsOf (fields ∷ records) [] = ⊥
AreRowsOf (fields ∷ records) (row ∷ rows) = IsRowOf fields row × AreRowsOf records rows

abbrev pub same_steps : Option ℕ → Option ℕ → Bool
same_steps None None = true
same_steps None (Some b) = false
same_steps (Some a) None = false
same_steps (Some a) (Some b) = nat_eq a b

-- equal in number and message
abbrev pub same_row : Row → Row → Bool
same_row a b =
    nat_eq a.number b.number
    && (bytes_eq a.auction b.auction
    && (bytes_eq a.bidder b.bidder && (same_steps a.steps b.steps && nat_eq a.amount b.amount)))

-- each row once, at the place where it was first seen
abbrev pub first_seen : List Row → List Row
first_seen rows = fold (λ kept row. insert_key same_row kept row) [] rows

abbrev pub bid_row : ℕ → Message → Option Row
bid_row number (message.Bid auction bidder rate amount) = Some (record {
  number = number;
  auction = auction;
  bidder = bidder;
  steps = option_map (λ r. r.steps) rate;
  amount = amount.value;
})
bid_row number other = None

-- the row that a message under its number is, if it is a bid
abbrev pub row_of : ℕ × Message → Option Row
row_of sent = bid_row sent.0 sent.1
