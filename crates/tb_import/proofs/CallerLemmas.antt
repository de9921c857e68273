-- What a caller needs of a table: its messages are bids that can be kept under their numbers.
use Rattle.std.proofs.Common.{◌≡◌, ℕ, ◌≤◌, ◌^◌, List, [], ◌∷◌, ◌++◌, map, true, false, Bool, Some, None, Option, arith}
use Rattle.std.specs.Prelude.{fold, if◌then◌else◌}
use Rattle.std.specs.List.{All, list_any}
use Rattle.std.proofs.lemmas.List.Elements.{All-append, All-cons, All-head, All-nil, All-tail}
use Rattle.indexmap.specs.IndexSet.{insert_key}
use Rattle.tb_units.specs.Names.{is_name}
use Rattle.tb_units.specs.declared.amount.Dollars.{Dollars}
use Rattle.tb_units.specs.declared.rate.Rate.{Rate}
use Rattle.tb_message.specs.Spelling.{IsNumbered}
use Rattle.tb_message.specs.declared.message.Message.{Message}
use Rattle.tb_message.specs.declared.message.Message.TheVariants as message
use Rattle.tb_import.specs.Rows.{AreRowsOf, Fields, IsRowOf, bid_row, first_seen, row_of, same_row}
use Rattle.tb_import.specs.Tables.{IsTable}
use Rattle.tb_import.specs.declared.row.Row.{Row}

-- the values of a row are in the ranges of a bid
pub record IsSoundRow (row : Row) : Type 0 where
  pub some : 1 ≤ row.number
  pub few : row.number ≤ 10 ^ 15
  pub auction : is_name row.auction ≡ true
  pub bidder : is_name row.bidder ≡ true
  pub amount : row.amount ≤ 10 ^ 12

-- those of the row that a record is are
sound-row : (fields : Fields) (row : Row) → IsRowOf fields row → IsSoundRow row
sound-row [] row is = absurd is
sound-row (number ∷ []) row is = absurd is
sound-row (number ∷ auction ∷ []) row is = absurd is
sound-row (number ∷ auction ∷ bidder ∷ []) row is = absurd is
sound-row (number ∷ auction ∷ bidder ∷ rate ∷ []) row is = absurd is
sound-row (number ∷ auction ∷ bidder ∷ rate ∷ amount ∷ []) row is = record {
  some = is.0.1;
  few = is.0.2;
  auction = is.1.1;
  bidder = is.2.1;
  amount = is.4.1;
}
sound-row (number ∷ auction ∷ bidder ∷ rate ∷ amount ∷ other ∷ others) row is = absurd is

-- a row is kept or not, and those that are kept are sound
sound-kept : (present : Bool) (kept : List Row) (row : Row)
    → All IsSoundRow kept
    → IsSoundRow row
    → All IsSoundRow (if present then kept else kept ++ row ∷ [])
sound-kept true kept row sound one = sound
sound-kept false kept row sound one =
    All-append IsSoundRow kept (row ∷ []) sound (All-cons IsSoundRow row [] one (All-nil IsSoundRow))

-- so all rows that are kept of records
sound-seen : (records : List Fields) (rows kept : List Row)
    → AreRowsOf records rows
    → All IsSoundRow kept
    → All IsSoundRow (fold (λ seen row. insert_key same_row seen row) kept rows)
sound-seen [] [] kept are sound = sound
sound-seen [] (row ∷ rows) kept are sound = absurd are
sound-seen (fields ∷ records) [] kept are sound = absurd are
sound-seen (fields ∷ records) (row ∷ rows) kept are sound =
    sound-seen records rows (insert_key same_row kept row) are.1
    (sound-kept (list_any (same_row row) kept) kept row sound (sound-row fields row are.0))

-- of what is so of each bid
module _ (P : Message → Type 0)
    (bids : (auction bidder : List ℕ) (rate : Option Rate) (amount : Dollars)
    → P (message.Bid auction bidder rate amount))
  where
    -- a message of a sound row is a bid that can be kept under its number
    numbered-row : (number : ℕ) (asked : Message) (row : Row)
        → bid_row number asked ≡ Some row
        → IsSoundRow row
        → P asked × IsNumbered number asked
    numbered-row number (message.Bid auction bidder None amount) row is sound =
        (bids auction bidder None amount, record { number_fits = grind arith; message_fits = grind arith })
    numbered-row number (message.Bid auction bidder (Some rate) amount) row is sound =
        (bids auction bidder (Some rate) amount, record { number_fits = grind arith; message_fits = grind arith })
    numbered-row number other row is sound = absurd (cc)

    -- what is so of each row that was sent
    abbrev Is : ℕ × Message → Type 0
    Is one = P one.1

    abbrev Numbered : ℕ × Message → Type 0
    Numbered one = IsNumbered one.0 one.1

    -- and so are the messages of sound rows
    messages-sound : (sent : List (ℕ × Message)) (rows : List Row)
        → map row_of sent ≡ map Some rows
        → All IsSoundRow rows
        → All Is sent × All Numbered sent
    messages-sound [] rows are sound = (All-nil Is, All-nil Numbered)
    messages-sound (one ∷ sent) [] are sound = absurd (cc)
    messages-sound (one ∷ sent) (row ∷ rows) are sound =
        let first : row_of one ≡ Some row = cc in
        let others : map row_of sent ≡ map Some rows = cc in
        let this = numbered-row one.0 one.1 row first (All-head IsSoundRow row rows sound) in
        let rest = messages-sound sent rows others (All-tail IsSoundRow row rows sound) in
        (All-cons Is one sent this.0 rest.0, All-cons Numbered one sent this.1 rest.1)

    -- and those of a table
    pub table-sound : (bytes : List ℕ) (sent : List (ℕ × Message))
        → IsTable bytes sent
        → All (λ (one : ℕ × Message). P one.1) sent
        × All (λ (one : ℕ × Message). IsNumbered one.0 one.1) sent
    table-sound bytes sent table =
        messages-sound sent (first_seen table.rows) table.distinct
        (sound-seen table.records table.rows [] table.read (All-nil IsSoundRow))
