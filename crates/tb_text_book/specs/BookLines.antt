-- The lines of a text book of bids (our own form).
use Rattle.std.specs.Prelude.{
  ◌≡◌,
  ℕ,
  ℤ,
  pos,
  negsuc,
  suc,
  ◌*◌,
  ◌%◌,
  ◌^◌,
  ◌≤◌,
  List,
  [],
  ◌∷◌,
  length,
  Option,
  Some,
  None,
  true,
}
use Rattle.std.specs.Fmt.{decimal, signed_decimal}
use Rattle.std.specs.Str.{IsUtf8}
use Rattle.tb_units.specs.declared.rate.Rate.{Rate}
use Rattle.tb_units.specs.Names.{is_name}
use Rattle.tb_units.specs.Rates.{thousandths_of}
use Rattle.tb_text_book.specs.Fields.{fields}
use Rattle.tb_lines.specs.LineEnds.{longest_line}
use Rattle.tb_text_book.specs.Words.{spelling_of}
use Rattle.tb_text_book.specs.declared.word.Word.TheVariants as words
use Rattle.tb_text_book.specs.declared.book_line.BookLine.{BookLine}
use Rattle.tb_text_book.specs.declared.book_line.BookLine.TheVariants as kind
use Rattle.tb_text_book.specs.declared.book_line.Offering.{Offering}
use Rattle.tb_text_book.specs.declared.book_line.Bid.{Bid}
use Rattle.tb_text_book.specs.declared.book_line.Report.{Report}
use Rattle.tb_text_book.specs.declared.book_line.Entry.TheVariants as entry

-- bids and floors are multiples of 100 dollars, and offerings of 1,000,000
abbrev pub bid_unit : ℕ
bid_unit = 100

abbrev pub offering_unit : ℕ
offering_unit = 10 ^ 6

-- the largest amount
abbrev pub most_amount : ℕ
most_amount = 10 ^ 12

-- a multiple of a unit, from one unit to the most
pub record IsMultiple (unit most amount : ℕ) : Type 0 where
  pub whole : amount % unit ≡ 0
  pub some : unit ≤ amount
  pub within : amount ≤ most

-- a number of days in the range of a bill
pub record IsTerm (days : ℕ) : Type 0 where
  pub some : 1 ≤ days
  pub few : days ≤ 366

-- `OFFERING FLOOR DAYS`: an offering of whole millions, a floor of whole hundreds within it, and the days
pub record AreOfferingFields (texts : List (List ℕ)) (offering : Offering) : Type 0 where
  pub written : texts ≡ decimal offering.amount.value ∷ decimal offering.floor.value ∷ decimal
      offering.days.count ∷ []
  pub amount : IsMultiple offering_unit most_amount offering.amount.value
  pub floor : IsMultiple bid_unit offering.amount.value offering.floor.value
  pub days : IsTerm offering.days.count

-- the text spells this rate
abbrev pub SpellsRate : List ℕ → Rate → Type 0
SpellsRate text rate = thousandths_of text ≡ Some (5 * rate.steps)

-- `n BIDDER AMOUNT` is a noncompetitive bid, and `c BIDDER RATE AMOUNT` a competitive one
abbrev pub AreBidFields : List ℕ → List (List ℕ) → List ℕ → Option Rate → ℕ → Type 0
AreBidFields word texts bidder None amount =
    (word ≡ spelling_of words.Noncompetitive) × (texts ≡ bidder ∷ decimal amount ∷ [])
AreBidFields word texts bidder (Some rate) amount =
    (word ≡ spelling_of words.Competitive) × ((spelling : List ℕ) × SpellsRate spelling rate
    × (texts ≡ bidder ∷ spelling ∷ decimal amount ∷ []))

-- a bid of whole hundreds of dollars by a bidder with a name
pub record IsBidLine (word : List ℕ) (texts : List (List ℕ)) (bid : Bid) : Type 0 where
  pub written : AreBidFields word texts bid.bidder bid.rate bid.amount.value
  pub bidder : is_name bid.bidder ≡ true
  pub amount : IsMultiple bid_unit most_amount bid.amount.value

-- at most 10^12 on either side of zero
abbrev pub IsPosition : ℤ → Type 0
IsPosition (pos n) = n ≤ most_amount
IsPosition (negsuc n) = suc n ≤ most_amount

-- `p BIDDER POSITION` is a report of a position in whole dollars by a bidder with a name
pub record IsReportLine (word : List ℕ) (texts : List (List ℕ)) (report : Report) : Type 0 where
  pub word_is : word ≡ spelling_of words.Position
  pub written : texts ≡ report.bidder ∷ signed_decimal report.position ∷ []
  pub bidder : is_name report.bidder ≡ true
  pub position : IsPosition report.position

-- what the line says by its fields
abbrev pub Says : List (List ℕ) → BookLine → Type 0
Says [] line = ⊥
Says (word ∷ texts) (kind.Offering offering) = (word ≡ spelling_of words.Offering) × AreOfferingFields texts offering
Says (word ∷ texts) (kind.Entry (entry.Bid bid)) = IsBidLine word texts bid
Says (word ∷ texts) (kind.Entry (entry.Report report)) = IsReportLine word texts report
Says (word ∷ texts) kind.End = (word ≡ spelling_of words.End) × (texts ≡ [])

-- the text is this line of a book
pub record Spells (text : List ℕ) (line : BookLine) : Type 0 where
  pub utf8 : IsUtf8 text
  pub short : length text ≤ longest_line
  pub says : Says (fields text) line
