-- What `award` prints for a book.
use Rattle.std.specs.Prelude.{◌≡◌, ℕ, suc, ◌+◌, ◌⊎◌, List, [], ◌∷◌, ◌++◌, length, codes, Bool, true, false}
use Rattle.std.specs.Fmt.{decimal}
use Rattle.std.specs.Str.Lines.{lines}
use Rattle.tb_units.specs.Decimals.{rate_text, percent_text, price_text, cents_text}
use Rattle.tb_units.specs.declared.lines.RateLine.{RateLine}
use Rattle.tb_price.specs.Prices.{IsPrice}
use Rattle.tb_price.specs.Payments.{IsPayment}
use Rattle.tb_award.specs.Limits.{cap_of, limit_of, sought_of}
use Rattle.tb_award.specs.Recognition.{AreRecognised}
use Rattle.tb_award.specs.Cuts.{IsCut, par_of}
use Rattle.tb_award.specs.Awards.{AreAwards, awarded_to}
use Rattle.tb_units.specs.Bytes.{blank, line_feed}
use Rattle.tb_text_book.specs.Books.{BeginsWithBook, Book}
use Rattle.tb_text_book.specs.Bids.{bid_at, noncompetitive_of, noncompetitive_in, position_of}
use Rattle.tb_text_book.specs.declared.book_line.Offering.{Offering}

-- a word, a value and a line feed
abbrev pub labelled : List ℕ → List ℕ → List ℕ
labelled word value = word ++ blank ∷ value ++ line_feed ∷ []

-- the three lines `high`, `allotted` and `price`
abbrev pub cut_text : ℕ → ℕ → ℕ → List ℕ
cut_text stop percent price =
    labelled (codes "high") (rate_text stop) ++ labelled (codes "allotted") (percent_text percent)
    ++ labelled (codes "price") (price_text price)

-- the line where nobody gets an award
abbrev pub no_awards_text : List ℕ
no_awards_text = codes "no awards" ++ line_feed ∷ []

-- the line `award BIDDER AMOUNT PAYMENT`, the payment in cents
abbrev pub award_line : List ℕ → ℕ → ℕ → List ℕ
award_line name amount cents = labelled (codes "award") (name ++ blank ∷ decimal amount ++ blank ∷ cents_text cents)

-- the lines of bidders, of which the first has this number, for what each gets at a price
abbrev pub AreAwardLines : (ℕ → ℕ) → ℕ → ℕ → List (List ℕ) → List ℕ → Type 0
AreAwardLines amounts price number [] text = text ≡ []
AreAwardLines amounts price number (name ∷ names) text =
    (cents : ℕ) × (rest : List ℕ) × IsPayment (amounts number) price cents
    × (text ≡ award_line name (amounts number) cents ++ rest)
    × AreAwardLines amounts price (suc number) names rest

-- the lines of bidders who get nothing
abbrev pub nothing_lines : List (List ℕ) → List ℕ
nothing_lines [] = []
nothing_lines (name ∷ names) = award_line name 0 0 ++ nothing_lines names

-- a text that is printed where it is asked for, and else nothing
abbrev pub WhereFull : Bool → (List ℕ → Type 0) → List ℕ → Type 0
WhereFull false Is text = text ≡ []
WhereFull true Is text = Is text

-- what each bidder gets: its awards, and what it bids noncompetitively
abbrev pub gets : Book → List RateLine → ℕ → ℕ
gets book awards bidder = awarded_to bidder awards + noncompetitive_of book.entries bidder

-- the lines of all bidders for the awards of what is recognised
pub record AreAllLines (stop percent price : ℕ) (book : Book) (recognised : List RateLine) (text : List ℕ)
    : Type 0 where
  pub awards : List RateLine
  pub awarded : AreAwards stop percent recognised awards
  pub lines : AreAwardLines (gets book awards) price 0 book.names text

-- the text of an auction with a cut of what is recognised: the stop-out rate, the percentage, the price at that rate,
-- and where it is asked for each bidder's award
pub record IsCutText (full : Bool) (offering : Offering) (book : Book) (recognised : List RateLine) (text : List ℕ)
    : Type 0 where
  pub stop : ℕ
  pub percent : ℕ
  pub price : ℕ
  pub bidders : List ℕ
  pub cut : IsCut (par_of recognised)
      (sought_of offering.amount.value (noncompetitive_in book.entries) offering.floor.value) stop percent
  pub priced : IsPrice stop offering.days.count price
  pub bidders_are : WhereFull full (AreAllLines stop percent price book recognised) bidders
  pub is : text ≡ cut_text stop percent price ++ bidders

-- the text of an auction in which nothing is recognised: nobody gets an award
abbrev pub IsNothingText : Bool → Book → List RateLine → List ℕ → Type 0
IsNothingText full book recognised text =
    (recognised ≡ []) × ((bidders : List ℕ) × WhereFull full (λ lines. lines ≡ nothing_lines book.names) bidders
    × (text ≡ no_awards_text ++ bidders))

-- the text is that of the auction: of what is recognised of the bids, by each bidder's position
pub record IsAwardText (full : Bool) (offering : Offering) (book : Book) (text : List ℕ) : Type 0 where
  pub recognised : List RateLine
  pub are : AreRecognised (bid_at book.entries) (cap_of offering.amount.value)
      (λ bidder. limit_of offering.amount.value (position_of book.entries bidder)) (length book.names) recognised
  pub is : IsCutText full offering book recognised text ⊎ IsNothingText full book recognised text

-- the input begins with a book, and this is the text of its auction
pub record IsBookRun (full : Bool) (input text : List ℕ) : Type 0 where
  pub offering : Offering
  pub book : Book
  pub begins : BeginsWithBook (lines input) offering book
  pub award : IsAwardText full offering book text
