-- What the entries of a book say: the bids, and the positions.
use Rattle.std.specs.Prelude.{ℕ, ℤ, pos, ◌==◌, List, if◌then◌else◌, Option, Some, None, sum_by, fold}
use Rattle.tb_units.specs.declared.rate.Rate.{Rate}
use Rattle.tb_text_book.specs.Books.{Numbered}
use Rattle.tb_text_book.specs.declared.book_line.Entry.{Entry}
use Rattle.tb_text_book.specs.declared.book_line.Entry.TheVariants as entry

-- the amount where the rate is this one, in steps
abbrev pub at_rate : ℕ → Option Rate → ℕ → ℕ
at_rate steps None amount = 0
at_rate steps (Some rate) amount = if rate.steps == steps then amount else 0

-- the amount where there is no rate
abbrev pub without_rate : Option Rate → ℕ → ℕ
without_rate None amount = amount
without_rate (Some rate) amount = 0

-- what the entry bids competitively at a rate
abbrev pub competitive_at : ℕ → Entry → ℕ
competitive_at steps (entry.Bid bid) = at_rate steps bid.rate bid.amount.value
competitive_at steps (entry.Report report) = 0

-- what the entry bids noncompetitively
abbrev pub noncompetitive_amount : Entry → ℕ
noncompetitive_amount (entry.Bid bid) = without_rate bid.rate bid.amount.value
noncompetitive_amount (entry.Report report) = 0

-- what a bidder bids at a rate
abbrev pub bid_at : List Numbered → ℕ → ℕ → ℕ
bid_at entries bidder steps =
    sum_by (λ numbered. if numbered.bidder == bidder then competitive_at steps numbered.entry else 0) entries

-- what a bidder bids noncompetitively
abbrev pub noncompetitive_of : List Numbered → ℕ → ℕ
noncompetitive_of entries bidder =
    sum_by (λ numbered. if numbered.bidder == bidder then noncompetitive_amount numbered.entry else 0) entries

-- what all bid noncompetitively
abbrev pub noncompetitive_in : List Numbered → ℕ
noncompetitive_in entries = sum_by (λ numbered. noncompetitive_amount numbered.entry) entries

-- the position that the entry reports, and else the one before it
abbrev pub reported : ℤ → Entry → ℤ
reported before (entry.Bid bid) = before
reported before (entry.Report report) = report.position

-- the last position that a bidder reports, and zero where it reports none
abbrev pub position_of : List Numbered → ℕ → ℤ
position_of entries bidder =
    fold (λ before numbered. if numbered.bidder == bidder then reported before numbered.entry else before) (pos 0)
    entries
