-- What is kept of a book while it is read, and what it stands for.
use Rattle.std.specs.Prelude.{
  ◌≡◌,
  ℕ,
  pos,
  ◌*◌,
  ◌^◌,
  ◌<◌,
  ◌≤◌,
  List,
  Option,
  length,
  slice_index_or,
  All,
  Bool,
  true,
  false,
}
use Rattle.tb_link.specs.Sources.{SourceState}
use Rattle.tb_units.specs.declared.lines.RateLine.{RateLine}
use Rattle.tb_award.specs.Recognition.{bid_in}
use Rattle.tb_text_book.specs.Books.{Book, Numbered, has_entry, is_competitive, is_noncompetitive}
use Rattle.tb_lines.specs.LineEnds.{most_lines}
use Rattle.tb_text_book.specs.Bids.{bid_at, noncompetitive_in, noncompetitive_of, position_of}
use Rattle.tb_text_book.specs.BookReading.{EndsEntries, ReadsBook}
use Rattle.tb_lines.specs.Told.{WhereTold}
use Rattle.tb_text_book.specs.SoundLines.{IsSoundLine, IsSoundOffering}
use Rattle.tb_text_book.specs.declared.way.Way.{Way}
use Rattle.tb_text_book.specs.declared.way.Way.TheVariants as way
use Rattle.tb_text_book.specs.declared.text_book.TextBook.{TextBook}

-- what a way says: bids with a rate, or bids without one
abbrev pub is_competitive_way : Way → Bool
is_competitive_way way.Open = false
is_competitive_way way.Competitive = true
is_competitive_way way.Noncompetitive = false

abbrev pub is_noncompetitive_way : Way → Bool
is_noncompetitive_way way.Open = false
is_noncompetitive_way way.Competitive = false
is_noncompetitive_way way.Noncompetitive = true

-- the way says how the bidder bids in these entries
pub record IsWayOf (entries : List Numbered) (bidder : ℕ) (way : Way) : Type 0 where
  pub competitive : has_entry is_competitive bidder entries ≡ is_competitive_way way
  pub noncompetitive : has_entry is_noncompetitive bidder entries ≡ is_noncompetitive_way way

-- the lines are the competitive bids of the book
pub record AreLinesOf (days : ℕ) (book : Book) (lines : List RateLine) : Type 0 where
  pub bids : (bidder steps : ℕ) → bid_in lines bidder steps ≡ bid_at book.entries bidder steps
  pub known : All (λ line. line.bidder < length book.names) lines
  pub sound : All (IsSoundLine days) lines
  pub few : length lines ≤ length book.entries

-- the text book stands for this book
pub record IsTally (book : Book) (kept : TextBook) : Type 0 where
  pub names : kept.bidders.keys ≡ book.names
  pub known : All (λ numbered. numbered.bidder < length book.names) book.entries
  pub positions_size : length kept.positions.items ≡ length book.names
  pub positions : (bidder : ℕ)
      → bidder < length book.names
      → slice_index_or kept.positions.items bidder (pos 0) ≡ position_of book.entries bidder
  pub ways_size : length kept.ways.items ≡ length book.names
  pub ways : (bidder : ℕ) (d : Way)
      → bidder < length book.names
      → IsWayOf book.entries bidder (slice_index_or kept.ways.items bidder d)
  pub sums_size : length kept.sums.items ≡ length book.names
  pub sums : (bidder d : ℕ)
      → bidder < length book.names
      → slice_index_or kept.sums.items bidder d ≡ noncompetitive_of book.entries bidder
  pub lines : AreLinesOf kept.offering.days.count book kept.lines.items
  pub noncompetitive : kept.noncompetitive.value ≡ noncompetitive_in book.entries
  pub bounded : kept.noncompetitive.value ≤ 10 ^ 12 * length book.entries

-- the text book stands for a book that is within the limits of the grammar
pub record IsKept (book : Book) (kept : TextBook) : Type 0 where
  pub tally : IsTally book kept
  pub few : length book.entries < most_lines
  pub offered : IsSoundOffering kept.offering

-- the text book stands for the entries with which the text behind the offering begins, where that is told, and so much
-- of it follows
pub record HasReadEntries (told behind : Option (List ℕ)) (kept : TextBook) : Type 0 where
  pub book : Book
  pub tally : IsTally book kept
  pub few : length book.entries < most_lines
  pub ends : WhereTold told (EndsEntries kept.offering book behind)

-- the text book stands for the book with which the input begins, where that is told, and nothing behind that was read
pub record IsReadFrom (input input' : SourceState) (kept : TextBook) : Type 0 where
  pub book : Book
  pub is_kept : IsKept book kept
  pub read : WhereTold input.left (ReadsBook input.reads input'.reads kept.offering book)
