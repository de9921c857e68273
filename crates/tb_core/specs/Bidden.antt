-- An announced auction with the book of its bids.
use Rattle.std.specs.Prelude.{◌≡◌, ℕ, List, Some}
use Rattle.tb_terms.specs.declared.terms.Terms.{Terms}
use Rattle.tb_book.specs.declared.book_line.BookLine.{BookLine}
use Rattle.tb_message.specs.declared.message.Entry.{Entry}
use Rattle.tb_history.specs.Roster.{announcements, announcement_of}
use Rattle.tb_history.specs.Holdings.{bidding_in}
use Rattle.tb_results.specs.Biddings.{AreBooked}
use Rattle.tb_core.specs.declared.tables.Tables.{Tables}
use Rattle.tb_core.specs.House.{AreTied}

-- the terms are those of an announced auction, and the lines its live bids
pub record IsAuctionOf (history : List Entry) (tables : Tables) (terms : Terms) (lines : List BookLine) : Type 0 where
  pub tied : AreTied history tables
  pub name : List ℕ
  pub announced : announcement_of (announcements history) name ≡ Some terms.announcement
  pub booked : AreBooked (bidding_in history terms.announcement) lines
