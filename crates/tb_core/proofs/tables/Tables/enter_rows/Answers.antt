-- An announcement adds an auction and a book, and a row to no other table.
use Rattle.tb_tables.proofs.AddedLemmas.{nothing_more}
use Rattle.tb_tables.proofs.CalendarLemmas.{adds_nothing}
use Rattle.tb_core.proofs.tables.Tables.enter_rows.Goals as goal

pub returns-in-Announce-clause-entered : goal.returns-in-Announce-clause-entered
returns-in-Announce-clause-entered c =
    let auctions = rw c.in-Announce.is at c.enter_auction.ensures.list in
    let shelf = rw (← c.requires.tied, c.in-Announce.is) at c.enter_line.ensures in
    rw c.in-Announce.is (record {
      submitters = nothing_more _;
      bidders = nothing_more _;
      holidays = nothing_more _;
      auctions = auctions;
      bids = nothing_more _;
      cancels = nothing_more _;
      reports = nothing_more _;
      published = nothing_more _;
      settled = nothing_more _;
      redeemed = nothing_more _;
      add_ons = nothing_more _;
      shelf = shelf;
      scratch = c.take.ensures;
      calendar = adds_nothing _;
    })
