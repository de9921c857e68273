-- The bids of a bidder in an auction are as many as the rows of their numbers.
use Rattle.std.proofs.Common.{◌==◌, ◌&&◌, List, length, sym, ap, ◌∙◌}
use Rattle.std.specs.List.{filter}
use Rattle.std.proofs.lemmas.List.{length-map}
use Rattle.std.proofs.lemmas.List.Sums.{length-filter}
use Rattle.tb_history.specs.declared.bids.Bid.{Bid}
use Rattle.tb_history.specs.LiveBids.{is_of}
use Rattle.tb_entries.specs.declared.row.BidRow.{BidRow}
use Rattle.tb_entries.specs.Rows.{bid_in, IsBidRow}
use Rattle.tb_entries.proofs.BidLemmas.{filter-made, filter-none, two_numbers, no_first, no_second}
use Rattle.tb_entries.proofs.bids.Bids.count.Goals as goal

pub returns-in_default : goal.returns-in_default
returns-in_default c =
    let names = c.self.inside.names.list in
    let auction = c.args.auction.now in
    let bidder = c.args.bidder.now in
    let none = filter-none (bid_in names) (is_of auction bidder) (IsBidRow names) c.self.inside.rows.list
    (λ (row : BidRow) is. no_first names auction bidder row.auction row.bidder
    (sym c.find_near.ensures ∙ c.in_default.is) is.auction) c.self.invariant.0 in
    rw (← c.self.view_is) (sym (ap (λ (bids : List Bid). length bids) none))

pub returns-in_default-find : goal.returns-in_default-find
returns-in_default-find c =
    let names = c.self.inside.names.list in
    let auction = c.args.auction.now in
    let bidder = c.args.bidder.now in
    let none = filter-none (bid_in names) (is_of auction bidder) (IsBidRow names) c.self.inside.rows.list
    (λ (row : BidRow) is. no_second names auction bidder row.auction row.bidder
    (sym c.find.ensures ∙ c.in_default-find.is) is.bidder) c.self.invariant.0 in
    rw (← c.self.view_is) (sym (ap (λ (bids : List Bid). length bids) none))

pub returns : goal.returns
returns c =
    let names = c.self.inside.names.list in
    let rows = c.self.inside.rows.list in
    let auction = c.args.auction.now in
    let bidder = c.args.bidder.now in
    let number = c.in-Some.auction_place in
    let place = c.in-Some-find.bidder_place in
    let has = λ (row : BidRow). (row.auction == number) && (row.bidder == place) in
    let made = filter-made (bid_in names) (is_of auction bidder) has (IsBidRow names) rows
    (λ (row : BidRow) is. two_numbers names auction bidder row.auction row.bidder number place
    (sym c.find_near.ensures ∙ c.in-Some.is) (sym c.find.ensures ∙ c.in-Some-find.is) is.auction is.bidder)
    c.self.invariant.0 in
    rw (← c.self.view_is) (c.count.ensures
    ∙ sym (length-filter has rows)
    ∙ sym (length-map (filter has rows) (bid_in names))
    ∙ sym (ap (λ (bids : List Bid). length bids) made))
