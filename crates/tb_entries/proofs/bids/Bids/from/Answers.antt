-- The bids of a submitter in an auction are those of the rows of their numbers.
use Rattle.std.proofs.Common.{◌≡◌, ◌==◌, ◌&&◌, List, map, sym, ap, subst, ◌∙◌, IfOk}
use Rattle.std.specs.List.{All, filter}
use Rattle.std.proofs.lemmas.List.Elements.{All-filter}
use Rattle.tb_history.specs.declared.bids.Bid.{Bid}
use Rattle.tb_history.specs.Entries.{is_same}
use Rattle.tb_entries.specs.declared.row.BidRow.{BidRow}
use Rattle.tb_entries.specs.Rows.{bid_in, IsBidRow}
use Rattle.tb_entries.proofs.BidLemmas.{filter-made, filter-none, two_numbers, no_first, no_second}
use Rattle.tb_entries.proofs.bids.Bids.from.Goals as goal

pub returns-in_default : goal.returns-in_default
returns-in_default c =
    let names = c.self.inside.names.list in
    let submitter = c.args.submitter.now in
    let auction = c.args.auction.now in
    let none = filter-none (bid_in names)
    (λ (bid : Bid). is_same bid.submitter submitter && is_same bid.auction auction) (IsBidRow names)
    c.self.inside.rows.list
    (λ (row : BidRow) is. no_first names submitter auction row.submitter row.auction
    (sym c.find.ensures ∙ c.in_default.is) is.submitter) c.self.invariant.0 in
    rw (← c.self.view_is) (c.new.ensures.items ∙ sym none)

pub returns-in_default-find : goal.returns-in_default-find
returns-in_default-find c =
    let names = c.self.inside.names.list in
    let submitter = c.args.submitter.now in
    let auction = c.args.auction.now in
    let none = filter-none (bid_in names)
    (λ (bid : Bid). is_same bid.submitter submitter && is_same bid.auction auction) (IsBidRow names)
    c.self.inside.rows.list
    (λ (row : BidRow) is. no_second names submitter auction row.submitter row.auction
    (sym c.find-2.ensures ∙ c.in_default-find.is) is.auction) c.self.invariant.0 in
    rw (← c.self.view_is) (c.new-in_default-find.ensures.items ∙ sym none)

pub bids_in-requires : goal.bids_in-requires
bids_in-requires c =
    let names = c.self.inside.names.list in
    let has =
    λ (row : BidRow). (row.submitter == c.in-Some.submitter_place)
    && (row.auction == c.in-Some-find.auction_place) in
    let own : c.deref.result.now ≡ filter has c.self.inside.rows.list = c.deref.ensures.value ∙ c.in_ok-rows.ensures in
    rw c.rows.ensures (subst (λ (rows : List BidRow). All (IsBidRow names) rows) (sym own)
    (All-filter has (IsBidRow names) c.self.inside.rows.list c.self.invariant.0))

pub returns : goal.returns
returns c =
    let names = c.self.inside.names.list in
    let rows = c.self.inside.rows.list in
    let submitter = c.args.submitter.now in
    let auction = c.args.auction.now in
    let number = c.in-Some.submitter_place in
    let place = c.in-Some-find.auction_place in
    let has = λ (row : BidRow). (row.submitter == number) && (row.auction == place) in
    let is_own = λ (bid : Bid). is_same bid.submitter submitter && is_same bid.auction auction in
    let made = filter-made (bid_in names) is_own has (IsBidRow names) rows
    (λ (row : BidRow) is. two_numbers names submitter auction row.submitter row.auction number place
    (sym c.find.ensures ∙ c.in-Some.is) (sym c.find-2.ensures ∙ c.in-Some-find.is) is.submitter is.auction)
    c.self.invariant.0 in
    let own : map (bid_in c.rows.result.now) c.deref.result.now ≡ filter is_own c.args.self.now.list =
    (λ i. map (bid_in (c.rows.ensures i)) ((c.deref.ensures.value ∙ c.in_ok-rows.ensures) i))
    ∙ sym made ∙ ap (filter is_own) (λ i. (c.self.view_is i).list) in
    subst (λ (items : List Bid). IfOk c.bids_in.result (λ bids. bids.items ≡ items)) own c.bids_in.ensures
