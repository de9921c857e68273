-- What a message moves of par and money, by the tables, and the room of a settlement in them.
use Rattle.std.specs.Prelude.{ℕ, ◌≤◌, List, [], Option, Some, None, length, vec_capacity}
use Rattle.tb_terms.specs.declared.announcement.Announcement.{Announcement}
use Rattle.tb_message.specs.declared.message.Message.{Message}
use Rattle.tb_message.specs.declared.message.Message.TheVariants as message
use Rattle.tb_movements.specs.Movements.{Movement, Settled, Transferred}
use Rattle.tb_funds.specs.declared.offer.KeptOffer.{KeptOffer}
use Rattle.tb_funds.specs.Funds.{offer_of}
use Rattle.tb_history.specs.Roster.{announcement_of, add_on_of}
use Rattle.tb_history.specs.Awarded.{Bidding, bidding_of}
use Rattle.tb_history.specs.Moves.{movement_by}
use Rattle.tb_core.specs.declared.tables.Tables.{Tables}
use Rattle.tb_tables.specs.Auctions.{announced_in}
use Rattle.tb_ledger.specs.Accounting.{numbers_in}
use Rattle.tb_ledger.specs.Credits.{settled_for}
use Rattle.tb_cashbook.specs.declared.cash.CashMovement.{CashMovement}
use Rattle.tb_cashbook.specs.Cashbook.{cash_by}

-- the bidding of an auction
abbrev pub bidding_on : Tables → Announcement → Bidding
bidding_on tables a = bidding_of tables.bidders.list tables.bids.list tables.cancels.list tables.reports.list a

-- what a settlement of the auction that is found moves
abbrev pub settled_in : Tables → Option Announcement → Option Movement
settled_in tables None = None
settled_in tables (Some a) =
    Some (Settled ((numbers_in tables.submitters.list tables.auctions.list).security a.cusip.bytes)
    (settled_for tables.submitters.list (bidding_on tables a) tables.bidders.list
    (add_on_of tables.add_ons.list a.auction)))

-- what a purchase of the offer that the funds have moves
abbrev pub sold_in : Option KeptOffer → Option Movement
sold_in None = None
sold_in (Some kept) = Some (Transferred kept.seller kept.buyer kept.security kept.par.value)

-- what the message of a sender under a number moves: no other movement than a settlement's and a purchase's depends on
-- what stands before it
abbrev pub movement_in : Tables → List ℕ → ℕ → Message → Option Movement
movement_in tables sender number (message.Settle auction) =
    settled_in tables (announcement_of (announced_in tables.auctions.list) auction)
movement_in tables sender number (message.Buy seller offer) =
    sold_in (offer_of ((numbers_in tables.submitters.list tables.auctions.list).holder seller) offer tables.funds)
movement_in tables sender number other =
    movement_by (numbers_in tables.submitters.list tables.auctions.list) [] sender number other

-- and what it does to the funds
abbrev pub cash_in : Tables → List ℕ → ℕ → Message → Option CashMovement
cash_in tables sender number message =
    cash_by (numbers_in tables.submitters.list tables.auctions.list) sender number message

-- there is room to cut an auction, and for all awards
pub record HasSettleRoom (tables : Tables) : Type 0 where
  pub lines : length tables.bids.list ≤ tables.scratch.recognised.line_room
  pub bidders : length tables.bidders.list ≤ tables.scratch.recognised.bidder_room
  pub positions : length tables.bidders.list ≤ vec_capacity tables.scratch.positions
  pub awards : length tables.bidders.list ≤ vec_capacity tables.scratch.awards
