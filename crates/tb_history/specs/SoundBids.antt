-- Bids that break no rule (31 CFR 356.12 and 356.13; the limits on counts are our choice).
use Rattle.std.specs.Prelude.{◌≡◌, ℕ, ◌+◌, ◌-◌, ◌%◌, ◌<◌, ◌≤◌, true, Option, Some, None, List}
use Rattle.tb_units.specs.declared.moment.Moment.{Moment}
use Rattle.tb_units.specs.declared.rate.Rate.{Rate}
use Rattle.tb_price.specs.Prices.{has_price}
use Rattle.tb_terms.specs.declared.announcement.Announcement.{Announcement}
use Rattle.tb_message.specs.declared.message.Entry.{Entry}
use Rattle.tb_rules.specs.BidRule.{Standing, closing_for, most_bids}
use Rattle.tb_history.specs.Roster.{announcements, announcement_of, is_enrolled, sent_by}
use Rattle.tb_history.specs.LiveBids.{bids, cancels, reports, standing_of}

-- par that can be bid: a multiple of 100 dollars above zero
abbrev pub IsPar : ℕ → Type 0
IsPar amount = (0 < amount) × (amount % 100 ≡ 0)

-- what stands of the bidder in the auction
abbrev pub standing_on : List Entry → List ℕ → List ℕ → Standing
standing_on history auction bidder = standing_of (bids history) (cancels history) (reports history) auction bidder

-- What the kind of the bid asks of it. No bid of the other kind is live; without a rate, the bidder's live par stays
-- within the ceiling with it; at a rate, it has a price above zero, and a report of the bidder's position stands if its
-- live par reaches the threshold with it.
abbrev pub FitsKind : Announcement → Standing → Option Rate → ℕ → Type 0
FitsKind a standing None amount =
    (standing.competitive ≡ 0) × (standing.noncompetitive + amount ≤ a.nc_ceiling.value)
FitsKind a standing (Some rate) amount =
    (standing.noncompetitive ≡ 0) × (has_price rate.steps (a.maturity.number - a.issue.number) ≡ true)
    × (a.nlp_threshold.value ≤ standing.competitive + amount → standing.reported ≡ true)

-- The auction is announced, and the bidder bids through the submitter. The bid comes before the closing of its kind,
-- its amount is par of at least the minimum, and it fits its kind. No limit on counts is reached.
pub record IsSoundBid (history : List Entry) (submitter : List ℕ) (moment : Moment) (auction bidder : List ℕ)
    (rate : Option Rate) (amount : ℕ) : Type 0 where
  pub terms : Announcement
  pub announced : announcement_of (announcements history) auction ≡ Some terms
  pub enrolled : is_enrolled history bidder submitter ≡ true
  pub in_time : moment.seconds < (closing_for terms rate).seconds
  pub enough : terms.minimum.value ≤ amount
  pub par : IsPar amount
  pub fits : FitsKind terms (standing_on history auction bidder) rate amount
  pub few_bids : (standing_on history auction bidder).accepted < most_bids
  pub few_messages : sent_by history submitter < 1048576
