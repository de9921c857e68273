-- What is awarded in an auction, as figures of its bidding (31 CFR 356.20 to 356.22; in which way and order the limit
-- is applied, and what is done where bids fall short, are our choice). Rates go by their steps of 0.005 percent.
use Rattle.std.specs.Prelude.{ℕ, suc, ◌+◌, ◌-◌, ◌*◌, ◌==◌, ◌&&◌, Bool, false, nat_le, nat_lt}
use Rattle.std.specs.Prelude.{min, if◌then◌else◌, Option, Some, None, List, sum_by}
use Rattle.std.specs.List.{filter}
use Rattle.tb_units.specs.declared.rate.Rate.{Rate}
use Rattle.tb_terms.specs.declared.announcement.Announcement.{Announcement}
use Rattle.tb_award.specs.Limits.{cap_of, limit_of, sought_of}
use Rattle.tb_award.specs.Recognition.{let_through, sum_under}
use Rattle.tb_history.specs.declared.roster.Enrolment.{Enrolment}
use Rattle.tb_history.specs.declared.bids.Bid.{Bid}
use Rattle.tb_history.specs.declared.bids.Report.{Report}
use Rattle.tb_history.specs.declared.bids.Cancel.{Cancel}
use Rattle.tb_history.specs.Entries.{is_same}
use Rattle.tb_history.specs.LiveBids.{live_bids_in, position_of, par_of, noncompetitive_in}
use Rattle.tb_history.specs.Values.{first_from, rounded_up}

-- the bidding of an auction: its announcement, the bidders, the live bids in it, and the reports of positions in it
pub record Bidding : Type 0 where
  pub announcement : Announcement
  pub enrolled : List Enrolment
  pub live : List Bid
  pub reported : List Report

-- by what is enrolled, and by the accepted bids, cancels and reports
abbrev pub bidding_of : List Enrolment → List Bid → List Cancel → List Report → Announcement → Bidding
bidding_of enrolled all cancelled reported a = record {
  announcement = a;
  enrolled = enrolled;
  live = live_bids_in all cancelled a.auction;
  reported = filter (λ (r : Report). is_same r.auction a.auction) reported;
}

-- rates are 0 to 199,999 steps
abbrev pub rates : ℕ
rates = 200000

-- the rate has so many steps
abbrev pub is_at : ℕ → Option Rate → Bool
is_at steps None = false
is_at steps (Some rate) = rate.steps == steps

-- what the bidder bids at a rate
abbrev pub bid_at : List Bid → List ℕ → ℕ → ℕ
bid_at live bidder steps = par_of (filter (λ (bid : Bid). is_same bid.bidder bidder && is_at steps bid.rate) live)

-- the bidder's limit: 35 percent of the offering less its reported position
abbrev pub limit_for : Bidding → List ℕ → ℕ
limit_for bidding bidder =
    limit_of bidding.announcement.offering.value (position_of bidding.reported bidding.announcement.auction bidder)

-- what is recognised of the bidder at rates under this one
unfoldable pub recognised_under : Bidding → List ℕ → ℕ → ℕ
recognised_under bidding bidder steps =
    let_through (bid_at bidding.live bidder) (cap_of bidding.announcement.offering.value)
    (limit_for bidding bidder) steps

-- and at this rate
abbrev pub recognised_for : Bidding → List ℕ → ℕ → ℕ
recognised_for bidding bidder steps =
    recognised_under bidding bidder (suc steps) - recognised_under bidding bidder steps

-- what is recognised of all bidders at rates under this one
unfoldable pub par_under : Bidding → ℕ → ℕ
par_under bidding steps = sum_by (λ (e : Enrolment). recognised_under bidding e.bidder steps) bidding.enrolled

-- and at all rates
unfoldable pub par_in_all : Bidding → ℕ
par_in_all bidding = par_under bidding rates

-- the amount sought from competitive bids
abbrev pub sought_in : Bidding → ℕ
sought_in bidding =
    sought_of bidding.announcement.offering.value (par_of (noncompetitive_in bidding.live))
    bidding.announcement.competitive_floor.value

-- that amount, or all that is recognised where it is less
unfoldable pub wanted_in : Bidding → ℕ
wanted_in bidding = min (sought_in bidding) (par_in_all bidding)

-- the stop-out rate: the least at or below which so much is recognised
unfoldable pub stop_of : Bidding → ℕ
stop_of bidding = first_from (λ steps. nat_le (wanted_in bidding) (par_under bidding (suc steps))) 0 rates

-- what is recognised at the stop-out rate
abbrev pub par_at_stop : Bidding → ℕ
par_at_stop bidding = par_under bidding (suc (stop_of bidding)) - par_under bidding (stop_of bidding)

-- the percentage of that, in hundredths of a percent: what is still wanted, rounded up
unfoldable pub percent_of : Bidding → ℕ
percent_of bidding =
    rounded_up (10000 * (wanted_in bidding - par_under bidding (stop_of bidding))) (par_at_stop bidding)

-- a percentage of par, rounded up to the next hundred dollars
abbrev pub prorated : ℕ → ℕ → ℕ
prorated percent par = 100 * rounded_up (percent * par) 1000000

-- the bidder's award at a rate: all that is recognised under the stop-out rate, the percentage of it at that rate, and
-- nothing above
abbrev pub award_at : Bidding → List ℕ → ℕ → ℕ
award_at bidding bidder steps =
    if nat_lt steps (stop_of bidding) then recognised_for bidding bidder steps
    else (if steps == stop_of bidding then prorated (percent_of bidding) (recognised_for bidding bidder steps) else 0)

-- its awards at rates under this one
unfoldable pub awards_under : Bidding → List ℕ → ℕ → ℕ
awards_under bidding bidder steps = sum_under (award_at bidding bidder) steps

-- the bidder's live noncompetitive bids
abbrev pub noncompetitive_of : Bidding → List ℕ → ℕ
noncompetitive_of bidding bidder =
    par_of (filter (λ (bid : Bid). is_same bid.bidder bidder) (noncompetitive_in bidding.live))

-- the bidder's award: noncompetitive bids in full, and nothing to anybody where no competitive bid is recognised
unfoldable pub awarded : Bidding → List ℕ → ℕ
awarded bidding bidder =
    if par_in_all bidding == 0 then 0 else awards_under bidding bidder rates + noncompetitive_of bidding bidder
