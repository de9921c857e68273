-- The rules that a bid must meet (31 CFR 356.12; reports of a net long position 356.13; the limits on counts, and that
-- the closing moment itself is late, are our choice).
use Rattle.std.specs.Prelude.{ℕ, ◌+◌, ◌-◌, ◌%◌, ◌==◌, Bool, false, not, ◌&&◌, ◌||◌, nat_lt, nat_le, is_some, is_none, Option, Some, None, List, [], ◌∷◌}
use Rattle.tb_units.specs.declared.moment.Moment.{Moment}
use Rattle.tb_units.specs.declared.rate.Rate.{Rate}
use Rattle.tb_price.specs.Prices.{has_price}
use Rattle.tb_terms.specs.declared.announcement.Announcement.{Announcement}
use Rattle.tb_terms.specs.declared.refusal.Refusal.TheVariants as refusal
use Rattle.tb_terms.specs.Closings.{nc_closing, c_closing}
use Rattle.tb_terms.specs.Rows.{Row}
use Rattle.tb_rules.specs.declared.own.Own.{Own}

-- what stands of a bidder in an auction: the par of its live bids of each kind, how many of its bids were accepted,
-- cancelled ones counted, and whether a report of its position stands
pub record Standing : Type 0 where
  pub competitive : ℕ
  pub noncompetitive : ℕ
  pub accepted : ℕ
  pub reported : Bool

-- as the code has it
abbrev pub standing_in : Own → Standing
standing_in own = record {
  competitive = own.competitive.value;
  noncompetitive = own.noncompetitive.value;
  accepted = own.accepted;
  reported = own.reported;
}

-- no par that can be bid: zero, or no multiple of 100
abbrev pub is_no_par : ℕ → Bool
is_no_par amount = (amount == 0) || not (amount % 100 == 0)

-- a bid has a rate exactly where it is competitive, and this one has no price above zero
abbrev pub lacks_price : Announcement → Option Rate → Bool
lacks_price a None = false
lacks_price a (Some rate) = not (has_price rate.steps (a.maturity.number - a.issue.number))

-- the closing of the bid's kind
abbrev pub closing_for : Announcement → Option Rate → Moment
closing_for a None = nc_closing a
closing_for a (Some rate) = c_closing a

-- what comes at a closing or after it is late
abbrev pub late : Moment → Moment → Row
late moment closing = (refusal.Late moment closing, nat_le closing.seconds moment.seconds)

-- the bidder's noncompetitive bids with this one are above the ceiling
abbrev pub passes_ceiling : Announcement → Standing → Option Rate → ℕ → Bool
passes_ceiling a standing rate amount =
    is_none rate && nat_lt a.nc_ceiling.value (standing.noncompetitive + amount)

-- the par of the bidder's live bids of the other kind; each is at least 100, so it is zero just where there is none
abbrev pub par_of_other_kind : Standing → Option Rate → ℕ
par_of_other_kind standing None = standing.competitive
par_of_other_kind standing (Some rate) = standing.noncompetitive

-- the bidder's competitive bids with this one reach the threshold, and no report of its position stands
abbrev pub lacks_report : Announcement → Standing → Option Rate → ℕ → Bool
lacks_report a standing rate amount =
    is_some rate && nat_le a.nlp_threshold.value (standing.competitive + amount) && not standing.reported

-- accepted bids of a bidder in an auction, at most
abbrev pub most_bids : ℕ
most_bids = 1000

-- the refusals of a bid and their causes, in the order in which they are tried
abbrev pub bid_rule : Announcement → Standing → Moment → Option Rate → ℕ → List Row
bid_rule a standing moment rate amount =
    (refusal.BelowMinimum, nat_lt amount a.minimum.value)
    ∷ (refusal.NotMultiple, is_no_par amount)
    ∷ (refusal.RateTooHigh, lacks_price a rate)
    ∷ late moment (closing_for a rate)
    ∷ (refusal.NoncompetitiveCeiling, passes_ceiling a standing rate amount)
    ∷ (refusal.MixedBids, nat_lt 0 (par_of_other_kind standing rate))
    ∷ (refusal.PositionRequired, lacks_report a standing rate amount)
    ∷ (refusal.BidQuota, nat_le most_bids standing.accepted)
    ∷ []

-- the one refusal of a report of a position, and its cause
abbrev pub position_rule : Announcement → Moment → List Row
position_rule a moment = late moment (c_closing a) ∷ []
