-- What the code has of a bidder is what stands of it.
use Rattle.std.proofs.Common.{◌≡◌, ℕ, ◌≤◌, min, Bool, Option, Some, None, inl, inr, List, [], ◌∷◌, nat_le, length, refl, arith}
use Rattle.std.specs.List.{filter}
use Rattle.std.proofs.lemmas.Bool.{cases_Bool}
use Rattle.std.proofs.lemmas.List.Sums.{sum_by-cons}
use Rattle.tb_units.specs.declared.moment.Moment.{Moment}
use Rattle.tb_units.specs.declared.rate.Rate.{Rate}
use Rattle.tb_terms.specs.declared.announcement.Announcement.{Announcement}
use Rattle.tb_rules.specs.BidRule.{Standing}
use Rattle.tb_history.specs.declared.bids.Bid.{Bid}
use Rattle.tb_history.specs.declared.bids.Cancel.{Cancel}
use Rattle.tb_history.specs.declared.bids.Report.{Report}
use Rattle.tb_history.specs.LiveBids.{par_of, bids_of, is_live, competitive_in, noncompetitive_in, has_report, standing_of}
use Rattle.tb_history.specs.Tables.{bid_rows}
use Rattle.tb_shelving.specs.Standings.{capped}

-- the par of some of the bids is no more than that of all
pub par_of-filter : (test : Bid → Bool) (bids : List Bid) → par_of (filter test bids) ≤ par_of bids
par_of-filter test [] = omega arith
par_of-filter test (bid ∷ bids) =
    let amount : Bid → ℕ = λ (b : Bid). b.amount.value in
    elim (cases_Bool (test bid)) [
      | inl is ↦ rw is (omega (
        arith,
        sum_by-cons amount bid (filter test bids),
        sum_by-cons amount bid bids,
        par_of-filter test bids,
      ))
      | inr isnt ↦ rw isnt (omega (arith, sum_by-cons amount bid bids, par_of-filter test bids))
    ]

-- figures that agree are one standing
pub capped-is : (competitive noncompetitive accepted : ℕ) (report : Bool) (all : List Bid) (cancelled : List Cancel)
    (reported : List Report) (auction bidder : List ℕ)
    → competitive ≡ par_of (competitive_in (filter (is_live cancelled) (bids_of all auction bidder)))
    → noncompetitive ≡ par_of (noncompetitive_in (filter (is_live cancelled) (bids_of all auction bidder)))
    → accepted ≡ min 1000 (length (bids_of all auction bidder))
    → report ≡ has_report reported auction bidder
    → record { competitive = competitive; noncompetitive = noncompetitive; accepted = accepted; reported = report }
    ≡ capped (standing_of all cancelled reported auction bidder)
unfolding standing_of
capped-is competitive noncompetitive accepted report all cancelled reported auction bidder par other count there =
    rw (par, other, count, there) refl

-- the quota is reached alike
least_cap : (n : ℕ) → nat_le 1000 (min 1000 n) ≡ nat_le 1000 n
least_cap n = grind arith

-- and so a bid is refused alike
pub bid_rows-capped : (found : Option Announcement) (enrolled : Bool) (standing : Standing) (moment : Moment)
    (rate : Option Rate) (amount : ℕ)
    → bid_rows found enrolled (capped standing) moment rate amount ≡ bid_rows found enrolled standing moment rate amount
bid_rows-capped None enrolled standing moment rate amount = refl
bid_rows-capped (Some a) enrolled standing moment None amount = rw (least_cap standing.accepted) refl
bid_rows-capped (Some a) enrolled standing moment (Some rate) amount = rw (least_cap standing.accepted) refl
