-- The auction of a trial: a bill of 91 days, 4,096 bidders of one submitter, and competitive bids that follow from a
-- seed.
use Rattle.std.specs.Prelude.{ℕ, zero, suc, ◌+◌, ◌*◌, ◌/◌, ◌%◌, ◌^◌, ◌≤◌, min, Some, List, [], ◌∷◌, ◌++◌, codes}
use Rattle.std.specs.Fmt.{decimal}
use Rattle.std.proofs.Common.{arith}
use Rattle.tb_units.specs.Amounts.{dollars_of}
use Rattle.tb_units.specs.declared.rate.Rate.{Rate}
use Rattle.tb_terms.specs.declared.announcement.Announcement.{Announcement}
use Rattle.tb_history.specs.Values.{day_of}
use Rattle.tb_history.specs.declared.roster.Enrolment.{Enrolment}
use Rattle.tb_history.specs.declared.bids.Bid.{Bid}
use Rattle.tb_history.specs.Awarded.{Bidding}

-- the name of the auction, and of the submitter
abbrev pub trial_name : List ℕ
trial_name = codes "trial"

-- 1,000,000,000 is offered on 2024-11-04, from 2024-11-07 to 2025-02-06; bidding closes at 11:00 and 11:30
unfoldable pub trial_announcement : Announcement
trial_announcement = record {
  auction = trial_name;
  cusip = record { bytes = codes "912797AA5" };
  offering = dollars_of 1000000000;
  minimum = dollars_of 100;
  nc_ceiling = dollars_of 10000000;
  competitive_floor = dollars_of 1000000;
  nlp_threshold = dollars_of 350000000;
  auction_date = day_of 20031;
  nc_close = 660;
  c_close = 690;
  issue = day_of 20034;
  maturity = day_of 20125;
}

-- the bidders are b0 to b4095
abbrev pub most_bidders : ℕ
most_bidders = 4096

-- the name of a bidder, by its number
abbrev pub bidder_name : ℕ → List ℕ
bidder_name number = codes "b" ++ decimal number

-- a bidder of the submitter
abbrev pub bidder_of : ℕ → Enrolment
bidder_of number = record { bidder = bidder_name number; submitter = trial_name }

-- the first so many bidders, in the order of enrolment
unfoldable pub bidders : ℕ → List Enrolment
bidders zero = []
bidders (suc number) = bidders number ++ bidder_of number ∷ []

-- what is drawn after it
abbrev pub next : ℕ → ℕ
next drawn = (6364136223846793005 * drawn + 1442695040888963407) % 2 ^ 64

-- what is drawn for the bid of a number; before the first bid stands the seed
unfoldable pub drawn_for : ℕ → ℕ → ℕ
drawn_for seed zero = seed
drawn_for seed (suc number) = next (drawn_for seed number)

-- a rate is at most the last one
pub within_rates : (steps : ℕ) → min steps 199999 ≤ 199999
within_rates steps = omega arith

-- the rate of so many steps
unfoldable pub rate_of : ℕ → Rate
rate_of steps = record { steps = min steps 199999; in_range = within_rates steps }

-- the bid of a number, from what is drawn for it: 5.000 to 5.500 percent, for 100 to 100,000
abbrev pub stated_bid : ℕ → ℕ → Bid
stated_bid number drawn = record {
  submitter = trial_name;
  number = number;
  auction = trial_name;
  bidder = bidder_name (number % most_bidders);
  rate = Some (rate_of (1000 + drawn / 2 ^ 33 % 101));
  amount = dollars_of (100 * (1 + drawn / 2 ^ 40 % 1000));
}

-- the bids 1 to so many, in order
unfoldable pub stated_bids : ℕ → ℕ → List Bid
stated_bids seed zero = []
stated_bids seed (suc number) =
    stated_bids seed number ++ stated_bid (suc number) (drawn_for seed (suc number)) ∷ []

-- the bidding of the trial: nobody takes a bid back or reports a position
unfoldable pub trial_bidding : ℕ → ℕ → Bidding
trial_bidding seed count = record {
  announcement = trial_announcement;
  enrolled = bidders most_bidders;
  live = stated_bids seed count;
  reported = [];
}
