-- A book of a trial's bids is of its bidding, of which something is recognised.
use Rattle.std.proofs.Common.{◌≡◌, ℕ, ℤ, pos, zero, suc, ◌+◌, ◌*◌, ◌/◌, ◌%◌, ◌<◌, ◌≤◌, ◌^◌, ◌==◌, true, inl, inr, Option, Some, None, List, [], ◌∷◌, ◌++◌, length, map, All, refl, sym, ap, ◌∙◌, subst, arith}
use Rattle.std.specs.Prelude.{IsSome, replicate}
use Rattle.std.proofs.lemmas.Bool.{cases_eq, eq-eqb}
use Rattle.std.proofs.lemmas.List.{get_or-replicate, length-replicate}
use Rattle.std.proofs.lemmas.List.Concat.{flat_map-append}
use Rattle.std.proofs.lemmas.List.Elements.{All-nil, All-push}
use Rattle.tb_units.specs.Amounts.{dollars_of}
use Rattle.tb_units.specs.declared.lines.RateLine.{RateLine}
use Rattle.tb_price.proofs.PriceLemmas.{HasPrice-above}
use Rattle.tb_terms.specs.declared.terms.Terms.{Terms}
use Rattle.tb_award.specs.Limits.{cap_of, limit_of}
use Rattle.tb_award.specs.Recognition.{IsRecognitionOf, bid_in, let_through, limits_by, recognised_at}
use Rattle.tb_award.proofs.BidLemmas.{bid_in-append}
use Rattle.tb_book.specs.declared.book_line.BookLine.{BookLine}
use Rattle.tb_history.specs.declared.roster.Enrolment.{Enrolment}
use Rattle.tb_history.specs.declared.bids.Bid.{Bid}
use Rattle.tb_history.specs.declared.readings.Figures.{Figures}
use Rattle.tb_history.specs.declared.readings.Results.{Results}
use Rattle.tb_history.specs.LiveBids.{position_of}
use Rattle.tb_history.specs.Awarded.{Bidding}
use Rattle.tb_history.specs.Readings.{AreFigures, AreRecognisedOf, AreResults, line_of, lines_of, place_of, positions_of}
use Rattle.tb_results.specs.Biddings.{AreBooked, IsBookOf, IsSoundBid}
use Rattle.tb_trial.specs.Trials.{bidder_name, bidders, drawn_for, most_bidders, rate_of, stated_bid, stated_bids, trial_announcement, trial_bidding}
use Rattle.tb_trial.proofs.BidderLemmas.{bidders-distinct, length-bidders}
use Rattle.tb_trial.proofs.AnnouncedLemmas.{days-are, floor-is, offering-is}
use Rattle.tb_trial.proofs.StatedLemmas.{stated-amount, stated-place, stated-steps}

-- each bid is sound
bid-sound : (seed count number drawn : ℕ) → IsSoundBid (trial_bidding seed count) (stated_bid number drawn)
unfolding trial_bidding
bid-sound seed count number drawn = record {
  known = omega (arith, stated-place number drawn, length-bidders most_bidders);
  some = omega (arith, stated-amount drawn);
  hundreds = omega (arith, stated-amount drawn);
  priced = rw days-are (HasPrice-above _ 91 (omega (arith, stated-steps drawn)));
}

-- so are all of them
bids-sound : (seed all count : ℕ) → All (IsSoundBid (trial_bidding seed all)) (stated_bids seed count)
unfolding stated_bids
bids-sound seed all zero = All-nil (IsSoundBid (trial_bidding seed all))
bids-sound seed all (suc count) =
    All-push (IsSoundBid (trial_bidding seed all)) (stated_bids seed count) _ (bids-sound seed all count)
    (bid-sound seed all (suc count) (drawn_for seed (suc count)))

-- nobody has a position
positions-none : (auction : List ℕ) (enrolled : List Enrolment)
    → replicate (length enrolled) (pos 0) ≡ map (λ (e : Enrolment). position_of [] auction e.bidder) enrolled
positions-none auction [] = refl
positions-none auction (e ∷ enrolled) = ap (λ rest. pos 0 ∷ rest) (positions-none auction enrolled)

-- so it is in the trial's bidding
positions-trial : (seed count : ℕ) → replicate most_bidders (pos 0) ≡ positions_of (trial_bidding seed count)
unfolding trial_bidding positions_of
positions-trial seed count =
    ap (λ (n : ℕ). replicate n (pos 0)) (sym (length-bidders most_bidders))
    ∙ positions-none trial_announcement.auction (bidders most_bidders)

-- so a book of the bids is of the bidding
pub IsBookOf-trial : (seed count : ℕ) (terms : Terms) (lines : List BookLine) (positions : List ℤ)
    → terms.announcement ≡ trial_announcement
    → AreBooked (trial_bidding seed count) lines
    → positions ≡ replicate most_bidders (pos 0)
    → IsBookOf (trial_bidding seed count) terms lines positions
unfolding trial_bidding
IsBookOf-trial seed count terms lines positions announced booked none = record {
  sound = record {
    distinct = bidders-distinct most_bidders (omega arith);
    offering = omega (arith, offering-is);
    sought = omega (arith, floor-is);
    bids = bids-sound seed count count;
  };
  announced = announced;
  booked = booked;
  reported = none ∙ positions-trial seed count;
}

-- where nothing is recognised at any rate, nothing is let through
none-through : (bids : ℕ → ℕ) (cap limit steps : ℕ)
    → ((at : ℕ) → recognised_at bids cap limit at ≡ 0)
    → let_through bids cap limit steps ≡ 0
none-through bids cap limit zero none = omega arith
none-through bids cap limit (suc steps) none =
    let before = none-through bids cap limit steps none in
    let here = none steps in
    omega (arith, before, here)

-- so nothing is bid, or nobody may be awarded anything
none-bid : (bids : ℕ → ℕ) (cap limit steps : ℕ)
    → 0 < cap
    → 0 < limit
    → ((at : ℕ) → recognised_at bids cap limit at ≡ 0)
    → bids steps ≡ 0
none-bid bids cap limit steps some_cap some_limit none =
    let after = none-through bids cap limit (suc steps) none in
    omega (arith, after, some_cap, some_limit)

-- where nothing is recognised nobody bids anything
none-recognised : (lines : List RateLine) (bidders offering bidder steps : ℕ)
    → bidder < bidders
    → 0 < cap_of offering
    → 0 < limit_of offering (pos 0)
    → IsRecognitionOf lines (replicate bidders (pos 0)) offering []
    → bid_in lines bidder steps ≡ 0
none-recognised lines bidders offering bidder steps below some_cap some_limit none =
    none-bid (bid_in lines bidder) (cap_of offering) limit steps some_cap (omega (arith, limited, some_limit)) nothing
  where
    limit : ℕ
    limit = limits_by offering (replicate bidders (pos 0)) bidder

    -- the limit is that without a position
    limited : limits_by offering (replicate bidders (pos 0)) bidder ≡ limit_of offering (pos 0)
    limited = ap (limit_of offering) (get_or-replicate bidders bidder (pos 0) (pos 0) below)

    -- there is no line
    nothing : (at : ℕ)
        → recognised_at (bid_in lines bidder) (cap_of offering)
        (limits_by offering (replicate bidders (pos 0)) bidder) at ≡ 0
    nothing at =
        elim (cases_eq (recognised_at (bid_in lines bidder) (cap_of offering)
        (limits_by offering (replicate bidders (pos 0)) bidder) at) 0) [
          | inl same ↦ same
          | inr other ↦
              (let apart : ¬ (recognised_at (bid_in lines bidder) (cap_of offering)
              (limits_by offering (replicate bidders (pos 0)) bidder) at ≡ 0) = other in
              let there = none.all bidder at (omega (arith, below, length-replicate bidders (pos 0)))
              (omega (arith, apart)) in
              absurd (omega (arith, there.1)))
        ]

-- a line bids something for its bidder at its rate
bid_in-last : (lines : List RateLine) (line : RateLine)
    → 0 < line.amount.value
    → 0 < bid_in (lines ++ line ∷ []) line.bidder line.rate.steps
bid_in-last lines line some =
    let own : (line.bidder == line.bidder) ≡ true = eq-eqb line.bidder line.bidder refl in
    let level : (line.rate.steps == line.rate.steps) ≡ true = eq-eqb line.rate.steps line.rate.steps refl in
    let whole : bid_in (line ∷ []) line.bidder line.rate.steps ≡ line.amount.value = rw (own, level) (omega arith) in
    omega (arith, bid_in-append lines (line ∷ []) line.bidder line.rate.steps, whole, some)

-- a bid as a line of its rate
abbrev rate_line : ℕ → ℕ → RateLine
rate_line number drawn = record {
  rate = rate_of (1000 + drawn / 2 ^ 33 % 101);
  bidder = place_of (bidders most_bidders) (bidder_name (number % most_bidders));
  amount = dollars_of (100 * (1 + drawn / 2 ^ 40 % 1000));
}

-- the lines of rates end with that of the last bid
lines-last : (seed count : ℕ)
    → lines_of (trial_bidding seed (suc count))
    ≡ lines_of (trial_bidding seed count) ++ rate_line (suc count) (drawn_for seed (suc count)) ∷ []
unfolding lines_of trial_bidding stated_bids
lines-last seed count =
    flat_map-append (λ (bid : Bid). line_of (bidders most_bidders) bid bid.rate) (stated_bids seed count)
    (stated_bid (suc count) (drawn_for seed (suc count)) ∷ [])

-- so something is recognised
pub recognised-some : (seed count : ℕ) → 1 ≤ count → ¬ (AreRecognisedOf (trial_bidding seed count) [])
unfolding trial_bidding
recognised-some seed zero some none = omega (arith, some)
recognised-some seed (suc count) some none =
    let lines = lines_of (trial_bidding seed (suc count)) in
    let line = rate_line (suc count) (drawn_for seed (suc count)) in
    let as_stated : IsRecognitionOf lines (replicate most_bidders (pos 0)) 1000000000 [] =
    subst (λ (offering : ℕ). IsRecognitionOf lines (replicate most_bidders (pos 0)) offering []) offering-is
    (subst (λ (positions : List ℤ). IsRecognitionOf lines positions trial_announcement.offering.value [])
    (sym (positions-trial seed (suc count))) none) in
    let nothing = none-recognised lines most_bidders 1000000000 line.bidder line.rate.steps
    (omega (arith, stated-place (suc count) (drawn_for seed (suc count)))) (omega arith) (omega arith) as_stated in
    let something = bid_in-last (lines_of (trial_bidding seed count)) line
    (omega (arith, stated-amount (drawn_for seed (suc count)))) in
    omega (
      arith,
      nothing,
      something,
      ap (λ (ls : List RateLine). bid_in ls line.bidder line.rate.steps)
          (lines-last seed count),
    )

-- what is so of the results of each bidding that a book is of is so of the trial's
pub figures-of : (seed count : ℕ) (terms : Terms) (lines : List BookLine) (positions : List ℤ) (results : Results)
    → terms.announcement ≡ trial_announcement
    → AreBooked (trial_bidding seed count) lines
    → positions ≡ replicate most_bidders (pos 0)
    → ((bidding : Bidding) → IsBookOf bidding terms lines positions → AreResults bidding None results)
    → AreFigures (trial_bidding seed count) results.figures
figures-of seed count terms lines positions results announced booked none are =
    (are (trial_bidding seed count) (IsBookOf-trial seed count terms lines positions announced booked none)).figures

-- there are figures
pub figures-some : (seed count : ℕ) (figures : Option Figures)
    → 1 ≤ count
    → AreFigures (trial_bidding seed count) figures
    → IsSome figures
figures-some seed count None some are = absurd (recognised-some seed count some are)
figures-some seed count (Some figures) some are = refl
