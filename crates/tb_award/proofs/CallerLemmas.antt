-- What callers need of recognised lines.
use Rattle.std.proofs.Common.{◌≡◌, ℕ, suc, ◌<◌, List, [], ◌∷◌, get_or, All, subst, ap, ◌∙◌, arith, inl, inr}
use Rattle.std.proofs.lemmas.Bool.{cases_eq}
use Rattle.std.proofs.lemmas.Bool.Decides.{nat_tests}
use Rattle.std.proofs.lemmas.List.Sums.{sum_by-cons}
use Rattle.tb_units.specs.declared.lines.RateLine.{RateLine}
use Rattle.tb_award.specs.Recognition.{AreRecognised, IsRecognised, bid_in, recognised_at}
use Rattle.tb_award.proofs.BidLemmas.{bid_of, recognised_at-agree, recognised_at-none}

-- what is recognised at a rate depends on the bids and the limit alone
recognised_at-same : (bids other : ℕ → ℕ) (cap limit other_limit steps : ℕ)
    → ((n : ℕ) → bids n ≡ other n)
    → limit ≡ other_limit
    → recognised_at bids cap limit steps ≡ recognised_at other cap other_limit steps
recognised_at-same bids other cap limit other_limit steps same limits =
    recognised_at-agree bids other cap limit steps (λ n below. same n)
    ∙ ap (λ n. recognised_at other cap n steps) limits

-- so the recognised list does
pub AreRecognised-same : (bids other : ℕ → ℕ → ℕ) (cap : ℕ) (limits other_limits : ℕ → ℕ) (bidders : ℕ)
    (lines : List RateLine)
    → ((bidder steps : ℕ) → bids bidder steps ≡ other bidder steps)
    → ((bidder : ℕ) → bidder < bidders → limits bidder ≡ other_limits bidder)
    → AreRecognised bids cap limits bidders lines
    → AreRecognised other cap other_limits bidders lines
AreRecognised-same bids other cap limits other_limits bidders lines same same_limits are = record {
  order = are.order;
  each = λ k d below. one-same (get_or lines k d) (are.each k d below);
  all = λ bidder steps known some. are.all bidder steps known (omega (arith, some, at-same bidder steps known));
}
  where
    -- as much is recognised of a known bidder at each rate
    at-same : (bidder steps : ℕ)
        → bidder < bidders
        → recognised_at (bids bidder) cap (limits bidder) steps
        ≡ recognised_at (other bidder) cap (other_limits bidder) steps
    at-same bidder steps known =
        recognised_at-same (bids bidder) (other bidder) cap (limits bidder) (other_limits bidder) steps (same bidder)
        (same_limits bidder known)

    -- so what is recognised of the one is recognised of the other
    one-same : (line : RateLine)
        → IsRecognised bids cap limits bidders line
        → IsRecognised other cap other_limits bidders line
    one-same line is = record {
      known = is.known;
      some = is.some;
      amount = is.amount ∙ at-same line.bidder line.rate.steps is.known;
    }

-- what is so of the rates of lines is so of each rate at which they bid
rate-bid : (P : ℕ → Type 0) (lines : List RateLine) (bidder steps : ℕ)
    → All (λ line. P line.rate.steps) lines
    → 0 < bid_in lines bidder steps
    → P steps
rate-bid P [] bidder steps each some = absurd (omega (arith, some))
rate-bid P (line ∷ lines) bidder steps each some = elim (cases_eq line.rate.steps steps) [
  | inl same ↦ subst P same (each 0 line (omega arith))
  | inr other ↦
      (let nothing : bid_of bidder steps line ≡ 0 = grind (arith, nat_tests) in
      let parts = sum_by-cons (bid_of bidder steps) line lines in
      rate-bid P lines bidder steps (λ k d below. each (suc k) d (omega arith)) (omega (arith, some, nothing, parts)))
]

-- so it is so of each rate at which something is recognised
pub recognised-rates : (P : ℕ → Type 0) (lines : List RateLine) (cap : ℕ) (limits : ℕ → ℕ) (bidders : ℕ)
    (recognised : List RateLine)
    → All (λ line. P line.rate.steps) lines
    → AreRecognised (bid_in lines) cap limits bidders recognised
    → All (λ line. P line.rate.steps) recognised
recognised-rates P lines cap limits bidders recognised each are =
    λ k d below. rate-of (get_or recognised k d) (are.each k d below)
  where
    -- the rate of a recognised line is one at which its bidder bids
    rate-of : (line : RateLine) → IsRecognised (bid_in lines) cap limits bidders line → P line.rate.steps
    rate-of line is =
        let bid = bid_in lines line.bidder line.rate.steps in
        rate-bid P lines line.bidder line.rate.steps each
        (elim (cases_eq (bid_in lines line.bidder line.rate.steps) 0) [
          | inl none ↦
              (let nothing =
              recognised_at-none (bid_in lines line.bidder) cap (limits line.bidder) line.rate.steps none in
              absurd (omega (arith, is.some, is.amount, nothing)))
          | inr some ↦
              (let not_none : ¬ (bid_in lines line.bidder line.rate.steps ≡ 0) = some in omega (arith, not_none))
        ])
