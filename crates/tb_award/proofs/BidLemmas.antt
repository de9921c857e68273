-- What lines bid for a bidder at a rate, and what the bidder's limit lets through of it.
use Rattle.std.proofs.Common.{◌≡◌, ℕ, zero, suc, ◌+◌, ◌-◌, ◌<◌, ◌≤◌, ◌&&◌, ◌==◌, cond, List}
use Rattle.std.proofs.Common.{[], ◌∷◌, ◌++◌, All, refl, ap, ap₂, sym, ◌∙◌, arith}
use Rattle.std.specs.Prelude.{min}
use Rattle.std.proofs.lemmas.Bool.Decides.{nat_tests}
use Rattle.std.proofs.lemmas.List.Elements.{All-head, All-tail}
use Rattle.std.proofs.lemmas.List.Sums.{sum_by-append, sum_by-cons}
use Rattle.tb_units.specs.declared.lines.RateLine.{RateLine}
use Rattle.tb_award.specs.Cuts.{amount_of, total_of}
use Rattle.tb_award.specs.Recognition.{bid_in, capped, let_through, recognised_at, sum_under}

-- the line is a bid of the bidder at the rate
abbrev pub IsBidOf : ℕ → ℕ → RateLine → Type 0
IsBidOf bidder steps line = (line.bidder ≡ bidder) × (line.rate.steps ≡ steps)

-- what one line bids for the bidder at the rate
abbrev pub bid_of : ℕ → ℕ → RateLine → ℕ
bid_of bidder steps line = cond ((line.bidder == bidder) && (line.rate.steps == steps)) line.amount.value 0

-- all of its amount where it is such a bid, and else nothing
bid_of-own : (bidder steps : ℕ) (line : RateLine)
    → IsBidOf bidder steps line
    → bid_of bidder steps line ≡ line.amount.value
bid_of-own bidder steps line own = grind (arith, nat_tests)

-- nothing where it is no such bid
bid_of-other : (bidder steps : ℕ) (line : RateLine) → ¬ (IsBidOf bidder steps line) → bid_of bidder steps line ≡ 0
bid_of-other bidder steps line other = grind (arith, nat_tests)

-- lines and further lines bid the sum of both
pub bid_in-append : (front back : List RateLine) (bidder steps : ℕ)
    → bid_in (front ++ back) bidder steps ≡ bid_in front bidder steps + bid_in back bidder steps
bid_in-append front back bidder steps = sum_by-append (bid_of bidder steps) front back

-- lines of other bids add nothing
pub bid_in-none : (lines : List RateLine) (bidder steps : ℕ)
    → All (λ line. ¬ (IsBidOf bidder steps line)) lines
    → bid_in lines bidder steps ≡ 0
bid_in-none [] bidder steps others = refl
bid_in-none (line ∷ lines) bidder steps others =
    let IsOther : RateLine → Type 0 = λ l. ¬ (IsBidOf bidder steps l) in
    let here = bid_of-other bidder steps line (All-head IsOther line lines others) in
    let rest = bid_in-none lines bidder steps (All-tail IsOther line lines others) in
    sum_by-cons (bid_of bidder steps) line lines ∙ ap₂ (λ a b. a + b) here rest

-- lines of one bid add up to it
pub bid_in-whole : (lines : List RateLine) (bidder steps : ℕ)
    → All (IsBidOf bidder steps) lines
    → bid_in lines bidder steps ≡ total_of lines
bid_in-whole [] bidder steps own = refl
bid_in-whole (line ∷ lines) bidder steps own =
    let here = bid_of-own bidder steps line (All-head (IsBidOf bidder steps) line lines own) in
    let rest = bid_in-whole lines bidder steps (All-tail (IsBidOf bidder steps) line lines own) in
    sum_by-cons (bid_of bidder steps) line lines ∙ ap₂ (λ a b. a + b) here rest ∙ sym (sum_by-cons amount_of line lines)

-- sums of functions that agree under the bound
sum_under-agree : (f g : ℕ → ℕ) (bound : ℕ)
    → ((n : ℕ) → n < bound → f n ≡ g n)
    → sum_under f bound ≡ sum_under g bound
sum_under-agree f g zero same = refl
sum_under-agree f g (suc bound) same =
    ap₂ (λ a b. a + b) (sum_under-agree f g bound (λ n below. same n (omega arith))) (same bound (omega arith))

-- nothing is added where the function is zero
sum_under-flat : (f : ℕ → ℕ) (bound more : ℕ)
    → ((n : ℕ) → bound ≤ n → f n ≡ 0)
    → sum_under f (more + bound) ≡ sum_under f bound
sum_under-flat f bound zero none = ap (sum_under f) (omega arith)
sum_under-flat f bound (suc more) none =
    let step : suc more + bound ≡ suc (more + bound) = omega arith in
    let flat : f (more + bound) ≡ 0 = none (more + bound) (omega arith) in
    let before = sum_under-flat f bound more none in
    rw step (omega (arith, flat, before))

-- as much of bids that agree is let through
pub let_through-agree : (bids other : ℕ → ℕ) (cap limit bound : ℕ)
    → ((n : ℕ) → n < bound → bids n ≡ other n)
    → let_through bids cap limit bound ≡ let_through other cap limit bound
let_through-agree bids other cap limit bound same =
    ap (min limit) (sum_under-agree (capped bids cap) (capped other cap) bound
    (λ n below. ap (λ bid. min bid cap) (same n below)))

-- no more is let through where nothing is bid
pub let_through-flat : (bids : ℕ → ℕ) (cap limit bound above : ℕ)
    → bound ≤ above
    → ((n : ℕ) → bound ≤ n → bids n ≡ 0)
    → let_through bids cap limit above ≡ let_through bids cap limit bound
let_through-flat bids cap limit bound above within none =
    let capped_none : (n : ℕ) → bound ≤ n → capped bids cap n ≡ 0 =
    λ n from. let flat = none n from in omega (arith, flat) in
    let parts : above ≡ (above - bound) + bound = omega arith in
    ap (let_through bids cap limit) parts
    ∙ ap (min limit) (sum_under-flat (capped bids cap) bound (above - bound) capped_none)

-- as much of bids that agree is recognised
pub recognised_at-agree : (bids other : ℕ → ℕ) (cap limit steps : ℕ)
    → ((n : ℕ) → n ≤ steps → bids n ≡ other n)
    → recognised_at bids cap limit steps ≡ recognised_at other cap limit steps
recognised_at-agree bids other cap limit steps same =
    ap₂ (λ a b. a - b)
    (let_through-agree bids other cap limit (suc steps) (λ n below. same n (omega arith)))
    (let_through-agree bids other cap limit steps (λ n below. same n (omega arith)))

-- nothing is recognised where nothing is bid
pub recognised_at-none : (bids : ℕ → ℕ) (cap limit steps : ℕ) → bids steps ≡ 0 → recognised_at bids cap limit steps ≡ 0
recognised_at-none bids cap limit steps none = omega (arith, none)

-- what is recognised is the capped bid, as far as the limit still lets it through
pub recognised_at-is : (bids : ℕ → ℕ) (cap limit steps : ℕ)
    → recognised_at bids cap limit steps ≡ min (capped bids cap steps) (limit - let_through bids cap limit steps)
recognised_at-is bids cap limit steps = omega arith

-- and it is what is let through more
pub let_through-more : (bids : ℕ → ℕ) (cap limit steps : ℕ)
    → let_through bids cap limit (suc steps) ≡ let_through bids cap limit steps + recognised_at bids cap limit steps
let_through-more bids cap limit steps = omega arith
