-- The bids of a trial, one by one and as lines of a book.
use Rattle.std.proofs.Common.{◌≡◌, ℕ, zero, suc, ◌+◌, ◌*◌, ◌/◌, ◌%◌, ◌<◌, ◌≤◌, ◌^◌, Some, List, [], ◌∷◌, ◌++◌, map, All, sym, ap, ◌∙◌, subst, add-one, arith}
use Rattle.std.specs.Prelude.{IsPermutation}
use Rattle.std.proofs.lemmas.List.{map_push}
use Rattle.std.proofs.lemmas.List.Elements.{All-nil, All-push}
use Rattle.std.proofs.lemmas.List.Sorted.{All-permutation, IsPermutation-push_more, IsPermutation-refl, sum_by-IsPermutation}
use Rattle.std.proofs.lemmas.List.Sums.{sum_by-append}
use Rattle.tb_units.specs.Amounts.{dollars_of}
use Rattle.tb_units.specs.Same.{same_dollars, same_rate}
use Rattle.tb_units.specs.declared.amount.Dollars.{Dollars}
use Rattle.tb_units.specs.declared.rate.Rate.{Rate}
use Rattle.tb_book.specs.declared.book_line.BookLine.{BookLine}
use Rattle.tb_book.specs.Books.{HasBid, par_in}
use Rattle.tb_book.proofs.CallerLemmas.{HasBid-none}
use Rattle.tb_history.specs.declared.bids.Bid.{Bid}
use Rattle.tb_results.specs.Biddings.{book_line_of}
use Rattle.tb_trial.specs.Trials.{bidders, drawn_for, most_bidders, next, rate_of, stated_bid, stated_bids}
use Rattle.tb_trial.proofs.BidderLemmas.{place_of-bidder}

-- a bid as a line of the book
abbrev pub line_of : Bid → BookLine
line_of bid = book_line_of (bidders most_bidders) bid

-- the steps of a bid's rate
pub stated-steps : (drawn : ℕ) → (rate_of (1000 + drawn / 2 ^ 33 % 101)).steps ≡ 1000 + drawn / 2 ^ 33 % 101
unfolding rate_of
stated-steps drawn = omega arith

-- its amount
pub stated-amount : (drawn : ℕ)
    → (dollars_of (100 * (1 + drawn / 2 ^ 40 % 1000))).value ≡ 100 * (1 + drawn / 2 ^ 40 % 1000)
unfolding dollars_of
stated-amount drawn = omega arith

-- and its bidder's place
pub stated-place : (number : ℕ) (drawn : ℕ) → (line_of (stated_bid number drawn)).bidder ≡ number % most_bidders
stated-place number drawn = place_of-bidder most_bidders (number % most_bidders) (omega arith) (omega arith)

-- a line is that of a bid where its numbers are
pub line_of-stated : (number drawn bidder : ℕ) (rate : Rate) (amount : Dollars)
    → bidder ≡ number % most_bidders
    → rate.steps ≡ 1000 + drawn / 2 ^ 33 % 101
    → amount.value ≡ 100 * (1 + drawn / 2 ^ 40 % 1000)
    → record { bidder = bidder; number = number; rate = Some rate; amount = amount } ≡ line_of (stated_bid number drawn)
line_of-stated number drawn bidder rate amount placed rated valued =
    let place : bidder ≡ (line_of (stated_bid number drawn)).bidder = placed ∙ sym (stated-place number drawn) in
    let rates : rate ≡ rate_of (1000 + drawn / 2 ^ 33 % 101) = same_rate _ _ (rated ∙ sym (stated-steps drawn)) in
    let amounts : amount ≡ dollars_of (100 * (1 + drawn / 2 ^ 40 % 1000)) =
    same_dollars _ _ (valued ∙ sym (stated-amount drawn)) in
    λ i. record { bidder = place i; number = number; rate = Some (rates i); amount = amounts i }

-- the lines of so many bids
abbrev pub lines_to : ℕ → ℕ → List BookLine
lines_to seed count = map line_of (stated_bids seed count)

-- a book without lines has no bids
pub lines_to-none : (seed : ℕ) (lines : List BookLine) → lines ≡ [] → IsPermutation (lines_to seed 0) lines
unfolding stated_bids
lines_to-none seed lines none = subst (λ (xs : List BookLine). IsPermutation [] xs) (sym none) (IsPermutation-refl [])

-- the lines that are kept are those
pub lines_to-kept : (seed count : ℕ) (old new : List BookLine)
    → new ≡ old
    → IsPermutation (lines_to seed count) old
    → IsPermutation (lines_to seed count) new
lines_to-kept seed count old new same are =
    subst (λ (lines : List BookLine). IsPermutation (lines_to seed count) lines) (sym same) are

-- one more bid is one more line behind them
lines_to-suc : (seed count : ℕ)
    → lines_to seed (suc count)
    ≡ lines_to seed count ++ line_of (stated_bid (suc count) (drawn_for seed (suc count))) ∷ []
unfolding stated_bids
lines_to-suc seed count =
    map_push line_of (stated_bids seed count) (stated_bid (suc count) (drawn_for seed (suc count)))

-- what is drawn for the next bid
pub drawn_for-next : (seed count drawn : ℕ) → drawn ≡ drawn_for seed count → next drawn ≡ drawn_for seed (count + 1)
unfolding drawn_for
drawn_for-next seed count drawn is = rw add-one (ap next is)

-- with the line of the next bid a book has one bid more
pub lines_to-added : (seed count drawn : ℕ) (line : BookLine) (old new : List BookLine)
    → drawn ≡ drawn_for seed (count + 1)
    → line ≡ line_of (stated_bid (count + 1) drawn)
    → IsPermutation (lines_to seed count) old
    → IsPermutation (line ∷ old) new
    → IsPermutation (lines_to seed (count + 1)) new
lines_to-added seed count drawn line old new drawn_is line_is are more =
    let next_is : line ≡ line_of (stated_bid (suc count) (drawn_for seed (suc count))) =
    line_is ∙ ap (λ (x : ℕ). line_of (stated_bid (count + 1) x)) drawn_is
    ∙ ap (λ (n : ℕ). line_of (stated_bid n (drawn_for seed n))) (add-one count) in
    let added : IsPermutation (lines_to seed count ++ line ∷ []) new =
    IsPermutation-push_more (lines_to seed count) old new line are more in
    rw add-one (rw lines_to-suc
    (subst (λ (l : BookLine). IsPermutation (lines_to seed count ++ l ∷ []) new) next_is added))

-- no line has a number above their count
numbers-lines_to : (seed count : ℕ) → All (λ line. line.number ≤ count) (lines_to seed count)
unfolding stated_bids
numbers-lines_to seed zero = All-nil (λ (line : BookLine). line.number ≤ 0)
numbers-lines_to seed (suc count) =
    let Within : BookLine → Type 0 = λ line. line.number ≤ suc count in
    subst (All Within) (sym (lines_to-suc seed count))
    (All-push Within (lines_to seed count) _
    (λ k d below. let within = numbers-lines_to seed count k d below in omega (arith, within)) (omega arith))

-- their par is at most 100,000 each
par-lines_to : (seed count : ℕ) → par_in (lines_to seed count) ≤ 100000 * count
unfolding stated_bids
par-lines_to seed zero = omega arith
par-lines_to seed (suc count) =
    let par : BookLine → ℕ = λ line. line.amount.value in
    let drawn = drawn_for seed (suc count) in
    let line = line_of (stated_bid (suc count) drawn) in
    omega (
      arith,
      ap par_in (lines_to-suc seed count),
      sum_by-append par (lines_to seed count) (line ∷ []),
      stated-amount drawn,
      par-lines_to seed count,
    )

-- a book of them has no bid of a later number
pub later-none : (seed count bidder number : ℕ) (lines : List BookLine)
    → IsPermutation (lines_to seed count) lines
    → count < number
    → ¬ (HasBid bidder number lines)
later-none seed count bidder number lines are later =
    let within = All-permutation (λ (line : BookLine). line.number ≤ count) (lines_to seed count) lines are
    (numbers-lines_to seed count) in
    HasBid-none bidder number lines
    (λ k d below same. let has = within k d below in omega (arith, has, same.1, later))

-- nor more par than that
pub par-limited : (seed count : ℕ) (lines : List BookLine)
    → IsPermutation (lines_to seed count) lines
    → par_in lines ≤ 100000 * count
par-limited seed count lines are =
    omega (
      arith,
      sum_by-IsPermutation (λ (line : BookLine). line.amount.value) (lines_to seed count) lines are,
      par-lines_to seed count,
    )
