-- A text book's line tells the amount, and lines are sorted by rate and bidder.
use Rattle.std.proofs.Common.{◌≡◌, arith, is_lt}
use Rattle.std.specs.Cmp.{IsStrictWeakOrder, nat_cmp_total, on_total, then_total}
use Rattle.std.proofs.lemmas.List.Sorted.{ranks_by}
use Rattle.tb_units.specs.Same.{same_dollars}
use Rattle.tb_units.specs.declared.amount.Dollars.{Dollars}
use Rattle.tb_units.specs.declared.lines.RateLine.{RateLine}
use Rattle.tb_text_book.specs.TextLines.{amount_of_dollars, compared}

-- an amount is told by its dollars
pub amount-dollars : (amount : Dollars) → amount_of_dollars amount.value ≡ amount
amount-dollars amount = same_dollars (amount_of_dollars amount.value) amount (omega (arith, amount.in_range))

-- lines are ordered by what comes before what
pub compared-ranks : IsStrictWeakOrder (λ (one : RateLine) (other : RateLine). is_lt (compared one other))
compared-ranks =
    ranks_by (then_total (on_total (λ (line : RateLine). line.rate.steps) nat_cmp_total)
    (on_total (λ (line : RateLine). line.bidder) nat_cmp_total)) (λ (line : RateLine). line)
