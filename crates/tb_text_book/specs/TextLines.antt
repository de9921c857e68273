-- How a text book keeps a line: the amount in a word.
use Rattle.std.specs.Prelude.{◌≡◌, ℕ, ◌≤◌, ◌^◌, min}
use Rattle.std.proofs.Common.{ap, arith}
use Rattle.std.specs.Ordering.{nat_cmp, ordering_then}
use Rattle.std.specs.declared.cmp.Ordering.{Ordering}
use Rattle.tb_units.specs.declared.amount.Dollars.{Dollars}
use Rattle.tb_units.specs.declared.lines.RateLine.{RateLine}
use Rattle.tb_text_book.specs.declared.text_line.TextLine.TheInside.{Inside}

--- an amount is at most the greatest
pub within_amounts : (dollars : ℕ) → min dollars (10 ^ 27) ≤ 10 ^ 27
within_amounts dollars = omega arith

-- the amount of so many dollars, which are at most the greatest amount
abbrev pub amount_of_dollars : ℕ → Dollars
amount_of_dollars dollars = record { value = min dollars (10 ^ 27); in_range = within_amounts dollars }

--- a line is told by what it says
pub text-line-inverse : (line : Inside)
    → line.dollars ≤ 10 ^ 27
    → record {
      rate = line.rate;
      bidder = line.bidder;
      dollars = min line.dollars (10 ^ 27);
    } ≡ line
text-line-inverse line within =
    let same : min line.dollars (10 ^ 27) ≡ line.dollars = omega (arith, within) in
    ap (λ dollars. record { rate = line.rate; bidder = line.bidder; dollars = dollars }) same

-- how a line compares with another: by rate, and at one rate by the bidder's number
abbrev pub compared : RateLine → RateLine → Ordering
compared one other = ordering_then (nat_cmp one.rate.steps other.rate.steps) (nat_cmp one.bidder other.bidder)
