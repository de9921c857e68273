-- The message that a row asks to enter.
use Rattle.std.specs.Prelude.{ℕ, ◌≤◌, ◌^◌, min, option_map, IfSome}
use Rattle.std.proofs.Common.{arith}
use Rattle.tb_units.specs.declared.amount.Dollars.{Dollars}
use Rattle.tb_units.specs.declared.rate.Rate.{Rate}
use Rattle.tb_message.specs.declared.message.Message.{Message}
use Rattle.tb_message.specs.declared.message.Message.TheVariants as message
use Rattle.tb_import.specs.declared.row.Row.{Row}

--- a rate is at most the last one
pub within_rates : (steps : ℕ) → min steps 199999 ≤ 199999
within_rates steps = omega arith

--- an amount is at most the largest that a message has
pub within_amounts : (amount : ℕ) → min amount (10 ^ 12) ≤ 10 ^ 27
within_amounts amount = omega arith

-- the rate of so many steps, which are at most those of the last one
abbrev pub rate_of : ℕ → Rate
rate_of steps = record { steps = min steps 199999; in_range = within_rates steps }

-- so many dollars, which are at most the largest amount of a row
abbrev pub amount_of : ℕ → Dollars
amount_of amount = record { value = min amount (10 ^ 12); in_range = within_amounts amount }

-- the bid that a row is, under its number
abbrev pub sent_of : Row → ℕ × Message
sent_of row = (row.number, message.Bid row.auction row.bidder (option_map rate_of row.steps) (amount_of row.amount))

-- its rate is a rate, and its amount one of a row
pub record IsInRange (row : Row) : Type 0 where
  pub rate : IfSome row.steps (λ steps. steps ≤ 199999)
  pub amount : row.amount ≤ 10 ^ 12
