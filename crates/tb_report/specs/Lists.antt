-- The lines of awards, bids, holdings and payments.
use Rattle.std.specs.Prelude.{ℕ, List, [], ◌∷◌, ◌++◌, map, option_to_list, sum_by, codes}
use Rattle.std.specs.Prelude.{Bool, true, false, Option, Some, None}
use Rattle.std.specs.Fmt.{decimal}
use Rattle.tb_units.specs.Decimals.{rate_text, cents_text}
use Rattle.tb_units.specs.declared.rate.Rate.{Rate}
use Rattle.tb_history.specs.declared.readings.AwardLine.{AwardLine}
use Rattle.tb_history.specs.declared.readings.AddOnLine.{AddOnLine}
use Rattle.tb_history.specs.declared.reading.Awards.{Awards}
use Rattle.tb_history.specs.declared.readings.BidLine.{BidLine}
use Rattle.tb_history.specs.declared.readings.HoldingLine.{HoldingLine}
use Rattle.tb_history.specs.declared.readings.PaidLine.{PaidLine}
use Rattle.tb_report.specs.Lines.{Words}

-- whose award it is, what is awarded and what is paid for it
abbrev pub award_words : List ℕ → ℕ → ℕ → Words
award_words whose amount payment = whose ∷ decimal amount ∷ cents_text payment ∷ []

-- the award of a bidder
abbrev pub bidder_words : AwardLine → Words
bidder_words line = award_words line.bidder line.amount.value line.payment.value

-- that of an add-on, whose place of a bidder has `+`
abbrev pub add_on_words : AddOnLine → Words
add_on_words line = award_words (codes "+") line.amount.value line.payment.value

-- the awards of a caller: a line for each bidder, and one behind them for the add-on that the caller holds
abbrev pub awards_lines : Awards → List Words
awards_lines awards = map bidder_words awards.lines ++ map add_on_words (option_to_list awards.addon)

-- the rate of a bid, `n` where it is noncompetitive
abbrev pub rate_word : Option Rate → List ℕ
rate_word None = codes "n"
rate_word (Some rate) = rate_text rate.steps

-- whether a bid stands
abbrev pub state_word : Bool → List ℕ
state_word true = codes "live"
state_word false = codes "cancelled"

-- a bid: its number, its bidder, its rate, its amount and whether it stands
abbrev pub bid_words : BidLine → Words
bid_words line =
    decimal line.number ∷ line.bidder ∷ rate_word line.rate ∷ decimal line.amount.value ∷ state_word line.live ∷ []

-- a bill, what is held of it, what is pledged and what is free
abbrev pub holding_words : HoldingLine → Words
holding_words line =
    line.cusip.bytes ∷ decimal line.held.value ∷ decimal line.pledged.value ∷ decimal line.free.value ∷ []

-- a holder and what it was paid
abbrev pub paid_words : PaidLine → Words
paid_words line = line.holder ∷ decimal line.paid.value ∷ []

-- what all holders were paid
abbrev pub total_paid : List PaidLine → ℕ
total_paid lines = sum_by (λ (line : PaidLine). line.paid.value) lines

-- the payments of a redemption, and their sum
abbrev pub redemption_lines : List PaidLine → List Words
redemption_lines lines = map paid_words lines ++ (codes "total" ∷ decimal (total_paid lines) ∷ []) ∷ []
