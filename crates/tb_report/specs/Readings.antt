-- The text of a reading.
use Rattle.std.specs.Prelude.{◌<◌, ◌≤◌, ◌^◌, ⊤, List, [], ◌∷◌, map, codes}
use Rattle.tb_units.specs.Decimals.{cents_text}
use Rattle.tb_history.specs.declared.reading.Reading.{Reading}
use Rattle.tb_history.specs.declared.reading.Reading.TheVariants as reading
use Rattle.tb_report.specs.Lines.{Words}
use Rattle.tb_report.specs.Terms.{terms_lines}
use Rattle.tb_report.specs.Results.{results_lines}
use Rattle.tb_report.specs.Lists.{awards_lines, bid_words, holding_words, redemption_lines, total_paid}

-- the lines of a reading
abbrev pub lines_of : Reading → List Words
lines_of (reading.Terms terms) = terms_lines terms
lines_of (reading.Results results) = results_lines results
lines_of (reading.Awards awards) = awards_lines awards
lines_of (reading.Bids lines) = map bid_words lines
lines_of (reading.Holdings lines) = map holding_words lines
lines_of (reading.Redemption lines) = redemption_lines lines
lines_of (reading.Funds cents) = (codes "funds" ∷ cents_text cents.value ∷ []) ∷ []

-- the closings are minutes of a day, the bill matures after its issue, and a sum is at most 10 ^ 22
abbrev pub IsPrintable : Reading → Type 0
IsPrintable (reading.Terms terms) = (terms.nc_close < 1440) × (terms.c_close < 1440)
IsPrintable (reading.Results results) = results.terms.issue.number < results.terms.maturity.number
IsPrintable (reading.Awards awards) = ⊤
IsPrintable (reading.Bids lines) = ⊤
IsPrintable (reading.Holdings lines) = ⊤
IsPrintable (reading.Redemption lines) = total_paid lines ≤ 10 ^ 22
IsPrintable (reading.Funds cents) = ⊤
