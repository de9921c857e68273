-- The text of an auction's results.
use Rattle.std.specs.Prelude.{ℕ, ◌+◌, ◌-◌, List, [], ◌∷◌, ◌++◌, codes, Option, Some, None}
use Rattle.std.specs.Fmt.{decimal}
use Rattle.tb_units.specs.Decimals.{rate_text, percent_text, price_text, with_decimals}
use Rattle.tb_terms.specs.Texts.{day_text}
use Rattle.tb_terms.specs.declared.announcement.Announcement.{Announcement}
use Rattle.tb_history.specs.declared.readings.Results.{Results}
use Rattle.tb_history.specs.declared.readings.Figures.{Figures}
use Rattle.tb_report.specs.Lines.{Words}

-- the bill, and the sum of its live noncompetitive bids
abbrev pub bill_lines : Announcement → ℕ → List Words
bill_lines a noncompetitive =
    (codes "auction" ∷ a.auction ∷ [])
    ∷ (codes "cusip" ∷ a.cusip.bytes ∷ [])
    ∷ (codes "issue" ∷ day_text a.issue.number ∷ [])
    ∷ (codes "maturity" ∷ day_text a.maturity.number ∷ [])
    ∷ (codes "days" ∷ decimal (a.maturity.number - a.issue.number) ∷ [])
    ∷ (codes "offering" ∷ decimal a.offering.value ∷ [])
    ∷ (codes "noncompetitive" ∷ decimal noncompetitive ∷ [])
    ∷ []

-- the par of competitive awards and of the add-on, and all that is awarded
abbrev pub par_lines : ℕ → ℕ → ℕ → List Words
par_lines noncompetitive competitive addon =
    (codes "competitive" ∷ decimal competitive ∷ [])
    ∷ (codes "addon" ∷ decimal addon ∷ [])
    ∷ (codes "total" ∷ decimal (noncompetitive + competitive + addon) ∷ [])
    ∷ []

-- the rates and the price at which it is awarded
abbrev pub rate_lines : Figures → List Words
rate_lines figures =
    (codes "high" ∷ rate_text figures.cut.stop.steps ∷ [])
    ∷ (codes "allotted" ∷ percent_text figures.cut.percent.hundredths ∷ [])
    ∷ (codes "median" ∷ rate_text figures.median.steps ∷ [])
    ∷ (codes "low" ∷ rate_text figures.low.steps ∷ [])
    ∷ (codes "price" ∷ price_text figures.cut.price.millionths ∷ [])
    ∷ (codes "investment" ∷ with_decimals 3 figures.investment.thousandths ∷ [])
    ∷ (codes "bids at lower rates were accepted in full" ∷ [])
    ∷ []

-- what was awarded
abbrev pub awarded_lines : ℕ → ℕ → Figures → List Words
awarded_lines noncompetitive addon figures =
    par_lines noncompetitive figures.competitive.value addon ++ rate_lines figures

-- the same, or that nobody got an award
abbrev pub figures_lines : ℕ → ℕ → Option Figures → List Words
figures_lines noncompetitive addon None = (codes "no awards" ∷ []) ∷ []
figures_lines noncompetitive addon (Some figures) = awarded_lines noncompetitive addon figures

-- the results, a line each
abbrev pub results_lines : Results → List Words
results_lines results =
    bill_lines results.terms results.noncompetitive.value
    ++ figures_lines results.noncompetitive.value results.addon.value results.figures
