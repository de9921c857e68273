-- The figures of a cut are the bidding's.
use Rattle.std.proofs.Common.{◌≡◌, ℕ, ◌↔◌, List, [], refl, sym, subst}
use Rattle.tb_units.specs.Years.{days_of_year}
use Rattle.tb_units.specs.declared.lines.RateLine.{RateLine}
use Rattle.tb_units.specs.declared.year.YearLength.{YearLength}
use Rattle.tb_units.specs.declared.year.YearLength.TheVariants as year
use Rattle.tb_terms.specs.Years.{HasLeapDay}
use Rattle.tb_terms.specs.declared.announcement.Announcement.{Announcement}
use Rattle.tb_terms.specs.declared.terms.Terms.{Terms}
use Rattle.tb_award.specs.declared.outcome.Cut.{Cut}
use Rattle.tb_award.specs.declared.outcome.Outcome.TheVariants as outcome
use Rattle.tb_award.specs.Awards.{AreAwardsOf}
use Rattle.tb_award.specs.Cuts.{IsCutOf}
use Rattle.tb_book.specs.declared.book_line.BookLine.{BookLine}
use Rattle.tb_history.specs.declared.readings.Figures.{Figures}
use Rattle.tb_history.specs.Awarded.{Bidding, sought_in}
use Rattle.tb_history.specs.Readings.{AreRecognisedOf, HasFigures, IsInvestment, IsRateOver, days_of}
use Rattle.tb_results.specs.Outcomes.{AreFiguresOf, IsCutIn}

-- the investment rate over a year of so many days, for days that are the bill's
rate-over : (a : Announcement) (year days millionths thousandths : ℕ)
    → days ≡ days_of a
    → IsRateOver year days millionths thousandths
    → IsRateOver year (days_of a) millionths thousandths
rate-over a year days millionths thousandths is rate =
    subst (λ (n : ℕ). IsRateOver year n millionths thousandths) is rate

-- it is the bill's where the year is the one after its issue
pub investment-is : (a : Announcement) (length : YearLength) (days millionths thousandths : ℕ)
    → days ≡ days_of a
    → (length ≡ year.Y366) ↔ HasLeapDay a.issue.number
    → IsRateOver (days_of_year length) days millionths thousandths
    → IsInvestment a millionths thousandths
investment-is a year.Y365 days millionths thousandths is leap rate = record {
  leap = λ has. let wrong : year.Y365 ≡ year.Y366 = leap.1 has in absurd cc;
  common = λ hasnt. rate-over a 365 days millionths thousandths is rate;
}
investment-is a year.Y366 days millionths thousandths is leap rate = record {
  leap = λ has. rate-over a 366 days millionths thousandths is rate;
  common = λ hasnt. absurd (hasnt (leap.0 refl));
}

-- the figures of a cut, and its investment rate, are the bidding's
pub figures-booked : (bidding : Bidding) (terms : Terms) (lines : List BookLine)
    (recognised : List RateLine) (cut : Cut)
    (figures : Figures)
    → IsCutIn bidding lines recognised (outcome.Cut cut)
    → terms.announcement ≡ bidding.announcement
    → AreFiguresOf cut recognised figures
    → IsInvestment terms.announcement cut.price.millionths figures.investment.thousandths
    → HasFigures bidding figures
figures-booked bidding terms lines recognised cut figures is announced are investment = record {
  recognised = recognised;
  awards = are.awards;
  some = is.is.0;
  recognition = is.recognition;
  cut = subst (λ (x : Cut). IsCutOf recognised (sought_in bidding) (days_of bidding.announcement) x) (sym are.cut_is)
      is.is.1;
  awards_are = subst (λ (x : Cut). AreAwardsOf x recognised are.awards) (sym are.cut_is) are.awards_are;
  competitive = are.competitive;
  median = are.median;
  low = are.low;
  investment = subst (λ (x : Cut). IsInvestment bidding.announcement x.price.millionths figures.investment.thousandths)
      (sym are.cut_is)
      (subst (λ (a : Announcement). IsInvestment a cut.price.millionths figures.investment.thousandths) announced
      investment);
}

-- where nothing is recognised there are none
pub figures-none : (bidding : Bidding) (lines : List BookLine) (recognised : List RateLine)
    → IsCutIn bidding lines recognised outcome.NoAwards
    → AreRecognisedOf bidding []
figures-none bidding lines recognised is =
    subst (λ (ls : List RateLine). AreRecognisedOf bidding ls) is.is is.recognition
