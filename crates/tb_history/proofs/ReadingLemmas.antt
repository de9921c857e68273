-- There is one reading of each query.
use Rattle.std.proofs.Common.{◌≡◌, ◌≢◌, ℕ, ◌*◌, ◌^◌, ◌≤◌, ◌==◌, nat_le, Option, Some, None, inl, inr}
use Rattle.std.proofs.Common.{List, [], ◌∷◌, length, refl, sym, ap, ◌∙◌, subst, arith}
use Rattle.std.proofs.Math.Bridge.{le_prop}
use Rattle.std.proofs.lemmas.Bool.{cases_Bool, both_ways, eqb-true, eq-eqb, leb-true, leb-false, false≢true}
use mathlib.Core.HLevel.{is_prop→PathP}
use Rattle.tb_units.specs.declared.percent.Percent.{Percent}
use Rattle.tb_units.specs.declared.price.Price.{Price}
use Rattle.tb_units.specs.declared.cents.Cents.{Cents}
use Rattle.tb_units.specs.declared.lines.RateLine.{RateLine}
use Rattle.tb_units.specs.Same.{same_dollars, same_rate}
use Rattle.tb_price.specs.declared.yearly.Investment.{Investment}
use Rattle.tb_price.specs.Prices.{IsPrice}
use Rattle.tb_price.specs.Payments.{IsPayment}
use Rattle.tb_price.proofs.OneLemmas.{IsPrice-one, IsPayment-one, IsShortRate-one, IsLongRate-one}
use Rattle.tb_terms.specs.Years.{HasLeapDay}
use Rattle.tb_terms.specs.declared.announcement.Announcement.{Announcement}
use Rattle.tb_terms.specs.declared.cusip.Cusip.{Cusip}
use Rattle.tb_award.specs.declared.outcome.Cut.{Cut}
use Rattle.tb_award.specs.Awards.{AreAwardsOf, IsMedianRate, IsLowRate}
use Rattle.tb_award.specs.Cuts.{IsCutOf, par_of, total_of, under, at}
use Rattle.tb_award.proofs.CutLemmas.{IsCut-one}
use Rattle.tb_award.proofs.AwardLemmas.{AreAwards-one}
use Rattle.tb_award.proofs.RateLemmas.{IsRateOfPart-one}
use Rattle.tb_award.proofs.RecognitionLemmas.{AreRecognised-one}
use Rattle.tb_message.specs.declared.message.Entry.{Entry}
use Rattle.tb_message.specs.declared.query.Query.{Query}
use Rattle.tb_message.specs.declared.query.Query.TheVariants as query
use Rattle.tb_history.specs.declared.roster.Enrolment.{Enrolment}
use Rattle.tb_history.specs.declared.roster.Registration.{Registration}
use Rattle.tb_history.specs.declared.readings.Results.{Results}
use Rattle.tb_history.specs.declared.readings.Figures.{Figures}
use Rattle.tb_history.specs.declared.readings.AwardLine.{AwardLine}
use Rattle.tb_history.specs.declared.readings.AddOnLine.{AddOnLine}
use Rattle.tb_history.specs.declared.reading.Awards.{Awards}
use Rattle.tb_history.specs.declared.accounts.AddOn.{AddOn}
use Rattle.tb_history.specs.declared.readings.HoldingLine.{HoldingLine}
use Rattle.tb_history.specs.declared.readings.PaidLine.{PaidLine}
use Rattle.tb_history.specs.declared.reading.Reading.{Reading}
use Rattle.tb_history.specs.declared.reading.Reading.TheVariants as reading
use Rattle.tb_history.specs.Roster.{announcements, announcement_of, add_ons, add_on_of}
use Rattle.tb_history.specs.Awarded.{Bidding, sought_in, stop_of, awarded}
use Rattle.tb_history.specs.Holdings.{bidding_in}
use Rattle.tb_history.specs.Readings.{days_of, AreRecognisedOf, HasFigures, AreFigures, AreResults, IsRateOver}
use Rattle.tb_history.specs.Readings.{IsInvestment, IsAwardLine, AreAwardLines, AreAwards, bidders_in, IsReading}
use Rattle.tb_history.specs.Readings.{IsPaid, IsAddOnLine, AreAddOn}
use Rattle.tb_history.specs.Readings.{IsHoldingLine, AreHoldingLines, IsPaidLine, ArePaidLines}

-- percentages of one number of hundredths are one
same_percent : (one other : Percent) → one.hundredths ≡ other.hundredths → one ≡ other
same_percent one other same = λ i. record {
  hundredths = same i;
  above_zero = is_prop→PathP (λ j. 1 ≤ same j) (λ j. le_prop) one.above_zero other.above_zero i;
  in_range = is_prop→PathP (λ j. same j ≤ 10000) (λ j. le_prop) one.in_range other.in_range i;
}

-- prices of one number of millionths are one
same_price : (one other : Price) → one.millionths ≡ other.millionths → one ≡ other
same_price one other same = λ i. record {
  millionths = same i;
  above_zero = is_prop→PathP (λ j. 1 ≤ same j) (λ j. le_prop) one.above_zero other.above_zero i;
  in_range = is_prop→PathP (λ j. same j ≤ 10 ^ 8) (λ j. le_prop) one.in_range other.in_range i;
}

-- payments of one number of cents are one
same_cents : (one other : Cents) → one.value ≡ other.value → one ≡ other
same_cents one other same = λ i. record {
  value = same i;
  in_range = is_prop→PathP (λ j. same j ≤ 10 ^ 27) (λ j. le_prop) one.in_range other.in_range i;
}

-- investment rates of one number of thousandths are one
same_investment : (one other : Investment) → one.thousandths ≡ other.thousandths → one ≡ other
same_investment one other same = λ i. record {
  thousandths = same i;
  in_range = is_prop→PathP (λ j. same j ≤ 10 ^ 16) (λ j. le_prop) one.in_range other.in_range i;
}

-- there is one cut of what is recognised
IsCutOf-one : (recognised : List RateLine) (sought days : ℕ) (one other : Cut)
    → IsCutOf recognised sought days one
    → IsCutOf recognised sought days other
    → one ≡ other
IsCutOf-one recognised sought days one other is is' =
    let found =
    IsCut-one recognised sought one.stop.steps other.stop.steps one.percent.hundredths other.percent.hundredths is.is
    is'.is in
    let stop = found.0 in
    let price : one.price.millionths ≡ other.price.millionths =
    IsPrice-one other.stop.steps days one.price.millionths other.price.millionths
    (subst (λ (s : ℕ). IsPrice s days one.price.millionths) stop is.price) is'.price in
    let below : one.below.value ≡ other.below.value =
    is.below ∙ (ap (λ (s : ℕ). par_of recognised (under s)) stop ∙ sym is'.below) in
    let at_stop : one.at_stop.value ≡ other.at_stop.value =
    is.at_stop ∙ (ap (λ (s : ℕ). par_of recognised (at s)) stop ∙ sym is'.at_stop) in
    λ i. record {
      stop = same_rate one.stop other.stop stop i;
      percent = same_percent one.percent other.percent found.1 i;
      price = same_price one.price other.price price i;
      below = same_dollars one.below other.below below i;
      at_stop = same_dollars one.at_stop other.at_stop at_stop i;
      sought = same_dollars one.sought other.sought (is.sought_is ∙ sym is'.sought_is) i;
    }

-- there is one investment rate
IsRateOver-one : (year days millionths one other : ℕ)
    → IsRateOver year days millionths one
    → IsRateOver year days millionths other
    → one ≡ other
IsRateOver-one year days millionths one other is is' =
    elim (cases_Bool (nat_le (2 * days) year)) [
      | inl half ↦ let within = leb-true (2 * days) year half in
          IsShortRate-one millionths days year one other (is.short within) (is'.short within)
      | inr more ↦ let past = leb-false (2 * days) year more in
          IsLongRate-one millionths days year one other (is.long past) (is'.long past)
    ]

-- whichever of the two years it is taken over
IsInvestment-one : (announcement : Announcement) (millionths one other : ℕ)
    → IsInvestment announcement millionths one
    → IsInvestment announcement millionths other
    → one ≡ other
IsInvestment-one announcement millionths one other is is' =
    elim (cases_Bool (one == other)) [
      | inl same ↦ eqb-true one other same
      | inr differs ↦
          let apart : one ≢ other = λ same. both_ways (one == other) differs (eq-eqb one other same) in
          let common : ¬ (HasLeapDay announcement.issue.number) =
          λ leap. apart (IsRateOver-one 366 (days_of announcement) millionths one other (is.leap leap)
          (is'.leap leap)) in
          absurd (apart (IsRateOver-one 365 (days_of announcement) millionths one other (is.common common)
          (is'.common common)))
    ]

-- there is one list of figures
HasFigures-one : (bidding : Bidding) (one other : Figures)
    → HasFigures bidding one
    → HasFigures bidding other
    → one ≡ other
HasFigures-one bidding one other has has' =
    let recognised : has'.recognised ≡ has.recognised =
    AreRecognised-one _ _ _ _ has'.recognised has.recognised has'.recognition has.recognition in
    let cut' : IsCutOf has.recognised (sought_in bidding) (days_of bidding.announcement) other.cut =
    subst (λ (r : List RateLine). IsCutOf r (sought_in bidding) (days_of bidding.announcement) other.cut)
    recognised has'.cut in
    let cut : one.cut ≡ other.cut =
    IsCutOf-one has.recognised (sought_in bidding) (days_of bidding.announcement) one.cut other.cut has.cut cut' in
    let awards' : AreAwardsOf one.cut has.recognised has'.awards =
    subst (λ (c : Cut). AreAwardsOf c has.recognised has'.awards) (sym cut)
    (subst (λ (r : List RateLine). AreAwardsOf other.cut r has'.awards) recognised has'.awards_are) in
    let awards : has.awards ≡ has'.awards =
    AreAwards-one one.cut.stop.steps one.cut.percent.hundredths has.recognised has.awards has'.awards has.awards_are
    awards' in
    let median =
    IsRateOfPart-one 2 has.awards one.median.steps other.median.steps has.median
    (subst (λ (r : List RateLine). IsMedianRate r other.median.steps) (sym awards) has'.median) in
    let low = IsRateOfPart-one 20 has.awards one.low.steps other.low.steps has.low
    (subst (λ (r : List RateLine). IsLowRate r other.low.steps) (sym awards) has'.low) in
    let investment =
    IsInvestment-one bidding.announcement one.cut.price.millionths one.investment.thousandths
    other.investment.thousandths has.investment
    (subst (λ (c : Cut). IsInvestment bidding.announcement c.price.millionths other.investment.thousandths)
    (sym cut) has'.investment) in
    λ i. record {
      cut = cut i;
      competitive =
          same_dollars one.competitive other.competitive
          (has.competitive ∙ (ap total_of awards ∙ sym has'.competitive)) i;
      median = same_rate one.median other.median median i;
      low = same_rate one.low other.low low i;
      investment = same_investment one.investment other.investment investment i;
    }

-- something is recognised or nothing is
none_or_some : (bidding : Bidding) (figures : Figures) → AreRecognisedOf bidding [] → HasFigures bidding figures → ⊥
none_or_some bidding figures none has =
    let empty : has.recognised ≡ [] = AreRecognised-one _ _ _ _ has.recognised [] has.recognition none in
    omega (arith, has.some, ap length empty)

-- so the figures are one, where there are any
AreFigures-one : (bidding : Bidding) (one other : Option Figures)
    → AreFigures bidding one
    → AreFigures bidding other
    → one ≡ other
AreFigures-one bidding None None are are' = refl
AreFigures-one bidding None (Some other) are are' = absurd (none_or_some bidding other are are')
AreFigures-one bidding (Some one) None are are' = absurd (none_or_some bidding one are' are)
AreFigures-one bidding (Some one) (Some other) are are' = ap Some (HasFigures-one bidding one other are are')

-- so are the results
pub AreResults-one : (bidding : Bidding) (add_on : Option AddOn) (one other : Results)
    → AreResults bidding add_on one
    → AreResults bidding add_on other
    → one ≡ other
AreResults-one bidding add_on one other are are' =
    let terms : one.terms ≡ other.terms = are.terms ∙ sym are'.terms in
    let figures = AreFigures-one bidding one.figures other.figures are.figures are'.figures in
    λ i. record {
      terms = terms i;
      noncompetitive =
          same_dollars one.noncompetitive other.noncompetitive (are.noncompetitive ∙ sym are'.noncompetitive) i;
      addon = same_dollars one.addon other.addon (are.addon ∙ sym are'.addon) i;
      figures = figures i;
    }

-- one award has one payment
IsPaid-one : (bidding : Bidding) (award one other : ℕ) → IsPaid bidding award one → IsPaid bidding award other
    → one ≡ other
IsPaid-one bidding award one other paid paid' =
    let price : paid'.millionths ≡ paid.millionths =
    IsPrice-one (stop_of bidding) (days_of bidding.announcement)
    paid'.millionths paid.millionths paid'.price paid.price in
    IsPayment-one award paid.millionths one other paid.payment
    (subst (λ (p : ℕ). IsPayment award p other) price paid'.payment)

-- a bidder's line of awards
IsAwardLine-one : (bidding : Bidding) (bidder : List ℕ) (one other : AwardLine)
    → IsAwardLine bidding bidder one
    → IsAwardLine bidding bidder other
    → one ≡ other
IsAwardLine-one bidding bidder one other is is' =
    let cents : one.payment.value ≡ other.payment.value =
    IsPaid-one bidding (awarded bidding bidder) one.payment.value other.payment.value is.payment is'.payment in
    let bidders : one.bidder ≡ other.bidder = is.whose ∙ sym is'.whose in
    λ i. record {
      bidder = bidders i;
      amount = same_dollars one.amount other.amount (is.amount ∙ sym is'.amount) i;
      payment = same_cents one.payment other.payment cents i;
    }

-- two lists whose heads and rests are one
same_lists : {X : Type 0} (x y : X) (xs ys : List X) → x ≡ y → xs ≡ ys → x ∷ xs ≡ y ∷ ys
same_lists x y xs ys head rest = λ i. head i ∷ rest i

-- and all of them
pub AreAwardLines-one : (bidding : Bidding) (bidders : List Enrolment) (one other : List AwardLine)
    → AreAwardLines bidding bidders one
    → AreAwardLines bidding bidders other
    → one ≡ other
AreAwardLines-one bidding [] [] [] are are' = refl
AreAwardLines-one bidding [] [] (line ∷ lines) are are' = absurd are'
AreAwardLines-one bidding [] (line ∷ lines) other are are' = absurd are
AreAwardLines-one bidding (e ∷ bidders) [] other are are' = absurd are
AreAwardLines-one bidding (e ∷ bidders) (line ∷ lines) [] are are' = absurd are'
AreAwardLines-one bidding (e ∷ bidders) (x ∷ xs) (y ∷ ys) are are' =
    same_lists x y xs ys (IsAwardLine-one bidding e.bidder x y are.0 are'.0)
    (AreAwardLines-one bidding bidders xs ys are.1 are'.1)

-- a line of an add-on
IsAddOnLine-one : (bidding : Bidding) (award : ℕ) (one other : AddOnLine)
    → IsAddOnLine bidding award one
    → IsAddOnLine bidding award other
    → one ≡ other
IsAddOnLine-one bidding award one other is is' =
    let cents = IsPaid-one bidding award one.payment.value other.payment.value is.payment is'.payment in
    λ i. record {
      amount = same_dollars one.amount other.amount (is.amount ∙ sym is'.amount) i;
      payment = same_cents one.payment other.payment cents i;
    }

-- or none
AreAddOn-one : (bidding : Bidding) (add_on : Option AddOn) (caller : List ℕ) (one other : Option AddOnLine)
    → AreAddOn bidding add_on caller one
    → AreAddOn bidding add_on caller other
    → one ≡ other
AreAddOn-one bidding add_on caller None None is is' = refl
AreAddOn-one bidding add_on caller (Some one) (Some other) is is' =
    ap Some (IsAddOnLine-one bidding _ one other is.1 is'.1)
AreAddOn-one bidding add_on caller None (Some other) is is' = absurd (false≢true (sym is ∙ is'.0))
AreAddOn-one bidding add_on caller (Some one) None is is' = absurd (false≢true (sym is' ∙ is.0))

-- so the awards of a caller are one
pub AreAwards-told : (history : List Entry) (a : Announcement) (caller : List ℕ) (one other : Awards)
    → AreAwards history a caller one
    → AreAwards history a caller other
    → one ≡ other
AreAwards-told history a caller one other are are' =
    let lines = AreAwardLines-one (bidding_in history a) (bidders_in history a caller) one.lines other.lines are.lines
    are'.lines in
    let addon = AreAddOn-one (bidding_in history a) _ caller one.addon other.addon are.addon are'.addon in
    λ i. record { lines = lines i; addon = addon i }

-- a line of holdings
IsHoldingLine-one : (history : List Entry) (participant : List ℕ) (cusip : Cusip) (one other : HoldingLine)
    → IsHoldingLine history participant cusip one
    → IsHoldingLine history participant cusip other
    → one ≡ other
IsHoldingLine-one history participant cusip one other is is' =
    let bills : one.cusip ≡ other.cusip = is.which ∙ sym is'.which in
    λ i. record {
      cusip = bills i;
      held = same_dollars one.held other.held (is.held ∙ sym is'.held) i;
      pledged = same_dollars one.pledged other.pledged (is.pledged ∙ sym is'.pledged) i;
      free = same_dollars one.free other.free (is.free ∙ sym is'.free) i;
    }

-- and all of them are one
pub AreHoldingLines-one : (history : List Entry) (participant : List ℕ) (bills : List Announcement)
    (one other : List HoldingLine)
    → AreHoldingLines history participant bills one
    → AreHoldingLines history participant bills other
    → one ≡ other
AreHoldingLines-one history participant [] [] [] are are' = refl
AreHoldingLines-one history participant [] [] (line ∷ lines) are are' = absurd are'
AreHoldingLines-one history participant [] (line ∷ lines) other are are' = absurd are
AreHoldingLines-one history participant (a ∷ bills) [] other are are' = absurd are
AreHoldingLines-one history participant (a ∷ bills) (line ∷ lines) [] are are' = absurd are'
AreHoldingLines-one history participant (a ∷ bills) (x ∷ xs) (y ∷ ys) are are' =
    same_lists x y xs ys (IsHoldingLine-one history participant a.cusip x y are.0 are'.0)
    (AreHoldingLines-one history participant bills xs ys are.1 are'.1)

-- a line of a redemption
IsPaidLine-one : (history : List Entry) (cusip : Cusip) (holder : List ℕ) (one other : PaidLine)
    → IsPaidLine history cusip holder one
    → IsPaidLine history cusip holder other
    → one ≡ other
IsPaidLine-one history cusip holder one other is is' =
    let holders : one.holder ≡ other.holder = is.whose ∙ sym is'.whose in
    λ i. record { holder = holders i; paid = same_dollars one.paid other.paid (is.paid ∙ sym is'.paid) i }

-- and all of them are one
pub ArePaidLines-one : (history : List Entry) (cusip : Cusip) (holders : List Registration) (one other : List PaidLine)
    → ArePaidLines history cusip holders one
    → ArePaidLines history cusip holders other
    → one ≡ other
ArePaidLines-one history cusip [] [] [] are are' = refl
ArePaidLines-one history cusip [] [] (line ∷ lines) are are' = absurd are'
ArePaidLines-one history cusip [] (line ∷ lines) other are are' = absurd are
ArePaidLines-one history cusip (r ∷ holders) [] other are are' = absurd are
ArePaidLines-one history cusip (r ∷ holders) (line ∷ lines) [] are are' = absurd are'
ArePaidLines-one history cusip (r ∷ holders) (x ∷ xs) (y ∷ ys) are are' =
    same_lists x y xs ys (IsPaidLine-one history cusip r.submitter x y are.0 are'.0)
    (ArePaidLines-one history cusip holders xs ys are.1 are'.1)

-- an auction has one announcement
announced-one : (found : Option Announcement) (announcement b : Announcement)
    → found ≡ Some announcement
    → found ≡ Some b
    → announcement ≡ b
announced-one found announcement b first second = let both : Some announcement ≡ Some b = sym first ∙ second in cc

-- there is one reading of a query
pub IsReading-one : (history : List Entry) (caller : List ℕ) (q : Query) (one other : Reading)
    → IsReading history caller q one
    → IsReading history caller q other
    → one ≡ other
IsReading-one history caller (query.Terms auction) (reading.Terms one) (reading.Terms other) is is' =
    ap reading.Terms (announced-one (announcement_of (announcements history) auction) one other is is')
IsReading-one history caller (query.Results auction) (reading.Results one) (reading.Results other) is is' =
    let same = announced-one (announcement_of (announcements history) auction) is'.0 is.0 is'.1 is.1 in
    ap reading.Results (AreResults-one (bidding_in history is.0) (add_on_of (add_ons history) is.0.auction) one other
    is.2 (subst (λ (announcement : Announcement). AreResults (bidding_in history announcement)
    (add_on_of (add_ons history) announcement.auction) other) same is'.2))
IsReading-one history caller (query.Awards auction) (reading.Awards one) (reading.Awards other) is is' =
    let same = announced-one (announcement_of (announcements history) auction) is'.0 is.0 is'.1 is.1 in
    ap reading.Awards (AreAwards-told history is.0 caller one other is.2
    (subst (λ (announcement : Announcement). AreAwards history announcement caller other) same is'.2))
IsReading-one history caller (query.Bids auction) (reading.Bids one) (reading.Bids other) is is' =
    ap reading.Bids (is ∙ sym is')
IsReading-one history caller query.Holdings (reading.Holdings one) (reading.Holdings other) is is' =
    ap reading.Holdings (AreHoldingLines-one history caller _ one other is is')
IsReading-one history caller (query.Redemption cusip) (reading.Redemption one) (reading.Redemption other) is is' =
    ap reading.Redemption (ArePaidLines-one history cusip _ one other is is')
IsReading-one history caller query.Funds (reading.Funds one) (reading.Funds other) is is' =
    ap reading.Funds (same_cents one other (is ∙ sym is'))
IsReading-one history caller query.Funds (reading.Funds one) other is is' = absurd is'
IsReading-one history caller (query.Terms auction) (reading.Terms one) other is is' = absurd is'
IsReading-one history caller (query.Results auction) (reading.Results one) other is is' = absurd is'
IsReading-one history caller (query.Awards auction) (reading.Awards one) other is is' = absurd is'
IsReading-one history caller (query.Bids auction) (reading.Bids one) other is is' = absurd is'
IsReading-one history caller query.Holdings (reading.Holdings one) other is is' = absurd is'
IsReading-one history caller (query.Redemption cusip) (reading.Redemption one) other is is' = absurd is'
IsReading-one history caller (query.Terms auction) one other is is' = absurd is
IsReading-one history caller (query.Results auction) one other is is' = absurd is
IsReading-one history caller (query.Awards auction) one other is is' = absurd is
IsReading-one history caller (query.Bids auction) one other is is' = absurd is
IsReading-one history caller query.Holdings one other is is' = absurd is
IsReading-one history caller (query.Redemption cusip) one other is is' = absurd is
IsReading-one history caller query.Funds one other is is' = absurd is
