-- What queries are told.
use Rattle.std.specs.Prelude.{◌≡◌, ◌≢◌, ℕ, ℤ, ◌-◌, ◌*◌, ◌<◌, ◌≤◌, ◌&&◌, Bool, true, false, nat_lt, Option}
use Rattle.std.specs.Prelude.{Some, None, List, [], ◌∷◌, length, map, slice_index_or}
use Rattle.std.specs.List.{AllPairs, filter, flat_map, list_any, position_or_len}
use Rattle.tb_units.specs.declared.rate.Rate.{Rate}
use Rattle.tb_units.specs.declared.lines.RateLine.{RateLine}
use Rattle.tb_price.specs.Prices.{IsPrice}
use Rattle.tb_price.specs.Payments.{IsPayment}
use Rattle.tb_price.specs.Investments.{IsShortRate, IsLongRate}
use Rattle.tb_award.specs.Recognition.{IsRecognitionOf}
use Rattle.tb_award.specs.Cuts.{IsCutOf, total_of}
use Rattle.tb_award.specs.Awards.{AreAwardsOf, IsMedianRate, IsLowRate}
use Rattle.tb_terms.specs.Years.{HasLeapDay}
use Rattle.tb_terms.specs.declared.announcement.Announcement.{Announcement}
use Rattle.tb_terms.specs.declared.cusip.Cusip.{Cusip}
use Rattle.tb_message.specs.declared.message.Entry.{Entry}
use Rattle.tb_message.specs.declared.query.Query.{Query}
use Rattle.tb_message.specs.declared.query.Query.TheVariants as query
use Rattle.tb_history.specs.declared.roster.Enrolment.{Enrolment}
use Rattle.tb_history.specs.declared.roster.Registration.{Registration}
use Rattle.tb_history.specs.declared.bids.Bid.{Bid}
use Rattle.tb_history.specs.declared.bids.Cancel.{Cancel}
use Rattle.tb_history.specs.declared.readings.Results.{Results}
use Rattle.tb_history.specs.declared.readings.Figures.{Figures}
use Rattle.tb_history.specs.declared.readings.AwardLine.{AwardLine}
use Rattle.tb_history.specs.declared.readings.AddOnLine.{AddOnLine}
use Rattle.tb_history.specs.declared.reading.Awards.{Awards}
use Rattle.tb_history.specs.declared.accounts.AddOn.{AddOn}
use Rattle.tb_history.specs.declared.readings.BidLine.{BidLine}
use Rattle.tb_history.specs.declared.readings.HoldingLine.{HoldingLine}
use Rattle.tb_history.specs.declared.readings.PaidLine.{PaidLine}
use Rattle.tb_history.specs.declared.reading.Reading.{Reading}
use Rattle.tb_history.specs.declared.reading.Reading.TheVariants as reading
use Rattle.tb_history.specs.Entries.{is_same}
use Rattle.tb_history.specs.Roster.{registrations, announcements, announcement_of, bill_of, add_ons, add_on_of}
use Rattle.tb_history.specs.LiveBids.{bids, cancels, is_live, par_of, noncompetitive_in, position_of}
use Rattle.tb_history.specs.Awarded.{Bidding, stop_of, sought_in, awarded}
use Rattle.tb_history.specs.Holdings.{bidding_in, bidders_of, if_awarded, par_added, held_of, pledged_of, free_of}
use Rattle.tb_history.specs.Holdings.{paid_to}
use Rattle.tb_history.specs.Funds.{balance_of}

-- a bid as its submitter reads it
abbrev pub bid_line : List Cancel → Bid → BidLine
bid_line cancelled bid = record {
  number = bid.number;
  bidder = bid.bidder;
  rate = bid.rate;
  amount = bid.amount;
  live = is_live cancelled bid;
}

-- the submitter's bids in the auction, in the order of acceptance
abbrev pub bid_lines : List Bid → List Cancel → List ℕ → List ℕ → List BidLine
bid_lines all cancelled submitter auction =
    map (bid_line cancelled) (filter
    (λ (bid : Bid). is_same bid.submitter submitter && is_same bid.auction auction) all)

-- the days of the bill
abbrev pub days_of : Announcement → ℕ
days_of a = a.maturity.number - a.issue.number

-- the investment rate at a price over so many days, with a year of so many (31 CFR Part 356, Appendix B)
pub record IsRateOver (year days millionths thousandths : ℕ) : Type 0 where
  pub short : 2 * days ≤ year → IsShortRate millionths days year thousandths
  pub long : year < 2 * days → IsLongRate millionths days year thousandths

-- the investment rate of the bill: the year after its issue has 366 days where it has a 29 February
pub record IsInvestment (a : Announcement) (millionths thousandths : ℕ) : Type 0 where
  pub leap : HasLeapDay a.issue.number → IsRateOver 366 (days_of a) millionths thousandths
  pub common : ¬ (HasLeapDay a.issue.number) → IsRateOver 365 (days_of a) millionths thousandths

-- the bidder's place in the order of enrolment, which is its number
abbrev pub place_of : List Enrolment → List ℕ → ℕ
place_of enrolled bidder = position_or_len (λ (e : Enrolment). is_same e.bidder bidder) enrolled

-- no bidder is enrolled twice
abbrev pub AreDistinct : List Enrolment → Type 0
AreDistinct enrolled = AllPairs (λ (one other : Enrolment). one.bidder ≢ other.bidder) enrolled

-- the bidder of a number
abbrev pub bidder_at : List Enrolment → ℕ → Enrolment → List ℕ
bidder_at enrolled number d = (slice_index_or enrolled number d).bidder

-- a competitive bid as a line
abbrev pub line_of : List Enrolment → Bid → Option Rate → List RateLine
line_of enrolled bid None = []
line_of enrolled bid (Some rate) =
    record { rate = rate; bidder = place_of enrolled bid.bidder; amount = bid.amount } ∷ []

-- the live competitive bids of an auction as lines
unfoldable pub lines_of : Bidding → List RateLine
lines_of bidding = flat_map (λ (bid : Bid). line_of bidding.enrolled bid bid.rate) bidding.live

-- the reported position of each bidder, by its number
unfoldable pub positions_of : Bidding → List ℤ
positions_of bidding =
    map (λ (e : Enrolment). position_of bidding.reported bidding.announcement.auction e.bidder) bidding.enrolled

-- this is what is recognised of the bids
abbrev pub AreRecognisedOf : Bidding → List RateLine → Type 0
AreRecognisedOf bidding recognised =
    IsRecognitionOf (lines_of bidding) (positions_of bidding) bidding.announcement.offering.value recognised

-- the figures of an auction in which something is recognised
pub record HasFigures (bidding : Bidding) (figures : Figures) : Type 0 where
  pub recognised : List RateLine
  pub awards : List RateLine
  pub some : 0 < length recognised
  pub recognition : AreRecognisedOf bidding recognised
  pub cut : IsCutOf recognised (sought_in bidding) (days_of bidding.announcement) figures.cut
  pub awards_are : AreAwardsOf figures.cut recognised awards
  pub competitive : figures.competitive.value ≡ total_of awards
  pub median : IsMedianRate awards figures.median.steps
  pub low : IsLowRate awards figures.low.steps
  pub investment : IsInvestment bidding.announcement figures.cut.price.millionths figures.investment.thousandths

-- there are figures just where something is recognised
abbrev pub AreFigures : Bidding → Option Figures → Type 0
AreFigures bidding None = AreRecognisedOf bidding []
AreFigures bidding (Some figures) = HasFigures bidding figures

-- the results of an auction, with its add-on
pub record AreResults (bidding : Bidding) (add_on : Option AddOn) (results : Results) : Type 0 where
  pub terms : results.terms ≡ bidding.announcement
  pub noncompetitive : results.noncompetitive.value ≡ par_of (noncompetitive_in bidding.live)
  pub addon : results.addon.value ≡ par_added (λ name. true) add_on
  pub figures : AreFigures bidding results.figures

-- what is paid for an award: its par at the price of the stop-out rate (where nothing is recognised, nothing is
-- awarded)
pub record IsPaid (bidding : Bidding) (award cents : ℕ) : Type 0 where
  pub millionths : ℕ
  pub price : IsPrice (stop_of bidding) (days_of bidding.announcement) millionths
  pub payment : IsPayment award millionths cents

-- the bidder's award and payment
pub record IsAwardLine (bidding : Bidding) (bidder : List ℕ) (line : AwardLine) : Type 0 where
  pub whose : line.bidder ≡ bidder
  pub amount : line.amount.value ≡ awarded bidding bidder
  pub payment : IsPaid bidding (awarded bidding bidder) line.payment.value

-- a line for each bidder, in order
abbrev pub AreAwardLines : Bidding → List Enrolment → List AwardLine → Type 0
AreAwardLines bidding [] [] = Unit {0}
AreAwardLines bidding (e ∷ bidders) (line ∷ lines) =
    IsAwardLine bidding e.bidder line × AreAwardLines bidding bidders lines
AreAwardLines bidding [] (line ∷ lines) = ⊥
AreAwardLines bidding (e ∷ bidders) [] = ⊥

-- the bidder has a live bid in the auction
abbrev pub has_bid : Bidding → Enrolment → Bool
has_bid bidding e = list_any (λ (bid : Bid). is_same bid.bidder e.bidder) bidding.live

-- the caller's bidders with a live bid in the auction, in the order of enrolment
abbrev pub bidders_in : List Entry → Announcement → List ℕ → List Enrolment
bidders_in history a caller = filter (has_bid (bidding_in history a)) (bidders_of history caller)

-- the add-on's holder is the caller
abbrev pub is_holder : List ℕ → Option AddOn → Bool
is_holder caller None = false
is_holder caller (Some x) = is_same x.holder caller

-- the add-on's award and payment
pub record IsAddOnLine (bidding : Bidding) (award : ℕ) (line : AddOnLine) : Type 0 where
  pub amount : line.amount.value ≡ award
  pub payment : IsPaid bidding award line.payment.value

-- a line of the auction's add-on, just where the caller is its holder
abbrev pub AreAddOn : Bidding → Option AddOn → List ℕ → Option AddOnLine → Type 0
AreAddOn bidding add_on caller None = is_holder caller add_on ≡ false
AreAddOn bidding add_on caller (Some line) =
    (is_holder caller add_on ≡ true) × IsAddOnLine bidding (par_added (λ name. true) (if_awarded bidding add_on)) line

-- the awards of a caller's bidders, and of the add-on that it holds
pub record AreAwards (history : List Entry) (a : Announcement) (caller : List ℕ) (awards : Awards) : Type 0 where
  pub lines : AreAwardLines (bidding_in history a) (bidders_in history a caller) awards.lines
  pub addon : AreAddOn (bidding_in history a) (add_on_of (add_ons history) a.auction) caller awards.addon

-- of all auctions of its bill the announcement is the first
abbrev pub is_first : Option Announcement → Announcement → Bool
is_first None a = false
is_first (Some first) a = is_same first.auction a.auction

-- the announcement of each bill, in the order of the first announcements
abbrev pub bills : List Announcement → List Announcement
bills announced = filter (λ (a : Announcement). is_first (bill_of announced a.cusip) a) announced

-- what a participant holds of a bill
pub record IsHoldingLine (history : List Entry) (participant : List ℕ) (cusip : Cusip)
    (line : HoldingLine) : Type 0 where
  pub which : line.cusip ≡ cusip
  pub held : line.held.value ≡ held_of history participant cusip
  pub pledged : line.pledged.value ≡ pledged_of history participant cusip
  pub free : line.free.value ≡ free_of history participant cusip

-- a line for each bill, in order
abbrev pub AreHoldingLines : List Entry → List ℕ → List Announcement → List HoldingLine → Type 0
AreHoldingLines history participant [] [] = Unit {0}
AreHoldingLines history participant (a ∷ bills) (line ∷ lines) =
    IsHoldingLine history participant a.cusip line × AreHoldingLines history participant bills lines
AreHoldingLines history participant [] (line ∷ lines) = ⊥
AreHoldingLines history participant (a ∷ bills) [] = ⊥

-- the bills of which the participant holds more than zero
abbrev pub AreHoldings : List Entry → List ℕ → List HoldingLine → Type 0
AreHoldings history participant lines =
    AreHoldingLines history participant
    (filter (λ (a : Announcement). nat_lt 0 (held_of history participant a.cusip)) (bills (announcements history)))
    lines

-- what a holder was paid
pub record IsPaidLine (history : List Entry) (cusip : Cusip) (holder : List ℕ) (line : PaidLine) : Type 0 where
  pub whose : line.holder ≡ holder
  pub paid : line.paid.value ≡ paid_to history holder cusip

-- a line for each submitter, in order
abbrev pub ArePaidLines : List Entry → Cusip → List Registration → List PaidLine → Type 0
ArePaidLines history cusip [] [] = Unit {0}
ArePaidLines history cusip (r ∷ holders) (line ∷ lines) =
    IsPaidLine history cusip r.submitter line × ArePaidLines history cusip holders lines
ArePaidLines history cusip [] (line ∷ lines) = ⊥
ArePaidLines history cusip (r ∷ holders) [] = ⊥

-- the submitters that were paid more than zero, in the order of registration
abbrev pub IsRedemption : List Entry → Cusip → List PaidLine → Type 0
IsRedemption history cusip lines =
    ArePaidLines history cusip
    (filter (λ (r : Registration). nat_lt 0 (paid_to history r.submitter cusip)) (registrations history)) lines

-- of the auction's announcement this holds
abbrev pub OfAnnounced : List Entry → List ℕ → (Announcement → Type 0) → Type 0
OfAnnounced history auction Holds =
    (a : Announcement) × (announcement_of (announcements history) auction ≡ Some a) × Holds a

-- what the history tells the caller of the query
abbrev pub IsReading : List Entry → List ℕ → Query → Reading → Type 0
IsReading history caller (query.Terms auction) (reading.Terms terms) =
    announcement_of (announcements history) auction ≡ Some terms
IsReading history caller (query.Results auction) (reading.Results results) =
    OfAnnounced history auction (λ a. AreResults (bidding_in history a) (add_on_of (add_ons history) a.auction) results)
IsReading history caller (query.Awards auction) (reading.Awards awards) =
    OfAnnounced history auction (λ a. AreAwards history a caller awards)
IsReading history caller (query.Bids auction) (reading.Bids lines) =
    lines ≡ bid_lines (bids history) (cancels history) caller auction
IsReading history caller query.Holdings (reading.Holdings lines) = AreHoldings history caller lines
IsReading history caller (query.Redemption cusip) (reading.Redemption lines) = IsRedemption history cusip lines
IsReading history caller query.Funds (reading.Funds cents) = cents.value ≡ balance_of history caller
IsReading history caller query reading = ⊥
