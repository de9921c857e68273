-- What is read is sealed while the auction isn't published, and its awards come close.
use Rattle.std.proofs.Common.{◌≡◌, ℕ, ◌∙◌, true, false, is_some, Option, Some, None, List, refl, sym, ap, subst}
use Rattle.tb_terms.specs.declared.announcement.Announcement.{Announcement}
use Rattle.tb_terms.specs.declared.refusal.Refusal.{Refusal}
use Rattle.tb_message.specs.declared.message.Entry.{Entry}
use Rattle.tb_message.specs.declared.query.Query.{Query}
use Rattle.tb_message.specs.declared.query.Query.TheVariants as query
use Rattle.tb_history.specs.declared.readings.Figures.{Figures}
use Rattle.tb_history.specs.declared.reading.Reading.{Reading}
use Rattle.tb_history.specs.declared.reading.Reading.TheVariants as reading
use Rattle.tb_history.specs.Entries.{is_same}
use Rattle.tb_history.specs.Roster.{announcements, announcement_of, is_published}
use Rattle.tb_history.specs.Holdings.{bidding_in}
use Rattle.tb_history.specs.Legal.{IsLegal}
use Rattle.tb_history.specs.OwnPart.{own_part}
use Rattle.tb_history.specs.Answer.{asks_on, query_refusal}
use Rattle.tb_history.specs.Readings.{AreFigures, IsReading}
use Rattle.tb_history.proofs.SameLemmas.{is_same-equal}
use Rattle.tb_history.proofs.LegalLemmas.{IsLegal-orderly}
use Rattle.tb_history.proofs.OwnLemmas.{announcements-own}
use Rattle.tb_history.proofs.QueryLemmas.{bid_lines-own, shown-refused}
use Rattle.tb_history.proofs.CloseLemmas.{IsLegal-close}
use Rattle.tb_core.specs.CloseAwards.{AreCloseFigures, IsClose}

-- a query that is refused isn't answered
refused-not : (found : Option Refusal) → is_some found ≡ true → found ≡ None → ⊥
refused-not None some none = cc
refused-not (Some refusal) some none = cc

-- what shows results is refused while they aren't published
shown-never : (h : List Entry) (s auction other : List ℕ) (q : List ℕ → Query)
    → (is_published h other ≡ false → is_some (query_refusal h s (q other)) ≡ true)
    → is_same other auction ≡ true
    → is_published h auction ≡ false
    → query_refusal h s (q other) ≡ None
    → ⊥
shown-never h s auction other q shown same not_yet passed =
    refused-not (query_refusal h s (q other))
    (shown (subst (λ (name : List ℕ). is_published h name ≡ false) (sym (is_same-equal other auction same)) not_yet))
    passed

-- what is read on an auction that isn't published is read on the own part
pub IsReading-own : (h : List Entry) (s auction : List ℕ) (q : Query) (answer : Reading)
    → IsLegal h
    → asks_on auction q ≡ true
    → is_published h auction ≡ false
    → query_refusal h s q ≡ None
    → IsReading h s q answer
    → IsReading (own_part s h) s q answer
IsReading-own h s auction (query.Terms other) (reading.Terms terms) legal asks not_yet passed is =
    ap (λ announced. announcement_of announced other) (announcements-own s h (IsLegal-orderly h legal)) ∙ is
IsReading-own h s auction (query.Results other) (reading.Results results) legal asks not_yet passed is =
    absurd (shown-never h s auction other query.Results
    (λ none. shown-refused h s other (query.Results other) none refl) asks
    not_yet passed)
IsReading-own h s auction (query.Awards other) (reading.Awards lines) legal asks not_yet passed is =
    absurd (shown-never h s auction other query.Awards (λ none. shown-refused h s other (query.Awards other) none refl)
    asks
    not_yet passed)
IsReading-own h s auction (query.Bids other) (reading.Bids lines) legal asks not_yet passed is =
    is ∙ bid_lines-own s h other
IsReading-own h s auction query.Holdings answer legal asks not_yet passed is = absurd cc
IsReading-own h s auction query.Funds answer legal asks not_yet passed is = absurd cc
IsReading-own h s auction (query.Redemption cusip) answer legal asks not_yet passed is = absurd cc
IsReading-own h s auction (query.Terms other) answer legal asks not_yet passed is = absurd is
IsReading-own h s auction (query.Results other) answer legal asks not_yet passed is = absurd is
IsReading-own h s auction (query.Awards other) answer legal asks not_yet passed is = absurd is
IsReading-own h s auction (query.Bids other) answer legal asks not_yet passed is = absurd is

-- the awards of figures come close
figures-close : (h : List Entry) (auction : List ℕ) (a : Announcement) (figures : Option Figures)
    → IsLegal h
    → announcement_of (announcements h) auction ≡ Some a
    → AreFigures (bidding_in h a) figures
    → AreCloseFigures (bidding_in h a) figures
figures-close h auction a None legal found are = tt
figures-close h auction a (Some figures) legal found are =
    let close = IsLegal-close h auction a are.recognised are.awards figures.cut.stop.steps
    figures.cut.percent.hundredths
    legal found are.recognition are.cut.is are.awards_are in
    record {
      recognised = are.recognised;
      awards = are.awards;
      recognition = are.recognition;
      awards_are = are.awards_are;
      competitive = are.competitive;
      reached = close.0;
      short = close.1;
      within = close.2;
    }

-- so do those of results that are read
pub IsReading-close : (h : List Entry) (s : List ℕ) (q : Query) (answer : Reading)
    → IsLegal h → IsReading h s q answer → IsClose h q answer
IsReading-close h s (query.Results other) (reading.Results results) legal is =
    (is.0, is.1, figures-close h other is.0 results.figures legal is.1 is.2.figures)
IsReading-close h s q answer legal is = tt
