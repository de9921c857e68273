-- What is recognised of a book's lines, and where they are cut, is so of the bidding.
use Rattle.std.proofs.Common.{◌≡◌, ℕ, ℤ, ◌%◌, ◌<◌, ◌≤◌, List, [], ◌∷◌, length, All, refl, sym, ap, ◌∙◌, subst, arith}
use Rattle.tb_units.specs.declared.lines.RateLine.{RateLine}
use Rattle.tb_price.specs.Prices.{HasPrice}
use Rattle.tb_terms.specs.declared.announcement.Announcement.{Announcement}
use Rattle.tb_terms.specs.declared.terms.Terms.{Terms}
use Rattle.tb_award.specs.declared.outcome.Cut.{Cut}
use Rattle.tb_award.specs.declared.outcome.Outcome.{Outcome}
use Rattle.tb_award.specs.declared.outcome.Outcome.TheVariants as outcome
use Rattle.tb_award.specs.Cuts.{IsCutOf, amount_of, total_of}
use Rattle.tb_award.specs.Limits.{cap_of, sought_of}
use Rattle.tb_award.specs.Recognition.{IsRecognitionOf, bid_in, limits_by}
use Rattle.tb_award.proofs.CallerLemmas.{AreRecognised-same, recognised-rates}
use Rattle.tb_book.specs.declared.book_line.BookLine.{BookLine}
use Rattle.tb_book.specs.Books as books
use Rattle.tb_book.specs.Books.{most_bid, par_in, rate_lines}
use Rattle.tb_history.specs.Awarded.{Bidding, sought_in}
use Rattle.tb_history.specs.Readings.{AreRecognisedOf, days_of, lines_of, positions_of}
use Rattle.tb_history.proofs.FigureLemmas.{positions-length}
use Rattle.tb_results.specs.Biddings.{IsBookOf}
use Rattle.tb_results.specs.Outcomes.{IsCutIn, IsOutcome}
use Rattle.tb_results.proofs.BookedLemmas.{bid_in-booked, known-booked, noncompetitive-booked, priced-booked, sum_by-lines_of}

-- a book's offering is the bidding's, in whole hundreds
pub offering-hundreds : (bidding : Bidding) (terms : Terms) (lines : List BookLine) (positions : List ℤ)
    → IsBookOf bidding terms lines positions
    → terms.announcement.offering.value % 100 ≡ 0
offering-hundreds bidding terms lines positions is =
    ap (λ (a : Announcement). a.offering.value % 100) is.announced ∙ is.sound.offering

-- each line of a rate has a position
pub known-positions : (bidding : Bidding) (terms : Terms) (lines : List BookLine) (positions : List ℤ)
    → IsBookOf bidding terms lines positions
    → All (λ line. line.bidder < length positions) (rate_lines lines)
known-positions bidding terms lines positions is =
    let size : length positions ≡ length bidding.enrolled = ap length is.reported ∙ positions-length bidding in
    subst (λ (n : ℕ). All (λ line. line.bidder < n) (rate_lines lines)) (sym size)
    (known-booked bidding lines is.sound is.booked)

-- the days of the terms are the bill's
pub days-booked : (bidding : Bidding) (terms : Terms) (lines : List BookLine) (positions : List ℤ)
    → IsBookOf bidding terms lines positions
    → terms.days.count ≡ days_of bidding.announcement
days-booked bidding terms lines positions is = terms.days_are ∙ ap days_of is.announced

-- what is recognised has a price
pub recognised-priced : (bidding : Bidding) (terms : Terms) (lines : List BookLine) (positions : List ℤ)
    (recognised : List RateLine)
    → IsBookOf bidding terms lines positions
    → IsRecognitionOf (rate_lines lines) positions terms.announcement.offering.value recognised
    → All (λ line. HasPrice line.rate.steps terms.days.count) recognised
recognised-priced bidding terms lines positions recognised is are =
    let offering = terms.announcement.offering.value in
    let priced =
    subst (λ (n : ℕ). All (λ line. HasPrice line.rate.steps n) (rate_lines lines))
    (sym (days-booked bidding terms lines positions is)) (priced-booked bidding lines is.sound is.booked) in
    recognised-rates (λ steps. HasPrice steps terms.days.count) (rate_lines lines) (cap_of offering)
    (limits_by offering positions) (length positions) recognised priced are

-- it is what is recognised of the bidding
pub recognised-booked : (bidding : Bidding) (terms : Terms) (lines : List BookLine) (positions : List ℤ)
    (recognised : List RateLine)
    → IsBookOf bidding terms lines positions
    → IsRecognitionOf (rate_lines lines) positions terms.announcement.offering.value recognised
    → AreRecognisedOf bidding recognised
recognised-booked bidding terms lines positions recognised is are =
    let offering = bidding.announcement.offering.value in
    let offered : IsRecognitionOf (rate_lines lines) positions offering recognised =
    subst (λ (a : Announcement). IsRecognitionOf (rate_lines lines) positions a.offering.value recognised) is.announced
    are in
    let placed : IsRecognitionOf (rate_lines lines) (positions_of bidding) offering recognised =
    subst (λ (ps : List ℤ). IsRecognitionOf (rate_lines lines) ps offering recognised) is.reported offered in
    let limits = limits_by offering (positions_of bidding) in
    AreRecognised-same (bid_in (rate_lines lines)) (bid_in (lines_of bidding)) (cap_of offering) limits limits
    (length (positions_of bidding)) recognised
    (λ bidder steps. bid_in-booked bidding lines bidder steps is.booked) (λ bidder below. refl) placed

-- the amount sought is the bidding's
pub sought-booked : (bidding : Bidding) (terms : Terms) (lines : List BookLine) (positions : List ℤ)
    → IsBookOf bidding terms lines positions
    → sought_of terms.announcement.offering.value (books.noncompetitive_in lines)
    terms.announcement.competitive_floor.value
    ≡ sought_in bidding
sought-booked bidding terms lines positions is =
    ap (λ (a : Announcement). sought_of a.offering.value (books.noncompetitive_in lines) a.competitive_floor.value)
    is.announced
    ∙ ap (λ n. sought_of bidding.announcement.offering.value n bidding.announcement.competitive_floor.value)
    (noncompetitive-booked bidding lines is.booked)

-- what a cut answers, for an amount sought and days
pub record IsAnswered (recognised : List RateLine) (sought days : ℕ) (answer : Outcome) : Type 0 where
  pub none : answer ≡ outcome.NoAwards → recognised ≡ []
  pub empty : recognised ≡ [] → answer ≡ outcome.NoAwards
  pub cut : (cut : Cut) → answer ≡ outcome.Cut cut → IsCutOf recognised sought days cut

-- a list that isn't empty has a line
not_empty : (recognised : List RateLine) → ¬ (recognised ≡ []) → 0 < length recognised
not_empty [] some = absurd (some refl)
not_empty (line ∷ lines) some = omega arith

-- it is what becomes of a bidding with that amount sought and those days
outcome-answered : (bidding : Bidding) (recognised : List RateLine) (sought days : ℕ) (answer : Outcome)
    → sought ≡ sought_in bidding
    → days ≡ days_of bidding.announcement
    → IsAnswered recognised sought days answer
    → IsOutcome bidding recognised answer
outcome-answered bidding recognised sought days outcome.NoAwards sought_is days_are is = is.none refl
outcome-answered bidding recognised sought days (outcome.Cut cut) sought_is days_are is = (
  not_empty recognised (λ nothing. let wrong : outcome.Cut cut ≡ outcome.NoAwards = is.empty nothing in cc),
  subst (λ (n : ℕ). IsCutOf recognised (sought_in bidding) n cut) days_are
      (subst (λ (n : ℕ). IsCutOf recognised n days cut) sought_is (is.cut cut refl)),
)

-- so the book's cut is the bidding's
pub cut-booked : (bidding : Bidding) (terms : Terms) (lines : List BookLine) (positions : List ℤ)
    (recognised : List RateLine) (sought : ℕ) (answer : Outcome)
    → IsBookOf bidding terms lines positions
    → par_in lines ≤ most_bid
    → IsRecognitionOf (rate_lines lines) positions terms.announcement.offering.value recognised
    → total_of recognised ≤ total_of (rate_lines lines)
    → sought ≡ sought_of terms.announcement.offering.value (books.noncompetitive_in lines)
    terms.announcement.competitive_floor.value
    → IsAnswered recognised sought terms.days.count answer
    → IsCutIn bidding lines recognised answer
cut-booked bidding terms lines positions recognised sought answer is limited are within sought_is answered = record {
  sound = is.sound;
  booked = is.booked;
  limited = limited;
  recognition = recognised-booked bidding terms lines positions recognised is are;
  within = omega (arith, within, sum_by-lines_of amount_of bidding lines is.booked);
  is = outcome-answered bidding recognised sought terms.days.count answer
      (sought_is ∙ sought-booked bidding terms lines positions is)
      (days-booked bidding terms lines positions is) answered;
}
