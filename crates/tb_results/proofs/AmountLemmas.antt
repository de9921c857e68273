-- The awards of all bidders, each at its number.
use Rattle.std.proofs.Common.{◌≡◌, ℕ, ◌+◌, ◌<◌, ◌≤◌, ◌==◌, cond, refl, sym, ap, ◌∙◌, subst, arith}
use Rattle.std.proofs.Common.{List, [], ◌∷◌, ◌++◌, length, take, map, replicate, get_or, All}
use Rattle.std.proofs.lemmas.Grind.{get_or_default_zero}
use Rattle.std.proofs.lemmas.List.{take_more, ext_get_or, get_or-map, get_or-replicate, length-map, length-replicate}
use Rattle.tb_units.specs.declared.amount.Dollars.{Dollars}
use Rattle.tb_units.specs.declared.lines.RateLine.{RateLine}
use Rattle.tb_units.specs.Multiples.{most_par}
use Rattle.tb_award.specs.Awards.{IsAward, IsInHundreds}
use Rattle.tb_award.specs.declared.outcome.Cut.{Cut}
use Rattle.tb_award.specs.declared.outcome.Outcome.{Outcome}
use Rattle.tb_award.specs.declared.outcome.Outcome.TheVariants as outcome
use Rattle.tb_award.specs.Cuts.{total_of}
use Rattle.tb_book.specs.declared.book_line.BookLine.{BookLine}
use Rattle.tb_book.specs.Books.{noncompetitive_of}
use Rattle.tb_history.specs.declared.roster.Enrolment.{Enrolment}
use Rattle.tb_history.specs.LiveBids.{position_of}
use Rattle.tb_history.specs.Awarded.{Bidding, awarded}
use Rattle.tb_history.specs.Readings.{bidder_at, positions_of}
use Rattle.tb_results.specs.Outcomes.{AwardsComeTo, IsAmountOf, IsCutIn, IsRaisedBy, awards_of}
use Rattle.tb_results.proofs.AwardedLemmas.{AwardsComeTo-push, awarded-none, awarded-whole, awards-within}
use Rattle.tb_results.proofs.SampleLemmas.{nobody}

-- each recognised line is of an enrolled bidder
pub known-recognised : (bidding : Bidding) (lines : List BookLine) (recognised : List RateLine) (answer : Outcome)
    → IsCutIn bidding lines recognised answer
    → All (λ line. line.bidder < length bidding.enrolled) recognised
unfolding positions_of
known-recognised bidding lines recognised answer is k d below =
    omega (
      arith,
      (is.recognition.each k d below).known,
      length-map bidding.enrolled
          (λ (e : Enrolment). position_of bidding.reported bidding.announcement.auction e.bidder),
    )

-- amounts that are each the award of their number's bidder are the awards of all
awards-by_number : (bidding : Bidding) (amounts : List ℕ)
    → length amounts ≡ length bidding.enrolled
    → ((k : ℕ) → k < length bidding.enrolled
    → get_or amounts k 0 ≡ awarded bidding (bidder_at bidding.enrolled k nobody))
    → amounts ≡ awards_of bidding bidding.enrolled
awards-by_number bidding amounts count each =
    let award : Enrolment → ℕ = λ (e : Enrolment). awarded bidding e.bidder in
    ext_get_or 0 amounts (map award bidding.enrolled) (count ∙ sym (length-map bidding.enrolled award))
    (λ k below.
    let inside : k < length bidding.enrolled = omega (arith, below, count) in
    each k inside ∙ sym (get_or-map award bidding.enrolled k nobody 0 inside))

-- so are the noncompetitive par and the awards of each number, where there is a cut
pub amounts-cut : (bidding : Bidding) (lines : List BookLine) (recognised : List RateLine) (cut : Cut)
    (amounts : List ℕ)
    → IsCutIn bidding lines recognised (outcome.Cut cut)
    → length amounts ≡ length bidding.enrolled
    → ((k : ℕ) → k < length bidding.enrolled → IsAmountOf cut recognised lines k (get_or amounts k 0))
    → amounts ≡ awards_of bidding bidding.enrolled
amounts-cut bidding lines recognised cut amounts is count each =
    awards-by_number bidding amounts count
    (λ k inside.
    let own : IsAmountOf cut recognised lines k (get_or amounts k 0) = each k inside in
    let whole : get_or amounts k 0 ≡ own.0 + noncompetitive_of k lines = omega (arith, own.2) in
    awarded-whole bidding lines recognised cut k (get_or amounts k 0) (noncompetitive_of k lines) nobody is
    (own.0, own.1, whole) refl inside)

-- and zeros, where there is none
pub amounts-none : (bidding : Bidding) (lines : List BookLine) (recognised : List RateLine) (count : ℕ)
    → IsCutIn bidding lines recognised outcome.NoAwards
    → count ≡ length bidding.enrolled
    → replicate count 0 ≡ awards_of bidding bidding.enrolled
amounts-none bidding lines recognised count is all =
    awards-by_number bidding (replicate count 0) (length-replicate count 0 ∙ all)
    (λ k inside.
    let below : k < count = omega (arith, inside, all) in
    get_or-replicate count k 0 0 below
    ∙ sym (awarded-none bidding lines recognised (bidder_at bidding.enrolled k nobody) is))

-- amounts by a cut are within the most par
pub amounts-limited : (lines : List BookLine) (recognised : List RateLine) (cut : Cut) (amounts : List ℕ)
    → All IsInHundreds recognised
    → ((k : ℕ) → noncompetitive_of k lines + total_of recognised ≤ most_par)
    → ((k : ℕ) → k < length amounts → IsAmountOf cut recognised lines k (get_or amounts k 0))
    → All (λ amount. amount ≤ most_par) amounts
amounts-limited lines recognised cut amounts hundreds fits each k d below =
    let own : IsAmountOf cut recognised lines k (get_or amounts k 0) = each k below in
    omega (
      arith,
      get_or_default_zero amounts k d below,
      own.2,
      awards-within cut recognised k own.0 hundreds own.1,
      fits k,
    )

-- an amount is raised by one line more
pub raised-more : (cut : Cut) (lines : List RateLine) (place : ℕ) (line : RateLine) (award : Dollars)
    (bidder old now : ℕ)
    → place < length lines
    → get_or lines place line ≡ line
    → IsRaisedBy cut (take place lines) bidder old now
    → IsAward cut.stop.steps cut.percent.hundredths line.rate.steps line.amount.value award.value
    → IsRaisedBy cut (take (place + 1) lines) bidder old (now + cond (line.bidder == bidder) award.value 0)
raised-more cut lines place line award bidder old now within there raised is =
    let part : ℕ = cond (line.bidder == bidder) award.value 0 in
    let step : take (place + 1) lines ≡ take place lines ++ line ∷ [] =
    take_more lines place line within ∙ ap (λ x. take place lines ++ x ∷ []) there in (
      raised.0 + part,
      subst (λ (ls : List RateLine). AwardsComeTo cut ls bidder (raised.0 + part)) (sym step)
          (AwardsComeTo-push cut (take place lines) line award bidder raised.0 part raised.1 is refl),
      omega (arith, raised.2),
    )

-- the award at a place is its bidder's
pub award_at : (bidding : Bidding) (bidders : List Enrolment) (awards : List ℕ) (place : ℕ) (e : Enrolment)
    → place < length bidders
    → e ≡ get_or bidders place e
    → awards ≡ awards_of bidding bidders
    → get_or awards place 0 ≡ awarded bidding e.bidder
award_at bidding bidders awards place e short is same =
    let award : Enrolment → ℕ = λ (x : Enrolment). awarded bidding x.bidder in
    ap (λ (xs : List ℕ). get_or xs place 0) same
    ∙ (get_or-map award bidders place e 0 short ∙ ap award (sym is))

-- there are as many awards as bidders
pub awards-many : (bidding : Bidding) (bidders : List Enrolment) (awards : List ℕ)
    → awards ≡ awards_of bidding bidders
    → length awards ≡ length bidders
awards-many bidding bidders awards same =
    ap (λ (xs : List ℕ). length xs) same ∙ length-map bidders (λ (x : Enrolment). awarded bidding x.bidder)
