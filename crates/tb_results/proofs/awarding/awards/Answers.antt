-- The lines are those of the bidding that the book is of.
use Rattle.std.proofs.Common.{◌≡◌, ◌∙◌, ℕ, List, ap, length, sym}
use Rattle.tb_units.specs.declared.lines.RateLine.{RateLine}
use Rattle.tb_award.specs.declared.outcome.Outcome.{Outcome}
use Rattle.tb_book.specs.declared.book_line.BookLine.{BookLine}
use Rattle.tb_history.specs.declared.roster.Enrolment.{Enrolment}
use Rattle.tb_history.specs.Awarded.{Bidding}
use Rattle.tb_results.specs.Outcomes.{AreAwardedIn, IsCutIn, awards_of}
use Rattle.tb_results.proofs.awarding.awards.Goals as goal

-- the amounts are what all bidders are awarded
all_awarded : (bidding : Bidding) (lines : List BookLine) (recognised : List RateLine) (answer : Outcome)
    (bidders : List Enrolment) (amounts items : List ℕ)
    → IsCutIn bidding lines recognised answer
    → bidders ≡ bidding.enrolled
    → amounts ≡ items
    → items ≡ awards_of bidding bidding.enrolled
    → AreAwardedIn bidding lines recognised answer bidders amounts
all_awarded bidding lines recognised answer bidders amounts items is enrolled same awarded = record {
  cut = is;
  enrolled = enrolled;
  amounts_are = same ∙ (awarded ∙ ap (awards_of bidding) (sym enrolled));
}

-- as many as are enrolled
as_many : (bidding : Bidding) (bidders : List Enrolment)
    → bidders ≡ bidding.enrolled
    → length bidders ≡ length bidding.enrolled
as_many bidding bidders enrolled = ap (λ (es : List Enrolment). length es) enrolled

pub award_all-requires-clause-bidding : goal.award_all-requires-clause-bidding
award_all-requires-clause-bidding c = (
  c.requires.bidding.0,
  c.cut_book-outcome.ensures.cut c.requires.bidding.0 c.requires.bidding.1,
  as_many c.requires.bidding.0 c.args.bidders.now c.requires.bidding.2,
)

pub award_lines-requires-clause-bidding : goal.award_lines-requires-clause-bidding
award_lines-requires-clause-bidding c =
    let bidding = c.requires.bidding.0 in
    let enrolled = c.requires.bidding.2 in
    let is = c.cut_book-outcome.ensures.cut bidding c.requires.bidding.1 in (
      bidding,
      c.cut_book-outcome.new.into.lines,
      all_awarded bidding c.args.book.now.lines c.cut_book-outcome.new.into.lines c.cut_book-outcome.result
          c.args.bidders.now c.deref.result.now c.award_all.new.into.items is enrolled c.deref.ensures.value
          (c.award_all.ensures.awards bidding is (as_many bidding c.args.bidders.now enrolled)),
    )

pub returns-clause-lines : goal.returns-clause-lines
returns-clause-lines c bidding book enrolled =
    let is = c.cut_book-outcome.ensures.cut bidding book in
    c.in_ok-lines.ensures bidding c.cut_book-outcome.new.into.lines
    (all_awarded bidding c.args.book.now.lines c.cut_book-outcome.new.into.lines c.cut_book-outcome.result
    c.args.bidders.now c.deref.result.now c.award_all.new.into.items is enrolled c.deref.ensures.value
    (c.award_all.ensures.awards bidding is (as_many bidding c.args.bidders.now enrolled)))

pub returns-clause-addon : goal.returns-clause-addon
returns-clause-addon c bidding book =
    c.add_on_line-addon.ensures bidding c.args.book.now.lines c.cut_book-outcome.new.into.lines
    (c.cut_book-outcome.ensures.cut bidding book)
