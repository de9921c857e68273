-- The text of an auction, from what is kept of its book.
use Rattle.std.proofs.Common.{◌≡◌, ℕ, ℤ, pos, ◌+◌, ◌*◌, ◌^◌, ◌≤◌, Bool, true, false, List, [], length, get_or, slice_index, subst, ap, ◌∙◌, arith, inl, inr}
use Rattle.std.specs.Prelude.{All}
use Rattle.std.proofs.lemmas.List.Sums.{sum_by-le}
use Rattle.tb_units.specs.declared.lines.RateLine.{RateLine}
use Rattle.tb_price.specs.Prices.{HasPrice}
use Rattle.tb_award.specs.Awards.{awarded_to}
use Rattle.tb_award.specs.Cuts.{IsCut, IsCutOf, amount_of, par_of, total_of}
use Rattle.tb_award.specs.Limits.{cap_of, limit_of, sought_of}
use Rattle.tb_award.specs.Recognition.{AreRecognised, IsRecognitionOf, bid_in, limits_by}
use Rattle.tb_award.specs.declared.outcome.Cut.{Cut}
use Rattle.tb_award.proofs.CallerLemmas.{AreRecognised-same, recognised-rates}
use Rattle.tb_text_book.specs.AwardTexts.{HasAllLines, HasCutText, HasNothingText}
use Rattle.tb_text_book.specs.BookRun.{AreAllLines, IsAwardText, WhereFull, gets}
use Rattle.tb_text_book.specs.Books.{Book}
use Rattle.tb_text_book.specs.Bids.{bid_at, noncompetitive_in, position_of}
use Rattle.tb_text_book.specs.declared.book_line.Offering.{Offering}
use Rattle.tb_text_book.specs.Tallies.{IsKept, IsTally}
use Rattle.tb_text_book.specs.declared.text_book.TextBook.{TextBook}
use Rattle.tb_text_book.proofs.AwardLemmas.{award-lines-same}
use Rattle.tb_text_book.proofs.TallyLemmas.{noncompetitive_of-le}

-- what is recognised of the bids of a book, by each bidder's position
abbrev pub AreRecognisedOf : Offering → Book → List RateLine → Type 0
AreRecognisedOf offering book recognised =
    AreRecognised (bid_at book.entries) (cap_of offering.amount.value)
    (λ bidder. limit_of offering.amount.value (position_of book.entries bidder)) (length book.names) recognised

-- what is recognised of the lines is what is recognised of the book
pub recognised-of-book : (book : Book) (kept : TextBook) (positions : List ℤ) (recognised : List RateLine)
    → IsTally book kept
    → positions ≡ kept.positions.items
    → IsRecognitionOf kept.lines.items positions kept.offering.amount.value recognised
    → AreRecognisedOf kept.offering book recognised
recognised-of-book book kept positions recognised tally positions_are are =
    let offering = kept.offering.amount.value in
    let limits : ℕ → ℕ = λ bidder. limit_of offering (position_of book.entries bidder) in
    let size : length positions ≡ length book.names = ap length positions_are ∙ tally.positions_size in
    subst (λ (n : ℕ). AreRecognised (bid_at book.entries) (cap_of offering) limits n recognised) size
    (AreRecognised-same (bid_in kept.lines.items) (bid_at book.entries) (cap_of offering)
    (limits_by offering positions) limits (length positions) recognised tally.lines.bids
    (λ bidder below. ap (λ (all : List ℤ). limit_of offering (get_or all bidder (pos 0))) positions_are
    ∙ ap (limit_of offering) (tally.positions bidder (omega (arith, below, size)))) are)

-- the competitive bids are at most 10 ^ 18, and each bidder's sum is
pub lines-fit : (book : Book) (kept : TextBook) → IsKept book kept → total_of kept.lines.items ≤ 10 ^ 18
lines-fit book kept is =
    let lines = is.tally.lines in
    let low : total_of kept.lines.items ≤ length kept.lines.items * 10 ^ 12 =
    sum_by-le amount_of (10 ^ 12) kept.lines.items (λ k d below. (lines.sound k d below).most) in
    omega (arith, low, lines.few, is.few)

-- the sums that are kept fit
pub sums-fit : (book : Book) (kept : TextBook)
    → IsKept book kept
    → All (λ sum. sum ≤ 10 ^ 19) kept.sums.items
sums-fit book kept is = λ k d below.
    omega (
      arith,
      is.tally.sums k d (omega (arith, below, is.tally.sums_size)),
      noncompetitive_of-le
          book.entries k,
      is.tally.noncompetitive,
      is.tally.bounded,
      is.few,
    )

-- what is recognised has a price
pub lines-priced : (book : Book) (kept : TextBook) (positions : List ℤ) (recognised : List RateLine)
    → IsTally book kept
    → IsRecognitionOf kept.lines.items positions kept.offering.amount.value recognised
    → All (λ line. HasPrice line.rate.steps kept.offering.days.count) recognised
lines-priced book kept positions recognised tally are =
    recognised-rates (λ steps. HasPrice steps kept.offering.days.count) kept.lines.items
    (cap_of kept.offering.amount.value) (limits_by kept.offering.amount.value positions) (length positions) recognised
    (λ k d below. (tally.lines.sound k d below).priced) are

-- a weaker fact of a text that is printed where it is asked for
where-full : (full : Bool) (P Q : List ℕ → Type 0) (text : List ℕ)
    → ((t : List ℕ) → P t → Q t)
    → WhereFull full P text
    → WhereFull full Q text
where-full true P Q text more is = more text is
where-full false P Q text more is = is

-- the lines of all bidders for what is kept are those for the book
all-lines : (book : Book) (kept : TextBook) (cut : Cut) (recognised : List RateLine) (text : List ℕ)
    → IsTally book kept
    → HasAllLines cut recognised book.names kept.sums.items text
    → AreAllLines cut.stop.steps cut.percent.hundredths cut.price.millionths book recognised text
all-lines book kept cut recognised text tally has = record {
  awards = has.has.awards;
  awarded = has.has.awarded;
  lines = award-lines-same (slice_index has.amounts) (gets book has.has.awards) cut.price.millionths 0 book.names text
      (λ k below. has.has.are k 0 (omega (arith, below, tally.sums_size))
      ∙ ap (λ n. awarded_to k has.has.awards + n) (tally.sums k 0 (omega (arith, below)))) has.lines;
}

-- an auction of a text book that stands for a book: its bidders and positions, and what is recognised of its lines
pub record IsAuctionOf (book : Book) (kept : TextBook) (names : List (List ℕ))
    (recognised : List RateLine) : Type 0 where
  pub tally : IsTally book kept
  pub names_are : names ≡ kept.bidders.keys
  pub positions : List ℤ
  pub positions_are : positions ≡ kept.positions.items
  pub recognised_are : IsRecognitionOf kept.lines.items positions kept.offering.amount.value recognised

-- its cut, and the text of that
pub record HasCut (kept : TextBook) (names : List (List ℕ)) (recognised : List RateLine) (full : Bool) (cut : Cut)
    (text : List ℕ) : Type 0 where
  pub sums : List ℕ
  pub sums_are : sums ≡ kept.sums.items
  pub sought : ℕ
  pub sought_is : sought ≡ sought_of kept.offering.amount.value kept.noncompetitive.value kept.offering.floor.value
  pub is : IsCutOf recognised sought kept.offering.days.count cut
  pub text_is : HasCutText full cut recognised names sums text

-- then it is the text of the book's auction
pub cut-text : (full : Bool) (book : Book) (kept : TextBook) (names : List (List ℕ)) (recognised : List RateLine)
    (cut : Cut) (text : List ℕ)
    → IsAuctionOf book kept names recognised
    → HasCut kept names recognised full cut text
    → IsAwardText full kept.offering book text
cut-text full book kept names recognised cut text auction has =
    let tally = auction.tally in
    let offering = kept.offering in
    let of_names : HasCutText full cut recognised book.names has.sums text =
    subst (λ (bidders : List (List ℕ)). HasCutText full cut recognised bidders has.sums text)
    (auction.names_are ∙ tally.names) has.text_is in
    let of_sums : HasCutText full cut recognised book.names kept.sums.items text =
    subst (λ (all : List ℕ). HasCutText full cut recognised book.names all text) has.sums_are of_names in
    let sought_of_book : has.sought
    ≡ sought_of offering.amount.value (noncompetitive_in book.entries) offering.floor.value =
    has.sought_is ∙ ap (λ n. sought_of offering.amount.value n offering.floor.value) tally.noncompetitive in
    record {
      recognised = recognised;
      are = recognised-of-book book kept auction.positions recognised tally auction.positions_are
          auction.recognised_are;
      is = inl (record {
        stop = cut.stop.steps;
        percent = cut.percent.hundredths;
        price = cut.price.millionths;
        bidders = of_sums.bidders;
        cut = subst (λ (n : ℕ). IsCut (par_of recognised) n cut.stop.steps cut.percent.hundredths)
            sought_of_book has.is.is;
        priced = has.is.price;
        bidders_are = where-full full (HasAllLines cut recognised book.names kept.sums.items)
            (AreAllLines cut.stop.steps cut.percent.hundredths cut.price.millionths book recognised) of_sums.bidders
            (λ t lines. all-lines book kept cut recognised t tally lines) of_sums.bidders_are;
        is = of_sums.is;
      });
    }

-- the text where nobody gets an award
pub nothing-text : (full : Bool) (book : Book) (kept : TextBook) (names : List (List ℕ)) (recognised : List RateLine)
    (text : List ℕ)
    → IsAuctionOf book kept names recognised
    → recognised ≡ []
    → HasNothingText full names text
    → IsAwardText full kept.offering book text
nothing-text full book kept names recognised text auction empty has =
    let tally = auction.tally in
    let of_names : HasNothingText full book.names text =
    subst (λ (bidders : List (List ℕ)). HasNothingText full bidders text) (auction.names_are ∙ tally.names) has in
    record {
      recognised = recognised;
      are = recognised-of-book book kept auction.positions recognised tally auction.positions_are
          auction.recognised_are;
      is = inr (empty, (of_names.bidders, of_names.bidders_are, of_names.is));
    }
