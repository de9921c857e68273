-- A text of bids has one text of its auction.
use Rattle.std.proofs.Common.{◌≡◌, ℕ, suc, ◌<◌, List, [], ◌∷◌, ◌++◌, sym, subst, ap, ◌∙◌, arith, inl, inr, ◌⊎◌}
use Rattle.std.specs.Prelude.{Bool, true, false}
use Rattle.std.specs.Str.Lines.{lines}
use Rattle.tb_units.specs.declared.lines.RateLine.{RateLine}
use Rattle.tb_price.specs.Prices.{IsPrice}
use Rattle.tb_price.proofs.OneLemmas.{IsPayment-one, IsPrice-one}
use Rattle.tb_award.specs.Cuts.{IsCut, par_of}
use Rattle.tb_award.specs.Limits.{cap_of, sought_of}
use Rattle.tb_award.proofs.AwardLemmas.{AreAwards-one}
use Rattle.tb_award.proofs.CutLemmas.{IsCut-one}
use Rattle.tb_award.proofs.RecognitionLemmas.{AreRecognised-one}
use Rattle.tb_text_book.specs.Bids.{bid_at, noncompetitive_in}
use Rattle.tb_text_book.specs.Books.{Book, IsFront}
use Rattle.tb_text_book.specs.BookRun.{AreAllLines, AreAwardLines, IsAwardText, IsBookRun, IsCutText, IsNothingText, WhereFull, award_line, cut_text, gets, no_awards_text}
use Rattle.tb_text_book.specs.declared.book_line.Offering.{Offering}
use Rattle.tb_text_book.proofs.ReadLemmas.{IsSoundOffering-line}
use Rattle.tb_commands.proofs.UniqueLemmas.{BeginsWithBook-one}

-- amounts and a price have one text of lines
award-lines-one : (amounts : ℕ → ℕ) (price number : ℕ) (names : List (List ℕ)) (one other : List ℕ)
    → AreAwardLines amounts price number names one
    → AreAwardLines amounts price number names other
    → one ≡ other
award-lines-one amounts price number [] one other are are' = are ∙ sym are'
award-lines-one amounts price number (name ∷ names) one other are are' =
    let cents : are.0 ≡ are'.0 = IsPayment-one (amounts number) price are.0 are'.0 are.2 are'.2 in
    let rest : are.1 ≡ are'.1 = award-lines-one amounts price (suc number) names are.1 are'.1 are.4 are'.4 in
    are.3
    ∙ (ap (λ (n : ℕ). award_line name (amounts number) n ++ are.1) cents
    ∙ (ap (λ (text : List ℕ). award_line name (amounts number) are'.0 ++ text) rest ∙ sym are'.3))

-- so have a stop, a percentage and a price
all-lines-one : (stop percent price : ℕ) (book : Book) (recognised : List RateLine) (one other : List ℕ)
    → AreAllLines stop percent price book recognised one
    → AreAllLines stop percent price book recognised other
    → one ≡ other
all-lines-one stop percent price book recognised one other are are' =
    let same : are'.awards ≡ are.awards =
    AreAwards-one stop percent recognised are'.awards are.awards are'.awarded are.awarded in
    award-lines-one (gets book are.awards) price 0 book.names one other are.lines
    (subst (λ (awards : List RateLine). AreAwardLines (gets book awards) price 0 book.names other) same are'.lines)

-- and what is printed only where it is asked for
where-full-one : (full : Bool) (P : List ℕ → Type 0) (one other : List ℕ)
    → ((a b : List ℕ) → P a → P b → a ≡ b)
    → WhereFull full P one
    → WhereFull full P other
    → one ≡ other
where-full-one true P one other unique is is' = unique one other is is'
where-full-one false P one other unique is is' = is ∙ sym is'

-- the text of a cut is one
module _ (full : Bool) (offering : Offering) (book : Book) (recognised : List RateLine) where
  -- with one stop and one percentage
  same-cut : (stop percent stop' percent' : ℕ) (one other : List ℕ)
      → stop' ≡ stop
      → percent' ≡ percent
      → (price price' : ℕ) (bidders bidders' : List ℕ)
      → IsPrice stop offering.days.count price
      → IsPrice stop' offering.days.count price'
      → WhereFull full (AreAllLines stop percent price book recognised) bidders
      → WhereFull full (AreAllLines stop' percent' price' book recognised) bidders'
      → one ≡ cut_text stop percent price ++ bidders
      → other ≡ cut_text stop' percent' price' ++ bidders'
      → one ≡ other
  same-cut stop percent stop' percent' one other stops percents price price' bidders bidders' priced priced' are are'
      is is' =
      let prices : price' ≡ price = IsPrice-one stop offering.days.count price' price
      (subst (λ (s : ℕ). IsPrice s offering.days.count price') stops priced') priced in
      let here : WhereFull full (AreAllLines stop percent price book recognised) bidders' =
      subst (λ (y : ℕ × ℕ × ℕ). WhereFull full (AreAllLines y.0 y.1 y.2 book recognised) bidders')
      (λ i. (stops i, percents i, prices i)) are' in
      let texts : bidders ≡ bidders' =
      where-full-one full (AreAllLines stop percent price book recognised) bidders bidders'
      (all-lines-one stop percent price book recognised) are here in
      is
      ∙ (ap (λ (text : List ℕ). cut_text stop percent price ++ text) texts
      ∙ (sym (ap (λ (y : ℕ × ℕ × ℕ). cut_text y.0 y.1 y.2 ++ bidders') (λ i. (stops i, percents i, prices i)))
      ∙ sym is'))

  -- the texts of two cuts are one
  cut-text-one : (one other : List ℕ)
      → IsCutText full offering book recognised one
      → IsCutText full offering book recognised other
      → one ≡ other
  cut-text-one one other is is' =
      let sought = sought_of offering.amount.value (noncompetitive_in book.entries) offering.floor.value in
      let cut = IsCut-one recognised sought is'.stop is.stop is'.percent is.percent is'.cut is.cut in
      same-cut is.stop is.percent is'.stop is'.percent one other cut.0 cut.1 is.price is'.price is.bidders is'.bidders
      is.priced is'.priced is.bidders_are is'.bidders_are is.is is'.is

  -- and so are two texts without awards
  nothing-text-one : (one other : List ℕ)
      → IsNothingText full book recognised one
      → IsNothingText full book recognised other
      → one ≡ other
  nothing-text-one one other is is' =
      let texts : is.1.0 ≡ is'.1.0 =
      where-full-one full _ is.1.0 is'.1.0 (λ a b a_is b_is. a_is ∙ sym b_is) is.1.1 is'.1.1 in
      is.1.2 ∙ (ap (λ (text : List ℕ). no_awards_text ++ text) texts ∙ sym is'.1.2)

  -- where nothing is recognised there is no cut of a positive amount
  no-cut : (sought stop percent : ℕ)
      → recognised ≡ []
      → 0 < sought
      → IsCut (par_of recognised) sought stop percent
      → ⊥
  no-cut sought stop percent none some cut =
      never (subst (λ (lines : List RateLine). IsCut (par_of lines) sought stop percent) none cut)
    where
      never : IsCut (par_of []) sought stop percent → ⊥
      never (inl reaches) = omega (arith, reaches.reached)
      never (inr short) = omega (arith, short.bid)

  -- a text is that of a cut or of none
  text-one : (one other : List ℕ)
      → 0 < offering.floor.value
      → (IsCutText full offering book recognised one) ⊎ (IsNothingText full book recognised one)
      → (IsCutText full offering book recognised other) ⊎ (IsNothingText full book recognised other)
      → one ≡ other
  text-one one other some (inl is) (inl is') = cut-text-one one other is is'
  text-one one other some (inl is) (inr none) = absurd (no-cut _ is.stop is.percent none.0 (omega arith) is.cut)
  text-one one other some (inr none) (inl is) = absurd (no-cut _ is.stop is.percent none.0 (omega arith) is.cut)
  text-one one other some (inr is) (inr is') = nothing-text-one one other is is'

-- an offering that was read has a floor
front-floor : (front : List (List ℕ)) (offering : Offering) (book : Book) → IsFront front offering book
    → 0 < offering.floor.value
front-floor [] offering book is = absurd is
front-floor (first ∷ texts) offering book is =
    let sound = IsSoundOffering-line offering (first, is.0) in omega (arith, sound.floor.some)

-- a book has one text of its auction
award-text-one : (full : Bool) (offering : Offering) (book : Book) (one other : List ℕ)
    → 0 < offering.floor.value
    → IsAwardText full offering book one
    → IsAwardText full offering book other
    → one ≡ other
award-text-one full offering book one other some is is' =
    let same : is'.recognised ≡ is.recognised =
    AreRecognised-one (bid_at book.entries) (cap_of offering.amount.value) _ _
    is'.recognised is.recognised is'.are is.are in
    text-one full offering book is.recognised one other some is.is
    (subst (λ (lines : List RateLine). (IsCutText full offering book lines other)
    ⊎ (IsNothingText full book lines other))
    same is'.is)

-- and so has an input
pub IsBookRun-one : (full : Bool) (input one other : List ℕ)
    → IsBookRun full input one
    → IsBookRun full input other
    → one ≡ other
IsBookRun-one full input one other run run' =
    let same = BeginsWithBook-one (lines input) run'.offering run.offering run'.book run.book run'.begins run.begins in
    award-text-one full run.offering run.book one other
    (front-floor run.begins.front run.offering run.book run.begins.front_is)
    run.award
    (subst (λ (y : Offering × Book). IsAwardText full y.0 y.1 other) (λ i. (same.offering_is i, same.book_is i))
    run'.award)
