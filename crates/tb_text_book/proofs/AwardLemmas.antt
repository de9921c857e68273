-- What each bidder gets, and the lines that say so.
use Rattle.std.proofs.Common.{◌≡◌, ℕ, suc, ◌+◌, ◌*◌, ◌<◌, ◌≤◌, cond, List, [], ◌∷◌, ◌++◌, length, get_or, set, slice_index, sym, subst, ap, ◌∙◌, refl, arith, append_assoc, append-nil, inl, inr}
use Rattle.std.proofs.lemmas.Bool.{cases_eq, eq-eqb, ne_eqb}
use Rattle.std.proofs.lemmas.List.{length-append, length-set, get_or-set_same, get_or-set_other}
use Rattle.tb_units.specs.declared.lines.RateLine.{RateLine}
use Rattle.tb_price.specs.Payments.{IsPayment}
use Rattle.tb_award.specs.Awards.{AreAwards, IsAward, awarded_to}
use Rattle.tb_award.proofs.AwardLemmas.{AreAwards_push, award-le, awarded_to-le, awarded_to_push, total_of_push}
use Rattle.tb_award.specs.Cuts.{total_of}
use Rattle.tb_text_book.specs.BookRun.{AreAwardLines, award_line, nothing_lines}

-- one line more
pub award-lines-more : (amounts : ℕ → ℕ) (price number : ℕ) (names : List (List ℕ)) (text name : List ℕ) (cents : ℕ)
    → AreAwardLines amounts price number names text
    → IsPayment (amounts (number + length names)) price cents
    → AreAwardLines amounts price number (names ++ name ∷ [])
    (text ++ award_line name (amounts (number + length names)) cents)
award-lines-more amounts price number [] text name cents are paid =
    let here : number + 0 ≡ number = omega arith in (
      cents,
      [],
      subst (λ (n : ℕ). IsPayment (amounts n) price cents) here paid,
      ap (λ t. t ++ award_line name (amounts (number + 0)) cents) are
          ∙ ap (λ n. award_line name (amounts n) cents) here
          ∙ sym (append-nil (award_line name (amounts number) cents)),
      refl,
    )
award-lines-more amounts price number (n ∷ names) text name cents are paid =
    let next : number + suc (length names) ≡ suc number + length names = omega arith in (
      are.0,
      are.1 ++ award_line name (amounts (number + suc (length names))) cents,
      are.2,
      ap (λ t. t ++ award_line name (amounts (number + suc (length names))) cents) are.3
          ∙ append_assoc (award_line n (amounts number) are.0) are.1
          (award_line name (amounts (number + suc (length names))) cents),
      subst (λ (k : ℕ). AreAwardLines amounts price (suc number) (names ++ name ∷ [])
          (are.1 ++ award_line name (amounts k) cents)) (sym next)
          (award-lines-more amounts price (suc number) names are.1 name cents are.4
          (subst (λ (k : ℕ). IsPayment (amounts k) price cents) next paid)),
    )

-- lines for amounts that are the same
pub award-lines-same : (f g : ℕ → ℕ) (price number : ℕ) (names : List (List ℕ)) (text : List ℕ)
    → ((k : ℕ) → k < number + length names → f k ≡ g k)
    → AreAwardLines f price number names text
    → AreAwardLines g price number names text
award-lines-same f g price number [] text same are = are
award-lines-same f g price number (name ∷ names) text same are =
    let here : f number ≡ g number = same number (omega arith) in (
      are.0,
      are.1,
      subst (λ (n : ℕ). IsPayment n price are.0) here are.2,
      are.3 ∙ ap (λ n. award_line name n are.0 ++ are.1) here,
      award-lines-same f g price (suc number) names are.1 (λ k below. same k (omega arith)) are.4,
    )

-- one line more of a bidder who gets nothing
pub nothing-lines-more : (names : List (List ℕ)) (name : List ℕ)
    → nothing_lines (names ++ name ∷ []) ≡ nothing_lines names ++ award_line name 0 0
nothing-lines-more [] name = append-nil (award_line name 0 0)
nothing-lines-more (n ∷ names) name =
    ap (λ t. award_line n 0 0 ++ t) (nothing-lines-more names name)
    ∙ sym (append_assoc (award_line n 0 0) (nothing_lines names) (award_line name 0 0))

-- what each bidder gets by the lines so far
pub record AmountsSoFar (stop percent : ℕ) (lines : List RateLine) (sums : List ℕ) (amounts : List ℕ) : Type 0 where
  pub awards : List RateLine
  pub awarded : AreAwards stop percent lines awards
  pub size : length amounts ≡ length sums
  pub are : (bidder : ℕ) (d : ℕ)
      → bidder < length sums
      → slice_index amounts bidder ≡ awarded_to bidder awards + get_or sums bidder d
  pub bounded : total_of awards ≤ total_of lines + 100 * length lines

-- an award of the bidder's own counts
same_bidder : (bidder : ℕ) (awards : List RateLine) (award : RateLine)
    → award.bidder ≡ bidder
    → awarded_to bidder (awards ++ award ∷ []) ≡ awarded_to bidder awards + award.amount.value
same_bidder bidder awards award same =
    awarded_to_push bidder awards award
    ∙ ap (λ b. awarded_to bidder awards + cond b award.amount.value 0) (eq-eqb award.bidder bidder same)

-- an award of another doesn't
other_bidder : (bidder : ℕ) (awards : List RateLine) (award : RateLine)
    → ¬ (award.bidder ≡ bidder)
    → awarded_to bidder (awards ++ award ∷ []) ≡ awarded_to bidder awards
other_bidder bidder awards award other =
    awarded_to_push bidder awards award
    ∙ ap (λ b. awarded_to bidder awards + cond b award.amount.value 0) (ne_eqb award.bidder bidder other)
    ∙ omega arith

-- the award of one line, and the new amount of its bidder
pub record AddsAward (stop percent : ℕ) (line award : RateLine) (sums : List ℕ) (amounts : List ℕ) (amount : ℕ)
    : Type 0 where
  pub small : percent ≤ 10000
  pub known : line.bidder < length sums
  pub rate : award.rate ≡ line.rate
  pub bidder : award.bidder ≡ line.bidder
  pub is : IsAward stop percent line.rate.steps line.amount.value award.amount.value
  pub amount_is : amount ≡ slice_index amounts line.bidder + award.amount.value

-- one line's award more
pub amounts-more : (stop percent : ℕ) (lines : List RateLine) (line award : RateLine) (sums : List ℕ)
    (amounts : List ℕ) (amount : ℕ)
    → AmountsSoFar stop percent lines sums amounts
    → AddsAward stop percent line award sums amounts amount
    → AmountsSoFar stop percent (lines ++ line ∷ []) sums (set amounts line.bidder amount)
amounts-more stop percent lines line award sums amounts amount so_far adds = record {
  awards = so_far.awards ++ award ∷ [];
  awarded = AreAwards_push stop percent lines so_far.awards line award so_far.awarded adds.rate adds.bidder adds.is;
  size = length-set amounts line.bidder amount ∙ so_far.size;
  are = λ b d below. elim (cases_eq line.bidder b) [
    | inl same ↦ ap (λ k. get_or (set amounts line.bidder amount) k 0) (sym same)
        ∙ get_or-set_same amounts line.bidder amount 0 (omega (arith, adds.known, so_far.size))
        ∙ (let here = so_far.are b d below in let there = same_bidder b so_far.awards award (adds.bidder ∙ same) in
        let moved : slice_index amounts line.bidder ≡ slice_index amounts b = ap (slice_index amounts) same in
        omega (arith, adds.amount_is, moved, here, there))
    | inr other ↦ get_or-set_other amounts line.bidder b amount 0 (λ same. other (sym same)) ∙ so_far.are b d below
        ∙ ap (λ n. n + get_or sums b d)
        (sym (other_bidder b so_far.awards award (λ same. other (sym adds.bidder ∙ same))))
  ];
  bounded = omega (
    arith,
    total_of_push so_far.awards award,
    total_of_push lines line,
    length-append lines
        (line ∷ []),
    so_far.bounded,
    award-le stop percent line.rate.steps line.amount.value award.amount.value adds.small
        adds.is,
  );
}

-- no bidder gets more than all awards, and what it bids noncompetitively
pub amounts-within : (stop percent : ℕ) (lines : List RateLine) (sums : List ℕ) (amounts : List ℕ) (bidder : ℕ)
    (d : ℕ)
    → AmountsSoFar stop percent lines sums amounts
    → bidder < length sums
    → slice_index amounts bidder ≤ total_of lines + 100 * length lines + get_or sums bidder d
amounts-within stop percent lines sums amounts bidder d so_far below =
    omega (arith, so_far.are bidder d below, awarded_to-le bidder so_far.awards, so_far.bounded)
