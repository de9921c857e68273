-- The bidders of a trial: there are so many, and each is at its place.
use Rattle.std.proofs.Common.{◌≡◌, ℕ, zero, suc, ◌-◌, ◌<◌, ◌≤◌, ◌^◌, List, [], ◌∷◌, length, get_or, refl, sym, ap, ◌∙◌, subst, inl, inr, arith, length-append}
use Rattle.std.specs.Fmt.{decimal}
use Rattle.std.proofs.lemmas.Bool.{cases_eq}
use Rattle.std.proofs.lemmas.Fmt.{decimal_injective}
use Rattle.std.proofs.lemmas.List.{get_or_append_left, get_or-append_right}
use Rattle.tb_history.specs.declared.roster.Enrolment.{Enrolment}
use Rattle.tb_history.specs.Readings.{AreDistinct, place_of}
use Rattle.tb_results.proofs.AwardedLemmas.{place_of-at}
use Rattle.tb_trial.specs.Trials.{bidder_name, bidder_of, bidders}

-- there are so many
pub length-bidders : (count : ℕ) → length (bidders count) ≡ count
unfolding bidders
length-bidders zero = refl
length-bidders (suc count) =
    omega (arith, length-append (bidders count) (bidder_of count ∷ []), length-bidders count)

-- each is at its place
pub get_or-bidders : (count number : ℕ) (d : Enrolment)
    → number < count
    → get_or (bidders count) number d ≡ bidder_of number
unfolding bidders
get_or-bidders zero number d below = absurd (omega (arith, below))
get_or-bidders (suc count) number d below =
    elim (cases_eq number count) [
      | inl same ↦
          get_or-append_right (bidders count) (bidder_of count ∷ []) count number d (length-bidders count)
          (omega (arith, same))
          ∙ (let first : number - count ≡ 0 = omega (arith, same) in
          ap (λ (k : ℕ). get_or (bidder_of count ∷ []) k d) first ∙ ap bidder_of (sym same))
      | inr other ↦
          (let apart : ¬ (number ≡ count) = other in
          get_or_append_left (bidders count) (bidder_of count ∷ []) d number
          (omega (arith, length-bidders count, apart, below))
          ∙ get_or-bidders count number d (omega (arith, apart, below)))
    ]

-- names of two numbers are apart
names-apart : (one other : ℕ) → one < other → other < 2 ^ 64 → ¬ (bidder_name one ≡ bidder_name other)
names-apart one other less small same =
    let digits : decimal one ≡ decimal other = cc in
    let equal = decimal_injective one other (omega (arith, less, small)) small digits in
    omega (arith, equal, less)

-- nobody is among them twice
pub bidders-distinct : (count : ℕ) → count ≤ 2 ^ 64 → AreDistinct (bidders count)
bidders-distinct count small = λ one other d before within same.
    let size = length-bidders count in
    let inside : other < count = omega (arith, within, size) in
    let name : Enrolment → List ℕ = λ (e : Enrolment). e.bidder in
    names-apart one other before (omega (arith, inside, small))
    (sym (ap name (get_or-bidders count one d (omega (arith, before, inside))))
    ∙ same ∙ ap name (get_or-bidders count other d inside))

-- so a bidder's place is its number
pub place_of-bidder : (count number : ℕ) → count ≤ 2 ^ 64 → number < count
    → place_of (bidders count) (bidder_name number) ≡ number
place_of-bidder count number small below =
    let d = bidder_of number in
    let named : (get_or (bidders count) number d).bidder ≡ bidder_name number =
    ap (λ (e : Enrolment). e.bidder) (get_or-bidders count number d below) in
    subst (λ (name : List ℕ). place_of (bidders count) name ≡ number) named
    (place_of-at (bidders count) number d (bidders-distinct count small) (omega (arith, length-bidders count, below)))
