-- Walking past the holidays.
use Rattle.std.proofs.Common.{◌≡◌, ◌≢◌, ℕ, ◌+◌, ◌*◌, ◌%◌, ◌<◌, ◌≤◌, inl, inr, List, length, get_or, true, false, sym, ap, ◌∙◌, arith}
use Rattle.std.specs.Prelude.{◌==◌}
use Rattle.std.specs.List.Sorted.{IsStrictlyIncreasing}
use Rattle.std.proofs.lemmas.Bool.{cases_eq, cases_order, leb-true, leb-false, eq-eqb, ne_eqb, and_left, and_right, and_from, not_from_true, not_from_false}
use Rattle.std.proofs.lemmas.List.{get_or-map, length-map}
use Rattle.std.proofs.lemmas.Grind.{get_or_default_zero}
use Rattle.std.proofs.lemmas.List.Folds.{list_any_at, list_any_none}
use Rattle.std.proofs.lemmas.List.Kept.{AllPairs-from_increasing}
use Rattle.tb_units.specs.declared.day.Day.{Day}
use Rattle.tb_terms.specs.Payable.{numbers_of, is_weekend, is_business_day, IsPaymentDate, IsWeekdayFrom}

-- what has been found before the holiday at a place
pub record IsWalked (holidays : List ℕ) (maturity number place : ℕ) : Type 0 where
  pub weekday : is_weekend number ≡ false
  pub from : maturity ≤ number
  pub closed : (day : ℕ) → maturity ≤ day → day < number → is_business_day holidays day ≡ false
  pub others : (earlier : ℕ) → earlier < place → get_or holidays earlier 0 ≢ number
  pub near : 5 * number + 2 * ((number + 3) % 7) ≤ 5 * maturity + 7 * place + 10

-- a Saturday or a Sunday is no business day
weekend-closed : (holidays : List ℕ) (day : ℕ) → is_weekend day ≡ true → is_business_day holidays day ≡ false
weekend-closed holidays day weekend = and_left _ _ (not_from_true _ weekend)

-- nor is a holiday
holiday-closed : (holidays : List ℕ) (day place : ℕ)
    → place < length holidays
    → get_or holidays place 0 ≡ day
    → is_business_day holidays day ≡ false
holiday-closed holidays day place within is =
    and_right _ _ (not_from_true _ (list_any_at (λ holiday. holiday == day) holidays place 0 within (eq-eqb _ _ is)))

-- the first weekday from a day on, in weeks of five
weekday-steps : (number day : ℕ) → IsWeekdayFrom number day → 5 * day + 2 * ((day + 3) % 7) ≤ 5 * number + 10
weekday-steps number day is =
    let weekday = leb-false _ _ is.weekday in
    let near = is.near in
    let from = is.from in
    let first = λ (h : number < day). leb-true _ _ (is.skipped number (omega arith) h) in
    let second = λ (h : number + 1 < day). leb-true _ _ (is.skipped (number + 1) (omega arith) h) in
    grind arith

-- the same from a weekday on, one week of five more
weekday-steps_more : (number day : ℕ)
    → is_weekend number ≡ false
    → IsWeekdayFrom (number + 1) day
    → 5 * day + 2 * ((day + 3) % 7) ≤ 5 * number + 2 * ((number + 3) % 7) + 7
weekday-steps_more number day was is =
    let before = leb-false _ _ was in
    let weekday = leb-false _ _ is.weekday in
    let near = is.near in
    let from = is.from in
    let first = λ (h : number + 1 < day). leb-true _ _ (is.skipped (number + 1) (omega arith) h) in
    let second = λ (h : number + 2 < day). leb-true _ _ (is.skipped (number + 2) (omega arith) h) in
    grind arith

-- before all holidays
pub IsWalked-begin : (holidays : List ℕ) (maturity day : ℕ)
    → IsWeekdayFrom maturity day
    → IsWalked holidays maturity day 0
IsWalked-begin holidays maturity day is = record {
  weekday = is.weekday;
  from = is.from;
  closed = λ earlier from before. weekend-closed holidays earlier (is.skipped earlier from before);
  others = λ earlier before. absurd (omega (arith, before));
  near = omega (arith, weekday-steps maturity day is);
}

-- past a holiday that is another day
pub IsWalked-other : (holidays : List ℕ) (maturity number place : ℕ)
    → IsWalked holidays maturity number place
    → get_or holidays place 0 ≢ number
    → IsWalked holidays maturity number (place + 1)
IsWalked-other holidays maturity number place walked differs = record {
  weekday = walked.weekday;
  from = walked.from;
  closed = walked.closed;
  others = λ earlier before. elim (cases_eq earlier place) [
    | inl same ↦ rw same differs
    | inr less ↦ walked.others earlier (omega (arith, before, less))
  ];
  near = omega (arith, walked.near);
}

-- past one that is that day
pub IsWalked-same : (holidays : List ℕ) (maturity number place next : ℕ)
    → IsStrictlyIncreasing holidays
    → place < length holidays
    → IsWalked holidays maturity number place
    → get_or holidays place 0 ≡ number
    → IsWeekdayFrom (number + 1) next
    → IsWalked holidays maturity next (place + 1)
IsWalked-same holidays maturity number place next order within walked is weekday = record {
  weekday = weekday.weekday;
  from = omega (arith, walked.from, weekday.from);
  closed = λ day from before. elim (cases_order day number) [
    | inl same ↦ rw same (holiday-closed holidays number place within is)
    | inr (inl less) ↦ walked.closed day from less
    | inr (inr more) ↦ weekend-closed holidays day (weekday.skipped day (omega (arith, more)) before)
  ];
  others = λ earlier before found.
      elim (cases_eq earlier place) [
        | inl same ↦ omega (arith, weekday.from, sym is ∙ ap (λ (k : ℕ). get_or holidays k 0) (sym same) ∙ found)
        | inr less ↦
            let rises = AllPairs-from_increasing holidays order earlier place 0 (omega (arith, before, less)) within in
            omega (arith, weekday.from, rises, is, found)
      ];
  near = omega (arith, walked.near, weekday-steps_more number next walked.weekday weekday);
}

-- past all of them
pub IsPaymentDate-walked : (holidays : List ℕ) (maturity number : ℕ)
    → IsWalked holidays maturity number (length holidays)
    → IsPaymentDate holidays maturity number
IsPaymentDate-walked holidays maturity number walked = record {
  from = walked.from;
  business = and_from _ _ (not_from_false _ walked.weekday)
      (not_from_false _ (list_any_none (λ holiday. holiday == number) holidays
      (λ k d within. ne_eqb _ _
      (λ found. walked.others k within (sym (get_or_default_zero holidays k d within) ∙ found)))));
  first = walked.closed;
}

-- one holiday after the other
pub IsWalked-step : (days : List Day) (maturity number place next : ℕ) (holiday : Day)
    → IsStrictlyIncreasing (numbers_of days)
    → place < length days
    → holiday ≡ get_or days place holiday
    → IsWalked (numbers_of days) maturity number place
    → (holiday.number ≢ number → next ≡ number)
    → (holiday.number ≡ number → IsWeekdayFrom (number + 1) next)
    → IsWalked (numbers_of days) maturity next (place + 1)
IsWalked-step days maturity number place next holiday order within is walked other same =
    let long : length (numbers_of days) ≡ length days = length-map days _ in
    let item : get_or (numbers_of days) place 0 ≡ holiday.number =
    get_or-map (λ (day : Day). day.number) days place holiday 0 within ∙ ap (λ (day : Day). day.number) (sym is) in
    elim (cases_eq holiday.number number) [
      | inl equal ↦ IsWalked-same (numbers_of days) maturity number place next order (rw long within) walked
          (item ∙ equal) (same equal)
      | inr differs ↦ rw (other differs)
          (IsWalked-other (numbers_of days) maturity number place walked (λ found. differs (sym item ∙ found)))
    ]

-- and past the last
pub IsPaymentDate-last : (days : List Day) (maturity number place : ℕ)
    → length days ≤ place
    → place ≤ length days
    → IsWalked (numbers_of days) maturity number place
    → IsPaymentDate (numbers_of days) maturity number
IsPaymentDate-last days maturity number place over within walked =
    let long : length (numbers_of days) ≡ length days = length-map days _ in
    let whole : place ≡ length (numbers_of days) = omega arith in
    IsPaymentDate-walked (numbers_of days) maturity number (rw whole at walked)
