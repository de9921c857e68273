-- The 29 February after an issue.
use Rattle.std.proofs.Common.{◌≡◌, ℕ, zero, suc, ◌+◌, ◌-◌, ◌<◌, ◌≤◌, ◌⊎◌, inl, inr, true, refl, sym, ap, ◌∙◌, subst, arith, pos}
use Rattle.std.specs.Prelude.{if◌then◌else◌}
use Rattle.std.proofs.lemmas.Bool.{cases_order}
use Rattle.std.proofs.lemmas.Bool.Decides.{nat_tests}
use Rattle.jiff_core.proofs.CalendarLemmas.{days_of_months_all, days_in_year_bounds}
use Rattle.tb_terms.specs.Calendar.{is_leap, days_before, new_year, month_start, year_of, month_of, day_of_month}
use Rattle.tb_terms.specs.Years.{HasLeapDay, february_year}
use Rattle.tb_terms.proofs.CalendarFacts.{IsCivil, IsCivil-of, IsCivil-starts, IsCivil-ends, days_before-days_of_months, days_before-mono, days_in_month-most}

-- the days of the first months
record BeginsSo (year : ℕ) : Type 0 where
  none : days_before year 0 ≡ 0
  january : days_before year 1 ≡ 31
  february : days_before year 2 ≡ 31 + (if is_leap year then 29 else 28)
  whole : days_before year 12 ≤ 366

-- each year begins so
BeginsSo-year : (year : ℕ) → BeginsSo year
BeginsSo-year year = record {
  none = unfold days_before in refl;
  january = unfold days_before in refl;
  february = unfold days_before in refl;
  whole = let same = days_before-days_of_months year 12 in
      let all = days_of_months_all (pos year) in
      let bounds = days_in_year_bounds (pos year) in
      omega arith;
}

-- a date before 29 February, and the same day of the next year
record IsEarly (year month day number : ℕ) : Type 0 where
  before : number < month_start year 2 + 28
  near : month_start (year + 1) month + day - 1 < month_start (year + 1) 2 + 28

-- where the next 29 February is of the same year
IsEarly-february : (year month day number : ℕ)
    → IsCivil year month day number
    → february_year year month day ≡ year
    → IsEarly year month day number
IsEarly-february year zero day number is next = absurd (omega (arith, is.month_from))
IsEarly-february year (suc zero) day number is next =
    let here = BeginsSo-year year in
    let there = BeginsSo-year (year + 1) in
    let most = is.day_to in
    let place = is.place in
    record { before = omega (arith, here.none, here.january); near = omega (arith, there.none, there.january) }
IsEarly-february year (suc (suc zero)) day number is next =
    let here = BeginsSo-year year in
    let there = BeginsSo-year (year + 1) in
    let most = is.day_to in
    let place = is.place in
    let days : day ≤ 28 = grind (arith, nat_tests) in
    record { before = omega (arith, here.january); near = omega (arith, there.january) }
IsEarly-february year (suc (suc (suc month))) day number is next =
    let later : february_year year (suc (suc (suc month))) day ≡ year + 1 = grind (arith, nat_tests) in
    absurd (omega (arith, next, later))

-- a date from 29 February on, and the same day of the next year
record IsLate (year month day number : ℕ) : Type 0 where
  after : month_start year 2 + 28 ≤ number
  far : month_start (year + 1) 2 + 28 ≤ month_start (year + 1) month + day - 1
  most : month_start (year + 1) month + day - 1 < new_year (year + 2) + 59

-- where it is of the next year
IsLate-february : (year month day number : ℕ)
    → IsCivil year month day number
    → february_year year month day ≡ year + 1
    → IsLate year month day number
IsLate-february year zero day number is next = absurd (omega (arith, is.month_from))
IsLate-february year (suc zero) day number is next =
    let same : february_year year 1 day ≡ year = refl in
    absurd (omega (arith, next, same))
IsLate-february year (suc (suc zero)) day number is next =
    let here = BeginsSo-year year in
    let there = BeginsSo-year (year + 1) in
    let place = is.place in
    let from = is.ours.from in
    let days : day ≡ 29 = grind (arith, nat_tests) in
    record {
      after = omega (arith, here.january);
      far = omega (arith, there.january);
      most = omega
          (arith, there.january);
    }
IsLate-february year (suc (suc (suc month))) day number is next =
    let here = BeginsSo-year year in
    let there = BeginsSo-year (year + 1) in
    let place = is.place in
    let from = is.ours.from in
    let some = is.day_from in
    let days = is.day_to in
    let longest = days_in_month-most year (suc (suc (suc month))) in
    let back : suc (suc (suc month)) - 1 ≡ suc (suc month) = omega arith in
    let here_back = ap (days_before year) back in
    let there_back = ap (days_before (year + 1)) back in
    let march = days_before-mono year 2 (suc (suc month)) (omega arith) in
    let next_march = days_before-mono (year + 1) 2 (suc (suc month)) (omega arith) in
    let rest = days_before-mono (year + 1) (suc (suc month)) 12 (omega (arith, is.month_to)) in
    let short : (y : ℕ) → 59 ≤ 31 + (if is_leap y then 29 else 28) = λ y. grind arith in
    record {
      after = omega (arith, here.january, here.february, short year);
      far = omega (arith, there.january, there.february, short (year + 1));
      most = omega (arith, there.whole);
    }

-- no year begins before an earlier one
new_year-from : (earlier later : ℕ) → 2000 ≤ earlier → earlier ≤ later → new_year earlier ≤ new_year later
new_year-from earlier later from before = omega arith

-- each year begins later than the one before
new_year-later : (earlier later : ℕ) → 2000 ≤ earlier → earlier < later → new_year earlier + 365 ≤ new_year later
new_year-later earlier later from before = omega arith

-- the year of the next 29 February is this one or the next
february_cases : (year month day : ℕ)
    → (february_year year month day ≡ year) ⊎ (february_year year month day ≡ year + 1)
february_cases year month day = grind arith

-- where that is a leap year, its 29 February lies after the date and not after the same day of the next year
february_after : (year month day number : ℕ)
    → IsCivil year month day number
    → number < month_start (february_year year month day) 2 + 28
    × (month_start (february_year year month day) 2 + 28 ≤ month_start (year + 1) month + day - 1)
february_after year month day number is = elim (february_cases year month day) [
  | inl same ↦
      let e = IsEarly-february year month day number is same in
      let here = BeginsSo-year year in
      let from = is.ours.from in
      let some = is.day_from in
      rw same (e.before, omega (arith, here.january))
  | inr next ↦
      let l = IsLate-february year month day number is next in
      let ends = IsCivil-ends year month day number is in
      let there = BeginsSo-year (year + 1) in
      rw next (omega (arith, there.january), l.far)
]

-- and no other year's does
february_after-one : (year month day number other : ℕ)
    → IsCivil year month day number
    → 2000 ≤ other
    → number < month_start other 2 + 28
    → month_start other 2 + 28 ≤ month_start (year + 1) month + day - 1
    → other ≡ february_year year month day
february_after-one year month day number other is from after within =
    let here = BeginsSo-year year in
    let there = BeginsSo-year (year + 1) in
    let that = BeginsSo-year other in
    let ours = is.ours.from in
    let starts = IsCivil-starts year month day number is in
    elim (february_cases year month day) [
      | inl same ↦
          let e = IsEarly-february year month day number is same in
          let near = e.near in
          same_year other year from ours
          (λ less. omega (arith, new_year-later other year from (omega (arith, less)), that.january))
          (λ more. omega (
            arith,
            new_year-from (year + 1) other (omega arith) (omega (arith, more)),
            that.january,
            there.january,
          ))
          ∙ sym same
      | inr next ↦
          let l = IsLate-february year month day number is next in
          let most = l.most in
          let after_this = l.after in
          same_year other (year + 1) from (omega arith)
          (λ less. omega (arith, new_year-from other year from (omega (arith, less)), that.january, here.january))
          (λ more. omega (arith, new_year-from (year + 2) other (omega arith) (omega (arith, more)), that.january))
          ∙ sym next
    ]
  where
    same_year : (a b : ℕ) → 2000 ≤ a → 2000 ≤ b → (a < b → ⊥) → (b < a → ⊥) → a ≡ b
    same_year a b from_a from_b less more = elim (cases_order a b) [
      | inl same ↦ same
      | inr (inl lt) ↦ absurd (less lt)
      | inr (inr gt) ↦ absurd (more gt)
    ]

-- an issue has a 29 February in the year after it just where that year is a leap year
pub HasLeapDay-february : (issue : ℕ)
    → 10957 ≤ issue
    → issue ≤ 47481
    → (is_leap (february_year (year_of issue) (month_of issue) (day_of_month issue)) ≡ true → HasLeapDay issue)
    × (HasLeapDay issue → is_leap (february_year (year_of issue) (month_of issue) (day_of_month issue)) ≡ true)
HasLeapDay-february issue from to =
    let is = IsCivil-of issue from to in
    let lies = february_after (year_of issue) (month_of issue) (day_of_month issue) issue is in
    let ours = is.ours.from in (
      λ leap. (
        february_year (year_of issue) (month_of issue) (day_of_month issue),
        record {
          from = elim (february_cases (year_of issue) (month_of issue) (day_of_month issue))
              [ inl same ↦ rw same ours | inr next ↦ rw next (omega arith) ];
          leap = leap;
          after = lies.0;
          within = lies.1;
        },
      ),
      λ has. subst (λ (y : ℕ). is_leap y ≡ true)
          (february_after-one (year_of issue) (month_of issue) (day_of_month issue) issue
          has.0 is has.1.from has.1.after has.1.within) has.1.leap,
    )
