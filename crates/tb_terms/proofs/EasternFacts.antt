-- Eastern days: the plain arithmetic against the zone, and where days begin.
use Rattle.std.proofs.Common.{◌≡◌, ℕ, inl, inr, List, [], ◌∷◌, ◌++◌, length, get_or, subst, ◌+◌, ◌-◌, ◌*◌, ◌%◌, ◌<◌, ◌≤◌, refl, ap, ◌∙◌, arith, ℤ, pos, ◌+ℤ◌, w64, to_z, of_z}
use Rattle.std.proofs.Math.ListN.{get_or-append}
use Rattle.std.proofs.Math.Seq.{get_or-append_seam}
use Rattle.std.proofs.lemmas.Bool.{cases_eq}
use Rattle.std.proofs.lemmas.Bool.Decides.{nat_tests}
use Rattle.jiff_core.specs.Calendar.{days_from_civil}
use Rattle.jiff_core.specs.Date.{epoch_day}
use Rattle.jiff_core.specs.declared.civil.date.Date.{Date}
use Rattle.jiff_core.proofs.SignedLemmas.{signed_arith, back_small}
use Rattle.jiff_core.proofs.CalendarLemmas.{weekday_number-parts, days_of_months_table}
use Rattle.jiff_tz.specs.PosixRule.{sunday_number}
use Rattle.tb_terms.specs.Calendar.{days_before, new_year, month_start, year_of}
use Rattle.tb_terms.specs.Eastern.{sunday_from, second_sunday_of_march, first_sunday_of_november, start_of, closing_of, IsDateOf}
use Rattle.tb_terms.specs.Zone.{march_change, november_change, start_in_zone}
use Rattle.tb_terms.proofs.CalendarFacts.{IsOurs, days_before-days_of_months, month_start-days_from_civil, IsDateOfNumber-from}

-- the first of a month is where jiff has it
month_start-is : (year month : ℕ) → IsOurs year → days_from_civil (pos year) month 1 ≡ pos (month_start year month)
month_start-is year month ours =
    let place = month_start-days_from_civil year month 1 ours (omega arith) in
    omega (arith, signed_arith)

-- the first Sunday from a day on is where jiff has it
sunday_from-first : (z : ℤ) (day : ℕ)
    → z ≡ pos day
    → z +ℤ pos ((0 + 7 - sunday_number z) % 7) +ℤ pos (7 * (1 - 1)) ≡ pos (sunday_from day)
sunday_from-first z day is =
    let weekday = weekday_number-parts (pos day) in
    rw is (omega (arith, signed_arith))

-- and the second
sunday_from-second : (z : ℤ) (day : ℕ)
    → z ≡ pos day
    → z +ℤ pos ((0 + 7 - sunday_number z) % 7) +ℤ pos (7 * (2 - 1)) ≡ pos (sunday_from (day + 7))
sunday_from-second z day is =
    let weekday = weekday_number-parts (pos day) in
    rw is (omega (arith, signed_arith))

-- the change of March is on the second Sunday
march_change-is : (year : ℕ) → IsOurs year → march_change (pos year) ≡ pos (second_sunday_of_march year)
march_change-is year ours = sunday_from-second _ _ (month_start-is year 3 ours)

-- that of November on the first
november_change-is : (year : ℕ) → IsOurs year → november_change (pos year) ≡ pos (first_sunday_of_november year)
november_change-is year ours = sunday_from-first _ _ (month_start-is year 11 ours)

-- a day begins where it begins in the zone
pub start_in_zone-start_of : (year day : ℕ)
    → IsOurs year
    → year_of day ≡ year
    → start_in_zone (pos year) (pos day) ≡ pos (start_of day)
unfolding start_in_zone start_of
start_in_zone-start_of year day ours is =
    let march = march_change-is year ours in
    let november = november_change-is year ours in
    rw (is, march, november) (omega (arith, signed_arith))

-- a day begins four or five hours after its midnight in UTC
pub record BeginsEarly (day : ℕ) : Type 0 where
  pub from : 86400 * day + 14400 ≤ start_of day
  pub to : start_of day ≤ 86400 * day + 18000

-- each day does
pub start_of-bounds : (day : ℕ) → BeginsEarly day
unfolding start_of
start_of-bounds day = record { from = grind arith; to = grind arith }

-- the first second of a day is what the zone gives for its date
pub second_is : (date : Date) (day : ℕ) (second : ℤ)
    → epoch_day date ≡ pos day
    → 10957 ≤ day
    → day ≤ 47481
    → second ≡ start_in_zone date.year (epoch_day date)
    → to_z w64 (of_z w64 second) ≡ pos (start_of day)
second_is date day second number from to is =
    let civil = IsDateOfNumber-from date day number from to in
    let bounds = start_of-bounds day in
    let value : second ≡ pos (start_of day) =
    is ∙ ap (λ (y : ℤ). start_in_zone y (epoch_day date)) civil.year_is
    ∙ ap (start_in_zone (pos (year_of day))) number
    ∙ start_in_zone-start_of (year_of day) day civil.ours refl in
    rw value (back_small w64 (pos (start_of day)) (omega (arith, bounds.to)))

-- the days of the first ten months
ten_months : (year : ℕ) → days_before year 10 ≤ 305
ten_months year =
    let same = days_before-days_of_months year 10 in
    let table = days_of_months_table (pos year) 10 (omega arith) in
    grind arith

-- a day's closing is the same time before the next day begins
pub closing_of-next : (day minute : ℕ)
    → 10957 ≤ day
    → day ≤ 47480
    → minute ≤ 1440
    → closing_of day minute + 60 * (1440 - minute) ≡ start_of (day + 1)
unfolding closing_of start_of
closing_of-next day minute from to small = elim (cases_eq (year_of (day + 1)) (year_of day)) [
  | inl same ↦ rw same (grind (arith, nat_tests))
  | inr other ↦
      let ends : new_year (year_of (day + 1)) ≡ day + 1 = omega (arith, other) in
      let began : new_year (year_of day) + 365 ≤ day + 1 = omega (arith, other) in
      let months = ten_months (year_of day) in
      grind (arith, nat_tests)
]

-- a moment in the 24 hours from 18,000 seconds after a midnight in UTC lies in that day, before the next begins
pub IsDateOf-same : (moment day : ℕ)
    → 86400 * day + 18000 ≤ moment
    → moment < 86400 * day + 104400
    → (day < 47481 → moment < start_of (day + 1))
    → IsDateOf moment day
IsDateOf-same moment day from to before =
    let bounds = start_of-bounds day in
    record {
      begun = omega (arith, bounds.to);
      last = λ later above within. elim (cases_eq later (day + 1)) [
        | inl next ↦ rw next (before (omega arith))
        | inr other ↦ let far = start_of-bounds later in omega (arith, far.from, other)
      ];
    }

-- and in the next day, once that has begun
pub IsDateOf-next : (moment day : ℕ)
    → moment < 86400 * day + 104400
    → start_of (day + 1) ≤ moment
    → IsDateOf moment (day + 1)
IsDateOf-next moment day to begun =
    record { begun = begun; last = λ later above within. let far = start_of-bounds later in omega (arith, far.from) }

-- one day more in the table of first seconds
pub table_more : (starts : List ℕ) (count : ℕ)
    → length starts ≡ count
    → ((place : ℕ) → place < count → get_or starts place 0 ≡ start_of (10957 + place))
    → (place : ℕ)
    → place < count + 1
    → get_or (starts ++ start_of (10957 + count) ∷ []) place 0 ≡ start_of (10957 + place)
table_more starts count long each place within = elim (cases_eq place count) [
  | inl last ↦ rw last (let seam = get_or-append_seam starts (start_of (10957 + count)) [] 0
      in subst (λ (n : ℕ). get_or (starts ++ start_of (10957 + count) ∷ []) n 0 ≡ start_of (10957 + count)) long seam)
  | inr earlier ↦
      let before : place < count = omega (arith, earlier) in
      let inside : place < length starts = omega arith in
      get_or-append starts _ 0 place inside ∙ each place before
]

-- the first second of the first day of ours
start_of-first : start_of 10957 ≡ 946702800
unfolding start_of days_before
start_of-first = refl

-- no day of ours begins before the first, which begins at 946,702,800
pub start_of-most : (day : ℕ) → 10957 ≤ day → 946702800 ≤ start_of day
start_of-most day from = elim (cases_eq day 10957) [
  | inl first ↦ rw (first, start_of-first) (omega arith)
  | inr other ↦ let bounds = start_of-bounds day in omega (arith, bounds.from, other)
]
