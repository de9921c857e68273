-- Days and minutes as texts: their digits are those of their numbers.
use Rattle.std.proofs.Common.{◌≡◌, ℕ, ◌+◌, ◌-◌, ◌*◌, ◌<◌, ◌≤◌, List, get_or, refl, ap, arith}
use Rattle.tb_terms.specs.Texts.{date_text, day_text, minute_text}
use Rattle.tb_terms.specs.Calendar.{IsDated, year_of, month_of, day_of_month}
use Rattle.tb_terms.proofs.CalendarFacts.{IsCivil-of, IsDated-civil, days_in_month-most}

-- the number that two digits write
abbrev pub two : ℕ → ℕ → ℕ
two tens ones = 10 * (tens - 48) + (ones - 48)

-- a date is read back from its text
pub record IsWritten (text : List ℕ) (year month day : ℕ) : Type 0 where
  pub year_is : year ≡ 100 * two (get_or text 0 0) (get_or text 1 0) + two (get_or text 2 0) (get_or text 3 0)
  pub month_is : month ≡ two (get_or text 5 0) (get_or text 6 0)
  pub day_is : day ≡ two (get_or text 8 0) (get_or text 9 0)

-- the numbers of its text are the date's
pub IsWritten-date_text : (text : List ℕ) (year month day : ℕ)
    → year < 10000
    → month < 100
    → day < 100
    → text ≡ date_text year month day
    → IsWritten text year month day
IsWritten-date_text text year month day years months days is = record {
  year_is = rw is (omega arith);
  month_is = rw is (omega arith);
  day_is = rw is (omega arith);
}

-- and so a day of ours has the date that is written
pub IsDated-written : (text : List ℕ) (number : ℕ)
    → 10957 ≤ number
    → number ≤ 47481
    → text ≡ date_text (year_of number) (month_of number) (day_of_month number)
    → IsDated number (100 * two (get_or text 0 0) (get_or text 1 0) + two (get_or text 2 0) (get_or text 3 0))
    (two (get_or text 5 0) (get_or text 6 0)) (two (get_or text 8 0) (get_or text 9 0))
IsDated-written text number from to is =
    let civil = IsCivil-of number from to in
    let most = days_in_month-most (year_of number) (month_of number) in
    let high = civil.ours.to in
    let months = civil.month_to in
    let days = civil.day_to in
    let written =
    IsWritten-date_text text (year_of number) (month_of number) (day_of_month number) (omega arith) (omega arith)
    (omega arith) is in
    record { in_year = written.year_is; in_month = written.month_is; on_day = written.day_is }

-- one text is of one day
pub day_text-one : (one other : ℕ)
    → 10957 ≤ one
    → one ≤ 47481
    → 10957 ≤ other
    → other ≤ 47481
    → day_text one ≡ day_text other
    → one ≡ other
day_text-one one other from to from_too to_too same =
    let here = IsDated-civil one _ _ _ from to (IsDated-written (day_text one) one from to refl) in
    let there = IsDated-civil other _ _ _ from_too to_too (IsDated-written (day_text one) other from_too to_too same) in
    omega (arith, here.place, there.place)

-- and of one minute
pub minute_text-one : (one other : ℕ)
    → one < 1440
    → other < 1440
    → minute_text one ≡ minute_text other
    → one ≡ other
minute_text-one one other below below_too same =
    let digit : (i : ℕ) → get_or (minute_text one) i 0 ≡ get_or (minute_text other) i 0 =
    λ i. ap (λ (t : List ℕ). get_or t i 0) same in
    omega (arith, digit 0, digit 1, digit 3, digit 4)
