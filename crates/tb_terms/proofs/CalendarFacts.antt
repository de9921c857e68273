-- The calendar's plain arithmetic against the calendar of jiff.
use Rattle.std.proofs.Common.{◌≡◌, ℕ, zero, suc, ◌+◌, ◌-◌, ◌<◌, ◌≤◌, inl, inr, refl, sym, ap, subst, ◌∙◌, arith, ℤ, pos, negsuc, ◌+ℤ◌, w8, w16, to_z, of_z}
use Rattle.std.proofs.lemmas.Bool.Decides.{nat_tests, leb_tells}
use Rattle.jiff_core.specs.Calendar as Civil
use Rattle.jiff_core.specs.Calendar.{day_count, days_from_civil, days_of_months, IsCivilDate, IsBetween}
use Rattle.jiff_core.specs.Date.{epoch_day}
use Rattle.jiff_core.specs.declared.civil.date.Date.{Date}
use Rattle.jiff_core.proofs.SignedLemmas.{signed_arith, signed_casts}
use Rattle.jiff_core.proofs.MarchLemmas.{day_count-early}
use Rattle.jiff_core.proofs.CalendarLemmas.{days_from_civil-day_count, day_count-day_of_year, days_of_months_mono, days_of_months_all}
use Rattle.jiff_core.proofs.DateLemmas.{civil}
use Rattle.jiff_tz.proofs.YearLemmas.{back_year}
use Rattle.tb_terms.specs.Calendar.{days_in_month, days_before, new_year, month_start, year_of, last_month, month_of, day_of_month, IsDated}
use Rattle.tb_terms.proofs.EasternRule.{in_years}

-- the months of a year have the days that jiff says
pub days_before-days_of_months : (year months : ℕ) → days_before year months ≡ days_of_months (pos year) months
unfolding days_before days_of_months
days_before-days_of_months year zero = refl
days_before-days_of_months year (suc months) =
    ap (λ (n : ℕ). n + days_in_month year (suc months)) (days_before-days_of_months year months)

-- a year from 2000 on
pub record IsOurs (year : ℕ) : Type 0 where
  pub from : 2000 ≤ year
  pub to : year ≤ 2099

-- 1 January is where jiff has it
pub new_year-days_from_civil : (year : ℕ) → IsOurs year → days_from_civil (pos year) 1 1 ≡ pos (new_year year)
new_year-days_from_civil year ours =
    let count =
    day_count-early (pos year) (year + 9999) 1 1 (omega (arith, signed_arith)) (omega arith) (omega arith)
    (omega arith) in
    let number = days_from_civil-day_count (pos year) 1 1 in
    omega (arith, signed_arith)

-- and so is each day of a month
pub month_start-days_from_civil : (year month day : ℕ)
    → IsOurs year
    → 1 ≤ day
    → days_from_civil (pos year) month day +ℤ pos 1 ≡ pos (month_start year month + day)
month_start-days_from_civil year month day ours some =
    let first = new_year-days_from_civil year ours in
    let january = days_from_civil-day_count (pos year) 1 1 in
    let number = days_from_civil-day_count (pos year) month day in
    let place = day_count-day_of_year (pos year) month day some in
    let months = days_before-days_of_months year (month - 1) in
    omega (arith, signed_arith)

-- the next year begins after this year's months
pub new_year-next : (year : ℕ) → IsOurs year → new_year (year + 1) ≡ new_year year + days_before year 12
new_year-next year ours =
    let whole = days_before-days_of_months year 12 ∙ days_of_months_all (pos year) in
    grind (arith, nat_tests)

-- a day that lies in a year is of that year
pub year_of-is : (year day : ℕ) → IsOurs year → new_year year ≤ day → day < new_year (year + 1) → year_of day ≡ year
year_of-is year day ours low high = omega arith

-- more months have more days
pub days_before-mono : (year less more : ℕ) → less ≤ more → days_before year less ≤ days_before year more
days_before-mono year less more le =
    let a = days_before-days_of_months year less in
    let b = days_before-days_of_months year more in
    let c = days_of_months_mono (pos year) less more le in
    omega arith

-- the month of a day is the one whose days it lies among
pub last_month-is : (year day month months : ℕ)
    → 1 ≤ month
    → month ≤ months
    → month_start year month ≤ day
    → ((later : ℕ) → month < later → later ≤ months → day < month_start year later)
    → last_month year day months ≡ month
unfolding last_month
last_month-is year day month zero some in_months begun last = absurd (omega arith)
last_month-is year day month (suc months) some in_months begun last = elim (leb_tells (suc month) (suc months)) [
  | inl later ↦
      let not_yet = last (suc months) later.1 (omega arith) in
      let shorter =
      last_month-is year day month months some (omega arith) begun (λ m above within. last m above (omega arith)) in
      grind (arith, nat_tests)
  | inr same ↦
      let is : month ≡ suc months = omega arith in
      let begun_too : month_start year (suc months) ≤ day = omega (arith, ap (month_start year) is) in
      grind (arith, nat_tests)
]

-- the days before a month and those of the month
days_before-more : (year month : ℕ)
    → 1 ≤ month
    → days_before year month ≡ days_before year (month - 1) + days_in_month year month
unfolding days_before
days_before-more year zero some = absurd (omega arith)
days_before-more year (suc month) some = let back : suc month - 1 ≡ month = omega arith in rw back

-- what a date's numbers have
pub record IsCivil (year month day number : ℕ) : Type 0 where
  pub ours : IsOurs year
  pub month_from : 1 ≤ month
  pub month_to : month ≤ 12
  pub day_from : 1 ≤ day
  pub day_to : day ≤ days_in_month year month
  pub place : number + 1 ≡ month_start year month + day

-- such a day lies in its year
IsCivil-year : (year month day number : ℕ) → IsCivil year month day number → year_of number ≡ year
IsCivil-year year month day number is =
    let more = days_before-more year month is.month_from in
    let whole = days_before-mono year month 12 is.month_to in
    let next = new_year-next year is.ours in
    year_of-is year number is.ours (omega arith) (omega arith)

-- a date is not before its year
pub IsCivil-starts : (year month day number : ℕ) → IsCivil year month day number → new_year year ≤ number
IsCivil-starts year month day number is =
    let place = is.place in
    let some = is.day_from in
    omega arith

-- and ends before the next
pub IsCivil-ends : (year month day number : ℕ) → IsCivil year month day number → number < new_year (year + 1)
IsCivil-ends year month day number is =
    let more = days_before-more year month is.month_from in
    let whole = days_before-mono year month 12 is.month_to in
    let next = new_year-next year is.ours in
    let place = is.place in
    let most = is.day_to in
    omega arith

-- in its month
IsCivil-month : (year month day number : ℕ) → IsCivil year month day number → last_month year number 12 ≡ month
IsCivil-month year month day number is =
    let more = days_before-more year month is.month_from in
    last_month-is year number month 12 is.month_from is.month_to (omega arith)
    (λ later above within. let whole = days_before-mono year month (later - 1) (omega arith) in omega arith)

-- and is that day of it
pub IsCivil-month_of : (year month day number : ℕ) → IsCivil year month day number → month_of number ≡ month
IsCivil-month_of year month day number is =
    rw (IsCivil-year year month day number is) (IsCivil-month year month day number is)

-- and its day of the month
pub IsCivil-day_of_month : (year month day number : ℕ) → IsCivil year month day number → day_of_month number ≡ day
IsCivil-day_of_month year month day number is =
    rw (IsCivil-month_of year month day number is, IsCivil-year year month day number is) (omega (arith, is.place))

-- the month that was found has begun, and the next one hasn't
record HasBegun (year day month months : ℕ) : Type 0 where
  from : 1 ≤ month
  to : month ≤ months
  begun : month_start year month ≤ day
  last : month < months → day < month_start year (month + 1)

-- the last month that has begun is one of the year
last_month-begun : (year day months : ℕ)
    → 1 ≤ months
    → month_start year 1 ≤ day
    → HasBegun year day (last_month year day months) months
unfolding last_month
last_month-begun year day zero some begun = absurd (omega arith)
last_month-begun year day (suc zero) some begun =
    elim (leb_tells (month_start year 1) day) [
      | inl has ↦ rw has.0 (record
          { from = omega arith; to = omega arith; begun = begun; last = λ below. absurd (omega arith) })
      | inr lacks ↦ absurd (omega (arith, lacks.1))
    ]
last_month-begun year day (suc (suc months)) some begun =
    elim (leb_tells (month_start year (suc (suc months))) day) [
      | inl has ↦ rw has.0 (record
          { from = omega arith; to = omega arith; begun = has.1; last = λ below. absurd (omega arith) })
      | inr lacks ↦
          let before = last_month-begun year day (suc months) (omega arith) begun in
          rw lacks.0 (record {
            from = before.from;
            to = omega (arith, before.to);
            begun = before.begun;
            last = λ below. elim (leb_tells (suc (last_month year day (suc months))) (suc months)) [
              | inl earlier ↦ before.last earlier.1
              | inr same ↦
                  let is : last_month year day (suc months) + 1 ≡ suc (suc months) = omega (arith, before.to, same.1) in
                  rw is lacks.1
            ];
          })
    ]

-- each day of ours has its place in the calendar
pub IsCivil-of : (number : ℕ)
    → 10957 ≤ number
    → number ≤ 47481
    → IsCivil (year_of number) (month_of number) (day_of_month number) number
IsCivil-of number from to =
    IsCivil-found (year_of number) number (record { from = omega arith; to = omega arith }) (omega arith) (omega arith)
  where
    IsCivil-found : (year number : ℕ)
        → IsOurs year
        → new_year year ≤ number
        → number < new_year (year + 1)
        → IsCivil year (last_month year number 12) (number + 1 - month_start year (last_month year number 12)) number
    IsCivil-found year number ours low high =
        let none : days_before year 0 ≡ 0 = unfold days_before in refl in
        let found = last_month-begun year number 12 (omega arith) (omega arith) in
        let more = days_before-more year (last_month year number 12) found.from in
        let next = new_year-next year ours in
        let back : last_month year number 12 + 1 - 1 ≡ last_month year number 12 = omega arith in
        let ends : number < new_year year + days_before year (last_month year number 12) =
        elim (leb_tells (suc (last_month year number 12)) 12) [
          | inl earlier ↦ rw back at (found.last earlier.1)
          | inr late ↦
              let is : last_month year number 12 ≡ 12 = omega (arith, found.to, late.1) in
              rw is (omega arith)
        ] in
        record {
          ours = ours;
          month_from = found.from;
          month_to = found.to;
          day_from = omega (arith, found.begun);
          day_to = omega (arith, found.begun, ends, more);
          place = omega (arith, found.begun);
        }

-- a year of jiff as a plain number
natural_year : (z : ℤ) → IsBetween (pos 2000) (pos 2099) z → (year : ℕ) × (z ≡ pos year) × IsOurs year
natural_year (pos n) between =
    (n, refl, record { from = omega (arith, signed_arith, between); to = omega (arith, signed_arith, between) })
natural_year (negsuc n) between = absurd (omega (arith, signed_arith, between))

-- the date that jiff has for a day
pub record IsDateOfNumber (date : Date) (number : ℕ) : Type 0 where
  pub year_is : date.year ≡ pos (year_of number)
  pub month_is : date.month ≡ month_of number
  pub day_is : date.day ≡ day_of_month number
  pub ours : IsOurs (year_of number)

-- of a day of ours it is so
pub IsDateOfNumber-from : (date : Date) (number : ℕ)
    → epoch_day date ≡ pos number
    → 10957 ≤ number
    → number ≤ 47481
    → IsDateOfNumber date number
IsDateOfNumber-from date number is from to =
    let (year, year_is, ours) = natural_year date.year (in_years date number is from to) in
    let civil_date : IsCivilDate (pos year) date.month date.day = rw year_is at (civil date) in
    let number_is : days_from_civil (pos year) date.month date.day ≡ pos number = rw year_is at is in
    let place = month_start-days_from_civil year date.month date.day ours civil_date.2.0 in
    let fits : IsCivil year date.month date.day number = record {
      ours = ours;
      month_from = civil_date.1.0;
      month_to = civil_date.1.1;
      day_from = civil_date.2.0;
      day_to = civil_date.2.1;
      place = omega (arith, signed_arith);
    } in
    let y = IsCivil-year year date.month date.day number fits in
    let m = IsCivil-month_of year date.month date.day number fits in
    let d = IsCivil-day_of_month year date.month date.day number fits in
    record {
      year_is = year_is ∙ ap pos (sym y);
      month_is = sym m;
      day_is = sym d;
      ours = rw y ours;
    }

-- a year of ours comes back from its bits as it was
pub year_cast : (z : ℤ) (year : ℕ) → z ≡ pos year → IsOurs year → to_z w16 (of_z w16 z) ≡ pos year
year_cast z year is ours = rw is (back_year (pos year) (omega (arith, signed_arith), omega (arith, signed_arith)))

-- a day with this date has its place there
pub IsDated-civil : (number year month day : ℕ)
    → 10957 ≤ number
    → number ≤ 47481
    → IsDated number year month day
    → IsCivil year month day number
IsDated-civil number year month day from to dated =
    subst (λ (y : ℕ). IsCivil y month day number) dated.in_year
    (subst (λ (m : ℕ). IsCivil (year_of number) m day number) dated.in_month
    (subst (λ (d : ℕ). IsCivil (year_of number) (month_of number) d number) dated.on_day (IsCivil-of number from to)))

-- a month has at most 31 days
pub days_in_month-most : (year month : ℕ) → days_in_month year month ≤ 31
days_in_month-most year month = grind arith

-- what jiff has for a date of ours
pub record IsNumbered (date : Date) (year month day : ℕ) : Type 0 where
  pub number : ℕ
  pub is : epoch_day date ≡ pos number
  pub from : 10957 ≤ number
  pub to : number ≤ 47481
  pub dated : IsDated number year month day

-- of a date of ours it is so
pub IsNumbered-of : (date : Date) (year month day : ℕ)
    → IsOurs year
    → date.year ≡ pos year
    → date.month ≡ month
    → date.day ≡ day
    → IsNumbered date year month day
IsNumbered-of date year month day ours year_is month_is day_is =
    let civil_date : IsCivilDate (pos year) date.month date.day = rw year_is at (civil date) in
    let place = month_start-days_from_civil year date.month date.day ours civil_date.2.0 in
    let number = month_start year date.month + date.day - 1 in
    let fits : IsCivil year date.month date.day number = record {
      ours = ours;
      month_from = civil_date.1.0;
      month_to = civil_date.1.1;
      day_from = civil_date.2.0;
      day_to = civil_date.2.1;
      place = omega arith;
    } in
    let more = days_before-more year date.month fits.month_from in
    let whole = days_before-mono year date.month 12 fits.month_to in
    let next = new_year-next year ours in
    let is : days_from_civil (pos year) date.month date.day ≡ pos number = omega (arith, signed_arith) in
    record {
      number = number;
      is = ap (λ (y : ℤ). days_from_civil y date.month date.day) year_is ∙ is;
      from = omega arith;
      to = omega arith;
      dated = record {
        in_year = IsCivil-year year date.month date.day number fits;
        in_month = IsCivil-month_of year date.month date.day number fits ∙ month_is;
        on_day = IsCivil-day_of_month year date.month date.day number fits ∙ day_is;
      };
    }

-- the same, of the signed numbers that jiff takes
pub IsNumbered-from : (date : Date) (year month day : ℕ)
    → IsOurs year
    → month ≤ 12
    → day ≤ 31
    → date.year ≡ to_z w16 year
    → pos date.month ≡ to_z w8 month
    → pos date.day ≡ to_z w8 day
    → IsNumbered date year month day
IsNumbered-from date year month day ours months days year_is month_is day_is =
    let high = ours.to in
    let plain_year : to_z w16 year ≡ pos year = omega (arith, signed_casts, high) in
    IsNumbered-of date year month day ours (year_is ∙ plain_year) (omega (arith, signed_casts))
    (omega (arith, signed_casts))

-- the date is one of jiff's
pub IsDate-from : (year month day number : ℕ)
    → IsCivil year month day number
    → Civil.IsDate (to_z w16 year) (to_z w8 month) (to_z w8 day)
IsDate-from year month day number is =
    let low = is.ours.from in
    let high = is.ours.to in
    let months = is.month_to in
    let most = days_in_month-most year month in
    let days = is.day_to in
    let plain_year : to_z w16 year ≡ pos year = omega (arith, signed_casts) in
    let plain_month : to_z w8 month ≡ pos month = omega (arith, signed_casts) in
    let plain_day : to_z w8 day ≡ pos day = omega (arith, signed_casts) in
    let whole : Civil.IsDate (pos year) (pos month) (pos day) = (
      (omega (arith, signed_arith), omega (arith, signed_arith)),
      (omega (arith, signed_arith, is.month_from), omega (arith, signed_arith)),
      (omega (arith, signed_arith, is.day_from), omega (arith, signed_arith)),
    ) in
    rw (plain_year, plain_month, plain_day) whole
