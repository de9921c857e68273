-- The calendar stays in order, and tells the payment date.
use Rattle.std.proofs.Common.{◌≡◌, ◌≢◌, ℕ, zero, suc, ◌+◌, ◌<◌, ◌≤◌, ◌==◌, ◌&&◌, ◌||◌, Bool, true, false, not, inl, inr, List, [], ◌∷◌, ◌++◌, length, length-append, get_or, take, drop, nat_lt, refl, sym, ap, ◌∙◌, subst, arith}
use Rattle.std.specs.List.{insert, list_any}
use Rattle.std.specs.List.Sorted.{IsStrictlyIncreasing, IsPartitionedBy}
use Rattle.std.proofs.lemmas.Bool.{cases_Bool, cases_eq, cases_lt, ltb-true, ltb-false, lt-ltb, eqb-true, eq-eqb, or_left, or_right}
use Rattle.std.proofs.lemmas.List.{get_or-map, get_or-take, length-map, length-take, take-append-drop}
use Rattle.std.proofs.lemmas.List.Folds.{list_any-append}
use Rattle.tb_units.specs.declared.day.Day.{Day}
use Rattle.tb_units.specs.Places.{IsPlace}
use Rattle.tb_units.proofs.ListLemmas.{AllPairs-insert}
use Rattle.tb_terms.specs.Payable.{numbers_of, is_weekend, is_business_day, IsPaymentDate}
use Rattle.tb_history.specs.Values.{day_of}
use Rattle.tb_history.specs.Tables.{payment_day}
use Rattle.tb_history.proofs.StableLemmas.{or_false}
use Rattle.tb_history.proofs.CutFigureLemmas.{first_from-is}
use Rattle.tb_tables.specs.Calendar.{AreByDate, is_among, IsCalendar, AddsDays}

-- a holiday is one of the days
among_numbers : (days : List Day) (number : ℕ)
    → list_any (λ holiday. holiday == number) (numbers_of days) ≡ is_among days number
among_numbers [] number = refl
among_numbers (day ∷ days) number = ap (λ b. (day.number == number) || b) (among_numbers days number)

-- so business days are those of the holidays that were entered
business_same : (days entered : List Day) (number : ℕ)
    → IsCalendar days entered
    → is_business_day (numbers_of days) number ≡ is_business_day (numbers_of entered) number
business_same days entered number calendar =
    ap (λ b. not (is_weekend number) && not b)
    (among_numbers days number ∙ (calendar.same number ∙ sym (among_numbers entered number)))

-- and so is the payment date
pub payment_same : (days entered : List Day) (maturity day : ℕ)
    → IsCalendar days entered
    → IsPaymentDate (numbers_of days) maturity day
    → IsPaymentDate (numbers_of entered) maturity day
payment_same days entered maturity day calendar is = record {
  from = is.from;
  business = sym (business_same days entered day calendar) ∙ is.business;
  first = λ earlier from before. sym (business_same days entered earlier calendar) ∙ is.first earlier from before;
}

-- days by date have rising numbers
pub numbers_rise : (days : List Day) → AreByDate days → IsStrictlyIncreasing (numbers_of days)
numbers_rise days order = λ k within.
    let number : Day → ℕ = λ (day : Day). day.number in
    let d : Day = day_of 0 in
    let long : length (numbers_of days) ≡ length days = length-map days number in
    let one : get_or (numbers_of days) k 0 ≡ (get_or days k d).number =
    get_or-map number days k d 0 (omega (arith, within, long)) in
    let two : get_or (numbers_of days) (k + 1) 0 ≡ (get_or days (k + 1) d).number =
    get_or-map number days (k + 1) d 0 (omega (arith, within, long)) in
    let less : (get_or days k d).number < (get_or days (k + 1) d).number =
    order k (k + 1) d (omega arith) (omega (arith, within, long)) in
    omega (arith, one, two, less)

-- which of three comes first doesn't matter
or_moved : (a b c : Bool) → (a || (b || c)) ≡ ((a || c) || b)
or_moved true b c = refl
or_moved false true true = refl
or_moved false true false = refl
or_moved false false true = refl
or_moved false false false = refl

-- a day among others that is put in
pub among_insert : (days : List Day) (place : ℕ) (day : Day) (number : ℕ)
    → is_among (insert days place day) number ≡ (is_among days number || is_among (day ∷ []) number)
among_insert days place day number =
    let test : Day → Bool = λ (other : Day). other.number == number in
    let front : List Day = take place days in
    let back : List Day = drop place days in
    let whole : is_among days number ≡ (is_among front number || is_among back number) =
    ap (λ (ds : List Day). is_among ds number) (sym (take-append-drop place days)) ∙ list_any-append test front back in
    list_any-append test front (day ∷ back)
    ∙ (or_moved (is_among front number) (day.number == number) (is_among back number)
    ∙ (ap (λ b. b || (day.number == number)) (sym whole)
    ∙ ap (λ b. is_among days number || b) (sym (or_false (day.number == number)))))

-- a day that is there already
pub among_there : (days : List Day) (place : ℕ) (day d : Day) (number : ℕ)
    → place < length days
    → (get_or days place d).number ≡ day.number
    → is_among days number ≡ (is_among days number || is_among (day ∷ []) number)
among_there days place day d number within same =
    elim (cases_Bool (day.number == number)) [
      | inl is ↦
          let there : is_among days number ≡ true =
          among_at days place d number within (same ∙ eqb-true day.number number is) in
          rw there refl
      | inr isnt ↦ rw isnt (sym (or_false (is_among days number)))
    ]
  where
    -- what stands at a place is among them
    among_at : (xs : List Day) (k : ℕ) (d : Day) (n : ℕ) → k < length xs → (get_or xs k d).number ≡ n
        → is_among xs n ≡ true
    among_at [] k d n short is = absurd (omega (arith, short))
    among_at (x ∷ xs) zero d n short is = or_left (x.number == n) (is_among xs n) (eq-eqb x.number n is)
    among_at (x ∷ xs) (suc k) d n short is =
        or_right (x.number == n) (is_among xs n) (among_at xs k d n (omega (arith, short)) is)

-- a day at its place where it isn't there yet stands in order
pub order_insert : (days : List Day) (place : ℕ) (day : Day)
    → AreByDate days
    → IsPlace (λ (other : Day). nat_lt other.number day.number) days place
    → ((d : Day) → place < length days → (get_or days place d).number ≢ day.number)
    → AreByDate (insert days place day)
order_insert days place day order at new =
    AllPairs-insert (λ (one other : Day). one.number < other.number) days place day at.within order before behind
  where
    -- the days before the place are before the day
    before : (k : ℕ) (d : Day) → 0 ≤ k → k < place → (get_or days k d).number < day.number
    before k d from below =
        let read : get_or (take place days) k d ≡ get_or days k d = get_or-take place days k d below in
        ltb-true (get_or days k d).number day.number
        (subst (λ (x : Day). nat_lt x.number day.number ≡ true) read
        (at.passed k d (omega (arith, below, at.within, length-take place days))))

    -- the one at the place is behind it
    here : (d : Day) → place < length days → day.number < (get_or days place d).number
    here d within =
        omega (arith, ltb-false (get_or days place d).number day.number (at.stops d within), new d within)

    -- and so are those behind the place
    behind : (k : ℕ) (d : Day) → place ≤ k → k < length days → day.number < (get_or days k d).number
    behind k d from within =
        elim (cases_lt place k) [
          | inl later ↦ omega (arith, here d (omega (arith, later, within)), order place k d later within)
          | inr most ↦
              let same : place ≡ k = omega (arith, from, most) in
              subst (λ (i : ℕ). day.number < (get_or days i d).number) same (here d (omega (arith, from, within)))
        ]

-- the days that were entered are there with those that are added
pub IsCalendar-push : (days entered added new : List Day)
    → IsCalendar days entered
    → AddsDays added days new
    → IsCalendar new (entered ++ added)
IsCalendar-push days entered added new calendar adds = record {
  same = λ number.
      adds.same number
      ∙ (ap (λ b. b || is_among added number) (calendar.same number)
      ∙ sym (list_any-append (λ (day : Day). day.number == number) entered added));
  few = omega (arith, adds.few, calendar.few, length-append entered added);
}

-- the days before a day stand first
pub parted : (days : List Day) (day : Day)
    → AreByDate days
    → IsPartitionedBy (λ (other : Day). nat_lt other.number day.number) days
parted days day order = λ i j d within short earlier.
    elim (cases_eq i j) [
      | inl at ↦ rw at earlier
      | inr apart ↦
          let before : (get_or days i d).number < (get_or days j d).number =
          order i j d (omega (arith, within, apart)) short in
          lt-ltb (get_or days i d).number day.number
          (omega (arith, before, ltb-true (get_or days j d).number day.number earlier))
    ]

-- the payment date of the calendar is that of the holidays that were entered
pub payment_found : (days entered : List Day) (maturity payment : Day)
    → IsCalendar days entered
    → IsPaymentDate (numbers_of days) maturity.number payment.number
    → payment_day entered maturity ≡ payment.number
unfolding payment_day
payment_found days entered maturity payment calendar is =
    let same : IsPaymentDate (numbers_of entered) maturity.number payment.number =
    payment_same days entered maturity.number payment.number calendar is in
    first_from-is (is_business_day (numbers_of entered)) maturity.number 47482 payment.number same.from
    (omega (arith, payment.not_after)) same.business same.first

-- nothing is added
pub adds_nothing : (days : List Day) → AddsDays [] days days
adds_nothing days = record {
  same = λ number. sym (or_false (is_among days number));
  few = omega arith;
}
