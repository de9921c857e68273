-- What the Eastern rule says: the zone's offset at each midnight.
use Rattle.std.proofs.Common.{◌≡◌, ℕ, ℤ, pos, neg_ℤ, Option, Some, None, refl, ap, subst, ◌∙◌, arith, Bool, true, false}
use Rattle.jiff_tz.specs.PosixReader.{read_whole}
use Rattle.jiff_tz.specs.PosixText.{TzText, DstText, tz_view, dst_view}
use Rattle.jiff_tz.specs.declared.posix.Day.TheVariants.{WeekdayOfMonth}
use Rattle.jiff.proofs.OnLiterals.{jiff_on_literals}
use Rattle.tb_terms.specs.Zone.{rule_text, IsEastern, start_in_zone}
use Rattle.jiff_tz.specs.Zone as Zone
use Rattle.jiff_tz.specs.declared.timezone.TimeZone as Zones
use Rattle.jiff_tz.specs.declared.timezone.TimeZone.TheVariants as zones
use Rattle.std.specs.Prelude.{◌+ℤ◌, ◌*ℤ◌, ◌-ℤ◌, ◌<ℤ◌, ◌≤ℤ◌, ◌-◌, ◌≤◌, int_lt, int_le, ◌&&◌, not, if◌then◌else◌, option_map}
use Rattle.jiff_tz.specs.PosixRule as Posix
use Rattle.jiff_tz.specs.PosixRule.{match_some, rule_nanos, rule_day, nth_weekday, in_window, ambiguous_by, ambiguous_ahead, first_day, clamp_to, first_nanosecond, last_nanosecond, sunday_number}
use Rattle.jiff_tz.specs.declared.posix.TimeZone.{TimeZone}
use Rattle.jiff_tz.specs.declared.posix.Dst.{Dst}
use Rattle.jiff_tz.specs.declared.posix.DayTime.{DayTime}
use Rattle.jiff_core.specs.Calendar.{day_count, days_from_civil, days_of_months, days_in_year, IsBetween}
use Rattle.jiff_core.specs.Timestamp.{nanos_of_seconds}
use Rattle.jiff_core.specs.DateTime.{civil_nanos}
use Rattle.jiff_core.specs.Date.{epoch_day}
use Rattle.jiff_core.specs.declared.civil.date.Date.{Date}
use Rattle.std.specs.Prelude.{codes, negsuc, int_div}
use Rattle.std.proofs.Common.{w64, to_z, of_z}
use Rattle.jiff_core.specs.Time.{time_nanos}
use Rattle.jiff_core.specs.declared.civil.datetime.DateTime.{DateTime}
use Rattle.jiff_core.proofs.DateLemmas.{civil}
use Rattle.jiff_tz.proofs.YearLemmas.{year_start_bound, year_end_bound}
use Rattle.jiff_tz.proofs.PosixLemmas.{ambiguous_at-some}
use Rattle.jiff_core.proofs.CalendarLemmas.{days_from_civil-day_count, day_count-day_of_year, day_count-lt_year, day_count-last_of_year, day_count_bounds, day_count-epoch, days_of_months_table, days_in_year_bounds}
use Rattle.jiff_core.proofs.MarchLemmas.{days_in_year-leap_day, day_count-early, day_count-late}
use Rattle.jiff_core.proofs.SignedLemmas.{signed_arith, back_small}
use Rattle.std.proofs.lemmas.Int.{ints}
use Rattle.jiff_tz.specs.PosixRule.{civil_min, civil_max, saturating_add, saturating_sub, in_span, shift_between}
use Rattle.jiff_core.specs.declared.Offset.{Offset}
use Rattle.jiff_tz.specs.Ambiguous.{compatible_offset, instant_of}
use Rattle.jiff_tz.specs.declared.ambiguous.AmbiguousOffset.TheVariants.{Unambiguous, Gap, Fold}
use Rattle.jiff_tz.specs.declared.ambiguous.AmbiguousOffset.{AmbiguousOffset}

-- daylight saving time of the rule
abbrev pub daylight_rule : DstText
daylight_rule = record {
  name = codes "EDT";
  seconds = neg_ℤ (pos 14400);
  start = (WeekdayOfMonth 3 2 0, pos 7200);
  finish = (WeekdayOfMonth 11 1 0, pos 7200);
}

-- the rule
abbrev pub eastern_rule : TzText
eastern_rule = record { std_name = codes "EST"; std_seconds = neg_ℤ (pos 18000); dst = Some daylight_rule }

-- the text says this rule
pub rule_read : read_whole rule_text ≡ Some eastern_rule
unfolding jiff_on_literals
rule_read = refl

-- the first of a month, from 1 January
pub days_from_civil-month : (y : ℤ) (m : ℕ)
    → 1 ≤ m
    → days_from_civil y m 1 ≡ first_day y +ℤ pos (days_of_months y (m - 1))
days_from_civil-month y m h =
    let a = days_from_civil-day_count y m 1 in
    let b = days_from_civil-day_count y 1 1 in
    let e = day_count-day_of_year y m 1 (omega arith) in
    omega (arith, signed_arith, a, b, e)

-- the two Sundays lie within the year, in this order
pub record AreSundays (y s e : ℤ) : Type 0 where
  pub low : (first_day y +ℤ pos 66) ≤ℤ s
  pub high : s ≤ℤ (first_day y +ℤ pos 73)
  pub low_end : (first_day y +ℤ pos 304) ≤ℤ e
  pub high_end : e ≤ℤ (first_day y +ℤ pos 311)
  pub length : 365 ≤ days_in_year y

-- and so they do
pub sundays : (y : ℤ) → AreSundays y (nth_weekday y 3 2 0) (nth_weekday y 11 1 0)
sundays y =
    let a = days_from_civil-month y 3 (omega arith) in
    let b = days_from_civil-month y 11 (omega arith) in
    let ta = days_of_months_table y 2 (omega arith) in
    let tb = days_of_months_table y 10 (omega arith) in
    let d = days_in_year_bounds y in
    let leap = days_in_year-leap_day y in
    record {
      low = omega (arith, signed_arith);
      high = omega (arith, signed_arith);
      low_end = omega (arith, signed_arith);
      high_end = omega (arith, signed_arith);
      length = d.1;
    }

-- two in the morning of a day of the year, on that clock
pub two_in_the_morning : (y : ℤ) (d : DayTime) (day : ℤ) → rule_day y d.date ≡ Some day → d.time ≡ pos 7200
    → (first_day y ≤ℤ day) → day <ℤ (first_day y +ℤ pos 365) → 365 ≤ days_in_year y
    → rule_nanos y d (pos 0) ≡ day *ℤ pos 86_400_000_000_000 +ℤ pos 7_200_000_000_000
unfolding rule_nanos
two_in_the_morning y d day is time low high long = rw (is, time) (grind (arith, signed_arith))

-- midnight of a day in nanoseconds on that clock
abbrev pub day_nanos : ℤ → ℤ
day_nanos day = day *ℤ pos 86_400_000_000_000

-- two in the morning of a day in nanoseconds on that clock
abbrev pub two_o_clock : ℤ → ℤ
two_o_clock day = day *ℤ pos 86_400_000_000_000 +ℤ pos 7_200_000_000_000

-- a midnight lies between the changes where its day is after the one and not after the other
window_is : (s e day : ℤ)
    → s <ℤ e
    → in_window (two_o_clock s, two_o_clock e) (day_nanos day) ≡ (int_lt s day && int_le day e)
window_is s e day h = grind (arith, ints)

-- no midnight lies in the hour that is left out
no_gap : (s day : ℤ)
    → neg_ℤ (pos 4_371_587) ≤ℤ s
    → s ≤ℤ pos 2_932_895
    → int_le (two_o_clock s) (day_nanos day)
    && int_lt (day_nanos day) (clamp_to civil_min civil_max (two_o_clock s +ℤ pos 3_600_000_000_000)) ≡ false
no_gap s day low high = grind (arith, ints)

-- daylight saving time is ahead of standard time
ambiguous_by-ahead : (std dst : Offset) (w : ℤ × ℤ) (at : ℤ)
    → std.seconds ≡ neg_ℤ (pos 18000)
    → dst.seconds ≡ neg_ℤ (pos 14400)
    → ambiguous_by std dst w at ≡ ambiguous_ahead std dst w at
ambiguous_by-ahead std dst w at std_is dst_is =
    let behind : int_lt dst.seconds std.seconds ≡ false = rw (std_is, dst_is) refl in
    let front : int_lt std.seconds dst.seconds ≡ true = rw (std_is, dst_is) refl in
    rw (behind, front) refl

-- by one hour
shift_between-hour : (std dst : Offset)
    → std.seconds ≡ neg_ℤ (pos 18000)
    → dst.seconds ≡ neg_ℤ (pos 14400)
    → shift_between std dst ≡ pos 3_600_000_000_000
shift_between-hour std dst std_is dst_is = rw (std_is, dst_is) refl

-- the offset before a transition, by what the tests say
offset_by_tests : (a b c : Bool) (std dst : Offset) → b ≡ false
    → compatible_offset (if not a then Unambiguous std
    else (if b then Gap std dst else (if c then Fold dst std else Unambiguous dst))) ≡ (if a then dst else std)
offset_by_tests false b c std dst h = refl
offset_by_tests true true c std dst h = absurd (cc)
offset_by_tests true false true std dst h = refl
offset_by_tests true false false std dst h = refl

-- outside the hour that is left out it is the offset of the window
offset_outside_the_gap : (std dst : Offset) (w : ℤ × ℤ) (at : ℤ)
    → in_span w.0 (saturating_add w.0 (shift_between std dst)) at ≡ false
    → compatible_offset (ambiguous_ahead std dst w at) ≡ (if in_window w at then dst else std)
offset_outside_the_gap std dst w at gap =
    offset_by_tests (in_window w at) _ (in_span (saturating_sub w.1 (shift_between std dst)) w.1 at) std dst gap

-- the offset at a midnight, with the two Sundays' mornings
offset_at_midnight : (std dst : Offset) (s e day : ℤ)
    → std.seconds ≡ neg_ℤ (pos 18000)
    → dst.seconds ≡ neg_ℤ (pos 14400)
    → s <ℤ e
    → neg_ℤ (pos 4_371_587) ≤ℤ s → s ≤ℤ pos 2_932_895
    → compatible_offset (ambiguous_by std dst (two_o_clock s, two_o_clock e) (day_nanos day))
    ≡ (if int_lt s day && int_le day e then dst else std)
offset_at_midnight std dst s e day std_is dst_is order low high =
    let far = shift_between-hour std dst std_is dst_is in
    ap compatible_offset (ambiguous_by-ahead std dst (two_o_clock s, two_o_clock e) (day_nanos day) std_is dst_is)
    ∙ offset_outside_the_gap std dst (two_o_clock s, two_o_clock e) (day_nanos day) (rw far (no_gap s day low high))
    ∙ ap (λ (b : Bool). if b then dst else std) (window_is s e day order)

-- the rule has daylight saving time
some_dst : (o : Option Dst)
    → option_map dst_view o ≡ Some daylight_rule
    → (d : Dst) × (o ≡ Some d) × (dst_view d ≡ daylight_rule)
some_dst None h = absurd (cc)
some_dst (Some d) h = (d, refl, cc)

-- daylight saving time ends on the first Sunday of November
first_sunday_day : (y : ℤ) → rule_day y (WeekdayOfMonth 11 1 0) ≡ Some (nth_weekday y 11 1 0)
unfolding rule_day
first_sunday_day y = refl

-- and begins on the second Sunday of March
second_sunday_day : (y : ℤ) → rule_day y (WeekdayOfMonth 3 2 0) ≡ Some (nth_weekday y 3 2 0)
unfolding rule_day
second_sunday_day y = refl

-- the seconds of the chosen offset
seconds_of : (std dst : Offset)
    → std.seconds ≡ neg_ℤ (pos 18000)
    → dst.seconds ≡ neg_ℤ (pos 14400)
    → (b : Bool)
    → (if b then dst else std).seconds ≡ neg_ℤ (pos (if b then 14400 else 18000))
seconds_of std dst s d true = d
seconds_of std dst s d false = s

-- the same at equal moments
by_parts : (std dst : Offset) (a b at a₂ b₂ at₂ : ℤ)
    → a ≡ a₂
    → b ≡ b₂
    → at ≡ at₂
    → ambiguous_by std dst (a, b) at ≡ ambiguous_by std dst (a₂, b₂) at₂
by_parts std dst a b at a₂ b₂ at₂ p q r =
    subst (λ x. ambiguous_by std dst (a, b) at ≡ ambiguous_by std dst (x, b₂) at₂) p
    (subst (λ x. ambiguous_by std dst (a, b) at ≡ ambiguous_by std dst (a, x) at₂) q
    (ap (ambiguous_by std dst (a, b)) r))

-- a midnight on the clock
pub at_midnight_nanos : (dt : DateTime) → time_nanos dt.time ≡ 0 → civil_nanos dt ≡ day_nanos (epoch_day dt.date)
unfolding civil_nanos
at_midnight_nanos dt midnight = rw midnight (omega (arith, signed_arith))

-- at a midnight, the offset of the rule
pub at_midnight : (rule : TimeZone) (dt : DateTime) → tz_view rule ≡ eastern_rule → time_nanos dt.time ≡ 0
    → (compatible_offset (Posix.ambiguous_at rule dt)).seconds
    ≡ neg_ℤ (pos (if int_lt (nth_weekday dt.date.year 3 2 0) (epoch_day dt.date)
    && int_le (epoch_day dt.date) (nth_weekday dt.date.year 11 1 0) then 14400 else 18000))
at_midnight rule dt is midnight =
    let y = dt.date.year in
    let std_is : rule.std_offset.seconds ≡ neg_ℤ (pos 18000) = ap (λ (t : TzText). t.std_seconds) is in
    let (d, dst, view) = some_dst rule.dst (ap (λ (t : TzText). t.dst) is) in
    let dst_is : d.offset.seconds ≡ neg_ℤ (pos 14400) = ap (λ (t : DstText). t.seconds) view in
    let start_day : d.rule.start.date ≡ WeekdayOfMonth 3 2 0 = ap (λ (t : DstText). t.start.0) view in
    let start_time : d.rule.start.time ≡ pos 7200 = ap (λ (t : DstText). t.start.1) view in
    let end_day : d.rule.end.date ≡ WeekdayOfMonth 11 1 0 = ap (λ (t : DstText). t.finish.0) view in
    let end_time : d.rule.end.time ≡ pos 7200 = ap (λ (t : DstText). t.finish.1) view in
    let in_year = (civil dt.date).0 in
    let sun = sundays dt.date.year in
    let bottom = year_start_bound dt.date.year in_year in
    let top = year_end_bound dt.date.year in_year in
    let start =
    two_in_the_morning dt.date.year d.rule.start (nth_weekday dt.date.year 3 2 0)
    (ap (rule_day dt.date.year) start_day ∙ second_sunday_day dt.date.year) start_time
    (omega (arith, signed_arith, sun.low)) (omega (arith, signed_arith, sun.high)) sun.length in
    let end =
    two_in_the_morning dt.date.year d.rule.end (nth_weekday dt.date.year 11 1 0)
    (ap (rule_day dt.date.year) end_day ∙ first_sunday_day dt.date.year) end_time
    (omega (arith, signed_arith, sun.low_end)) (omega (arith, signed_arith, sun.high_end)) sun.length in
    let far =
    offset_at_midnight rule.std_offset d.offset (nth_weekday dt.date.year 3 2 0) (nth_weekday dt.date.year 11 1 0)
    (epoch_day dt.date) std_is dst_is (omega (arith, signed_arith, sun.high, sun.low_end))
    (omega (arith, signed_arith, sun.low, bottom)) (omega (arith, signed_arith, sun.high, top)) in
    let at_day = at_midnight_nanos dt midnight in
    ap (λ (a : AmbiguousOffset). (compatible_offset a).seconds)
    (ambiguous_at-some rule d dt dst ∙ by_parts rule.std_offset d.offset _ _ _ _ _ _ start end at_day)
    ∙ ap (λ (o : Offset). o.seconds) far
    ∙ seconds_of rule.std_offset d.offset std_is dst_is _

-- the text says no other rule
same_rule : (t : TzText) → read_whole rule_text ≡ Some t → t ≡ eastern_rule
same_rule t h = let r = rule_read in cc (r)

-- a midnight less the offset, in seconds
instant_by : (b : Bool) (day n off : ℤ)
    → n ≡ day_nanos day
    → off ≡ neg_ℤ (pos (if b then 14400 else 18000))
    → n -ℤ nanos_of_seconds off ≡ (day *ℤ pos 86400 +ℤ pos (if b then 14400 else 18000)) *ℤ pos 1_000_000_000
instant_by true day n off e o = rw (e, o) (omega (arith, signed_arith))
instant_by false day n off e o = rw (e, o) (omega (arith, signed_arith))

-- the instant at which a day begins in Eastern time
pub instant_is : (zone : Zones.TimeZone) (dt : DateTime) → IsEastern zone → time_nanos dt.time ≡ 0
    → instant_of dt (compatible_offset (Zone.ambiguous_at zone dt))
    ≡ start_in_zone dt.date.year (epoch_day dt.date) *ℤ pos 1_000_000_000
unfolding Zone.ambiguous_at start_in_zone
instant_is (zones.Posix rule) dt eastern midnight =
    instant_by _ (epoch_day dt.date) (civil_nanos dt) _ (at_midnight_nanos dt midnight)
    (at_midnight rule dt (same_rule (tz_view rule) eastern) midnight)
instant_is zones.UTC dt eastern midnight = absurd eastern
instant_is zones.Unknown dt eastern midnight = absurd eastern
instant_is (zones.Fixed o) dt eastern midnight = absurd eastern
instant_is (zones.Tzif z) dt eastern midnight = absurd eastern

-- a day of the years 2000 to 2099
pub day_bounds : (d : Date)
    → IsBetween (pos 2000) (pos 2099) d.year
    → (pos 0 ≤ℤ epoch_day d) × (epoch_day d ≤ℤ pos 2_932_600)
day_bounds d h =
    let is = civil d in
    let leap : days_in_year (pos 9999) ≡ 365 = refl in
    let first =
    day_count-lt_year (pos 1970) 1 1 d.year d.month d.day (
      (omega (arith, signed_arith), omega (arith, signed_arith)),
      (omega arith, omega arith),
      (omega arith, omega arith),
    ) is.2.0 (omega (arith, signed_arith, h)) in
    let last =
    day_count-lt_year d.year d.month d.day (pos 9999) 1 1 is (omega arith) (omega (arith, signed_arith, h)) in
    let end = day_count-last_of_year (pos 9999) in
    let top =
    (day_count_bounds (pos 9999) 12 31 (
      (omega (arith, signed_arith), omega (arith, signed_arith)),
      (omega arith, omega arith),
      (omega arith, omega arith),
    )).1 in
    let zero = day_count-epoch in
    let n = days_from_civil-day_count d.year d.month d.day in
    (omega (arith, signed_arith), omega (arith, signed_arith))

-- where days of these years begin
start_by : (b : Bool) (day : ℤ)
    → pos 0 ≤ℤ day
    → day ≤ℤ pos 2_932_600
    → (pos 0 ≤ℤ (day *ℤ pos 86400 +ℤ pos (if b then 14400 else 18000)))
    × ((day *ℤ pos 86400 +ℤ pos (if b then 14400 else 18000)) ≤ℤ pos 253_402_000_000)
start_by true day low high = (omega (arith, signed_arith), omega (arith, signed_arith))
start_by false day low high = (omega (arith, signed_arith), omega (arith, signed_arith))

-- so days of these years begin within the range of seconds
pub start_bounds : (d : Date)
    → IsBetween (pos 2000) (pos 2099) d.year
    → (pos 0 ≤ℤ start_in_zone d.year (epoch_day d)) × (start_in_zone d.year (epoch_day d) ≤ℤ pos 253_402_000_000)
unfolding start_in_zone
start_bounds d h = start_by _ (epoch_day d) (day_bounds d h).0 (day_bounds d h).1

-- the whole seconds of an instant
pub whole_seconds : (n s : ℤ) → n ≡ s *ℤ pos 1_000_000_000 → pos 0 ≤ℤ s → int_div n (pos 1_000_000_000) ≡ s
whole_seconds n (pos k) e h = rw e (omega (arith, signed_arith))
whole_seconds n (negsuc k) e h = absurd (omega (arith, signed_arith))

-- seconds in this range come back from their bits
pub comes_back : (z : ℤ) → pos 0 ≤ℤ z → z ≤ℤ pos 253_402_000_000 → to_z w64 (of_z w64 z) ≡ z
comes_back (pos k) low high = back_small w64 (pos k) (omega (arith, signed_arith, high))
comes_back (negsuc k) low high = absurd (omega (arith, signed_arith, low))

-- the number of the first day of ours
first_of_2000 : day_count (pos 2000) 1 1 ≡ 4_382_910
first_of_2000 = day_count-early (pos 2000) 11999 1 1 refl (omega arith) (omega arith) (omega arith)

-- and of the last
last_of_2099 : day_count (pos 2099) 12 31 ≡ 4_419_434
last_of_2099 = day_count-late (pos 2099) 12099 12 31 refl (omega arith) (omega arith) (omega arith)

-- a day number from 10,957 to 47,481 is one of the years 2000 to 2099
pub in_years : (d : Date) (n : ℕ) → epoch_day d ≡ pos n → 10957 ≤ n → n ≤ 47481 → IsBetween (pos 2000) (pos 2099) d.year
in_years d n e low high =
    let is = civil d in
    let number = days_from_civil-day_count d.year d.month d.day in
    let early = day_count-lt_year d.year d.month d.day (pos 2000) 1 1 is (omega arith) in
    let late =
    day_count-lt_year (pos 2099) 12 31 d.year d.month d.day (
      (omega (arith, signed_arith), omega (arith, signed_arith)),
      (omega arith, omega arith),
      (omega arith, omega arith),
    ) is.2.0 in
    let a = first_of_2000 in
    let b = last_of_2099 in (
      at_least d.year (pos 2000) (λ h. omega (arith, signed_arith, early h)),
      at_least (pos 2099) d.year
          (λ h. omega (arith, signed_arith, late h)),
    )
  where
    at_least : (y z : ℤ) → ¬ (y <ℤ z) → z ≤ℤ y
    at_least y z h = grind (arith, ints)
