-- What an announcement must have (our choices of limits).
use Rattle.std.specs.Prelude.{ℕ, ◌-◌, ◌^◌, Bool, ◌&&◌, nat_lt, nat_le}
use Rattle.tb_units.specs.Multiples.{is_multiple}
use Rattle.tb_terms.specs.declared.announcement.Announcement.{Announcement}

-- 2079-12-31
abbrev pub last_maturity : ℕ
last_maturity = 40176

-- days from issue to maturity, at most
abbrev pub most_days : ℕ
most_days = 366

-- auction, issue and maturity in this order, maturity after the issue by at most so many days and by its last day
abbrev pub has_dates : Announcement → Bool
has_dates a =
    nat_le a.auction_date.number a.issue.number && nat_lt a.issue.number a.maturity.number
    && nat_le a.maturity.number last_maturity && nat_le (a.maturity.number - a.issue.number) most_days

-- par is offered in millions
abbrev pub offering_unit : ℕ
offering_unit = 10 ^ 6

-- at most a million of them
abbrev pub most_offering : ℕ
most_offering = 10 ^ 12

-- another announced amount: hundreds, within the offering
abbrev pub is_within : Announcement → ℕ → Bool
is_within a amount = is_multiple 100 a.offering.value amount

-- the offering and each other amount
abbrev pub has_amounts : Announcement → Bool
has_amounts a =
    is_multiple offering_unit most_offering a.offering.value && is_within a a.minimum.value
    && is_within a a.nc_ceiling.value && is_within a a.competitive_floor.value && is_within a a.nlp_threshold.value

-- 8:00
abbrev pub first_closing : ℕ
first_closing = 480

-- 18:00
abbrev pub last_closing : ℕ
last_closing = 1080

-- a minute from the one to the other
abbrev pub is_closing : ℕ → Bool
is_closing minute = nat_le first_closing minute && nat_le minute last_closing

-- noncompetitive bidding closes no later than competitive bidding
abbrev pub has_closings : Announcement → Bool
has_closings a = is_closing a.nc_close && is_closing a.c_close && nat_le a.nc_close a.c_close
