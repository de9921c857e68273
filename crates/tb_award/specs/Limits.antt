-- The 35 percent limits (31 CFR 356.22) and the amount sought from competitive bids (31 CFR 356.20).
use Rattle.std.specs.Prelude.{ℕ, ℤ, pos, negsuc, ◌-◌, ◌*◌, ◌/◌, ◌%◌, max}

-- 35 percent of the offering
abbrev pub cap_of : ℕ → ℕ
cap_of offering = 35 * offering / 100

-- a negative position counts as zero (our choice)
abbrev pub counted : ℤ → ℕ
counted (pos position) = position
counted (negsuc below) = 0

-- rounded down to a multiple of 100
abbrev pub in_hundreds : ℕ → ℕ
in_hundreds amount = amount - amount % 100

-- what may be recognised of a bidder with this position: the cap less the position, in whole hundreds
abbrev pub limit_of : ℕ → ℤ → ℕ
limit_of offering position = in_hundreds (cap_of offering - counted position)

-- what noncompetitive bids leave of the offering, and at least the floor (the floor is our choice)
abbrev pub sought_of : ℕ → ℕ → ℕ → ℕ
sought_of offering noncompetitive floor = max (offering - noncompetitive) floor
