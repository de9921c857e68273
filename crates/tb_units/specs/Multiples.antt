-- Multiples of a unit of par, and how much par is summed up at most.
use Rattle.std.specs.Prelude.{ℕ, ◌%◌, ◌^◌, ◌==◌, Bool, ◌&&◌, nat_le}

-- a multiple of a unit, from the unit to a limit
abbrev pub is_multiple : ℕ → ℕ → ℕ → Bool
is_multiple unit most amount = (amount % unit == 0) && nat_le unit amount && nat_le amount most

-- sums of bids, of awards and of holdings are at most this par
abbrev pub most_par : ℕ
most_par = 10 ^ 22
