-- How a book keeps a line: the rank of its rate tells the rate.
use Rattle.std.specs.Prelude.{◌≡◌, ℕ, ◌≤◌, if◌then◌else◌, nat_lt, min, false, Option, Some, None}
use Rattle.std.proofs.Common.{inl, inr, ap, ◌∙◌, arith}
use Rattle.std.proofs.lemmas.Bool.{cases_Bool, cond-true, cond-false}
use Rattle.std.proofs.lemmas.Bool.Decides.{Decides-ltb, nat_tests}
use Rattle.tb_units.specs.declared.rate.Rate.{Rate}
use Rattle.tb_book.specs.Indexes.{rank_of}
use Rattle.tb_book.specs.declared.stored_line.StoredLine.TheInside.{Inside}

--- a rate is at most the last one
pub within_rates : (rank : ℕ) → min rank 199999 ≤ 199999
within_rates rank = omega arith

-- the rate of so many steps, which are at most those of the last one
abbrev pub rate_of : ℕ → Rate
rate_of steps = record { steps = min steps 199999; in_range = within_rates steps }

-- the rate that stands there among rates, or none behind them
abbrev pub rate_at : ℕ → Option Rate
rate_at rank = if nat_lt rank 200000 then Some (rate_of rank) else None

--- a number that isn't below has reached it
not_below : (rank : ℕ) → nat_lt rank 200000 ≡ false → 200000 ≤ rank
not_below rank above = grind (arith, nat_tests)

--- a rank is told by its rate
pub rank-rate_at : (rank : ℕ) → rank ≤ 200000 → rank_of (rate_at rank) ≡ rank
rank-rate_at rank within =
    elim (cases_Bool (nat_lt rank 200000)) [
      | inl below ↦
          ap rank_of (cond-true (nat_lt rank 200000) (Some (rate_of rank)) None below)
          ∙ omega (arith, (Decides-ltb rank 200000).0 below)
      | inr above ↦
          ap rank_of (cond-false (nat_lt rank 200000) (Some (rate_of rank)) None above)
          ∙ omega (arith, within, not_below rank above)
    ]

--- so a line is told by what it says
pub stored-inverse : (stored : Inside)
    → stored.rank ≤ 200000
    → record {
      rank = rank_of (rate_at stored.rank);
      bidder = stored.bidder;
      number = stored.number;
      amount = stored.amount;
    } ≡ stored
stored-inverse stored within =
    ap (λ rank. record { rank = rank; bidder = stored.bidder; number = stored.number; amount = stored.amount })
    (rank-rate_at stored.rank within)
