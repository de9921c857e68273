-- A line has the rate that its rank tells.
use Rattle.std.proofs.Common.{◌≡◌, ◌<◌, nat_lt, Option, Some, None, refl, ap, ◌∙◌, arith}
use Rattle.std.proofs.lemmas.Bool.{cond-true}
use Rattle.std.proofs.lemmas.Bool.Decides.{Decides-ltb}
use Rattle.tb_units.specs.Same.{same_rate}
use Rattle.tb_units.specs.declared.rate.Rate.{Rate}
use Rattle.tb_book.specs.Indexes.{rank_of}
use Rattle.tb_book.specs.Stored.{rate_at, rate_of}

-- at the place of its steps stands the rate
pub rate_at-steps : (rate : Rate) → rate_at rate.steps ≡ Some rate
rate_at-steps rate =
    let below : rate.steps < 200000 = omega (arith, rate.in_range) in
    cond-true (nat_lt rate.steps 200000) (Some (rate_of rate.steps)) None ((Decides-ltb rate.steps 200000).1 below)
    ∙ ap Some (same_rate (rate_of rate.steps) rate (omega (arith, rate.in_range)))

-- and at a rank whatever has the rank
pub rate_at-rank_of : (rate : Option Rate) → rate_at (rank_of rate) ≡ rate
rate_at-rank_of (Some rate) = rate_at-steps rate
rate_at-rank_of None = refl
