-- What each participant holds and was paid: sums over the movements (31 CFR Part 357, Subpart B).
use Rattle.std.specs.Prelude.{ℕ, ◌-◌, Bool, not, List, sum_by, if◌then◌else◌}
use Rattle.std.specs.List.{list_any, take_while}
use Rattle.tb_movements.specs.Movements.{Movement, brought, taken, issues, redeems}

-- a redemption of the security stands
abbrev pub is_redeemed : ℕ → List Movement → Bool
is_redeemed security history = list_any (redeems security) history

-- the movements before the security was redeemed
abbrev pub before_redemption : ℕ → List Movement → List Movement
before_redemption security history = take_while (λ movement. not (redeems security movement)) history

-- what came to the holder less what left it
abbrev pub balance : ℕ → ℕ → List Movement → ℕ
balance holder security history = sum_by (brought holder security) history - sum_by (taken holder security) history

-- what the holder holds of the security
abbrev pub held : ℕ → ℕ → List Movement → ℕ
held holder security history = if is_redeemed security history then 0 else balance holder security history

-- all that was issued of the security
abbrev pub issued : ℕ → List Movement → ℕ
issued security history = sum_by (issues security) history

-- what of it is not redeemed
abbrev pub outstanding : ℕ → List Movement → ℕ
outstanding security history = if is_redeemed security history then 0 else issued security history

-- what the holder was paid: what it held just before the redemption
abbrev pub paid : ℕ → ℕ → List Movement → ℕ
paid holder security history =
    if is_redeemed security history then held holder security (before_redemption security history) else 0
