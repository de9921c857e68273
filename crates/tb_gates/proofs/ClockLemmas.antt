-- The moments of a list, in seconds.
use Rattle.std.proofs.Common.{◌≡◌, ℕ, zero, suc, ◌<◌, List, [], ◌∷◌, length, get_or, sym, ap, arith}
use Rattle.std.specs.Prelude.{Contains}
use Rattle.std.proofs.lemmas.List.{length-map}
use Rattle.tb_units.specs.declared.moment.Moment.{Moment}
use Rattle.tb_gates.specs.Memory.{seconds_of}

-- the moment at a place of a list, in seconds
at_seconds : (moments : List Moment) (k : ℕ) (moment : Moment) (d : ℕ)
    → k < length moments
    → moment ≡ get_or moments k moment
    → get_or (seconds_of moments) k d ≡ moment.seconds
at_seconds [] k moment d on is = absurd (let bad : ⊥ = omega arith in bad)
at_seconds (first ∷ moments) zero moment d on is = sym (ap (λ (m : Moment). m.seconds) is)
at_seconds (first ∷ moments) (suc k) moment d on is = at_seconds moments k moment d (omega arith) is

-- the moment at a place
pub seconds_at : (moments : List Moment) (k : ℕ) (moment : Moment)
    → k < length moments
    → moment ≡ get_or moments k moment
    → moment.seconds ≡ get_or (seconds_of moments) k 0
seconds_at moments k moment on is = sym (at_seconds moments k moment 0 on is)

-- is one of them
pub contains_at : (moments : List Moment) (k : ℕ) (moment : Moment)
    → k < length moments
    → moment ≡ get_or moments k moment
    → Contains (seconds_of moments) moment.seconds
contains_at moments k moment on is = (k, rw (length-map) on, at_seconds moments k moment moment.seconds on is)
