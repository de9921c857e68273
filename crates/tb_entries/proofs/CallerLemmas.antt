-- What crates above need too.
use Rattle.std.proofs.Common.{◌≡◌, ◌&&◌, Bool, true, false, refl}

-- both hold, whichever is asked first
pub and-swap : (one other : Bool) → (one && other) ≡ (other && one)
and-swap true true = refl
and-swap true false = refl
and-swap false true = refl
and-swap false false = refl
