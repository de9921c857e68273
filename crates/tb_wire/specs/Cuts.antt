-- Requests of a stream.
use Rattle.std.specs.Prelude.{◌≡◌, ℕ, List, [], ◌∷◌, drop}
use Rattle.tb_wire.specs.declared.cutting.Cutting.TheVariants.{Whole}
use Rattle.tb_wire.specs.declared.cutting.HttpRequest.{HttpRequest}
use Rattle.tb_wire.specs.Front.{IsFront}

-- these requests are cut from the front of the bytes, one after the other, and leave the rest
abbrev pub Cuts : List HttpRequest → List ℕ → List ℕ → Type 0
Cuts [] bytes rest = bytes ≡ rest
Cuts (request ∷ requests) bytes rest = IsFront bytes (Whole request) × Cuts requests (drop request.used bytes) rest

-- no whole request stands at the front
abbrev pub HoldsNone : List ℕ → Type 0
HoldsNone bytes = (request : HttpRequest) → ¬ (IsFront bytes (Whole request))
