-- One entry of a parcel, and the history.
use Rattle.std.specs.Prelude.{◌≡◌, ℕ, ◌++◌, ◌∷◌, List, [], length, Result, Ok, Err}
use Rattle.tb_message.specs.declared.message.Entry.{Entry}
use Rattle.tb_message.specs.declared.verdict.Verdict.{Verdict}
use Rattle.tb_message.specs.declared.verdict.Verdict.TheVariants.{Accepted, Repeat, Refused}
use Rattle.tb_history.specs.Legal.{Follows}
use Rattle.tb_replica.specs.declared.taken.TakeFault.{TakeFault}
use Rattle.tb_replica.specs.declared.taken.TakeFault.TheVariants as fault

-- It was added, where it can follow; or it can't, which is told with its place. Else nothing was added.
abbrev pub IsAdded : List Entry → Entry → List Entry → Result (Unit {0}) TakeFault → Type 0
IsAdded old entry new (Ok done) = Follows old entry × (new ≡ old ++ entry ∷ [])
IsAdded old entry new (Err (fault.Forked place)) = (¬ (Follows old entry)) × (place ≡ length old) × (new ≡ old)
IsAdded old entry new (Err fault.DiskFault) = new ≡ old
IsAdded old entry new (Err fault.OutOfMemory) = new ≡ old

-- an accepted entry is told as added, and each other one as a fork at its place
abbrev pub IsToldBy : Verdict → ℕ → Result (Unit {0}) TakeFault → Type 0
IsToldBy (Accepted number at) place result = result ≡ Ok tt
IsToldBy (Repeat number at) place result = result ≡ Err (fault.Forked place)
IsToldBy (Refused refusal) place result = result ≡ Err (fault.Forked place)
