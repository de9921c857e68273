use Rattle.std.proofs.Common.{◌≡◌, ◌-◌, length}
use Rattle.tb_commands.specs.ParcelInput.{to_come, ungiven}
use Rattle.tb_commands.proofs.ParcelInputLemmas.{ReadsSoFar}
use Rattle.tb_commands.proofs.parcel_input.ParcelReader.next_parcel.Given as goal

-- the same bytes are to come, no read failed or found the end, and each gave some bytes
abbrev pub invariant-front : goal.invariant-front
invariant-front g l =
    let source = g.I.Source.source in
    (to_come l.self (source l.input) ≡ to_come l.fn.self (source l.fn.input))
    × ((source l.input).faults ≡ (source l.fn.input).faults)
    × ReadsSoFar (source l.fn.input).reads (source l.input).reads (ungiven l.self)
    × (l.self.pieces.ended ≡ l.fn.self.pieces.ended)

-- more of a parcel that isn't whole yet
abbrev pub decreases-front : goal.decreases-front
decreases-front g l = 524 - length (ungiven l.self)
