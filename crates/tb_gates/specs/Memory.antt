-- The gate and the clock in memory, as contracts see them.
use Rattle.std.specs.Prelude.{◌≡◌, ℕ, List, map, Some}
use Rattle.tb_link.specs.Counts.{counted}
use Rattle.tb_units.specs.declared.moment.Moment.{Moment}
use Rattle.tb_gates.specs.declared.pair_link.PairLink.{PairLink}
use Rattle.tb_gates.specs.declared.list_gate.ListGate.{ListGate}
use Rattle.tb_gates.specs.declared.list_clock.ListClock.{ListClock}
use Rattle.tb_gates.specs.Clocks.{ClockState}
use Rattle.tb_gates.specs.Gates.{GateState}

abbrev pub list_gate : ListGate → GateState PairLink
list_gate g = record { left = Some g.links.items; back = Some g.back.items; given = g.given; faults = g.faults.count }

-- what any call of next does: it is counted, and what the gate was made with stays
pub record CountsNext (old new : ListGate) : Type 0 where
  pub calls : new.calls ≡ counted old.calls
  pub fails : new.fails ≡ old.fails

-- what taking the first link leaves
pub record KeepsCalls (old new : ListGate) : Type 0 where
  pub calls : new.calls ≡ old.calls
  pub fails : new.fails ≡ old.fails
  pub faults : new.faults ≡ old.faults

abbrev pub seconds_of : List Moment → List ℕ
seconds_of moments = map (λ moment. moment.seconds) moments

abbrev pub list_clock : ListClock → ClockState
list_clock c = record { reading = c.last.seconds; readings = c.readings; moments = Some (seconds_of c.moments.items) }
