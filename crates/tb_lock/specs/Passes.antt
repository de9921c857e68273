-- Words for clauses on passes and seats.
use Rattle.std.specs.Prelude.{◌≡◌, Option, true, false}
use Rattle.atomic_table.specs.declared.shared.Seat.{Seat}
use Rattle.tb_lock.specs.declared.lock.TurnLock.{TurnLock}
use Rattle.tb_lock.specs.declared.pass.Pass.{Pass}
use Rattle.tb_lock.specs.declared.view.View.{View}

-- the pass is one of this lock
abbrev pub IsPassOf : {T : Type 0} → TurnLock T → Pass T → Type 0
IsPassOf lock pass = pass.seat.table_id ≡ lock.table.shared.table_id

-- and so is the seat, with which a pass makes its steps
abbrev pub IsSeatOf : {T : Type 0} → TurnLock T → Seat (Option T) View → Type 0
IsSeatOf lock seat = seat.table_id ≡ lock.table.shared.table_id

-- the pass is between turns
abbrev pub IsIdle : {T : Type 0} → Pass T → Type 0
IsIdle pass = pass.holds ≡ false

-- the pass holds the turn
abbrev pub HoldsTurn : {T : Type 0} → Pass T → Type 0
HoldsTurn pass = pass.holds ≡ true

-- what the pass knows
abbrev pub view : {T : Type 0} → Pass T → View
view pass = pass.seat.me.0
