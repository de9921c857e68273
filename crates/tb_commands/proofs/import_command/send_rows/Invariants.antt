use Rattle.std.proofs.Common.{◌≡◌, ◌≤◌, ◌-◌, drop, length, vec_capacity}
use Rattle.std.specs.Prelude.{ℕ, List}
use Rattle.tb_link.specs.Sinks.{Takes}
use Rattle.tb_commands.specs.ImportRun.{HasSentRuns}
use Rattle.tb_commands.specs.Standings.{standing}
use Rattle.tb_commands.proofs.import_command.send_rows.Given as goal

-- the runs so far were sent, and the output has taken their text
abbrev pub invariant-loop-place : goal.invariant-loop-place
invariant-loop-place g l =
    ((text : List ℕ)
    × HasSentRuns l.sender (g.C.Clock.clock l.fn.clock) (g.C.Clock.clock l.clock) l.table
    (standing (g.D.Disk.disk l.fn.desk.disk) l.fn.desk) (standing (g.D.Disk.disk l.desk.disk) l.desk) text
    (drop l.place l.table)
    × Takes (g.O.Sink.sink l.fn.out) (g.O.Sink.sink l.out) text)
    × (l.place ≤ length l.table)
    × (l.desk.opened ≡ l.fn.desk.opened)
    × (l.desk.recovered ≡ l.fn.desk.recovered)
    × (13440 ≤ vec_capacity l.text)
    × (64 ≤ vec_capacity l.run)

-- rows that are left
abbrev pub decreases-loop-place : goal.decreases-loop-place
decreases-loop-place g l = length l.table - l.place
