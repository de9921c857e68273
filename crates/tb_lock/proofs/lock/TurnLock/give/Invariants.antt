use Rattle.tb_lock.specs.Turns.{calls_of}
use Rattle.tb_lock.proofs.lock.TurnLock.give.Given as goal

-- the calls that the turn is told of
abbrev pub ghosts-end_turn : goal.ghosts-end_turn
ghosts-end_turn g a = record { calls = calls_of g.T.Annals.means a.seat.now.me.0 a.value (g.N.Told.calls a._told.now) }
