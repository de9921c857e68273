use Rattle.std.proofs.Common.{rules}
use Rattle.tb_lock.proofs.SeatLemmas.{joins}
use Rattle.tb_lock.proofs.lock.TurnLock.join.Goals as goal

pub join_seat-requires : goal.join_seat-requires
join_seat-requires g c = (
  search rules,
  search rules,
  (c.args.other.rests c.requires.idle.1).1,
  search rules,
  joins _ _ _ _ _
      (c.args.pass.now.rests c.requires.idle.0).0 (c.args.other.rests c.requires.idle.1).0 c.args.pass.now.live
      c.args.other.live,
)
