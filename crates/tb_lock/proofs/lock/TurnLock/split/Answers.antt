use Rattle.std.proofs.Common.{rules}
use Rattle.tb_lock.proofs.SeatLemmas.{splits}
use Rattle.tb_lock.proofs.lock.TurnLock.split.Goals as goal

pub split_seat-seat-requires : goal.split_seat-seat-requires
split_seat-seat-requires g c =
    (search rules, search rules, splits _ _ _ (c.args.pass.now.rests c.requires.idle).0 c.requires.two)
