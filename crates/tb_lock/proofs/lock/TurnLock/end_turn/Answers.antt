use Rattle.tb_lock.proofs.GiveLemmas.{ready}
use Rattle.tb_lock.proofs.lock.TurnLock.end_turn.Goals as goal

pub raise_count-requires-clause-may : goal.raise_count-requires-clause-may
raise_count-requires-clause-may g c =
    let r = c.requires in
    ready g.T.Annals.means c.args.seat.now.me.0 c.args.value r.holds.0 c.args.faults c.args.entries g.K.Named.calls
    c.put_back.new.seat.me c.raise_faults.new.seat.me
    c.put_back.ensures.back r.holds.1 c.raise_faults.ensures.raised r.faults.0 r.may r.counts r.entries.0 r.entries.1
