-- Each worker worked.
use Rattle.std.proofs.Common.{subst₂}
use denote.Param.Send.{param_send, param_sync, arg_send, arg_sync}
use Rattle.tb_lock.proofs.lock.TurnLock.TheSendSync as lock
use Rattle.tb_session.specs.Serve.{WorkedOn}
use Rattle.tb_session.proofs.Crosses.{lent_sync, room_send, worker_send}
use Rattle.tb_session.proofs.serve.work_all.Goals as goal

pub for_each_mut-requires-send-T : goal.for_each_mut-requires-send-T
for_each_mut-requires-send-T g c κs within =
    let worker = worker_send _ g.D.Disk _ _ c.type_bounds.send-D c.type_bounds.send-C c.type_bounds.send-G in
    search (param_send, arg_send)

pub for_each_mut-requires-sync-F : goal.for_each_mut-requires-sync-F
for_each_mut-requires-sync-F g c κs within =
    let room = room_send _ g.D.Disk _ c.type_bounds.send-D c.type_bounds.send-C in
    let runtime = c.type_bounds.sync-R in
    search (param_sync, arg_sync, lent_sync, lock.the_sync)

pub returns : goal.returns
returns g c = record {
  worked = λ i d within.
      let one = (c.for_each_mut.ensures i d within).1 in
      subst₂ (λ a b. WorkedOn g.G.Gate.gate g.G.Conn.Source.source g.G.Conn.Sink.sink c.args.shared.now a b)
      one.argument_is one.left one.call;
}
