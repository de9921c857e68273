-- Which types may cross threads: a room may where its disk and its clock may. Each type goes by its fields.
use mathlib.Core.List.{[], ◌∷◌}
use mir.Syntax.{Lifetime, Sym}
use base.Fml.{Lft}
use denote.RattleType.{RattleType}
use denote.Ref.{ShrRef}
use denote.Param.Send.{AllSend, AllSync, IsSend, IsSync, recorded_send, recorded_sync, sendable, shr_sync, struct_send}
use denote.Param.Send.{struct_sync, view_send}
use denote.Struct.Declared as declared
use denote.Struct.Struct.{Struct}
use denote.Struct.Tuple.{TupleAt, type_at}
use Rattle.std.proofs.Crossing.{crosses}
use Rattle.std.proofs.alloc.Global.TheSendSync as allocator
use Rattle.std.specs.contracts.alloc.Global as Global
use Rattle.tb_units.proofs.ident.Ident.TheSendSync as ident
use Rattle.tb_disk.specs.declared.disk.Disk.{Ghosts}
use Rattle.tb_message.proofs.message.Entry.TheSendSync as entry
use Rattle.tb_core.proofs.host.Host.TheSendSync as host
use Rattle.http_server.proofs.log.Log.TheSendSync as log
use Rattle.tb_journal.specs.contracts.journal.Journal as Journal
use Rattle.tb_journal.specs.contracts.journal.Journal.TheInside as journal
use Rattle.tb_desk.specs.contracts.desk.Desk as Desk
use Rattle.tb_desk.specs.contracts.desk.Desk.TheInside as desk
use Rattle.tb_lock.proofs.pass.Pass.TheSendSync as pass
use Rattle.tb_session.specs.contracts.room.Room as Room
use Rattle.tb_session.specs.contracts.worker.Worker as Worker

module _ (D : RattleType) (g : Ghosts D.Denot) where
  -- a journal may cross threads where its disk may
  journal_send : IsSend D → IsSend (Journal.the_row D g)
  journal_send d =
      let made = journal.the_type D g in
      let parts : AllSend (declared.fields made) = search (sendable, crosses) in
      view_send _ _ _ _ _
      (recorded_send (Struct (declared.shape made)) made.D made.to made.to_one
      (struct_send (declared.shape made) parts))

  -- so may a desk on it
  desk_send : IsSend D → IsSend (Desk.the_row D g)
  desk_send d =
      let made = desk.the_type D g in
      let journal = journal_send d in
      let parts : AllSend (declared.fields made) =
      search (sendable, crosses, host.the_send, entry.the_send, log.the_send) in
      view_send _ _ _ _ _
      (recorded_send (Struct (declared.shape made)) made.D made.to made.to_one
      (struct_send (declared.shape made) parts))

  -- so may a room, where its clock may too
  pub room_send : (C : RattleType) → IsSend D → IsSend C → IsSend (Room.the_row D C g)
  room_send C d c =
      let made = Room.the_type D C g in
      let desk = desk_send d in
      let parts : AllSend (declared.fields made) = search (sendable, ident.the_send) in
      recorded_send (Struct (declared.shape made)) made.D made.to made.to_one (struct_send (declared.shape made) parts)

  -- so may a worker, where its gate may too
  pub worker_send : (C G : RattleType) → IsSend D → IsSend C → IsSend G → IsSend (Worker.the_row D C G g)
  worker_send C G d c gate =
      let made = Worker.the_type D C G g in
      let part = pass.the_field_send (Room.the_row D C g) (room_send C d c) in
      let parts : AllSend (declared.fields made) = (gate, (part, (search sendable, (search sendable, tt)))) in
      recorded_send (Struct (declared.shape made)) made.D made.to made.to_one (struct_send (declared.shape made) parts)

-- What is lent to all workers may be read by each, where a runtime and a lock may. So says the type of what a closure
-- captures of a runtime, an allocator and a lock.
pub lent_sync : (name : Sym)
    → (runtime_for allocator_for lock_for : Lifetime)
    → (runtime_while allocator_while lock_while : Lft)
    → (Runtime Lock : RattleType)
    → IsSync Runtime
    → IsSync Lock
    → IsSync (TupleAt name (ShrRef runtime_for runtime_while Runtime
    ∷ ShrRef allocator_for allocator_while Global.the_row
    ∷ ShrRef lock_for lock_while Lock
    ∷ []))
lent_sync name runtime_for allocator_for lock_for runtime_while allocator_while lock_while Runtime Lock runtime lock =
    let made = type_at name (ShrRef runtime_for runtime_while Runtime
    ∷ ShrRef allocator_for allocator_while Global.the_row
    ∷ ShrRef lock_for lock_while Lock
    ∷ []) in
    let parts : AllSync (declared.fields made) = (
      shr_sync runtime_for runtime_while Runtime runtime,
      (
        shr_sync allocator_for allocator_while Global.the_row allocator.the_sync,
        (shr_sync lock_for lock_while Lock lock, tt),
      ),
    ) in
    recorded_sync (Struct (declared.shape made)) made.D made.to made.to_one (struct_sync (declared.shape made) parts)
