use Rattle.std.proofs.Common.{inl, inr, refl}
use Rattle.tb_host.proofs.serve_command.serve_room.Goals as goal

pub returns-in-Ok : goal.returns-in-Ok
returns-in-Ok g c = record {
  ends = inl (record {
    after = c.in-Ok.ended.room;
    served = c.in-Ok.ended.served;
    accepted = c.in-Ok.ended.accepted;
    failed = c.in-Ok.ended.failed;
    all = c.in-Ok.ensures.served;
    stays = c.finish.ensures.stays;
    since = c.finish.ensures.since;
    counted = c.finish.ensures.counted;
    ends = c.finish.ensures.told;
  });
}

-- the room came back, and with it the disk and the gates
pub returns-in-Err : goal.returns-in-Err
returns-in-Err g c = record {
  ends = inr (refl, rw (c.leave.ensures.disk, c.in-Err.ensures.unserved, c.in-Err.ensures.untouched) refl);
}
