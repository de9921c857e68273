-- The messages so far have their verdicts, and what they add is applied.
use Rattle.std.proofs.Common.{◌≡◌, ◌≤◌, ◌++◌, ◌-◌, length, take, drop, map, Some, None, replicate, vec_capacity}
use Rattle.tb_history.specs.Legal.{IsLegal, last_of}
use Rattle.tb_core.specs.Rooms.{Fits}
use Rattle.tb_desk.specs.Turn.{group_on, verdicts_on, asked_of}
use Rattle.tb_desk.proofs.judging.judge.Given as goal

abbrev pub invariant-loop-place : goal.invariant-loop-place
invariant-loop-place l = record {
  group : l.group.items ≡ group_on l.fn.host.history l.submitter l.moment (take l.place l.messages);
  history : l.host.history ≡ l.fn.host.history ++ l.group.items;
  legal : IsLegal l.host.history;
  in_time : last_of l.host.history ≤ l.moment.seconds;
  fits : Fits l.host.room (asked_of (drop l.place l.messages));
  verdicts : l.verdicts ≡ map Some (verdicts_on l.fn.host.history l.submitter l.moment (take l.place l.messages))
      ++ replicate (64 - l.place) None;
  few : length l.group.items ≤ l.place;
  room : vec_capacity l.fn.group ≤ vec_capacity l.group;
}
