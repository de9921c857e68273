-- The payloads up to this place are groups that were entered.
use Rattle.std.proofs.Common.{◌≡◌, ◌-◌, None}
use Rattle.tb_journal.specs.Places.{StandsAtIn}
use Rattle.tb_journal.specs.Windows.{Shows}
use Rattle.tb_desk.specs.Stands.{form_of}
use Rattle.tb_desk.proofs.ReplayLemmas.{IsReplayedTo}
use Rattle.tb_desk.proofs.replay.enter_all.Given as goal

abbrev pub invariant-frames : goal.invariant-frames
invariant-frames g l = record {
  sure : g.J.Frames.doubt l.journal ≡ None;
  gate : g.J.Frames.gate l.journal ≡ g.J.Frames.gate l.fn.journal;
  name : g.J.Frames.name l.journal ≡ g.J.Frames.name l.fn.journal;
  kept : (g.J.Frames.disk l.journal).past ≡ (g.J.Frames.disk l.fn.journal).past;
  no_fault : (g.J.Frames.disk l.journal).faults ≡ (g.J.Frames.disk l.fn.journal).faults;
  stands : StandsAtIn (form_of g.J.Frames.version) (g.J.Frames.disk l.journal) (g.J.Frames.gate l.journal) l.place;
  shows : Shows (g.J.Frames.disk l.journal) l.window;
  so_far : IsReplayedTo g.J.Frames.version (g.J.Frames.disk l.fn.journal) (g.J.Frames.gate l.fn.journal) l.place
      l.host.history;
}

abbrev pub decreases-frames : goal.decreases-frames
decreases-frames g l = g.J.Frames.gate l.journal - l.place
