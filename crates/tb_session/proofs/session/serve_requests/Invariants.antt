-- The requests so far.
use Rattle.std.proofs.Common.{[], ◌≤◌}
use Rattle.tb_gates.specs.Links.{link_of}
use Rattle.tb_lock.specs.Passes.{IsPassOf, IsIdle, view}
use Rattle.tb_session.specs.Serving.{ServesOn}
use Rattle.tb_session.proofs.session.serve_requests.Given as goal

-- the requests so far were served, at least one a round
abbrev pub invariant-loop-round : goal.invariant-loop-round
invariant-loop-round g l = record {
  own : IsPassOf l.shared l.pass;
  idle : IsIdle l.pass;
  on : ServesOn 0 l.turns [] (view l.initial.pass) (view l.pass)
      (link_of g.K.Source.source g.K.Sink.sink l.initial.link) (link_of g.K.Source.source g.K.Sink.sink l.link) l.inbox;
  least : l._round ≤ l.turns;
}
