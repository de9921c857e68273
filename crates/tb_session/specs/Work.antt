-- What a worker leaves of its gate, and what its pass gains.
use Rattle.std.specs.Prelude.{◌≡◌, ℕ, ◌+◌, ◌≤◌, List, [], ◌++◌, length, map, flat_map, true, false, IfSome, All}
use Rattle.tb_link.specs.Counts.{Rose, NeverFalls}
use Rattle.tb_link.specs.Sources.{SourceState}
use Rattle.tb_link.specs.Sinks.{SinkState}
use Rattle.tb_gates.specs.Gates.{GateState, before_links, after_links, most_links}
use Rattle.tb_gates.specs.Links.{link_of}
use Rattle.tb_lock.specs.declared.lock.TurnLock.{TurnLock}
use Rattle.tb_lock.specs.Passes.{IsPassOf, IsIdle, view}
use Rattle.tb_session.specs.declared.room.Room.{Room}
use Rattle.tb_session.specs.declared.worker.Worker.{Worker}
use Rattle.tb_session.specs.Codes.{Made}
use Rattle.tb_session.specs.Gains.{Gains}
use Rattle.tb_session.specs.Session.{Session, IsSession, calls_in}

-- a link that was served: as it was given, as it was handed back, and what became of it
pub record Served (K : Type 0) : Type 0 where
  pub given : K
  pub back : K
  pub session : Session

-- the calls of a link, in the order of its requests
abbrev pub calls_of_link : {K : Type 0} → Served K → List Made
calls_of_link s = calls_in (s.session.exchanges ++ s.session.last)

-- and those of several links, one after the other
abbrev pub calls_of_links : {K : Type 0} → List (Served K) → List Made
calls_of_links served = flat_map calls_of_link served

-- these links were given by the gate and handed back to it, in order
pub record Passed {K : Type 0} (old new : GateState K) (served : List (Served K)) : Type 0 where
  pub left : old.left ≡ before_links (map (λ (s : Served K). s.given) served) new.left
  pub back : new.back ≡ after_links old.back (map (λ (s : Served K). s.back) served)
  pub given : new.given ≡ old.given + length served
  pub count : NeverFalls old.faults new.faults

-- the link was served whole, from its first byte, under this fixed part
abbrev pub IsServed : {K : Type 0} → (K → SourceState) → (K → SinkState) → List ℕ → Served K → Type 0
IsServed source sink fixed s = IsSession fixed 0 [] (link_of source sink s.given) (link_of source sink s.back) s.session

module _ {D C G : Type 0} where
  -- the worker's pass is one of this lock, and between turns
  pub record IsReady (shared : TurnLock (Room D C)) (w : Worker D C G) : Type 0 where
    pub own : IsPassOf shared w.pass
    pub idle : IsIdle w.pass

module _ {D C G K : Type 0} (gate : G → GateState K) (source : K → SourceState) (sink : K → SinkState) where
  -- The links that the gate gave were served one after the other: their calls are those that the pass gained. So far.
  pub record WorksOn (old new : Worker D C G) : Type 0 where
    pub links : List (Served K)
    pub passed : Passed (gate old.gate) (gate new.gate) links
    pub sessions : All (IsServed source sink (view old.pass).fixed) links
    pub gains : Gains (view old.pass) (view new.pass) (calls_of_links links)
    pub counted : new.served ≡ old.served + length links
    pub most : length links ≤ most_links

  -- until none was left, or the gate failed
  pub record Works (old new : Worker D C G) : Type 0 where
    pub on : WorksOn old new
    pub failed : new.failed ≡ true → Rose (gate old.gate).faults (gate new.gate).faults
    pub finished : new.failed ≡ false → IfSome (gate new.gate).left (λ left. left ≡ [])
    -- no fault of the gate is passed over
    pub no_fault : new.failed ≡ false → (gate new.gate).faults ≡ (gate old.gate).faults
