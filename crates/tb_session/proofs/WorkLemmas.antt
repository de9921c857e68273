-- Links of a gate, one after the other.
use Rattle.std.proofs.Common.{◌≡◌, ℕ, ◌+◌, List, [], ◌∷◌, ◌++◌, map, Some, None, true, false, refl, sym, ap, ◌∙◌, subst, arith, append_assoc, length-append}
use Rattle.std.specs.Prelude.{Bool, Option, IfSome}
use Rattle.std.proofs.lemmas.List.{append-nil, map-append}
use Rattle.std.proofs.lemmas.List.Concat.{flat_map-append}
use Rattle.std.proofs.lemmas.List.Elements.{All-nil, All-push}
use Rattle.tb_link.specs.Counts.{NeverFalls}
use Rattle.tb_link.specs.Sources.{SourceState}
use Rattle.tb_link.specs.Sinks.{SinkState}
use Rattle.tb_link.proofs.CallerLemmas.{NeverFalls-trans, Rose-later}
use Rattle.tb_gates.specs.Gates.{GateState, NextLink, FailsToOpen, TakesBack, before_links, after_links}
use Rattle.tb_gates.specs.Links.{link_of}
use Rattle.tb_lock.specs.Passes.{view}
use Rattle.tb_lock.specs.declared.pass.Pass.{Pass}
use Rattle.tb_session.specs.declared.room.Room.{Room}
use Rattle.tb_session.specs.declared.worker.Worker.{Worker}
use Rattle.tb_session.specs.declared.end.End.{End}
use Rattle.tb_session.specs.Codes.{Made}
use Rattle.tb_session.specs.Gains.{Gains}
use Rattle.tb_session.specs.Session.{IsSession, ServesLink}
use Rattle.tb_session.specs.Work.{Served, calls_of_link, calls_of_links, Passed, IsServed, WorksOn, Works}
use Rattle.tb_session.proofs.GainLemmas.{gains-nothing, gains-then}

-- a count that stays hasn't fallen
falls-same : (old new : ℕ) → new ≡ old → NeverFalls old new
falls-same old new same = record { never_falls = omega (arith, same); bounded = λ low. omega (arith, same, low) }

module _ {K : Type 0} where
  -- no link before those left, and two lists of links, one before the other
  before-none : (left : Option (List K)) → before_links [] left ≡ left
  before-none None = refl
  before-none (Some left) = refl

  -- two lists of links before those left are one
  before-both : (a b : List K) (left : Option (List K))
      → before_links a (before_links b left) ≡ before_links (a ++ b) left
  before-both a b None = refl
  before-both a b (Some left) = ap Some (sym (append_assoc a b left))

  -- the same behind those handed back
  after-none : (back : Option (List K)) → after_links back [] ≡ back
  after-none None = refl
  after-none (Some back) = ap Some (append-nil back)

  -- two lists of links behind those handed back are one
  after-both : (back : Option (List K)) (a b : List K)
      → after_links (after_links back a) b ≡ after_links back (a ++ b)
  after-both None a b = refl
  after-both (Some back) a b = ap Some (append_assoc back a b)

  -- no link was served
  pub passed-nothing : (a : GateState K) → Passed a a []
  passed-nothing a = record {
    left = sym (before-none a.left);
    back = sym (after-none a.back);
    given = omega arith;
    count = falls-same a.faults a.faults refl;
  }

  -- two lists of links were, one after the other
  pub passed-then : (a b c : GateState K) (first later : List (Served K)) → Passed a b first → Passed b c later
      → Passed a c (first ++ later)
  passed-then a b c first later one two = record {
    left = one.left
        ∙ (ap (λ l. before_links (map (λ (s : Served K). s.given) first) l) two.left
        ∙ (before-both _ _ c.left
        ∙ ap (λ l. before_links l c.left) (sym (map-append (λ (s : Served K). s.given) first later))));
    back = two.back
        ∙ (ap (λ l. after_links l (map (λ (s : Served K). s.back) later)) one.back
        ∙ (after-both a.back _ _
        ∙ ap (λ l. after_links a.back l) (sym (map-append (λ (s : Served K). s.back) first later))));
    given = omega (arith, one.given, two.given, length-append first later);
    count = NeverFalls-trans a.faults b.faults c.faults one.count two.count;
  }

  -- one link was given, and handed back
  passed-one : (a b c : GateState K) (s : Served K) → NextLink a b (Some s.given) → TakesBack b c s.back
      → Passed a c (s ∷ [])
  passed-one a b c s next takes = record {
    left = next.left ∙ ap (λ l. before_links (s.given ∷ []) l) (sym takes.left);
    back = takes.back ∙ ap (λ l. after_links l (s.back ∷ [])) next.back;
    given = omega (arith, next.given, takes.given);
    count = falls-same a.faults c.faults (takes.no_fault ∙ next.no_fault);
  }

  -- the gate gave no link
  passed-none : (a b : GateState K) → NextLink a b None → Passed a b []
  passed-none a b next = record {
    left = next.left;
    back = next.back ∙ sym (after-none a.back);
    given = omega (arith, next.given);
    count = falls-same a.faults b.faults next.no_fault;
  }

  -- the gate failed
  passed-failed : (a b : GateState K) → FailsToOpen a b → Passed a b []
  passed-failed a b fails = record {
    left = sym fails.left ∙ sym (before-none b.left);
    back = fails.back ∙ sym (after-none a.back);
    given = omega (arith, fails.given);
    count = fails.count;
  }

  -- a gate that gave none has none left
  none-left : (a b : GateState K) → NextLink a b None → IfSome b.left (λ left. left ≡ [])
  none-left a b next =
      subst (λ (l : Option (List K)). IfSome l (λ left. left ≡ [])) (next.left ∙ before-none b.left) next.at_end

module _ {D C G K : Type 0} (gate : G → GateState K) (source : K → SourceState) (sink : K → SinkState) where
  -- a worker that has not begun
  pub works-nothing : (w : Worker D C G) → WorksOn gate source sink w w
  works-nothing w = record {
    links = [];
    passed = passed-nothing (gate w.gate);
    sessions = All-nil (IsServed source sink (view w.pass).fixed);
    gains = gains-nothing (view w.pass);
    counted = omega arith;
    most = omega arith;
  }

  module _ (w0 w : Worker D C G) (on : WorksOn gate source sink w0 w) where
    -- one link more
    pub works-link : (opened after : G) (pass : Pass (Room D C)) (given back : K) (ended : End) (served : ℕ)
        → NextLink (gate w.gate) (gate opened) (Some given)
        → ServesLink 0 [] (view w.pass) (view pass) (link_of source sink given) (link_of source sink back) ended
        → TakesBack (gate opened) (gate after) back
        → served ≡ w.served + 1
        → WorksOn gate source sink w0 (record w { gate = after; pass = pass; served = served })
    works-link opened after pass given back ended served next serves takes count =
        let s : Served K = record { given = given; back = back; session = serves.session } in
        record {
          links = on.links ++ s ∷ [];
          passed = passed-then (gate w0.gate) (gate w.gate) (gate after) on.links (s ∷ []) on.passed
              (passed-one (gate w.gate) (gate opened) (gate after) s next takes);
          sessions = All-push (IsServed source sink (view w0.pass).fixed) on.links s on.sessions
              (subst (λ f. IsSession f 0 [] (link_of source sink given) (link_of source sink back) serves.session)
              on.gains.fixed serves.is_session);
          gains = subst (λ (l : List Made). Gains (view w0.pass) (view pass) l)
              (sym (flat_map-append calls_of_link on.links (s ∷ [])
              ∙ ap (λ (l : List Made). calls_of_links on.links ++ l) (append-nil (calls_of_link s))))
              (gains-then (view w0.pass) (view w.pass) (view pass) _ _ on.gains serves.gains);
          counted = omega (arith, on.counted, count, length-append on.links (s ∷ []));
          most = omega (arith, on.passed.given, next.given, next.most, length-append on.links (s ∷ []));
        }

    works_gate : (opened : G) (failed : Bool) → Passed (gate w.gate) (gate opened) []
        → WorksOn gate source sink w0 (record w { gate = opened; failed = failed })
    works_gate opened failed passed = record {
      links = on.links;
      passed = subst (λ l. Passed (gate w0.gate) (gate opened) l) (append-nil on.links)
          (passed-then (gate w0.gate) (gate w.gate) (gate opened) on.links [] on.passed passed);
      sessions = on.sessions;
      gains = on.gains;
      counted = on.counted;
      most = on.most;
    }

    -- the gate has no link left
    pub works-finished : (opened : G) → NextLink (gate w.gate) (gate opened) None
        → (gate w.gate).faults ≡ (gate w0.gate).faults
        → Works gate source sink w0 (record w { gate = opened; failed = false })
    works-finished opened next same = record {
      on = works_gate opened false (passed-none (gate w.gate) (gate opened) next);
      failed = λ is. absurd (let bad : ⊥ = cc in bad);
      finished = λ is. none-left (gate w.gate) (gate opened) next;
      no_fault = λ is. next.no_fault ∙ same;
    }

    -- the gate failed
    pub works-failed : (opened : G) → FailsToOpen (gate w.gate) (gate opened)
        → Works gate source sink w0 (record w { gate = opened; failed = true })
    works-failed opened fails = record {
      on = works_gate opened true (passed-failed (gate w.gate) (gate opened) fails);
      failed = λ is. Rose-later (gate w0.gate).faults (gate w.gate).faults (gate opened).faults
          on.passed.count fails.rose;
      finished = λ is. absurd (let bad : ⊥ = cc in bad);
      no_fault = λ is. absurd (let bad : ⊥ = cc in bad);
    }
