-- What several workers did, one after the other in the order of their gates.
use Rattle.std.proofs.Common.{◌≡◌, ℕ, suc, ◌+◌, ◌*◌, ◌^◌, ◌≤◌, ◌<◌, List, [], ◌∷◌, ◌++◌, length, map, get_or, sum_by, refl, sym, ap, ◌∙◌, subst, arith}
use Rattle.std.specs.Prelude.{Bool, false, ◌||◌, All, flat_map, Result, Ok, Err, OnOk, is_err}
use Rattle.std.specs.List.{list_any}
use Rattle.std.proofs.lemmas.List.{length-map, map-append}
use Rattle.std.proofs.lemmas.List.Sums.{sum_by-append}
use Rattle.std.proofs.lemmas.List.Elements.{All-nil, All-head, All-tail, All-append}
use Rattle.tb_link.specs.Sources.{SourceState}
use Rattle.tb_link.specs.Sinks.{SinkState}
use Rattle.tb_gates.specs.Gates.{GateState, most_links}
use Rattle.tb_lock.specs.declared.lock.TurnLock.{TurnLock}
use Rattle.tb_lock.specs.declared.view.Call.{Call}
use Rattle.tb_lock.specs.declared.view.Span.{Span}
use Rattle.tb_lock.specs.declared.view.View.{View}
use Rattle.tb_lock.specs.Meanings.{History, IsPrefix}
use Rattle.tb_lock.specs.Passes.{view}
use Rattle.tb_session.specs.declared.room.Room.{Room}
use Rattle.tb_session.specs.declared.worker.Worker.{Worker}
use Rattle.tb_session.specs.Codes.{Made, call_of, spelled_all, IsAnswered}
use Rattle.tb_session.specs.Work.{calls_of_links, IsServed, WorksOn}
use Rattle.tb_session.specs.Serve.{Run, calls_of_gates, links_of_gates, some_failed, IsRun, AreRuns, HadTurns, Turns, SameLock, share_of, served_of, failed_of, calls_with, spans_with, IsHired, WorkedOn}

module _ {D C G K : Type 0} (gate : G → GateState K) (source : K → SourceState) (sink : K → SinkState)
    (shared : TurnLock (Room D C)) (v : View) where
  -- all that these workers did, from the passes as they were split from this view
  pub record AreWorked (olds news : List (Worker D C G)) : Type 0 where
    pub runs : List (Run K)
    pub are_runs : AreRuns gate source sink v.fixed (map (λ (w : Worker D C G). w.gate) olds)
        (map (λ (w : Worker D C G). w.gate) news) runs
    pub mine : flat_map calls_with news ≡ map call_of (calls_of_gates runs)
    pub had : HadTurns runs (flat_map spans_with news)
    pub answered : All (λ m. IsAnswered v.fixed m.history m.called m.before m.after m.readings) (calls_of_gates runs)
    pub begin : All (λ m. IsPrefix v.seen (spelled_all m.history)) (calls_of_gates runs)
    pub share : sum_by share_of news ≡ sum_by share_of olds
    pub counted : sum_by served_of news ≡ links_of_gates runs
    pub failed : list_any failed_of news ≡ some_failed runs
    pub few : sum_by served_of news ≤ most_links * length news

  module _ (o n : Worker D C G) (hired : IsHired shared v o) (worked : WorkedOn gate source sink shared o n) where
    abbrev on : WorksOn gate source sink o n
    on = worked.works.on

    abbrev made : List Made
    made = calls_of_links on.links

    abbrev run : Run K
    run = record { links = on.links; failed = n.failed }

    mine_is : (view n.pass).mine ≡ map call_of made
    mine_is = on.gains.mine ∙ ap (λ (l : List Call). l ++ map call_of made) hired.none

    had_is : (view n.pass).spans ≡ on.gains.spans
    had_is = on.gains.had ∙ ap (λ (l : List Span). l ++ on.gains.spans) hired.no_turns

    one_run : IsRun gate source sink v.fixed o.gate n.gate run
    one_run = record {
      passed = on.passed;
      sessions = subst (λ (f : List ℕ). All (IsServed source sink f) on.links) hired.same.fixed on.sessions;
      order = record {
        turns = on.gains.turns;
        cut = on.gains.cut;
        each = on.gains.each;
        order = on.gains.order [] hired.none tt;
      };
      fault = worked.works.failed;
      finished = worked.works.finished;
      no_fault = worked.works.no_fault;
    }

    one_answered : All (λ m. IsAnswered v.fixed m.history m.called m.before m.after m.readings) made
    one_answered =
        subst (λ (f : List ℕ). All (λ m. IsAnswered f m.history m.called m.before m.after m.readings) made)
        hired.same.fixed
        on.gains.answered

    one_begin : All (λ m. IsPrefix v.seen (spelled_all m.history)) made
    one_begin =
        subst (λ (h : History). All (λ m. IsPrefix h (spelled_all m.history)) made) hired.seen on.gains.begin

    worked_more : (os ns : List (Worker D C G)) → AreWorked os ns → AreWorked (o ∷ os) (n ∷ ns)
    worked_more os ns more = record {
      runs = run ∷ more.runs;
      are_runs = (one_run, more.are_runs);
      mine = ap (λ (l : List Call). l ++ flat_map calls_with ns) mine_is
          ∙ (ap (λ (l : List Call). map call_of made ++ l) more.mine
          ∙ sym (map-append call_of made (calls_of_gates more.runs)));
      had = (
        on.gains.spans,
        flat_map spans_with ns,
        ap (λ (l : List Span). l ++ flat_map spans_with ns) had_is,
        on.gains.counts,
        more.had,
      );
      answered = All-append (λ m. IsAnswered v.fixed m.history m.called m.before m.after m.readings) made
          (calls_of_gates more.runs)
          one_answered more.answered;
      begin = All-append (λ m. IsPrefix v.seen (spelled_all m.history)) made (calls_of_gates more.runs) one_begin
          more.begin;
      share = omega (
        arith,
        on.gains.share,
        more.share,
        sum_by-append share_of (n ∷ []) ns,
        sum_by-append share_of (o ∷ []) os,
      );
      counted = omega (
        arith,
        on.counted,
        hired.unserved,
        more.counted,
        sum_by-append served_of (n ∷ []) ns,
        sum_by-append (λ (r : Run K). length r.links) (run ∷ []) more.runs,
      );
      failed = ap (λ (b : Bool). n.failed || b) more.failed;
      few = omega (arith, on.counted, on.most, hired.unserved, more.few, sum_by-append served_of (n ∷ []) ns);
    }

  -- workers that each worked
  pub are_worked : (olds news : List (Worker D C G)) → length olds ≡ length news → All (IsHired shared v) olds
      → ((i : ℕ) (d : Worker D C G) → i < length olds
      → WorkedOn gate source sink shared (get_or olds i d) (get_or news i d))
      → AreWorked olds news
  are_worked [] [] same hired worked = record {
    runs = [];
    are_runs = tt;
    mine = refl;
    had = tt;
    answered = All-nil (λ m. IsAnswered v.fixed m.history m.called m.before m.after m.readings);
    begin = All-nil (λ m. IsPrefix v.seen (spelled_all m.history));
    share = refl;
    counted = refl;
    failed = refl;
    few = omega arith;
  }
  are_worked [] (n ∷ ns) same hired worked = absurd (let bad : ⊥ = omega arith in bad)
  are_worked (o ∷ os) [] same hired worked = absurd (let bad : ⊥ = omega arith in bad)
  are_worked (o ∷ os) (n ∷ ns) same hired worked =
      worked_more o n (All-head (IsHired shared v) o os hired) (worked 0 o (omega arith)) os ns
      (are_worked os ns (omega arith) (All-tail (IsHired shared v) o os hired)
      (λ i d within. worked (suc i) d (omega arith)))

  -- all workers were hired, worked and were dismissed
  pub turns_done : (v1 v2 : View) (olds news ws : List (Worker D C G)) (gates back : List G) → AreWorked olds news
      → ws ≡ news
      → map (λ (w : Worker D C G). w.gate) olds ≡ gates
      → back ≡ map (λ (w : Worker D C G). w.gate) ws
      → v2.mine ≡ v1.mine ++ flat_map calls_with ws
      → v1.mine ≡ v.mine
      → (v.mine ≡ []) × (v.spans ≡ [])
      → v2.spans ≡ v1.spans ++ flat_map spans_with ws
      → v1.spans ≡ v.spans
      → v2.share ≡ v1.share + sum_by share_of ws
      → sum_by share_of olds + v1.share ≡ v.share
      → SameLock v v1
      → SameLock v1 v2
      → (served : ℕ) (failed : Bool)
      → served ≡ sum_by served_of ws
      → failed ≡ list_any failed_of ws
      → Turns gate source sink v v2 gates back served failed
  turns_done v1 v2 olds news ws gates back worked all hired dismissed mine kept none spans as_many share lent first
      second served failed
      total failures = record {
        runs = worked.runs;
        are_runs = subst (λ (l : List G). AreRuns gate source sink v.fixed l back worked.runs) hired
            (subst (λ (l : List G). AreRuns gate source sink v.fixed
            (map (λ (w : Worker D C G). w.gate) olds) l worked.runs)
            (sym (dismissed ∙ ap (λ (l : List (Worker D C G)). map (λ (w : Worker D C G). w.gate) l) all))
            worked.are_runs);
        mine = mine
            ∙ (ap (λ (l : List Call). l ++ flat_map calls_with ws) (kept ∙ none.0)
            ∙ (ap (λ (l : List (Worker D C G)). flat_map calls_with l) all ∙ worked.mine));
        had = subst (λ (l : List Span). HadTurns worked.runs l)
            (sym (spans
            ∙ (ap (λ (l : List Span). l ++ flat_map spans_with ws) (as_many ∙ none.1)
            ∙ ap (λ (l : List (Worker D C G)). flat_map spans_with l) all)))
            worked.had;
        answered = worked.answered;
        begin = worked.begin;
        share = omega (arith, share, lent, worked.share, ap (λ (l : List (Worker D C G)). sum_by share_of l) all);
        counted = total ∙ (ap (λ (l : List (Worker D C G)). sum_by served_of l) all ∙ worked.counted);
        failed_is = failures ∙ (ap (λ (l : List (Worker D C G)). list_any failed_of l) all ∙ worked.failed);
        same = record {
          fixed = second.fixed ∙ first.fixed;
          opening = second.opening ∙ first.opening;
          opening_faults = second.opening_faults ∙ first.opening_faults;
        };
      }

-- what holds where a call succeeded, where it didn't fail
pub reserved : {E : Type 0} (result : Result (Unit {0}) E) (P : Type 0) → OnOk result P → is_err result ≡ false → P
reserved (Ok done) P holds fine = holds
reserved (Err failed) P holds fine = absurd (let bad : ⊥ = cc in bad)

-- few workers serve few links
pub few_served : {D C G : Type 0} (ws olds news hired : List (Worker D C G)) (gates : List G)
    → ws ≡ news
    → sum_by served_of news ≤ most_links * length news
    → length olds ≡ length news
    → olds ≡ hired
    → map (λ (w : Worker D C G). w.gate) hired ≡ gates
    → length gates ≤ 64
    → sum_by served_of ws < 2 ^ 64
few_served ws olds news hired gates all few kept value is most =
    omega (
      arith,
      few,
      kept,
      most,
      ap (λ l. sum_by served_of l) all,
      ap (λ l. length l) value,
      ap (λ l. length l) is,
      length-map hired (λ (w : Worker _ _ _). w.gate),
    )
