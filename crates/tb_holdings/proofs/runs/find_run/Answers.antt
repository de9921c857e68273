-- Where no run of the security stands at its place there is none.
use Rattle.std.proofs.Common.{ap, ◌∙◌, arith}
use Rattle.std.proofs.lemmas.List.{get_or_default}
use Rattle.tb_holdings.specs.declared.runs.Run.{Run}
use Rattle.tb_holdings.proofs.RunLemmas.{HaveNoRun-missing}
use Rattle.tb_holdings.proofs.runs.find_run.Goals.{else-place-runs-via-then-place-runs+else-runs-place, else-place-runs-via-else-place-runs}
use Rattle.tb_holdings.proofs.runs.find_run.Goals as goal

-- no run
abbrev none : Run
none = record { security = 0; first = 0; count = 0 }

pub returns-else-place-runs-clause-none : goal.returns-else-place-runs-clause-none
returns-else-place-runs-clause-none c = λ _.
    HaveNoRun-missing c.args.security c.args.runs.now c.run_place_of-place.result c.requires
    c.run_place_of-place.ensures
    (λ d within. elim c.else-place-runs.branch [
      | else-place-runs-via-then-place-runs+else-runs-place w ↦ λ same. w.if-runs-place.false
          (ap (λ (run : Run). run.security) (get_or_default c.args.runs.now c.run_place_of-place.result none d within)
          ∙ same)
      | else-place-runs-via-else-place-runs w ↦ absurd (omega (arith, within, w.if-place-runs.false))
    ])
