use Rattle.std.proofs.Common.{◌≡◌, ◌-◌, ◌<◌, ◌∙◌, ◌++◌, List, length, map, get_or, Option, Some, None, replicate, subst, sym, arith}
use Rattle.tb_message.specs.declared.verdict.Verdict.{Verdict}
use Rattle.tb_commands.proofs.RowLemmas.{holds-at, place-holds, verdict_lines-next}
use Rattle.tb_commands.proofs.row_lines.push_verdicts.Goals as goal

pub loop-place-preserved : goal.loop-place-preserved
loop-place-preserved c =
    let place = c.loop-place.place in
    let found = c.index-verdicts-place.result in (
      λ given same is.
          let below : place < length given = omega (arith, same, c.loop-place-test.true) in
          let rest : List (Option Verdict) = replicate (64 - length given) None in
          let held = place-holds given rest place found below
          (subst (λ (all : List (Option Verdict)). found ≡ get_or all place found) is c.index-verdicts-place.is) in
          verdict_lines-next c.args.text.now.items c.args.rows.now given rest place c.index-rows-place.result held.0
          c.loop-place.text.items c.push_verdict.new.text.items record {
            within = c.loop-place-test.true;
            many = same;
            row_is = c.index-rows-place.is;
            said_is = holds-at c.args.verdicts.now (map Some given ++ rest) place found held.0 c.index-verdicts-place.is
                is held.1;
            so_far = c.loop-place.invariant.0 given same is;
            line = c.push_verdict.ensures.line held.0 (sym c.index-verdicts-place.is ∙ held.1);
          },
      omega (arith, c.push_verdict.ensures.length, c.loop-place.invariant.1),
      c.push_verdict.ensures.room ∙ c.loop-place.invariant.2,
    )
