-- A book that is given places keeps its lines, of which it has none.
use Rattle.std.proofs.Common.{◌<◌, length, ◌∙◌, arith}
use Rattle.std.proofs.lemmas.List.Elements.{AllWithin-more_set, AllWithin-upto, All-from_all_within}
use Rattle.tb_shelf.specs.Shelves.{IsReady}
use Rattle.tb_shelf.proofs.ReadyLemmas.{AreReady-set, ready-at}
use Rattle.tb_shelf.proofs.preparing.raise.Goals as goal

pub returns-in_err-reserve-clause-kept : goal.returns-in_err-reserve-clause-kept
returns-in_err-reserve-clause-kept c few all =
    AreReady-set few c.loop-place.ready c.loop-place.place c.index-ready-place.result c.reserve.new.self (omega arith)
    c.reserve.ensures.lines c.reserve.ensures.room (c.loop-place.invariant.kept few all)

pub loop-place-preserved : goal.loop-place-preserved
loop-place-preserved c =
    let within : c.loop-place.place < length c.loop-place.ready = omega arith in
    record {
      done = AllWithin-more_set c.loop-place.ready c.loop-place.place c.reserve.new.self within (IsReady c.args.places)
          c.loop-place.invariant.done (
            c.reserve.ensures.lines
                ∙ (ready-at 0 c.loop-place.ready c.loop-place.place c.index-ready-place.result within
                (c.loop-place.invariant.kept 0 c.requires)).0,
            c.in_ok-reserve.ensures.spare,
          );
      kept = λ few all.
          AreReady-set few c.loop-place.ready c.loop-place.place c.index-ready-place.result c.reserve.new.self within
          c.reserve.ensures.lines c.reserve.ensures.room (c.loop-place.invariant.kept few all);
    }

pub returns-clause-places : goal.returns-clause-places
returns-clause-places c =
    All-from_all_within (IsReady c.args.places) c.loop-place.ready
    (AllWithin-upto (IsReady c.args.places) c.loop-place.ready 0 c.loop-place.place (length c.loop-place.ready)
    (omega arith) c.loop-place.invariant.done)
