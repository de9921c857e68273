-- Each kept entry, in turn.
use Rattle.std.proofs.Common.{◌≡◌, List, ◌++◌, length, ap, sym, ◌∙◌, refl, arith}
use Rattle.std.specs.Prelude.{Option, None, Err, Result}
use Rattle.std.specs.List.{count_by}
use Rattle.std.specs.Option.{is_some}
use Rattle.tb_message.specs.declared.message.Entry.{Entry}
use Rattle.tb_replica.specs.Following.{Gap, LetGo}
use Rattle.tb_replica.specs.declared.taken.TakeFault.{TakeFault}
use Rattle.tb_replica.specs.declared.taken.TakeFault.TheVariants as fault
use Rattle.tb_desk.specs.Desks.{PlacedGroup, doubted_by, held}
use Rattle.tb_desk.proofs.TurnLemmas.{length-grows}
use Rattle.tb_replica.proofs.CrashLemmas.{Grows-added, IsInDoubt-first, IsInDoubt-goes, Left-both, Left-same, same_after, same_fault}
use Rattle.tb_replica.proofs.WindowLemmas.{length-shifted, count-most, count-shifted}
use Rattle.tb_replica.proofs.RunLemmas.{AreInRange-shifted, Runs-failed, Runs-goes, same_left}
use Rattle.tb_replica.proofs.follower.run.Goals as goal

pub returns-in_default-clause-runs : goal.returns-in_default-clause-runs
returns-in_default-clause-runs g c =
    c.kept.invariant.runs _ _
    (Gap c.kept.desk.host.history c.kept.ahead c.kept.added (sym c.next.ensures.given ∙ c.in_default.is) refl
    (same_left c.kept.desk.host.history c.next.new.self _ c.next.ensures.left))

pub returns-in_default-clause-in_range : goal.returns-in_default-clause-in_range
returns-in_default-clause-in_range g c =
    AreInRange-shifted c.kept.ahead c.next.new.self c.next.ensures.left c.kept.invariant.in_range

pub returns-then-stands-clause-runs : goal.returns-then-stands-clause-runs
returns-then-stands-clause-runs g c =
    c.kept.invariant.runs _ _
    (LetGo c.kept.desk.host.history c.kept.ahead c.kept.added c.in-Some.entry
    (sym c.next.ensures.given ∙ c.in-Some.is)
    (c.stands.ensures.0 c.if-stands.true) refl
    (same_left c.kept.desk.host.history c.next.new.self _ c.next.ensures.left))

pub returns-then-stands-clause-in_range : goal.returns-then-stands-clause-in_range
returns-then-stands-clause-in_range g c =
    AreInRange-shifted c.kept.ahead c.next.new.self c.next.ensures.left c.kept.invariant.in_range

pub returns-in-Err-clause-runs : goal.returns-in-Err-clause-runs
returns-in-Err-clause-runs g c =
    c.kept.invariant.runs _ _
    (Runs-failed c.kept.desk.host.history c.add.new.desk.host.history c.kept.ahead c.next.new.self c.kept.added
    c.in-Some.entry c.in-Err.fault c.in-Err.ensures.added (sym c.next.ensures.given ∙ c.in-Some.is)
    (λ among. let told = c.stands.ensures.1 among in let wrong = c.if-stands.false in cc))

pub returns-in-Err-clause-in_range : goal.returns-in-Err-clause-in_range
returns-in-Err-clause-in_range g c =
    AreInRange-shifted c.kept.ahead c.next.new.self c.next.ensures.left c.kept.invariant.in_range

pub returns-in-Err-clause-crash : goal.returns-in-Err-clause-crash
returns-in-Err-clause-crash g c =
    Left-both c.args.desk.now.host.history (held c.kept.desk) (held c.add.new.desk)
    (g.D.Disk.disk c.args.desk.now.disk) (g.D.Disk.disk c.kept.desk.disk) (g.D.Disk.disk c.add.new.desk.disk)
    c.kept.invariant.sure c.kept.invariant.longer
    (Grows-added c.kept.desk.host.history c.add.new.desk.host.history c.in-Some.entry c.add.result c.add.ensures.added)
    c.kept.invariant.crash c.add.ensures.crash

pub returns-in-Err-clause-in_doubt : goal.returns-in-Err-clause-in_doubt
returns-in-Err-clause-in_doubt g c = λ is.
    let failed : ◌≡◌ {A = Result (Unit {0}) TakeFault} (Err c.in-Err.fault) (Err fault.DiskFault) =
    ap Err (same_fault c.in-Err.fault fault.DiskFault is) in
    c.kept.invariant.doubts (held c.add.new.desk)
    (IsInDoubt-first c.kept.desk.host.history c.kept.ahead c.in-Some.entry (held c.add.new.desk)
    (c.in-Err.ensures.in_doubt failed)
    (same_after c.kept.desk.host.history c.add.new.desk.host.history c.in-Some.entry (Err c.in-Err.fault) failed
    c.in-Err.ensures.added)
    (sym c.next.ensures.given ∙ c.in-Some.is))

pub returns-in-Err-clause-doubted : goal.returns-in-Err-clause-doubted
returns-in-Err-clause-doubted g c = λ is.
    c.in-Err.ensures.doubted (ap Err (same_fault c.in-Err.fault fault.DiskFault is))
    ∙ ap (λ (groups : List PlacedGroup). groups ++ doubted_by None (held c.add.new.desk)) c.kept.invariant.doubted

pub returns-in-Err-clause-undoubted : goal.returns-in-Err-clause-undoubted
returns-in-Err-clause-undoubted g c = λ other.
    c.in-Err.ensures.undoubted (λ is. other (ap Err (same_fault c.in-Err.fault fault.DiskFault is)))
    ∙ c.kept.invariant.doubted

pub kept-init : goal.kept-init
kept-init g c = record {
  sure = c.requires.sure;
  in_range = c.requires.in_range;
  window = c.requires.window;
  few = omega (arith, count-most c.args.ahead.now, c.requires.window);
  runs = λ new outcome more. more;
  longer = omega arith;
  crash = Left-same c.args.desk.now.host.history (held c.args.desk.now) (g.D.Disk.disk c.args.desk.now.disk)
      (g.D.Disk.disk c.args.desk.now.disk) refl refl c.requires.leaves;
  doubts = λ new doubt. doubt;
  doubted = refl;
  faults = refl;
  opened = refl;
  recovered = refl;
}

pub kept-preserved : goal.kept-preserved
kept-preserved g c =
    let kept = sym c.next.ensures.given ∙ c.in-Some.is in
    let fewer = count-shifted c.kept.ahead c.in-Some.entry kept in
    let left = ap (λ (places : List (Option Entry)). count_by is_some places) c.next.ensures.left in
    record {
      sure = c.in_default-add.ensures.sure (λ wrong. cc);
      in_range = AreInRange-shifted c.kept.ahead c.next.new.self c.next.ensures.left c.kept.invariant.in_range;
      window = ap (λ (places : List (Option Entry)). length places) c.next.ensures.left
          ∙ length-shifted c.kept.ahead (omega arith) ∙ c.kept.invariant.window;
      few = omega (arith, fewer, left, c.kept.invariant.few);
      runs = λ new outcome more. c.kept.invariant.runs new outcome
          (Runs-goes new outcome c.kept.desk.host.history c.add.new.desk.host.history c.kept.ahead c.next.new.self
          c.kept.added c.in-Some.entry c.in_default-add.ensures.added.0 c.in_default-add.ensures.added.1 kept
          c.next.ensures.left more);
      longer = omega (
        arith,
        c.kept.invariant.longer,
        length-grows c.kept.desk.host.history c.add.new.desk.host.history
            (Grows-added c.kept.desk.host.history c.add.new.desk.host.history c.in-Some.entry c.add.result
            c.add.ensures.added),
      );
      crash = Left-both c.args.desk.now.host.history (held c.kept.desk) (held c.add.new.desk)
          (g.D.Disk.disk c.args.desk.now.disk) (g.D.Disk.disk c.kept.desk.disk) (g.D.Disk.disk c.add.new.desk.disk)
          c.kept.invariant.sure c.kept.invariant.longer
          (Grows-added c.kept.desk.host.history c.add.new.desk.host.history c.in-Some.entry c.add.result
          c.add.ensures.added) c.kept.invariant.crash c.add.ensures.crash;
      doubts = λ new doubt. c.kept.invariant.doubts new
          (IsInDoubt-goes c.kept.desk.host.history c.add.new.desk.host.history c.kept.ahead c.next.new.self
          c.in-Some.entry new c.in_default-add.ensures.added.1 c.next.ensures.left doubt);
      doubted = c.in_default-add.ensures.undoubted (λ wrong. cc) ∙ c.kept.invariant.doubted;
      faults = c.in_default-add.ensures.no_fault (λ wrong. cc) ∙ c.kept.invariant.faults;
      opened = c.add.ensures.kept.0 ∙ c.kept.invariant.opened;
      recovered = c.add.ensures.kept.1 ∙ c.kept.invariant.recovered;
    }
