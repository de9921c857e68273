use Rattle.std.proofs.Common.{◌≡◌, ℕ, List, [], ◌∷◌, ◌++◌, ◌∙◌, ap, inr, sym, subst, refl, arith, Result}
use Rattle.std.specs.Prelude.{Bool, Ok, Err}
use Rattle.tb_link.specs.Sources.{before_left}
use Rattle.tb_lines.specs.Pieces.{still_left}
use Rattle.tb_commands.proofs.ParcelInputLemmas.{left_nothing}
use Rattle.std.proofs.lemmas.Result.{err_from_is_err_and}
use Rattle.tb_link.specs.Counts.{Rose}
use Rattle.tb_replica.specs.Followers.{following}
use Rattle.tb_commands.specs.FollowSteps.{InputTaken}
use Rattle.tb_commands.specs.ParcelInput.{to_come, ungiven}
use Rattle.tb_desk.specs.Desks.{PlacedGroup}
use Rattle.tb_commands.specs.Standings.{in_doubt, standing}
use Rattle.tb_commands.specs.declared.command_endings.TakeEnding.{TakeEnding}
use Rattle.tb_commands.specs.declared.command_endings.TakeEnding.TheVariants as take_ending
use Rattle.tb_commands.proofs.FollowEndLemmas.{InputTaken-broken, grown_so_far, grown_taken}
use Rattle.tb_commands.proofs.FollowTakeLemmas.{
  SoFar-more,
  SoFar-start,
  TakesAll-here,
  TakesBefore-bad,
  TakesBefore-full,
  TakesFirst-here,
  TakesWhole-here,
}
use Rattle.tb_commands.proofs.follow_take_command.take_all.Goals as goal

-- one result has one ending
same_ending : (result : Result (Unit {0}) TakeEnding) (one other : TakeEnding)
    → result ≡ Err one
    → result ≡ Err other
    → one ≡ other
same_ending result one other is_one is_other =
    let same : ◌≡◌ {A = Result (Unit {0}) TakeEnding} (Err one) (Err other) = sym is_one ∙ is_other in cc (same)

-- and none where it went on
not_failed : (result : Result (Unit {0}) TakeEnding) (done : Unit {0}) (other : TakeEnding)
    → result ≡ Ok done
    → ¬ (result ≡ Err other)
not_failed result done other is_done is_other =
    let same : ◌≡◌ {A = Result (Unit {0}) TakeEnding} (Ok done) (Err other) = sym is_done ∙ is_other in cc (same)

pub parcels-init : goal.parcels-init
parcels-init g c = (
  SoFar-start (g.I.Source.source c.args.input.now) (following c.args.follower.now) c.new-reader.result c.requires.fresh
      c.new-reader.ensures.empty c.new-reader.ensures.going,
  (c.requires.sure, refl),
  refl,
  refl,
  refl,
  refl,
  c.new-reader.ensures.going,
)

pub returns-then-number-gt-MOST_PARCELS-clause-taken :
    goal.returns-then-number-gt-MOST_PARCELS-clause-taken
returns-then-number-gt-MOST_PARCELS-clause-taken g c =
    let seen = g.D.Disk.disk in
    let source = g.I.Source.source in
    let inv = c.parcels.invariant in (
      TakesBefore-full c.args.follower.now.desk.host.history c.parcels.number (source c.args.input.now)
          (following c.parcels.follower) (to_come c.parcels.reader (source c.parcels.input)) (source c.parcels.input).reads inv.0
          (standing (seen c.args.follower.now.desk.disk) c.args.follower.now.desk)
          (standing (seen c.parcels.follower.desk.disk) c.parcels.follower.desk) refl refl inv.1 c.in-Ok-Some.parcel
          (to_come c.next_parcel.new.self (source c.next_parcel.new.input)) (ungiven c.next_parcel.new.self)
          (source c.next_parcel.new.input) (omega (arith, c.if-number-gt-MOST_PARCELS.true))
          (rw c.in-Ok-Some.field-0-is at c.in-Ok-Some.ensures.in_range)
          (rw c.in-Ok-Some.field-0-is at c.in-Ok-Some.ensures.finds) c.next_parcel.ensures.alone,
      c.in-Ok-Some.ensures.no_fault ∙ inv.2,
      inv.3,
    )

pub returns-then-number-gt-MOST_PARCELS-clause-grown :
    goal.returns-then-number-gt-MOST_PARCELS-clause-grown
returns-then-number-gt-MOST_PARCELS-clause-grown g c =
    let seen = g.D.Disk.disk in
    let source = g.I.Source.source in
    grown_so_far c.args.follower.now.desk.host.history c.parcels.number (source c.args.input.now)
    (following c.parcels.follower) (to_come c.parcels.reader (source c.parcels.input)) (source c.parcels.input).reads
    c.parcels.invariant.0
    (standing (seen c.args.follower.now.desk.disk) c.args.follower.now.desk)
    (standing (seen c.parcels.follower.desk.disk) c.parcels.follower.desk) c.requires.legal refl refl

pub returns-in_err-take-in-Ok-Some-clause-taken : goal.returns-in_err-take-in-Ok-Some-clause-taken
returns-in_err-take-in-Ok-Some-clause-taken g c =
    let seen = g.D.Disk.disk in
    let source = g.I.Source.source in
    let inv = c.parcels.invariant in
    let first = standing (seen c.args.follower.now.desk.disk) c.args.follower.now.desk in
    let last = standing (seen c.take.new.follower.desk.disk) c.take.new.follower.desk in
    let failed = err_from_is_err_and c.from_residual.result c.from_residual.ensures.1 in
    let own : TakeEnding = c.in_err-take-in-Ok-Some.field-0.0 in
    subst (λ (r : Result (Unit {0}) TakeEnding). InputTaken r (source c.args.input.now) (source c.next_parcel.new.input)
    (seen c.args.follower.now.desk.disk).faults (seen c.take.new.follower.desk.disk).faults first last)
    (sym (failed.1 ∙ ap Err failed.2))
    (InputTaken-broken c.args.follower.now.desk.host.history c.parcels.number (source c.args.input.now)
    (following c.parcels.follower) (to_come c.parcels.reader (source c.parcels.input)) (source c.parcels.input).reads inv.0 own
    (following c.take.new.follower) c.in-Ok-Some.parcel
    (to_come c.next_parcel.new.self (source c.next_parcel.new.input)) (ungiven c.next_parcel.new.self)
    (source c.next_parcel.new.input)
    (seen c.args.follower.now.desk.disk).faults (seen c.take.new.follower.desk.disk).faults first last refl refl
    (λ other.
    let sure : ¬ (c.take.result ≡ Err take_ending.DiskFault) =
    λ same. other (same_ending c.take.result own take_ending.DiskFault c.in_err-take-in-Ok-Some.was same) in
    (c.take.ensures.sure sure, c.take.ensures.undoubted sure ∙ inv.1.1))
    (λ is.
    let failed : c.take.result ≡ Err take_ending.DiskFault = c.in_err-take-in-Ok-Some.was ∙ ap Err is in (
      c.take.ensures.in_doubt failed,
      c.take.ensures.doubted failed
          ∙ ap (λ (groups : List PlacedGroup). groups ++ in_doubt last ∷ []) inv.1.1,
    ))
    (λ is. subst (λ (n : ℕ). Rose n (seen c.take.new.follower.desk.disk).faults) inv.3
    (c.take.ensures.fault (c.in_err-take-in-Ok-Some.was ∙ ap Err is)))
    (λ other. c.take.ensures.no_fault
    (λ same. other (same_ending c.take.result own take_ending.DiskFault c.in_err-take-in-Ok-Some.was same)) ∙ inv.3)
    (omega (arith, c.if-number-gt-MOST_PARCELS.false))
    (rw c.in-Ok-Some.field-0-is at c.in-Ok-Some.ensures.in_range) c.in_err-take-in-Ok-Some.ensures.taken
    (rw c.in-Ok-Some.field-0-is at c.in-Ok-Some.ensures.finds) (c.in-Ok-Some.ensures.no_fault ∙ inv.2)
    (rw c.in-Ok-Some.field-0-is at c.in-Ok-Some.ensures.reads))

pub returns-in_err-take-in-Ok-Some-clause-grown : goal.returns-in_err-take-in-Ok-Some-clause-grown
returns-in_err-take-in-Ok-Some-clause-grown g c =
    let seen = g.D.Disk.disk in
    let source = g.I.Source.source in
    grown_taken c.args.follower.now.desk.host.history c.parcels.number (source c.args.input.now)
    (following c.parcels.follower) (to_come c.parcels.reader (source c.parcels.input)) (source c.parcels.input).reads
    c.parcels.invariant.0
    (standing (seen c.args.follower.now.desk.disk) c.args.follower.now.desk)
    (standing (seen c.take.new.follower.desk.disk) c.take.new.follower.desk) (following c.take.new.follower)
    c.in-Ok-Some.parcel c.take.result c.requires.legal refl refl c.take.ensures.taken

pub parcels-preserved : goal.parcels-preserved
parcels-preserved g c =
    let seen = g.D.Disk.disk in
    let source = g.I.Source.source in
    let inv = c.parcels.invariant in
    let taken = c.in_ok-take-in-Ok-Some.ensures.taken in
    let going = not_failed c.take.result c.in_ok-take-in-Ok-Some.field-0 take_ending.DiskFault
    c.in_ok-take-in-Ok-Some.was in (
      SoFar-more c.args.follower.now.desk.host.history c.parcels.number (source c.args.input.now)
          (following c.parcels.follower) (to_come c.parcels.reader (source c.parcels.input)) (source c.parcels.input).reads inv.0
          (following c.take.new.follower) c.in-Ok-Some.parcel taken.0
          (to_come c.next_parcel.new.self (source c.next_parcel.new.input)) (ungiven c.next_parcel.new.self)
          (source c.next_parcel.new.input).reads (omega (arith, c.if-number-gt-MOST_PARCELS.false))
          (rw c.in-Ok-Some.field-0-is at c.in-Ok-Some.ensures.in_range) taken.1
          (rw c.in-Ok-Some.field-0-is at c.in-Ok-Some.ensures.finds)
          (rw c.in-Ok-Some.field-0-is at c.in-Ok-Some.ensures.reads),
      (c.take.ensures.sure going, c.take.ensures.undoubted going ∙ inv.1.1),
      c.in-Ok-Some.ensures.no_fault ∙ inv.2,
      c.take.ensures.no_fault going ∙ inv.3,
      c.take.ensures.kept.0 ∙ inv.4,
      c.take.ensures.kept.1 ∙ inv.5,
      rw c.in-Ok-Some.field-0-is at c.in-Ok-Some.ensures.going ∙ inv.6,
    )

pub returns-in-Ok-None-clause-taken : goal.returns-in-Ok-None-clause-taken
returns-in-Ok-None-clause-taken g c =
    let seen = g.D.Disk.disk in
    let source = g.I.Source.source in
    let inv = c.parcels.invariant in (
      TakesAll-here c.args.follower.now.desk.host.history c.parcels.number (source c.args.input.now)
          (following c.parcels.follower) (to_come c.parcels.reader (source c.parcels.input)) (source c.parcels.input).reads inv.0
          (standing (seen c.args.follower.now.desk.disk) c.args.follower.now.desk)
          (standing (seen c.parcels.follower.desk.disk) c.parcels.follower.desk) refl refl inv.1
          (to_come c.next_parcel.new.self (source c.next_parcel.new.input)) (ungiven c.next_parcel.new.self)
          (source c.next_parcel.new.input) (rw c.in-Ok-None.field-0-is at c.in-Ok-None.ensures.finds)
          (left_nothing (ungiven c.next_parcel.new.self) c.next_parcel.new.self.pieces.ended
          (source c.next_parcel.new.input).left
          (c.in-Ok-None.ensures.end (ap Ok c.in-Ok-None.field-0-is) inv.6))
          c.next_parcel.ensures.alone,
      c.in-Ok-None.ensures.no_fault ∙ inv.2,
    )

pub returns-in-Ok-None-clause-grown : goal.returns-in-Ok-None-clause-grown
returns-in-Ok-None-clause-grown g c =
    let seen = g.D.Disk.disk in
    let source = g.I.Source.source in
    grown_so_far c.args.follower.now.desk.host.history c.parcels.number (source c.args.input.now)
    (following c.parcels.follower) (to_come c.parcels.reader (source c.parcels.input)) (source c.parcels.input).reads
    c.parcels.invariant.0
    (standing (seen c.args.follower.now.desk.disk) c.args.follower.now.desk)
    (standing (seen c.parcels.follower.desk.disk) c.parcels.follower.desk) c.requires.legal refl refl

pub returns-in-Err-Bad-clause-taken : goal.returns-in-Err-Bad-clause-taken
returns-in-Err-Bad-clause-taken g c =
    let seen = g.D.Disk.disk in
    let source = g.I.Source.source in
    let inv = c.parcels.invariant in (
      TakesBefore-bad c.args.follower.now.desk.host.history c.parcels.number (source c.args.input.now)
          (following c.parcels.follower) (to_come c.parcels.reader (source c.parcels.input)) (source c.parcels.input).reads inv.0
          (standing (seen c.args.follower.now.desk.disk) c.args.follower.now.desk)
          (standing (seen c.parcels.follower.desk.disk) c.parcels.follower.desk) refl refl inv.1
          (to_come c.next_parcel.new.self (source c.next_parcel.new.input)) (ungiven c.next_parcel.new.self)
          (source c.next_parcel.new.input) (rw c.in-Err-Bad.field-0-is at c.in-Err-Bad.ensures.finds)
          c.next_parcel.ensures.alone,
      c.in-Err-Bad.ensures.none (ap Err c.in-Err-Bad.field-0-is) ∙ inv.2,
      inv.3,
    )

pub returns-in-Err-Bad-clause-grown : goal.returns-in-Err-Bad-clause-grown
returns-in-Err-Bad-clause-grown g c =
    let seen = g.D.Disk.disk in
    let source = g.I.Source.source in
    grown_so_far c.args.follower.now.desk.host.history c.parcels.number (source c.args.input.now)
    (following c.parcels.follower) (to_come c.parcels.reader (source c.parcels.input)) (source c.parcels.input).reads
    c.parcels.invariant.0
    (standing (seen c.args.follower.now.desk.disk) c.args.follower.now.desk)
    (standing (seen c.parcels.follower.desk.disk) c.parcels.follower.desk) c.requires.legal refl refl

pub returns-in-Err-Read-clause-taken : goal.returns-in-Err-Read-clause-taken
returns-in-Err-Read-clause-taken g c =
    let seen = g.D.Disk.disk in
    let source = g.I.Source.source in
    let inv = c.parcels.invariant in (
      TakesWhole-here c.args.follower.now.desk.host.history c.parcels.number (source c.args.input.now)
          (following c.parcels.follower) (to_come c.parcels.reader (source c.parcels.input)) (source c.parcels.input).reads inv.0
          (standing (seen c.args.follower.now.desk.disk) c.args.follower.now.desk)
          (standing (seen c.parcels.follower.desk.disk) c.parcels.follower.desk) refl refl inv.1
          (to_come c.next_parcel.new.self (source c.next_parcel.new.input)) (ungiven c.next_parcel.new.self)
          (source c.next_parcel.new.input) (rw c.in-Err-Read.field-0-is at c.in-Err-Read.ensures.finds)
          (ap (λ (ended : Bool). before_left (ungiven c.next_parcel.new.self)
          (still_left ended (source c.next_parcel.new.input).left))
          (c.in-Err-Read.ensures.failed (ap Err c.in-Err-Read.field-0-is)))
          c.next_parcel.ensures.alone,
      subst (λ (n : ℕ). Rose n (source c.next_parcel.new.input).faults) inv.2
          (c.in-Err-Read.ensures.fault (ap Err c.in-Err-Read.field-0-is)),
      inv.3,
    )

pub returns-in-Err-Read-clause-grown : goal.returns-in-Err-Read-clause-grown
returns-in-Err-Read-clause-grown g c =
    let seen = g.D.Disk.disk in
    let source = g.I.Source.source in
    grown_so_far c.args.follower.now.desk.host.history c.parcels.number (source c.args.input.now)
    (following c.parcels.follower) (to_come c.parcels.reader (source c.parcels.input)) (source c.parcels.input).reads
    c.parcels.invariant.0
    (standing (seen c.args.follower.now.desk.disk) c.args.follower.now.desk)
    (standing (seen c.parcels.follower.desk.disk) c.parcels.follower.desk) c.requires.legal refl refl

pub returns-in-Err-OutOfMemory-clause-taken : goal.returns-in-Err-OutOfMemory-clause-taken
returns-in-Err-OutOfMemory-clause-taken g c =
    let seen = g.D.Disk.disk in
    let source = g.I.Source.source in
    let inv = c.parcels.invariant in (
      inr (TakesFirst-here c.args.follower.now.desk.host.history c.parcels.number (source c.args.input.now)
          (following c.parcels.follower) (to_come c.parcels.reader (source c.parcels.input)) (source c.parcels.input).reads inv.0
          (standing (seen c.args.follower.now.desk.disk) c.args.follower.now.desk)
          (standing (seen c.parcels.follower.desk.disk) c.parcels.follower.desk) refl refl inv.1
          (source c.next_parcel.new.input) c.next_parcel.ensures.alone),
      inv.1.0,
      c.in-Err-OutOfMemory.ensures.lacked (ap Err c.in-Err-OutOfMemory.field-0-is) ∙ inv.2,
      inv.3,
    )

pub returns-in-Err-OutOfMemory-clause-grown : goal.returns-in-Err-OutOfMemory-clause-grown
returns-in-Err-OutOfMemory-clause-grown g c =
    let seen = g.D.Disk.disk in
    let source = g.I.Source.source in
    grown_so_far c.args.follower.now.desk.host.history c.parcels.number (source c.args.input.now)
    (following c.parcels.follower) (to_come c.parcels.reader (source c.parcels.input)) (source c.parcels.input).reads
    c.parcels.invariant.0
    (standing (seen c.args.follower.now.desk.disk) c.args.follower.now.desk)
    (standing (seen c.parcels.follower.desk.disk) c.parcels.follower.desk) c.requires.legal refl refl
