-- An entry that couldn't be added is told as it was, and one that is kept is in its ranges.
use Rattle.std.proofs.Common.{◌≡◌, List, Err, length, ap, refl, ◌∙◌, arith, subst, sym}
use Rattle.std.proofs.lemmas.Result.{err_from_is_err_and}
use Rattle.tb_message.specs.declared.message.Entry.{Entry}
use Rattle.tb_desk.specs.Desks.{held}
use Rattle.tb_desk.proofs.TurnLemmas.{length-grows}
use Rattle.tb_replica.specs.Adding.{IsAdded}
use Rattle.tb_replica.specs.Followers.{following}
use Rattle.tb_replica.specs.declared.taken.TakeFault.{TakeFault}
use Rattle.tb_replica.specs.declared.taken.TakeFault.TheVariants as fault
use Rattle.tb_replica.proofs.CrashLemmas.{
  Grows-added,
  Grows-runs,
  IsInDoubt-kept,
  IsInDoubt-own,
  Left-both,
  Left-same,
  same_after,
  same_fault,
}
use Rattle.tb_replica.proofs.TakingLemmas.{IsFollower-keeping, Takes-failed}
use Rattle.tb_replica.proofs.follower.Follower.take.Goals as goal

pub returns-in_err-add-clause-takes : goal.returns-in_err-add-clause-takes
returns-in_err-add-clause-takes g c =
    let answer = err_from_is_err_and c.from_residual.result c.from_residual.ensures.1 in
    let old = c.self.inside.desk.host.history in
    let new = c.add.new.desk.host.history in
    rw (← c.self.view_is, answer.1)
    (Takes-failed c.args.parcel.now old new c.self.inside.ahead answer.0
    (subst (λ (why : TakeFault). IsAdded old c.args.parcel.now.entry new (Err why)) (sym answer.2)
    c.in_err-add.ensures.added)
    (λ among. let told = c.stands.ensures.1 among in let wrong = c.if-stands.false in cc)
    (omega (arith, c.entries-next.ensures.entries, c.if-parcel-next-2.true)))

pub invariant_of-self-2 : goal.invariant_of-self-2
invariant_of-self-2 g c =
    rw c.keep.ensures
    (IsFollower-keeping c.self.inside.ahead _ c.args.parcel.now.entry (omega arith) c.requires.in_range
    c.self.invariant)

pub returns-then-stands-clause-crash : goal.returns-then-stands-clause-crash
returns-then-stands-clause-crash g c =
    let desk = c.self.inside.desk in
    rw (← c.self.view_is)
    (Left-same desk.host.history (held desk) (g.D.Disk.disk desk.disk) (g.D.Disk.disk desk.disk) refl refl
    c.entries-next.ensures.leaves)

pub returns-then-parcel-next-clause-crash : goal.returns-then-parcel-next-clause-crash
returns-then-parcel-next-clause-crash g c =
    let desk = c.self.inside.desk in
    rw (← c.self.view_is)
    (Left-same desk.host.history (held desk) (g.D.Disk.disk desk.disk) (g.D.Disk.disk desk.disk) refl refl
    c.entries-next.ensures.leaves)

pub returns-in_err-add-clause-in_doubt : goal.returns-in_err-add-clause-in_doubt
returns-in_err-add-clause-in_doubt g c = λ is.
    let answer = err_from_is_err_and c.from_residual.result c.from_residual.ensures.1 in
    let failed : c.add.result ≡ Err fault.DiskFault =
    c.in_err-add.was ∙ ap Err (sym answer.2 ∙ same_fault answer.0 fault.DiskFault (sym answer.1 ∙ is)) in
    IsInDoubt-own c.args.parcel.now (following c.args.self.now) (held c.add.new.desk) (c.add.ensures.in_doubt failed)
    (ap (λ (entries : List Entry). length entries)
    (same_after c.self.inside.desk.host.history c.add.new.desk.host.history c.args.parcel.now.entry c.add.result failed
    c.add.ensures.added)
    ∙ omega (arith, c.entries-next.ensures.entries, c.if-parcel-next-2.true))

pub returns-then-parcel-next-2-clause-crash : goal.returns-then-parcel-next-2-clause-crash
returns-then-parcel-next-2-clause-crash g c =
    let disk = g.D.Disk.disk in
    let old = c.self.inside.desk in
    let longer = length-grows old.host.history c.add.new.desk.host.history
    (Grows-added old.host.history c.add.new.desk.host.history c.args.parcel.now.entry c.add.result
    c.add.ensures.added) in
    rw (← c.self.view_is)
    (Left-both old.host.history (held c.add.new.desk) (held c.run.new.desk) (disk old.disk)
    (disk c.add.new.desk.disk) (disk c.run.new.desk.disk) (c.in_ok-add.ensures.sure (λ wrong. cc)) longer
    (Grows-runs _ c.run.result c.add.new.desk.host.history c.self.inside.ahead 1 c.run.ensures.runs)
    c.add.ensures.crash c.run.ensures.crash)

pub returns-then-parcel-next-2-clause-in_doubt : goal.returns-then-parcel-next-2-clause-in_doubt
returns-then-parcel-next-2-clause-in_doubt g c = λ is.
    rw (← c.self.view_is)
    (IsInDoubt-kept c.args.parcel.now c.self.inside.desk.host.history c.add.new.desk.host.history
    c.self.inside.ahead (held c.run.new.desk) c.in_ok-add.ensures.added.1 (c.run.ensures.in_doubt is))

pub returns-then-parcel-next-3-clause-crash : goal.returns-then-parcel-next-3-clause-crash
returns-then-parcel-next-3-clause-crash g c =
    let desk = c.self.inside.desk in
    rw (← c.self.view_is)
    (Left-same desk.host.history (held desk) (g.D.Disk.disk desk.disk) (g.D.Disk.disk desk.disk) refl refl
    c.entries-next.ensures.leaves)

pub returns-clause-crash : goal.returns-clause-crash
returns-clause-crash g c =
    let desk = c.self.inside.desk in
    rw (← c.self.view_is)
    (Left-same desk.host.history (held desk) (g.D.Disk.disk desk.disk) (g.D.Disk.disk desk.disk) refl refl
    c.entries-next.ensures.leaves)
