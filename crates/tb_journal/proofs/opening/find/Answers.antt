-- The gate is found, or it is said why not.
use Rattle.std.proofs.Common.{ℕ, arith, subst, sym, ◌∙◌}
use Rattle.std.proofs.lemmas.Result.{err_from_is_err_and, MatchResult-weaker}
use Rattle.tb_journal.specs.Journal.{Told}
use Rattle.tb_journal.proofs.OpeningLemmas.{FindsThem, measuring_fails, find_making_fails, find_made, has_length, find_found, find_refused}
use Rattle.tb_journal.proofs.opening.find.Goals as goal

pub returns-in_err-size-clause-err : goal.returns-in_err-size-clause-err
returns-in_err-size-clause-err g c =
    let d = g.D.Disk.disk in
    let p = err_from_is_err_and c.from_residual.result c.from_residual.ensures.1 in
    rw (p.1) (measuring_fails p.0 (d c.args.disk.now) (d c.measure.new.disk)
    (p.2 ∙ c.in_err-size.ensures.err.1) c.in_err-size.ensures.err.0)

pub returns-in_err-make-clause-err : goal.returns-in_err-make-clause-err
returns-in_err-make-clause-err g c =
    let d = g.D.Disk.disk in
    let p = err_from_is_err_and c.from_residual-in_err-make.result c.from_residual-in_err-make.ensures.1 in
    rw (p.1) (find_making_fails p.0 c.in_ok-size.size (d c.args.disk.now) (d c.measure.new.disk)
    (d c.make.new.disk) p.2 (omega arith) c.in_ok-size.ensures.ok c.in_err-make.ensures.err)

pub find_gate-requires-clause-size : goal.find_gate-requires-clause-size
find_gate-requires-clause-size g c =
    let d = g.D.Disk.disk in
    has_length c.in_ok-size.size (d c.args.disk.now) (d c.measure.new.disk) c.in_ok-size.ensures.ok

pub returns-clause-ok : goal.returns-clause-ok
returns-clause-ok g c =
    let d = g.D.Disk.disk in
    MatchResult-weaker c.find_gate.result c.find_gate.ensures.ok
    (λ found ends. find_found found.0 found.1 c.in_ok-size.size (d c.args.disk.now) (d c.measure.new.disk)
    (d c.find_gate.new.disk)
    c.find_gate.ensures.kept c.in_ok-size.ensures.ok ends)
    (λ fault h. h)

pub returns-clause-err : goal.returns-clause-err
returns-clause-err g c =
    let d = g.D.Disk.disk in
    MatchResult-weaker c.find_gate.result c.find_gate.ensures.err (λ gate h. h)
    (λ fault refused. find_refused fault c.in_ok-size.size (d c.args.disk.now) (d c.measure.new.disk)
    (d c.find_gate.new.disk) c.find_gate.ensures.kept c.in_ok-size.ensures.ok refused)

pub returns-then-size-clause-ok : goal.returns-then-size-clause-ok
returns-then-size-clause-ok g c =
    let d = g.D.Disk.disk in
    subst (λ (gate : ℕ). Told (d c.args.disk.now) (d c.make.new.disk) (FindsThem gate 0)) (sym c.first_gate.ensures)
    (find_made c.in_ok-size.size (d c.args.disk.now) (d c.measure.new.disk) (d c.make.new.disk)
    (omega (arith, c.if-size.true)) c.in_ok-size.ensures.ok c.in_ok-make.ensures.ok)
