-- A journal was begun, its payloads added, and sealed, or in part.
use Rattle.std.proofs.Common.{ℕ, length, map, sym, ap, subst, ◌∙◌, arith}
use Rattle.std.proofs.lemmas.List.{length-map}
use Rattle.tb_journal.specs.Frames.{frames}
use Rattle.tb_journal.specs.Journal.{Told}
use Rattle.tb_journal.specs.Writing.{Rewrites, RewritesInPart}
use Rattle.tb_journal.proofs.Calls.{on_ok_map, on_err_map, on_err}
use Rattle.tb_journal.proofs.WritingRuns.{stopped, run_stops, run_ends, run_writing, run_seals, run_seals_in_part, length-front_start, at_err}
use Rattle.tb_journal.proofs.rewriting.rewrite.Goals as goal

pub add_all-requires-clause-end : goal.add_all-requires-clause-end
add_all-requires-clause-end g c =
    let payloads = map (λ slice. slice.now) c.args.payloads.now in
    omega (
      arith,
      c.requires.end,
      length-front_start payloads,
      c.in-Ok.ensures.start.0,
      ap (λ (ordinal : ℕ). length (frames ordinal payloads)) c.in-Ok.ensures.start.1,
    )

pub returns-in_err-add_all-in-Ok-clause-in_part : goal.returns-in_err-add_all-in-Ok-clause-in_part
returns-in_err-add_all-in-Ok-clause-in_part g c =
    let d = g.D.Disk.disk in
    let payloads = map (λ slice. slice.now) c.args.payloads.now in
    let begun = c.in-Ok in
    let end = c.in_err-add_all-in-Ok.disk-1-own.given.1 (sym begun.ensures.same_reference
    ∙ sym c.add_all.ensures.same_reference) in
    on_err c.from_residual.result (subst (λ (disk : _). Told (d c.args.disk.now) (d disk) (RewritesInPart payloads))
    (sym end) (run_stops payloads begun.writer.place begun.writer.ordinal begun.ensures.start (d c.args.disk.now)
    (d begun.writer.disk.now) (d c.add_all.new.writer.disk.now) begun.ensures.begins
    c.in_err-add_all-in-Ok.ensures.in_part))

pub seal-requires-clause-writing : goal.seal-requires-clause-writing
seal-requires-clause-writing g c =
    let d = g.D.Disk.disk in
    let begun = c.in-Ok in
    let added = c.in_ok-add_all-in-Ok.ensures in
    let writer = c.add_all.new.writer in
    run_writing (map (λ slice. slice.now) c.args.payloads.now) begun.writer.place begun.writer.ordinal
    begun.ensures.start (d c.args.disk.now) (d begun.writer.disk.now) (d writer.disk.now) begun.ensures.begins
    writer.place added.next.0 added.adds writer.ordinal
    (omega (arith, added.next.1, length-map c.args.payloads.now (λ slice. slice.now)))

pub seal-requires-clause-end : goal.seal-requires-clause-end
seal-requires-clause-end g c =
    let d = g.D.Disk.disk in
    let payloads = map (λ slice. slice.now) c.args.payloads.now in
    let begun = c.in-Ok in
    let added = c.in_ok-add_all-in-Ok.ensures in
    let writer = c.add_all.new.writer in
    omega (
      arith,
      c.requires.end,
      length-front_start payloads,
      run_ends payloads begun.writer.place begun.writer.ordinal begun.ensures.start (d c.args.disk.now)
          (d begun.writer.disk.now) (d writer.disk.now) begun.ensures.begins writer.place added.next.0 added.adds,
    )

pub returns-in_ok-add_all-in-Ok-clause-rewrites : goal.returns-in_ok-add_all-in-Ok-clause-rewrites
returns-in_ok-add_all-in-Ok-clause-rewrites g c =
    let d = g.D.Disk.disk in
    let payloads = map (λ slice. slice.now) c.args.payloads.now in
    let begun = c.in-Ok in
    let added = c.in_ok-add_all-in-Ok.ensures in
    let writer = c.add_all.new.writer in
    let end = c.disk-in-Ok-1.given.1 (sym begun.ensures.same_reference ∙ sym c.add_all.ensures.same_reference) in
    on_ok_map c.seal.result (λ seals. subst (λ (disk : _). Told (d c.args.disk.now) (d disk) (Rewrites payloads))
    (sym end) (run_seals payloads begun.writer.place begun.writer.ordinal begun.ensures.start (d c.args.disk.now)
    (d begun.writer.disk.now) (d writer.disk.now) begun.ensures.begins writer.place added.next.0 added.adds
    (d c.seal.new.self.0) seals)) c.seal.ensures.seals

pub returns-in_ok-add_all-in-Ok-clause-in_part : goal.returns-in_ok-add_all-in-Ok-clause-in_part
returns-in_ok-add_all-in-Ok-clause-in_part g c =
    let d = g.D.Disk.disk in
    let payloads = map (λ slice. slice.now) c.args.payloads.now in
    let begun = c.in-Ok in
    let added = c.in_ok-add_all-in-Ok.ensures in
    let writer = c.add_all.new.writer in
    let end = c.disk-in-Ok-1.given.1 (sym begun.ensures.same_reference ∙ sym c.add_all.ensures.same_reference) in
    on_err_map c.seal.result (λ part. subst (λ (disk : _). Told (d c.args.disk.now) (d disk) (RewritesInPart payloads))
    (sym end) (run_seals_in_part payloads begun.writer.place begun.writer.ordinal begun.ensures.start
    (d c.args.disk.now) (d begun.writer.disk.now) (d writer.disk.now) begun.ensures.begins writer.place added.next.0
    added.adds (d c.seal.new.self.0) part)) c.seal.ensures.in_part

pub returns-in-Err-clause-in_part : goal.returns-in-Err-clause-in_part
returns-in-Err-clause-in_part g c =
    let d = g.D.Disk.disk in
    let payloads = map (λ slice. slice.now) c.args.payloads.now in
    let is = c.in-Err.is ∙ c.disk-in-Err-2.given.1 in
    let refused = c.disk-in-Err-2.given.0.0 in
    let back = at_err _ c.begin.result refused is c.begin.ensures.handed_back in
    let fails = at_err _ c.begin.result refused is c.begin.ensures.fails in
    subst (λ (disk : _). Told (d c.args.disk.now) (d disk) (RewritesInPart payloads))
    (sym (c.disk-in-Err-3-1.given.1 (sym back))) (stopped payloads (d c.args.disk.now) (d refused.0.now) fails.stops)
