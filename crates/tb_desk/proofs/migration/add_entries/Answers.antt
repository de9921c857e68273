-- One entry more is added.
use Rattle.std.proofs.Common.{◌≡◌, ◌+◌, ◌<◌, ◌++◌, ◌∷◌, ℕ, List, [], length, map, take, refl, sym, ap, subst, ◌∙◌, arith}
use Rattle.std.proofs.lemmas.List.{length-map}
use Rattle.tb_message.specs.declared.message.Entry.{Entry}
use Rattle.tb_message.specs.Spelling.{spelling, IsInRange}
use Rattle.tb_journal.specs.Journal.{Told}
use Rattle.tb_journal.specs.Frames.{IsPayload, frames}
use Rattle.tb_journal.specs.Writing.{Adds, AddsAll}
use Rattle.tb_journal.proofs.Calls.{on_err}
use Rattle.tb_journal.proofs.WritingRuns.{told_none, told_more, writing_more, told_part, frames_within, length-frames_push, next_of, one_more, so_many}
use Rattle.tb_desk.proofs.MigrationLemmas.{entry_at, payload-one}
use Rattle.tb_desk.proofs.migration.add_entries.Goals as goal

pub loop-place-init : goal.loop-place-init
loop-place-init g c = record {
  same_reference = refl;
  adds = told_none c.args.writer.now.place c.args.writer.now.ordinal (g.D.Disk.disk c.args.writer.now.disk.now);
  place = omega arith;
  ordinal = omega arith;
  few = c.requires.count;
  no_fault = refl;
}

pub add-requires-clause-writing : goal.add-requires-clause-writing
add-requires-clause-writing g c =
    let d = g.D.Disk.disk in
    let loop = c.loop-place in
    let entries = c.args.host.now.history in
    let start = c.args.writer.now in
    let within : c.loop-place.place < length c.args.host.now.history =
    omega (arith, c.loop-place-test.true, c.entries-place-end.ensures.entries) in
    writing_more (take loop.place (map spelling entries)) start.ordinal start.place loop.writer.ordinal
    loop.writer.place (d start.disk.now) (d loop.writer.disk.now)
    (omega (arith, loop.invariant.ordinal, so_many spelling entries loop.place within)) loop.invariant.place
    loop.invariant.adds c.requires.writing

pub add-requires-clause-size : goal.add-requires-clause-size
add-requires-clause-size g c =
    let entry = c.unwrap-entry.result in
    let within : c.loop-place.place < length c.args.host.now.history =
    omega (arith, c.loop-place-test.true, c.entries-place-end.ensures.entries) in
    let is =
    entry_at c.args.host.now.history c.loop-place.place entry within
    (sym c.entry.ensures ∙ c.unwrap-entry.ensures) in
    subst IsPayload (sym (c.bytes.ensures.bytes ∙ c.put.ensures))
    (payload-one entry (subst IsInRange (sym is) (c.requires.sizes c.loop-place.place entry within)))

pub add-requires-clause-end : goal.add-requires-clause-end
add-requires-clause-end g c =
    let entries = c.args.host.now.history in
    let index = c.loop-place.place in
    let entry = c.unwrap-entry.result in
    let within : c.loop-place.place < length c.args.host.now.history =
    omega (arith, c.loop-place-test.true, c.entries-place-end.ensures.entries) in
    let is = entry_at entries index entry within (sym c.entry.ensures ∙ c.unwrap-entry.ensures) in
    omega (
      arith,
      c.requires.end,
      c.loop-place.invariant.place,
      frames_within c.args.writer.now.ordinal (map spelling entries) index
          (omega (arith, within, length-map entries spelling)),
      ap length (next_of spelling entries index entry within ∙ ap spelling (sym is)),
      ap length (c.bytes.ensures.bytes ∙ c.put.ensures),
    )

pub returns-in_err-add-clause-in_part : goal.returns-in_err-add-clause-in_part
returns-in_err-add-clause-in_part g c =
    let d = g.D.Disk.disk in
    let loop = c.loop-place in
    on_err c.from_residual.result (told_part (take loop.place (map spelling c.args.host.now.history))
    c.args.writer.now.ordinal c.args.writer.now.place loop.writer.place (d c.args.writer.now.disk.now)
    (d loop.writer.disk.now) (d c.add.new.self.disk.now) loop.invariant.place loop.invariant.adds
    c.in_err-add.ensures.in_part)

pub loop-place-preserved : goal.loop-place-preserved
loop-place-preserved g c =
    let d = g.D.Disk.disk in
    let loop = c.loop-place in
    let entries = c.args.host.now.history in
    let start = c.args.writer.now in
    let entry = c.unwrap-entry.result in
    let within : c.loop-place.place < length c.args.host.now.history =
    omega (arith, c.loop-place-test.true, c.entries-place-end.ensures.entries) in
    let is = entry_at entries loop.place entry within (sym c.entry.ensures ∙ c.unwrap-entry.ensures) in
    let added = take loop.place (map spelling entries) in
    let more : take (loop.place + 1) (map spelling entries) ≡ added ++ spelling entry ∷ [] =
    one_more spelling entries loop.place entry within
    ∙ ap (λ (e : Entry). added ++ spelling e ∷ []) (sym is) in
    let record_of = c.bytes.ensures.bytes ∙ c.put.ensures in
    let adds : Told (d loop.writer.disk.now) (d c.add.new.self.disk.now)
    (Adds (spelling entry) loop.writer.ordinal loop.writer.place) =
    subst (λ (bytes : List ℕ). Told (d loop.writer.disk.now) (d c.add.new.self.disk.now)
    (Adds bytes loop.writer.ordinal loop.writer.place)) record_of c.in_ok-add.ensures.adds in
    record {
      same_reference = c.in_ok-add.ensures.same_reference ∙ loop.invariant.same_reference;
      adds = subst (λ (list : List (List ℕ)). Told (d start.disk.now) (d c.add.new.self.disk.now)
          (AddsAll list start.ordinal start.place)) (sym more)
          (told_more added (spelling entry) start.ordinal start.place loop.writer.ordinal loop.writer.place
          (d start.disk.now) (d loop.writer.disk.now) (d c.add.new.self.disk.now)
          (omega (arith, loop.invariant.ordinal, so_many spelling entries loop.place within)) loop.invariant.place
          loop.invariant.adds adds);
      place = omega (
        arith,
        c.in_ok-add.ensures.next.0,
        loop.invariant.place,
        ap (λ (list : List (List ℕ)). length (frames start.ordinal list)) more,
        length-frames_push start.ordinal added (spelling entry),
        ap length record_of,
      );
      ordinal = omega (arith, c.in_ok-add.ensures.next.1, loop.invariant.ordinal);
      few = omega (arith, c.in_ok-add.ensures.next.0, c.in_ok-add.ensures.next.1, loop.invariant.few);
      no_fault = c.in_ok-add.ensures.no_fault ∙ loop.invariant.no_fault;
    }
