-- One payload more is added.
use Rattle.std.proofs.Common.{ℕ, List, [], length, map, take, get_or, refl, sym, ap, subst, ◌∙◌, arith, Bor}
use Rattle.std.proofs.lemmas.List.{length-map}
use Rattle.tb_journal.specs.Journal.{Told}
use Rattle.tb_journal.proofs.Calls.{on_err}
use Rattle.tb_journal.specs.Frames.{IsPayload, frames}
use Rattle.tb_journal.specs.Writing.{AddsAll}
use Rattle.tb_journal.proofs.WritingRuns.{told_none, told_more, told_part, payload_in, frames_within, length-frames_push, next_of, one_more, so_many}
use Rattle.tb_journal.proofs.rewriting.add_all.Goals as goal

-- no bytes
abbrev none : Bor (List ℕ)
none = record { ref_ptr = (0, 0); now = [] }

pub loop-payload-init : goal.loop-payload-init
loop-payload-init g c = record {
  same_reference = refl;
  adds = told_none c.args.writer.now.place c.args.writer.now.ordinal (g.D.Disk.disk c.args.writer.now.disk.now);
  place = omega arith;
  ordinal = omega arith;
  few = c.requires.count;
  no_fault = refl;
}

pub add-requires-clause-size : goal.add-requires-clause-size
add-requires-clause-size g c =
    let slices = c.args.payloads.now in
    let index = c.loop-payload.payload-index in
    let within = c.loop-payload-test.true in
    subst IsPayload (next_of (λ slice. slice.now) slices index none within)
    (payload_in (map (λ slice. slice.now) slices) index (omega (arith, within, length-map slices (λ slice. slice.now)))
    c.requires.sizes)

pub add-requires-clause-end : goal.add-requires-clause-end
add-requires-clause-end g c =
    let slices = c.args.payloads.now in
    let index = c.loop-payload.payload-index in
    let within = c.loop-payload-test.true in
    omega (
      arith,
      c.requires.end,
      c.loop-payload.invariant.place,
      frames_within c.args.writer.now.ordinal (map (λ slice. slice.now) slices) index
          (omega (arith, within, length-map slices (λ slice. slice.now))),
      ap length (next_of (λ slice. slice.now) slices index none within),
    )

pub returns-in_err-add-clause-in_part : goal.returns-in_err-add-clause-in_part
returns-in_err-add-clause-in_part g c =
    let d = g.D.Disk.disk in
    let loop = c.loop-payload in
    on_err c.from_residual.result (told_part (take loop.payload-index (map (λ slice. slice.now) c.args.payloads.now))
    c.args.writer.now.ordinal c.args.writer.now.place loop.writer.place (d c.args.writer.now.disk.now)
    (d loop.writer.disk.now) (d c.add.new.self.disk.now) loop.invariant.place loop.invariant.adds
    c.in_err-add.ensures.in_part)

pub loop-payload-preserved : goal.loop-payload-preserved
loop-payload-preserved g c =
    let d = g.D.Disk.disk in
    let loop = c.loop-payload in
    let slices = c.args.payloads.now in
    let start = c.args.writer.now in
    let within = c.loop-payload-test.true in
    let more = one_more (λ slice. slice.now) slices loop.payload-index none within in
    let added = take loop.payload-index (map (λ slice. slice.now) slices) in
    let payload = (get_or slices loop.payload-index none).now in
    record {
      same_reference = c.in_ok-add.ensures.same_reference ∙ loop.invariant.same_reference;
      adds = subst (λ (list : List (List ℕ)). Told (d start.disk.now) (d c.add.new.self.disk.now)
          (AddsAll list start.ordinal start.place)) (sym more)
          (told_more added payload start.ordinal start.place loop.writer.ordinal loop.writer.place
          (d start.disk.now) (d loop.writer.disk.now) (d c.add.new.self.disk.now)
          (omega (arith, loop.invariant.ordinal, so_many (λ slice. slice.now) slices loop.payload-index within))
          loop.invariant.place loop.invariant.adds c.in_ok-add.ensures.adds);
      place = omega (
        arith,
        c.in_ok-add.ensures.next.0,
        loop.invariant.place,
        ap (λ (list : List (List ℕ)). length (frames start.ordinal list)) more,
        length-frames_push start.ordinal added payload,
      );
      ordinal = omega (arith, c.in_ok-add.ensures.next.1, loop.invariant.ordinal);
      few = omega (arith, c.in_ok-add.ensures.next.0, c.in_ok-add.ensures.next.1, loop.invariant.few);
      no_fault = c.in_ok-add.ensures.no_fault ∙ loop.invariant.no_fault;
    }
