-- The payload that was read is the one that stands at the place.
use Rattle.std.proofs.Common.{◌+◌, ◌-◌, List, ℕ, take, drop, refl, ◌∙◌, ap, subst, arith}
use Rattle.std.specs.Prelude.{Option, IfSome}
use Rattle.tb_disk.specs.Past.{Past, contents_of}
use Rattle.tb_journal.specs.Frames.{head_of}
use Rattle.tb_journal.specs.Windows.{AreAt}
use Rattle.tb_journal.proofs.Showing.{same-bytes, payload-behind, too-few}
use Rattle.tb_journal.proofs.FrameLemmas.{frame_without, frame_short, frame_whole}
use Rattle.tb_journal.proofs.device.read_frame.Goals as goal

pub returns-in_default-clause-frame : goal.returns-in_default-clause-frame
returns-in_default-clause-frame g c =
    let d = g.D.Disk.disk in
    let past = (d c.args.disk.now).past in
    let form = c.args.form in
    let bytes = c.bytes_at.result.now in
    let first = c.fill.new.self in
    let head : ℕ = 1 + c.head_size-before.result in
    let part : List ℕ = take head (drop (c.args.place - first.from) first.bytes) in
    let known = same-bytes past c.args.place head (1 + head_of form) part bytes
    (omega (arith, c.head_size-before.ensures)) c.bytes_at.ensures.bytes c.in_ok-fill.ensures.bytes in
    frame_without form c.args.gate c.args.place bytes past c.requires.before known _ c.in_default.ensures.none

pub returns-then-not-take_payload-clause-frame : goal.returns-then-not-take_payload-clause-frame
returns-then-not-take_payload-clause-frame g c =
    let d = g.D.Disk.disk in
    let past = (d c.args.disk.now).past in
    let form = c.args.form in
    let place : ℕ = c.args.place in
    let size : ℕ = c.in-Some.size in
    let bytes = c.bytes_at.result.now in
    let first = c.fill.new.self in
    let shown = c.fill-2.new.self in
    let head : ℕ = 1 + c.head_size-before.result in
    let whole : List ℕ = take (head + size) (drop (place - shown.from) shown.bytes) in
    let part : List ℕ = take head (drop (place - first.from) first.bytes) in
    let known = same-bytes past place head (1 + head_of form) part bytes (omega (arith, c.head_size-before.ensures))
    c.bytes_at.ensures.bytes c.in_ok-fill.ensures.bytes in
    let all = same-bytes past place (head + size) (1 + head_of form + size) whole whole
    (omega (arith, c.head_size-before.ensures)) refl
    (subst (λ (past : Option Past). IfSome past (λ past. AreAt place (head + size) whole (contents_of past)))
    c.in_ok-fill.ensures.kept c.in_ok-fill-2.ensures.bytes) in
    frame_short form c.args.gate place bytes past c.requires.before known size whole _ c.in-Some.ensures.found.1 all
    (omega (
      arith,
      c.head_size-before.ensures,
      too-few shown.from place head size shown.bytes
          c.in_ok-fill-2.ensures.begins.0 c.in_ok-fill-2.ensures.begins.1 c.if-not-take_payload.ensures.taken.1,
    ))

pub returns-clause-frame : goal.returns-clause-frame
returns-clause-frame g c =
    let d = g.D.Disk.disk in
    let past = (d c.args.disk.now).past in
    let form = c.args.form in
    let place : ℕ = c.args.place in
    let size : ℕ = c.in-Some.size in
    let bytes = c.bytes_at.result.now in
    let first = c.fill.new.self in
    let shown = c.fill-2.new.self in
    let head : ℕ = 1 + c.head_size-before.result in
    let whole : List ℕ = take (head + size) (drop (place - shown.from) shown.bytes) in
    let part : List ℕ = take head (drop (place - first.from) first.bytes) in
    let known = same-bytes past place head (1 + head_of form) part bytes (omega (arith, c.head_size-before.ensures))
    c.bytes_at.ensures.bytes c.in_ok-fill.ensures.bytes in
    let all = same-bytes past place (head + size) (1 + head_of form + size) whole whole
    (omega (arith, c.head_size-before.ensures)) refl
    (subst (λ (past : Option Past). IfSome past (λ past. AreAt place (head + size) whole (contents_of past)))
    c.in_ok-fill.ensures.kept c.in_ok-fill-2.ensures.bytes) in
    frame_whole form c.args.gate place bytes past c.requires.before known size _ whole _ c.in-Some.ensures.found.1 all
    (c.if-not-take_payload.ensures.payload refl
    ∙ (payload-behind shown.from place head size shown.bytes c.in_ok-fill-2.ensures.begins.0
    ∙ ap (λ (n : ℕ). drop n whole) (omega (arith, c.head_size-before.ensures))))
    (omega (arith, c.head_size-before.ensures))
