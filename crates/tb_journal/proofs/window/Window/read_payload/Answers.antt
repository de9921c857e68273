-- The payload is what the window has of the bytes that are wanted.
use Rattle.std.proofs.Common.{◌+◌, ◌-◌, ◌≤◌, ℕ, List, length, take, drop, refl, ap, ◌∙◌, arith, length-take, length-drop}
use Rattle.tb_journal.proofs.BehindLemmas.{take_as_many}
use Rattle.tb_journal.proofs.Showing.{same-bytes}
use Rattle.tb_journal.proofs.window.Window.read_payload.Goals as goal

pub returns-clause-payload : goal.returns-clause-payload
returns-clause-payload g c =
    let shown = c.fill.new.self in
    let start : ℕ = c.args.place - shown.from in
    let behind : List ℕ = drop start shown.bytes in
    let given = c.bytes_at-count.ensures.bytes in
    let fits : start + length c.bytes_at-count.result.now ≤ length shown.bytes = omega (
      arith,
      ap length given,
      length-take c.args.need behind,
      length-drop start shown.bytes,
      c.in_ok-fill.ensures.begins.1,
    ) in
    same-bytes (g.D.Disk.disk c.args.disk.now).past c.args.place c.args.need c.args.need (take c.args.need behind)
    c.take_payload.new.self.payload refl
    (c.take_payload.ensures.payload (c.take_payload.ensures.taken.1 fits)
    ∙ ap (λ (count : ℕ). take count behind) (ap length given) ∙ take_as_many c.args.need behind)
    c.in_ok-fill.ensures.bytes
