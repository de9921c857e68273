-- One frame more.
use Rattle.std.proofs.Common.{◌<◌, ◌≤◌, ℕ, Option, Some, IfSome, subst, sym, arith, ◌∙◌}
use Rattle.tb_disk.specs.Past.{Past, contents_of}
use Rattle.tb_journal.specs.Places.{PassesFrame}
use Rattle.tb_journal.proofs.Reading.{IsReadUpTo}
use Rattle.tb_journal.proofs.Walking.{walked_none, walked_more, first_within}
use Rattle.tb_journal.proofs.walk.find_gate.Goals as goal

pub frames-init : goal.frames-init
frames-init g c =
    let d = g.D.Disk.disk in
    record {
      kept = c.read_header.ensures.kept;
      no_fault = c.in_ok-read_header.ensures.no_fault;
      behind = omega (arith, c.first_gate-place.ensures);
      few = omega arith;
      within = omega (arith, c.requires.long, c.first_gate-place.ensures, first_within c.args.form);
      window = c.new-window.ensures.shows (d c.read_header.new.disk);
      so_far = subst (λ (place : ℕ). IfSome (d c.args.disk.now).past
          (λ past. IsReadUpTo c.args.form 0 place (contents_of past))) (sym c.first_gate-place.ensures)
          (walked_none c.args.form (d c.args.disk.now).past c.in_ok-read_header.ensures.ok);
    }

pub frames-preserved : goal.frames-preserved
frames-preserved g c =
    let d = g.D.Disk.disk in
    let old = (d c.args.disk.now).past in
    let form = c.args.form in
    let ordinal : ℕ = c.frames.ordinal in
    let place : ℕ = c.frames.place in
    let next : ℕ = c.in-Some.next in
    let passed : IfSome old (λ past. PassesFrame form ordinal place (contents_of past) (Some next)) =
    subst (λ (past : Option Past). IfSome past (λ past. PassesFrame form ordinal place (contents_of past) (Some next)))
    c.frames.invariant.kept
    (subst (λ (found : Option ℕ). IfSome (d c.frames.disk).past
    (λ past. PassesFrame form ordinal place (contents_of past) found)) c.in-Some.is c.in_ok-next.ensures.found) in
    let within : (place < next) × (next ≤ c.args.size) =
    subst (λ (found : Option ℕ). IfSome found (λ next. (place < next) × (next ≤ c.args.size))) c.in-Some.is
    c.in_ok-next.ensures.within in
    record {
      kept = c.pass_frame.ensures.kept ∙ c.frames.invariant.kept;
      no_fault = c.in_ok-next.ensures.no_fault ∙ c.frames.invariant.no_fault;
      behind = omega (arith, within.0, c.frames.invariant.behind);
      few = omega (arith, within.0, c.frames.invariant.few);
      within = within.1;
      window = c.pass_frame.ensures.window;
      so_far = walked_more form old ordinal place next c.frames.invariant.so_far passed;
    }
