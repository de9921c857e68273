-- One group more, or a payload that is no group, or the end.
use Rattle.std.proofs.Common.{◌≡◌, ◌≢◌, ℕ, List, Option, Some, length, refl, sym, ◌∙◌, subst, arith, true≢false}
use Rattle.std.specs.Prelude.{IfSome, IsNone}
use Rattle.tb_disk.specs.Past.{Past}
use Rattle.tb_message.specs.declared.version.Version.{Version}
use Rattle.tb_message.specs.Spelling.{spellings_in}
use Rattle.tb_journal.specs.declared.form.Form.{Form}
use Rattle.tb_journal.specs.Places.{StandsAtIn, StandsBetweenIn, GivesFrameIn}
use Rattle.tb_desk.specs.Stands.{form_of}
use Rattle.tb_desk.specs.Replay.{IsNoGroupIn}
use Rattle.tb_desk.proofs.ReplayLemmas.{IsReplayedTo, replayed_none, replayed_more, replayed_bad, replayed_all}
use Rattle.tb_desk.proofs.replay.enter_all.Goals as goal

-- a frame that was given of the disk now stood there from the beginning
given_before : (form : Form) (now before : Option Past) (gate first place size next : ℕ) (payload : List ℕ)
    (found : Option (ℕ × ℕ))
    → now ≡ before
    → gate ≡ first
    → found ≡ Some (size, next)
    → IfSome found (λ frame. IfSome now (GivesFrameIn form gate place payload frame.1))
    → IfSome before (GivesFrameIn form first place payload next)
given_before form now before gate first place size next payload found kept same is gives =
    let here : IfSome now (GivesFrameIn form gate place payload next) =
    subst (λ (one : Option (ℕ × ℕ)). IfSome one (λ frame. IfSome now (GivesFrameIn form gate place payload frame.1))) is
    gives in
    subst (λ (past : Option Past). IfSome past (GivesFrameIn form first place payload next)) kept
    (subst (λ (n : ℕ). IfSome now (GivesFrameIn form n place payload next)) same here)

pub frames-init : goal.frames-init
frames-init g c =
    let j = g.J.Frames in
    let old = c.args.journal.now in
    record {
      sure = c.requires.sure;
      gate = refl;
      name = refl;
      kept = refl;
      no_fault = refl;
      stands = subst (λ (n : ℕ). StandsAtIn (form_of j.version) (j.disk old) (j.gate old) n)
          (sym c.first_place-place.ensures) c.requires.first;
      shows = c.new-window.ensures.shows (j.disk old);
      so_far = subst (λ (n : ℕ). IsReplayedTo j.version (j.disk old) (j.gate old) n c.args.host.now.history)
          (sym c.first_place-place.ensures)
          (replayed_none j.version (j.disk old) (j.gate old) c.args.host.now.history c.requires.empty);
    }

pub frames-smaller : goal.frames-smaller
frames-smaller g c =
    let j = g.J.Frames in
    let now = c.frames.journal in
    let new = c.next_frame.new.self in
    let form = form_of j.version in
    let place : ℕ = c.frames.place in
    let size : ℕ = c.in-Ok-Some._size in
    let next : ℕ = c.in-Ok-Some.next in
    let is = c.in-Ok-Some.field-0-is in
    let between : StandsBetweenIn form (j.gate now) place size next =
    subst (λ (found : Option (ℕ × ℕ)). IfSome found (λ frame. StandsBetweenIn form (j.gate now) place frame.0 frame.1))
    is c.in-Ok-Some.ensures.between in
    let behind : StandsAtIn form (j.disk new) (j.gate new) next =
    subst (λ (found : Option (ℕ × ℕ)). IfSome found (λ frame. StandsAtIn form (j.disk new) (j.gate new) frame.1)) is
    c.in-Ok-Some.ensures.next in
    let more : place ≢ j.gate now = λ same.
    true≢false (subst (λ (found : Option (ℕ × ℕ)). IsNone found) is (c.in-Ok-Some.ensures.end.1 same)) in
    omega (arith, between, behind.within, more, c.frames.invariant.stands.within, c.next_frame.ensures.same.0)

pub frames-preserved : goal.frames-preserved
frames-preserved g c =
    let j = g.J.Frames in
    let old = c.args.journal.now in
    let now = c.frames.journal in
    let new = c.next_frame.new.self in
    let form = form_of j.version in
    let before = c.frames.invariant in
    let after = c.next_frame.ensures in
    let place : ℕ = c.frames.place in
    let size : ℕ = c.in-Ok-Some._size in
    let next : ℕ = c.in-Ok-Some.next in
    let payload : List ℕ = c.next_frame.new.into.payload in
    let is = c.in-Ok-Some.field-0-is in
    let entered = c.in-Ok.ensures.entered in
    let spelled : payload ≡ spellings_in j.version entered.0 =
    subst (λ (version : Version). payload ≡ spellings_in version entered.0) c.version-version.ensures
    (sym c.payload.ensures ∙ entered.2) in
    let read : size ≡ length payload =
    subst (λ (found : Option (ℕ × ℕ)). IfSome found (λ frame. frame.0 ≡ length payload)) is
    c.in-Ok-Some.ensures.size in
    let between : StandsBetweenIn form (j.gate now) place size next =
    subst (λ (found : Option (ℕ × ℕ)). IfSome found (λ frame. StandsBetweenIn form (j.gate now) place frame.0 frame.1))
    is c.in-Ok-Some.ensures.between in
    record {
      sure = after.same.1 ∙ before.sure;
      gate = after.same.0 ∙ before.gate;
      name = after.same.2 ∙ before.name;
      kept = after.kept ∙ before.kept;
      no_fault = c.in-Ok-Some.ensures.no_fault ∙ before.no_fault;
      stands = subst (λ (found : Option (ℕ × ℕ)).
          IfSome found (λ frame. StandsAtIn form (j.disk new) (j.gate new) frame.1)) is c.in-Ok-Some.ensures.next;
      shows = after.window;
      so_far = replayed_more j.version (j.disk old) (j.gate old) place next payload c.frames.host.history before.so_far
          (given_before form (j.disk now).past (j.disk old).past (j.gate now) (j.gate old) place size next payload
          c.in-Ok-Some.field-0 before.kept before.gate is c.in-Ok-Some.ensures.frame)
          c.enter_group.new.host.history entered.0
          (subst (λ (gate : ℕ). StandsBetweenIn form gate place (length payload) next) before.gate
          (subst (λ (n : ℕ). StandsBetweenIn form (j.gate now) place n next) read between))
          entered.1 spelled entered.3 c.in-Ok.ensures.legal;
    }

pub returns-in-Err-Bad-clause-refused : goal.returns-in-Err-Bad-clause-refused
returns-in-Err-Bad-clause-refused g c =
    let j = g.J.Frames in
    let old = c.args.journal.now in
    let now = c.frames.journal in
    let before = c.frames.invariant in
    let place : ℕ = c.frames.place in
    let size : ℕ = c.in-Ok-Some._size in
    let next : ℕ = c.in-Ok-Some.next in
    let payload : List ℕ = c.next_frame.new.into.payload in
    let history = c.frames.host.history in
    replayed_bad j.version (j.disk old) (j.gate old) place next payload history before.so_far
    (given_before (form_of j.version) (j.disk now).past (j.disk old).past (j.gate now) (j.gate old) place size next
    payload c.in-Ok-Some.field-0 before.kept before.gate c.in-Ok-Some.field-0-is c.in-Ok-Some.ensures.frame)
    (subst (λ (version : Version). IsNoGroupIn version history payload) c.version-version.ensures
    (subst (λ (bytes : List ℕ). IsNoGroupIn c.version-version.result history bytes) c.payload.ensures
    (c.in-Err-Bad.ensures.refused c.in-Err-Bad.field-0-is)))

pub returns-in-Ok-None-clause-found : goal.returns-in-Ok-None-clause-found
returns-in-Ok-None-clause-found g c =
    let j = g.J.Frames in
    let old = c.args.journal.now in
    let before = c.frames.invariant in
    let reached : c.frames.place ≡ j.gate c.frames.journal =
    c.in-Ok-None.ensures.end.0
    (subst (λ (found : Option (ℕ × ℕ)). IsNone found) (sym c.in-Ok-None.field-0-is) refl) in
    replayed_all j.version (j.disk old) (j.gate old) c.frames.place c.frames.host.history before.so_far
    (reached ∙ before.gate)
