-- Which frame stands at a place of a journal, and what a read of it gives.
use Rattle.std.proofs.Common.{◌≡◌, ◌⊎◌, inl, inr, ℕ, zero, suc, ◌+◌, ◌-◌, ◌<◌, ◌≤◌, List, [], ◌∷◌, ◌++◌, length, get_or, take, drop, refl, sym, ◌∙◌, ap, arith, append_assoc, length-append, length-take, take-append-drop}
use Rattle.std.proofs.lemmas.List.{take_at, drop_at, drop_more, take_all, drop-drop, take_more}
use Rattle.std.proofs.lemmas.Bool.{cases_lt}
use Rattle.std.specs.Prelude.{Option, IfSome}
use Rattle.tb_disk.specs.Past.{Past, contents_of}
use Rattle.tb_journal.specs.declared.form.Form.{Form}
use Rattle.tb_journal.specs.Frames.{header_of, head_of, framed_in, frames_in, front_in, IsPayload, ArePayloads}
use Rattle.tb_journal.specs.Image.{length_in, IsFramedIn, StandsIn}
use Rattle.tb_journal.specs.Places.{ReadsTo, IsPlaceIn, GivesFrameIn}
use Rattle.tb_journal.specs.Windows.{AreAt}
use Rattle.tb_journal.proofs.Gates.{length-front_push, plus_zero}
use Rattle.tb_journal.proofs.Spelling.{length-framed, length_in-framed, drop-framed}
use Rattle.tb_journal.proofs.ToldLemmas.{known_of, known_both}
use Rattle.tb_journal.proofs.Showing.{length-at, behind-at}
use Rattle.tb_journal.proofs.Walking.{length_in-front}

-- the frames of two lists, one behind the other
frames-append : (form : Form) (ordinal : ℕ) (payloads others : List (List ℕ))
    → frames_in form ordinal (payloads ++ others)
    ≡ frames_in form ordinal payloads ++ frames_in form (ordinal + length payloads) others
frames-append form ordinal [] others = ap (λ (n : ℕ). frames_in form n others) (plus_zero ordinal)
frames-append form ordinal (payload ∷ payloads) others = ap (λ (list : List ℕ). 1 ∷ list)
    (ap (λ (list : List ℕ). framed_in form ordinal payload ++ list)
    (frames-append form (ordinal + 1) payloads others
    ∙ ap (λ (n : ℕ). frames_in form (ordinal + 1) payloads ++ frames_in form n others) (omega arith))
    ∙ sym (append_assoc (framed_in form ordinal payload) (frames_in form (ordinal + 1) payloads)
    (frames_in form (ordinal + length (payload ∷ payloads)) others)))

-- each of the payloads is one
pub payload_at : (payloads : List (List ℕ)) (index : ℕ) → ArePayloads payloads → index < length payloads
    → IsPayload (get_or payloads index [])
payload_at [] index are within = absurd (omega (arith, within))
payload_at (payload ∷ payloads) zero are within = are.0
payload_at (payload ∷ payloads) (suc index) are within = payload_at payloads index are.1 (omega (arith, within))

-- the frame behind so many payloads
front_split : (form : Form) (payloads : List (List ℕ)) (count : ℕ) → count < length payloads
    → front_in form payloads
    ≡ front_in form (take count payloads)
    ++ 1 ∷ (framed_in form count (get_or payloads count []) ++ frames_in form (count + 1) (drop (count + 1) payloads))
front_split form payloads count within =
    let payload : List ℕ = get_or payloads count [] in
    let before : List (List ℕ) = take count payloads in
    let behind : List (List ℕ) = drop (count + 1) payloads in
    let number : 0 + length before ≡ count = omega (arith, length-take count payloads, within) in
    ap (λ (list : List (List ℕ)). front_in form list) (sym (take-append-drop count payloads)
    ∙ ap (λ (list : List (List ℕ)). before ++ list) (drop_more payloads count [] within))
    ∙ (ap (λ (list : List ℕ). header_of form ++ list) (frames-append form 0 before (payload ∷ behind)
    ∙ ap (λ (n : ℕ). frames_in form 0 before ++ frames_in form n (payload ∷ behind)) number)
    ∙ sym (append_assoc (header_of form) (frames_in form 0 before)
    (1 ∷ (framed_in form count payload ++ frames_in form (count + 1) behind))))

-- fewer payloads end before more of them
pub front-shorter : (form : Form) (payloads : List (List ℕ)) (count : ℕ) → count < length payloads
    → length (front_in form (take count payloads)) < length (front_in form payloads)
front-shorter form payloads count within =
    let behind : List ℕ = framed_in form count (get_or payloads count [])
    ++ frames_in form (count + 1) (drop (count + 1) payloads) in
    omega (
      arith,
      ap length (front_split form payloads count within),
      length-append (front_in form (take count payloads)) (1 ∷ behind),
    )

-- what a journal has at the place behind so many of its payloads
pub record HasFrame (form : Form) (payloads : List (List ℕ)) (count gate place : ℕ) (file : List ℕ) : Type 0 where
  pub within : count < length payloads
  pub size : IsPayload (get_or payloads count [])
  pub more : List ℕ
  pub is : drop (place + 1) file ≡ framed_in form count (get_or payloads count []) ++ more
  pub next : length (front_in form (take (count + 1) payloads))
      ≡ place + 1 + head_of form + length (get_or payloads count [])
  pub fits : place + 1 + head_of form + length (get_or payloads count []) ≤ gate
  pub long : gate < length file

-- the file has a gate byte behind more than no payload
framed_there : (form : Form) (payloads : List (List ℕ)) (count : ℕ) (file : List ℕ) → count < length payloads
    → StandsIn form payloads file → IsFramedIn form payloads file
framed_there form payloads count file within (inl short) = absurd (omega (arith, within, ap length short.1))
framed_there form payloads count file within (inr long) = long.1

-- before the gate there is a frame
pub has_frame : (form : Form) (payloads : List (List ℕ)) (count gate place : ℕ) (file : List ℕ)
    → ReadsTo form payloads gate file → count ≤ length payloads
    → length (front_in form (take count payloads)) ≡ place → place < gate
    → HasFrame form payloads count gate place file
has_frame form payloads count gate place file reads within at before =
    let payload : List ℕ = get_or payloads count [] in
    let framed : List ℕ = framed_in form count payload in
    let behind : List ℕ = frames_in form (count + 1) (drop (count + 1) payloads) in
    let less : count < length payloads = elim (cases_lt count (length payloads)) [
      | inl less ↦ less
      | inr most ↦ absurd (omega (
        arith,
        ap (λ (list : List (List ℕ)). length (front_in form list)) (take_all count payloads most),
        reads.place,
      ))
    ] in
    let there = framed_there form payloads count file less reads.stands in
    let split = front_split form payloads count less in
    let rest : List ℕ = there.gate ∷ there.rest in
    let whole : file ≡ front_in form (take count payloads) ++ (1 ∷ ((framed ++ behind) ++ rest)) = there.is
    ∙ (ap (λ (list : List ℕ). list ++ rest) split
    ∙ append_assoc (front_in form (take count payloads)) (1 ∷ (framed ++ behind)) rest) in
    let number : length (take count payloads) ≡ count = omega (arith, length-take count payloads, less) in
    record {
      within = less;
      size = payload_at payloads count there.sizes less;
      more = behind ++ rest;
      is = sym (drop-drop 1 place file)
          ∙ (ap (λ (list : List ℕ). drop 1 (drop place list)) whole
          ∙ (ap (λ (list : List ℕ). drop 1 list)
          (drop_at (front_in form (take count payloads)) (1 ∷ ((framed ++ behind) ++ rest)) place at)
          ∙ append_assoc framed behind rest));
      next = omega (
        arith,
        ap (λ (list : List (List ℕ)). length (front_in form list)) (take_more payloads count [] less),
        length-front_push form (take count payloads) payload,
        length-framed form (length (take count payloads)) payload,
        at,
      );
      fits = omega (
        arith,
        ap length split,
        length-append (front_in form (take count payloads)) (1 ∷ (framed ++ behind)),
        length-append framed behind,
        length-framed form count payload,
        reads.place,
        at,
      );
      long = omega (arith, ap length there.is, length-append (front_in form payloads) rest, reads.place);
    }

-- what the bytes up to the payload of a frame say
pub head_says : (form : Form) (payloads : List (List ℕ)) (count gate place : ℕ) (file bytes : List ℕ)
    → HasFrame form payloads count gate place file → AreAt place (1 + head_of form) bytes file
    → (length bytes ≡ 1 + head_of form) × (length_in (drop 1 bytes) ≡ length (get_or payloads count []))
head_says form payloads count gate place file bytes frame are = (
  omega (arith, length-at place (1 + head_of form) bytes file are, frame.long, frame.fits),
  ap length_in (behind-at place 1 (head_of form) bytes file are)
      ∙ (length_in-front form (drop (place + 1) file)
      ∙ (ap length_in frame.is ∙ length_in-framed form count (get_or payloads count []) frame.more frame.size)),
)

-- the payload itself
pub payload_there : (form : Form) (payloads : List (List ℕ)) (count gate place : ℕ) (file : List ℕ)
    → HasFrame form payloads count gate place file
    → take (length (get_or payloads count [])) (drop (place + (1 + head_of form)) file) ≡ get_or payloads count []
payload_there form payloads count gate place file frame =
    let payload : List ℕ = get_or payloads count [] in
    let on : place + (1 + head_of form) ≡ place + 1 + head_of form = omega arith in
    ap (λ (list : List ℕ). take (length payload) list)
    (ap (λ (n : ℕ). drop n file) on
    ∙ (sym (drop-drop (head_of form) (place + 1) file)
    ∙ (ap (λ (list : List ℕ). drop (head_of form) list) frame.is ∙ drop-framed form count payload frame.more)))
    ∙ take_at payload frame.more (length payload) refl

module _ (form : Form) (gate place : ℕ) (bytes : List ℕ) (past : Option Past) (before : place < gate)
    (known : IfSome past (λ past. AreAt place (1 + head_of form) bytes (contents_of past))) where
  -- where the bytes say no length that fits, the disk tells nothing
  pub frame_without : (payload : List ℕ)
      → (length bytes < 1 + head_of form) ⊎ (length_in (drop 1 bytes) < 1) ⊎ (32768 < length_in (drop 1 bytes))
      ⊎ (gate - place < 1 + head_of form + length_in (drop 1 bytes))
      → IfSome past (GivesFrameIn form gate place payload gate)
  frame_without payload none =
      known_of (λ past. AreAt place (1 + head_of form) bytes (contents_of past))
      (GivesFrameIn form gate place payload gate) past
      (λ past are payloads number reads within at.
      absurd (let frame = has_frame form payloads number gate place (contents_of past) reads within at before in
      let says = head_says form payloads number gate place (contents_of past) bytes frame are in
      elim none [
        | inl few ↦ omega (arith, few, says.0)
        | inr (inl little) ↦ omega (arith, little, says.1, frame.size.some)
        | inr (inr (inl much)) ↦ omega (arith, much, says.1, frame.size.short)
        | inr (inr (inr past)) ↦ omega (arith, past, says.1, frame.fits)
      ])) known

  -- fewer bytes than the length says are there only where the disk tells nothing
  pub frame_short : (size : ℕ) (whole payload : List ℕ)
      → size ≡ length_in (drop 1 bytes)
      → IfSome past (λ past. AreAt place (1 + head_of form + size) whole (contents_of past))
      → length whole < 1 + head_of form + size
      → IfSome past (GivesFrameIn form gate place payload gate)
  frame_short size whole payload said behind short =
      known_both (λ past. AreAt place (1 + head_of form) bytes (contents_of past))
      (λ past. AreAt place (1 + head_of form + size) whole (contents_of past))
      (GivesFrameIn form gate place payload gate) past
      (λ past are all payloads number reads within at.
      absurd (let frame = has_frame form payloads number gate place (contents_of past) reads within at before in
      let says = head_says form payloads number gate place (contents_of past) bytes frame are in
      omega (
        arith,
        says.1,
        said,
        short,
        frame.fits,
        frame.long,
        length-at place (1 + head_of form + size) whole (contents_of past) all,
      ))) known behind

  -- the payload and the place behind it
  pub frame_whole : (size next : ℕ) (whole payload : List ℕ)
      → size ≡ length_in (drop 1 bytes)
      → IfSome past (λ past. AreAt place (1 + head_of form + size) whole (contents_of past))
      → payload ≡ drop (1 + head_of form) whole
      → next ≡ place + 1 + head_of form + size
      → IfSome past (GivesFrameIn form gate place payload next)
  frame_whole size next whole payload said behind is at_next =
      known_both (λ past. AreAt place (1 + head_of form) bytes (contents_of past))
      (λ past. AreAt place (1 + head_of form + size) whole (contents_of past))
      (GivesFrameIn form gate place payload next) past
      (λ past are all payloads number reads within at.
      (let file : List ℕ = contents_of past in
      let frame = has_frame form payloads number gate place file reads within at before in
      let says = head_says form payloads number gate place file bytes frame are in
      let long : size ≡ length (get_or payloads number []) = said ∙ says.1 in (
        frame.within,
        is ∙ (behind-at place (1 + head_of form) size whole file all
            ∙ (ap (λ (n : ℕ). take n (drop (place + (1 + head_of form)) file)) long
            ∙ payload_there form payloads number gate place file frame)),
        omega (arith, at_next, frame.next, long),
      ))) known behind

-- what stands behind a frame of the journal is a place of it
pub place_behind : (form : Form) (gate place next : ℕ) (payload : List ℕ) (past : Past) → IsPlaceIn form gate place past
    → GivesFrameIn form gate place payload next past → IsPlaceIn form gate next past
place_behind form gate place next payload past is gives =
    let found = gives is.payloads is.count is.reads is.within is.is in
    record {
      payloads = is.payloads;
      reads = is.reads;
      count = is.count + 1;
      within = omega (arith, found.0);
      is = sym found.2;
    }
