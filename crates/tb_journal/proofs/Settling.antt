-- What a whole sync and the gate byte settle of a payload in doubt.
use Rattle.std.proofs.Common.{◌≡◌, ℕ, ◌<◌, List, [], ◌∷◌, ◌++◌, length, get_or, refl, sym, ◌∙◌, ap, subst, arith, length-append, Bool, true, false, true≢false, IsTrue, ◌↔◌}
use Rattle.std.proofs.lemmas.List.{get_or_at}
use Rattle.std.specs.Bool.{MatchBool}
use Rattle.tb_disk.specs.Steps.{Synced}
use Rattle.tb_disk.specs.Past.{Past, Then, contents_of, Leaves}
use Rattle.tb_disk.proofs.Moments.{Leaves-start, Leaves-step}
use Rattle.tb_journal.specs.declared.form.Form.TheVariants.{Second}
use Rattle.tb_journal.specs.Frames.{front}
use Rattle.tb_journal.specs.Journal.{IsDoubtful, WithOrWithout, Holds, InDoubt}
use Rattle.tb_journal.proofs.Spelling.{length-framed}
use Rattle.tb_journal.proofs.Gates.{doubtful_stands, front_push, length-front_push, ArePayloads-push}

-- the gate of a file in doubt is within the file
pub doubtful_long : (payloads : List (List ℕ)) (payload image : List ℕ) (gate : ℕ) → length (front payloads) ≡ gate
    → IsDoubtful payloads payload image → gate < length image
doubtful_long payloads payload image gate place doubt = omega
    (arith, ap length doubt.is, length-append (front payloads) (doubt.gate ∷ doubt.rest), place)

module _ (payloads : List (List ℕ)) (payload : List ℕ) (gate next : ℕ) (before : Past)
    (doubt : InDoubt payloads payload gate next before) where
  -- what a crash leaves of a journal in doubt
  pub doubt_start : Leaves (WithOrWithout payloads payload) before before
  doubt_start = Leaves-start (WithOrWithout payloads payload) before
      (λ image left. doubtful_stands payloads payload image (doubt.images image left))

  -- after a sync there is the contents alone
  synced_image : (image : List ℕ) → image ≡ contents_of before → IsDoubtful payloads payload image
  synced_image image left = subst (λ (list : List ℕ). IsDoubtful payloads payload list) (sym left) doubt.file

  -- a sync leaves it in doubt
  pub doubt_synced : InDoubt payloads payload gate next (Then Synced before)
  doubt_synced = record { place = doubt.place; after = doubt.after; file = doubt.file; images = synced_image }

  -- what a crash leaves up to the end of a sync
  pub doubt_leaves : Leaves (WithOrWithout payloads payload) before (Then Synced before)
  doubt_leaves = Leaves-step (WithOrWithout payloads payload) before before Synced doubt_start
      (λ image left. doubtful_stands payloads payload image (synced_image image left))

  -- the byte at the gate's place is the gate
  pub doubt_gate : get_or (contents_of before) gate 0 ≡ doubt.file.gate
  doubt_gate = ap (λ (list : List ℕ). get_or list gate 0) doubt.file.is
      ∙ get_or_at (front payloads) doubt.file.gate doubt.file.rest 0 gate doubt.place

  -- the gate byte on the disk says whether the payload counts
  pub settled : (counts : Bool) → (IsTrue counts ↔ (get_or (contents_of before) gate 0 ≡ 1))
      → MatchBool counts (Holds (payloads ++ payload ∷ []) next (Then Synced before))
      (Holds payloads gate (Then Synced before))
  settled true is = let one : doubt.file.gate ≡ 1 = sym doubt_gate ∙ is.0 refl in let whole = doubt.file.whole one in
      record {
        place = omega (
          arith,
          length-front_push Second payloads payload,
          length-framed Second (length payloads) payload,
          doubt.place,
          doubt.after,
        );
        file = record {
          sizes = ArePayloads-push payloads payload doubt.file.sizes doubt.file.size;
          gate = whole.0;
          rest = whole.1;
          is = doubt.file.is ∙ (ap (λ (byte : ℕ). front payloads ++ byte ∷ doubt.file.rest) one
              ∙ (ap (λ (list : List ℕ). front payloads ++ 1 ∷ list) whole.2
              ∙ sym (front_push Second payloads payload (whole.0 ∷ whole.1))));
          closed = whole.3;
        };
        synced = λ image left. left;
      }
  settled false is = record {
    place = doubt.place;
    file = record {
      sizes = doubt.file.sizes;
      gate = doubt.file.gate;
      rest = doubt.file.rest;
      is =
          doubt.file.is;
      closed = λ one. true≢false (sym (is.1 (doubt_gate ∙ one)));
    };
    synced = λ image left. left;
  }
