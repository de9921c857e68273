-- How far a journal is read.
use Rattle.std.proofs.Common.{◌≡◌, ◌≢◌, inl, ℕ, ◌+◌, ◌<◌, ◌≤◌, List, [], ◌∷◌, ◌++◌, length, get_or, take, drop, refl, sym, ◌∙◌, ap, arith, length-append, take-append-drop}
use Rattle.std.proofs.lemmas.List.{drop_at, drop_more, append-nil}
use Rattle.tb_journal.specs.declared.form.Form.{Form}
use Rattle.tb_journal.specs.Frames.{header_of, first_place, empty_of, head_of, framed_in, frames_in, front_in, IsPayload, ArePayloads}
use Rattle.tb_journal.specs.Image.{IsFramedIn}
use Rattle.tb_journal.specs.Places.{ReadsSome}
use Rattle.tb_journal.proofs.Gates.{front_push, length-front_push, length-header, ArePayloads-push}
use Rattle.tb_journal.proofs.Spelling.{length-framed}

-- up to this place the file is the header and these frames
pub record IsReadTo (form : Form) (payloads : List (List ℕ)) (place : ℕ) (file : List ℕ) : Type 0 where
  pub sizes : ArePayloads payloads
  pub at : length (front_in form payloads) ≡ place
  pub is : file ≡ front_in form payloads ++ drop place file

-- up to this place the file is the header and some frames
pub record IsReadUpTo (form : Form) (ordinal place : ℕ) (file : List ℕ) : Type 0 where
  pub payloads : List (List ℕ)
  pub count : length payloads ≡ ordinal
  pub read : IsReadTo form payloads place file

-- behind the header no frame is read yet
pub read_none : (form : Form) (file : List ℕ) → take (first_place form) file ≡ header_of form
    → IsReadTo form [] (first_place form) file
read_none form file begins = record {
  sizes = tt;
  at = omega (arith, length-append (header_of form) (frames_in form 0 []), length-header form);
  is = sym (take-append-drop (first_place form) file) ∙ (ap (λ (list : List ℕ). list ++ drop (first_place form) file)
      (begins ∙ sym (append-nil (header_of form))));
}

-- the gate byte, and what stands behind it
gate_there : (place : ℕ) (file : List ℕ) → place < length file
    → drop place file ≡ get_or file place 0 ∷ drop (place + 1) file
gate_there place file within = drop_more file place 0 within

-- one frame more is read
pub read_more : (form : Form) (payloads : List (List ℕ)) (payload more file : List ℕ) (place : ℕ)
    → IsReadTo form payloads place file
    → IsPayload payload
    → place < length file
    → get_or file place 0 ≡ 1
    → drop (place + 1) file ≡ framed_in form (length payloads) payload ++ more
    → IsReadTo form (payloads ++ payload ∷ []) (place + 1 + head_of form + length payload) file
read_more form payloads payload more file place so_far size within one found =
    let whole : file ≡ front_in form (payloads ++ payload ∷ []) ++ more = so_far.is
    ∙ (ap (λ (list : List ℕ). front_in form payloads ++ list) (gate_there place file within
    ∙ (ap (λ (byte : ℕ). byte ∷ drop (place + 1) file) one ∙ ap (λ (list : List ℕ). 1 ∷ list) found))
    ∙ sym (front_push form payloads payload more)) in
    let long : length (front_in form (payloads ++ payload ∷ [])) ≡ place + 1 + head_of form + length payload =
    omega (arith, length-front_push form payloads payload, so_far.at, length-framed form (length payloads) payload) in
    record {
      sizes = ArePayloads-push payloads payload so_far.sizes size;
      at = long;
      is = whole ∙ ap (λ (list : List ℕ). front_in form (payloads ++ payload ∷ []) ++ list)
          (sym (ap (λ (list : List ℕ). drop (place + 1 + head_of form + length payload) list) whole
          ∙ drop_at (front_in form (payloads ++ payload ∷ [])) more (place + 1 + head_of form + length payload) long));
    }

-- the gate is closed: the frames so far are all
pub read_closed : (form : Form) (payloads : List (List ℕ)) (file : List ℕ) (place : ℕ)
    → IsReadTo form payloads place file
    → place < length file → get_or file place 0 ≢ 1 → IsFramedIn form payloads file
read_closed form payloads file place so_far within shut = record {
  sizes = so_far.sizes;
  gate = get_or file place 0;
  rest = drop (place + 1) file;
  is = so_far.is ∙ ap (λ (list : List ℕ). front_in form payloads ++ list) (gate_there place file within);
  closed = shut;
}

-- a file no longer than an empty journal reads to the place behind the header
pub reads_empty : (form : Form) (file : List ℕ) → length file ≤ empty_of form → ReadsSome form (first_place form) file
reads_empty form file short = (
  [],
  record {
    place = omega (arith, length-append (header_of form) (frames_in form 0 []), length-header form);
    stands = inl (short, refl);
  },
)
