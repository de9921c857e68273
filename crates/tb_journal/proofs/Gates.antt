-- What a write, torn or whole, leaves of a gate and of the frame behind it.
use Rattle.std.proofs.Common.{◌≡◌, inl, inr, ℕ, ◌+◌, ◌<◌, List, [], ◌∷◌, ◌++◌, length, get_or, take, drop, refl, sym, ◌∙◌, ap, arith, append_assoc, length-append, take-append-drop}
use Rattle.std.proofs.lemmas.List.{take_at, drop_at, drop_more}
use Rattle.std.proofs.lemmas.Bool.{cases_eq, cases_lt}
use Rattle.tb_disk.specs.Steps.{over, Torn}
use Rattle.tb_journal.specs.declared.form.Form.{Form}
use Rattle.tb_journal.specs.declared.form.Form.TheVariants.{First, Second}
use Rattle.tb_journal.specs.Frames.{title_of, header_of, first_place, empty_of, head_in, framed_in, frames_in, front_in, framed, front, IsPayload, ArePayloads}
use Rattle.tb_journal.specs.Image.{IsFramedIn, StandsIn, IsFramed}
use Rattle.tb_journal.specs.Journal.{IsDoubtful, WithOrWithout}

-- nothing more
pub plus_zero : (n : ℕ) → n ≡ n + 0
plus_zero n = omega arith

-- one more frame, and what is behind it, without the header
pub frames_push : (form : Form) (ordinal : ℕ) (payloads : List (List ℕ)) (payload rest : List ℕ)
    → frames_in form ordinal (payloads ++ payload ∷ []) ++ rest
    ≡ frames_in form ordinal payloads ++ 1 ∷ (framed_in form (ordinal + length payloads) payload ++ rest)
frames_push form ordinal [] payload rest =
    ap (λ (list : List ℕ). 1 ∷ list) (append_assoc (framed_in form ordinal payload) [] rest)
    ∙ ap (λ (n : ℕ). 1 ∷ (framed_in form n payload ++ rest)) (plus_zero ordinal)
frames_push form ordinal (first ∷ payloads) payload rest = ap (λ (list : List ℕ). 1 ∷ list)
    (append_assoc (framed_in form ordinal first) (frames_in form (ordinal + 1) (payloads ++ payload ∷ [])) rest
    ∙ (ap (λ (list : List ℕ). framed_in form ordinal first ++ list)
    (frames_push form (ordinal + 1) payloads payload rest
    ∙ ap (λ (n : ℕ). frames_in form (ordinal + 1) payloads ++ 1 ∷ (framed_in form n payload ++ rest)) (omega arith))
    ∙ sym (append_assoc (framed_in form ordinal first) (frames_in form (ordinal + 1) payloads)
    (1 ∷ (framed_in form (ordinal + length (first ∷ payloads)) payload ++ rest)))))

-- none before
pub zero_plus : (n : ℕ) → 0 + n ≡ n
zero_plus n = omega arith

-- one more frame, and what is behind it
pub front_push : (form : Form) (payloads : List (List ℕ)) (payload rest : List ℕ)
    → front_in form (payloads ++ payload ∷ []) ++ rest
    ≡ front_in form payloads ++ 1 ∷ (framed_in form (length payloads) payload ++ rest)
front_push form payloads payload rest = append_assoc (header_of form) (frames_in form 0 (payloads ++ payload ∷ [])) rest
    ∙ (ap (λ (list : List ℕ). header_of form ++ list) (frames_push form 0 payloads payload rest
    ∙ ap (λ (n : ℕ). frames_in form 0 payloads ++ 1 ∷ (framed_in form n payload ++ rest)) (zero_plus (length payloads)))
    ∙ sym (append_assoc (header_of form) (frames_in form 0 payloads)
    (1 ∷ (framed_in form (length payloads) payload ++ rest))))

-- how long one more frame is
pub length-front_push : (form : Form) (payloads : List (List ℕ)) (payload : List ℕ)
    → length (front_in form (payloads ++ payload ∷ []))
    ≡ length (front_in form payloads) + 1 + length (framed_in form (length payloads) payload)
length-front_push form payloads payload = let same = ap length (front_push form payloads payload []) in
    omega (
      arith,
      same,
      length-append (front_in form (payloads ++ payload ∷ [])) [],
      length-append (front_in form payloads) (1 ∷ (framed_in form (length payloads) payload ++ [])),
      length-append (framed_in form (length payloads) payload) [],
    )

-- one more payload
pub ArePayloads-push : (payloads : List (List ℕ)) (payload : List ℕ) → ArePayloads payloads → IsPayload payload
    → ArePayloads (payloads ++ payload ∷ [])
ArePayloads-push [] payload are is = (is, tt)
ArePayloads-push (first ∷ payloads) payload are is = (are.0, ArePayloads-push payloads payload are.1 is)

-- how long the title is
pub length-title : (form : Form) → length (title_of form) ≡ 16
unfolding title_of
length-title First = refl
length-title Second = refl

-- how long the header is
pub length-header : (form : Form) → length (header_of form) ≡ first_place form
length-header First = length-title First
length-header Second = omega (arith, length-append (title_of Second) (1 ∷ []), length-title Second)

-- an empty journal has a gate byte behind the header
empty_size-is : (form : Form) → empty_of form ≡ first_place form + 1
empty_size-is First = refl
empty_size-is Second = refl

-- what is framed stands for its payloads
pub IsFramedIn-stands : (form : Form) (payloads : List (List ℕ)) (file : List ℕ) → IsFramedIn form payloads file
    → StandsIn form payloads file
IsFramedIn-stands form [] file framing = elim (cases_lt (empty_of form) (length file)) [
  | inl long ↦ inr (long, framing)
  | inr short ↦ inl (short, refl)
]
IsFramedIn-stands form (payload ∷ payloads) file framing = inr (
  omega (
    arith,
    ap length framing.is,
    length-append (front_in form (payload ∷ payloads)) (framing.gate ∷ framing.rest),
    length-append (header_of form) (frames_in form 0 (payload ∷ payloads)),
    length-append (framed_in form 0 payload) (frames_in form 1 payloads),
    length-append (head_in form 0 (length payload)) payload,
    length-header form,
    empty_size-is form,
    framing.sizes.0.some,
  ),
  framing,
)

-- a file in doubt stands for the payloads with one more or without it
pub doubtful_stands : (payloads : List (List ℕ)) (payload file : List ℕ) → IsDoubtful payloads payload file
    → WithOrWithout payloads payload file
doubtful_stands payloads payload file doubt = elim (cases_eq doubt.gate 1) [
  | inl one ↦ (let whole = doubt.whole one in inr (IsFramedIn-stands Second (payloads ++ payload ∷ []) file record {
    sizes = ArePayloads-push payloads payload doubt.sizes doubt.size;
    gate = whole.0;
    rest = whole.1;
    is = doubt.is ∙ (ap (λ (byte : ℕ). front payloads ++ byte ∷ doubt.rest) one
        ∙ (ap (λ (list : List ℕ). front payloads ++ 1 ∷ list) whole.2
        ∙ sym (front_push Second payloads payload (whole.0 ∷ whole.1))));
    closed = whole.3;
  }))
  | inr shut ↦ inl (IsFramedIn-stands Second payloads file record {
    sizes = doubt.sizes;
    gate = doubt.gate;
    rest =
        doubt.rest;
    is = doubt.is;
    closed = shut;
  })
]

-- a framed file, seen as one in doubt whose gate is closed
pub closed_doubtful : (payloads : List (List ℕ)) (payload file : List ℕ) → IsPayload payload → IsFramed payloads file
    → IsDoubtful payloads payload file
closed_doubtful payloads payload file size framing = record {
  sizes = framing.sizes;
  size = size;
  gate =
      framing.gate;
  rest = framing.rest;
  is = framing.is;
  whole = λ one. absurd (framing.closed one);
}

module _ (payloads : List (List ℕ)) (gate : ℕ) (place : length (front payloads) ≡ gate) where
  -- the file up to its gate
  head_at : (byte : ℕ) (rest : List ℕ) → take (gate + 1) (front payloads ++ byte ∷ rest) ≡ front payloads ++ byte ∷ []
  head_at byte rest = ap (λ (list : List ℕ). take (gate + 1) list)
      (sym (append_assoc (front payloads) (byte ∷ []) rest)) ∙ take_at (front payloads ++ byte ∷ []) rest (gate + 1)
      (omega (arith, length-append (front payloads) (byte ∷ []), place))

  -- the file behind its gate
  tail_at : (byte : ℕ) (rest : List ℕ) → drop (gate + 1) (front payloads ++ byte ∷ rest) ≡ rest
  tail_at byte rest = ap (λ (list : List ℕ). drop (gate + 1) list)
      (sym (append_assoc (front payloads) (byte ∷ []) rest)) ∙ drop_at (front payloads ++ byte ∷ []) rest (gate + 1)
      (omega (arith, length-append (front payloads) (byte ∷ []), place))

  -- a write behind the gate leaves the gate
  pub torn_behind : (count longest : ℕ) (file image : List ℕ) → IsFramed payloads file
      → Torn (gate + 1) count longest file image → IsFramed payloads image
  torn_behind count longest file image framing torn = record {
    sizes = framing.sizes;
    gate = framing.gate;
    rest = drop (gate + 1) image;
    is = sym (take-append-drop (gate + 1) image)
        ∙ (ap (λ (list : List ℕ). list ++ drop (gate + 1) image)
        (torn.before ∙ (ap (λ (list : List ℕ). take (gate + 1) list) framing.is
        ∙ head_at framing.gate framing.rest)) ∙ append_assoc (front payloads) (framing.gate ∷ [])
        (drop (gate + 1) image));
    closed = framing.closed;
  }

  -- what a write behind the gate makes
  pub written_behind : (block file : List ℕ) (framing : IsFramed payloads file)
      → over (gate + 1) block file
      ≡ front payloads ++ framing.gate ∷ (block ++ drop (gate + 1 + length block) file)
  written_behind block file framing =
      let behind : List ℕ = block ++ drop (gate + 1 + length block) file in
      ap (λ (list : List ℕ). list ++ behind) (ap (λ (list : List ℕ). take (gate + 1) list) framing.is
      ∙ head_at framing.gate framing.rest)
      ∙ append_assoc (front payloads) (framing.gate ∷ []) behind

  -- a write of the gate alone leaves the frame
  pub torn_gate : (payload more file image : List ℕ) (byte longest : ℕ) → ArePayloads payloads → IsPayload payload
      → file ≡ front payloads ++ byte ∷ (framed (length payloads) payload ++ 0 ∷ more) → Torn gate 1 longest file image
      → IsDoubtful payloads payload image
  torn_gate payload more file image byte longest sizes size is torn =
      let long : gate < length file = omega (
        arith,
        ap length is,
        length-append (front payloads) (byte ∷ (framed (length payloads) payload ++ 0 ∷ more)),
        place,
      ) in
      let rest : drop (gate + 1) image ≡ framed (length payloads) payload ++ 0 ∷ more = torn.behind
      ∙ (ap (λ (list : List ℕ). drop (gate + 1) list) is
      ∙ tail_at byte (framed (length payloads) payload ++ 0 ∷ more)) in
      let start : take gate image ≡ front payloads = torn.before
      ∙ (ap (λ (list : List ℕ). take gate list) is ∙ take_at (front payloads)
      (byte ∷ (framed (length payloads) payload ++ 0 ∷ more)) gate place) in
      let behind : drop gate image ≡ get_or image gate 0 ∷ (framed (length payloads) payload ++ 0 ∷ more) =
      drop_more image gate 0 (omega (arith, torn.no_shorter))
      ∙ ap (λ (list : List ℕ). get_or image gate 0 ∷ list) rest in
      record {
        sizes = sizes;
        size = size;
        gate = get_or image gate 0;
        rest = framed (length payloads) payload ++ 0 ∷ more;
        is = sym (take-append-drop gate image) ∙ (ap (λ (list : List ℕ). list ++ drop gate image) start
            ∙ ap (λ (list : List ℕ). front payloads ++ list) behind);
        whole = λ one. (0, more, refl, λ same. omega arith);
      }

  -- what a write of the gate byte 1 makes
  pub written_gate : (payload more file : List ℕ) (byte : ℕ) → file ≡ front
      payloads ++ byte ∷ (framed (length payloads) payload ++ 0 ∷ more) → over gate
      (1 ∷ []) file ≡ front payloads ++ 1 ∷ (framed (length payloads) payload ++ 0 ∷ more)
  written_gate payload more file byte is =
      ap (λ (list : List ℕ). list ++ (1 ∷ drop (gate + 1) file))
      (ap (λ (list : List ℕ). take gate list) is ∙ take_at (front payloads)
      (byte ∷ (framed (length payloads) payload ++ 0 ∷ more)) gate place)
      ∙ ap (λ (list : List ℕ). front payloads ++ 1 ∷ list) (ap (λ (list : List ℕ). drop (gate + 1) list) is
      ∙ tail_at byte (framed (length payloads) payload ++ 0 ∷ more))
