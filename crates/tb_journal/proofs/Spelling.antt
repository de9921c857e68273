-- A file stands for one list of payloads, or for none.
use Rattle.std.proofs.Common.{◌≡◌, ◌≢◌, inl, inr, ℕ, ◌+◌, ◌<◌, ◌^◌, List, [], ◌∷◌, ◌++◌, length, take, drop, refl, sym, ◌∙◌, ap, subst, arith, append_assoc, length-append}
use Rattle.std.specs.Prelude.{slice_index}
use Rattle.std.proofs.lemmas.List.{take_at, drop_at, get_or-append_right}
use Rattle.std.proofs.lemmas.Nat.{from_be_bytes-to_be_bytes_4}
use Rattle.std.specs.Int.{w32, w64, to_be_bytes, from_be_bytes}
use Rattle.tb_journal.specs.declared.form.Form.{Form}
use Rattle.tb_journal.specs.declared.form.Form.TheVariants.{First, Second}
use Rattle.tb_journal.specs.Frames.{title_of, header_of, first_place, head_of, ordinal_in, head_in, framed_in, frames_in, front_in, IsPayload, ArePayloads}
use Rattle.tb_journal.specs.Image.{StandsIn, IsForeignTo, IsUnsealed, length_in, IsNoFrameIn, IsBrokenIn, IsDamagedIn}
use Rattle.tb_journal.proofs.Gates.{length-header, length-title, plus_zero, zero_plus}

-- how long the head of a frame is
pub length-head : (form : Form) (ordinal size : ℕ) → length (head_in form ordinal size) ≡ head_of form
unfolding head_in
length-head First ordinal size = length-append (to_be_bytes w32 size) []
length-head Second ordinal size = length-append (to_be_bytes w32 size) (to_be_bytes w64 ordinal)

-- a frame without its gate byte has so many bytes more than its payload
pub length-framed : (form : Form) (ordinal : ℕ) (payload : List ℕ)
    → length (framed_in form ordinal payload) ≡ head_of form + length payload
length-framed form ordinal payload = omega (
  arith,
  length-append (head_in form ordinal (length payload)) payload,
  length-head form ordinal (length payload),
)

-- the length of a payload fits its four bytes
fits : (payload : List ℕ) → IsPayload payload → length payload < 2 ^ 32
fits payload is = omega (arith, is.short)

-- what stands in the first four bytes of a head
pub length_in-head : (form : Form) (ordinal size : ℕ) (rest : List ℕ) → size < 2 ^ 32
    → length_in (head_in form ordinal size ++ rest) ≡ size
unfolding head_in
length_in-head form ordinal size rest fits =
    ap (λ (list : List ℕ). from_be_bytes w32 (take 4 list))
    (append_assoc (to_be_bytes w32 size) (ordinal_in form ordinal) rest)
    ∙ (ap (λ (list : List ℕ). from_be_bytes w32 list) (take_at (to_be_bytes w32 size)
    (ordinal_in form ordinal ++ rest) 4 refl) ∙ from_be_bytes-to_be_bytes_4 size fits)

-- what stands in the first four bytes of a frame
pub length_in-framed : (form : Form) (ordinal : ℕ) (payload rest : List ℕ) → IsPayload payload
    → length_in (framed_in form ordinal payload ++ rest) ≡ length payload
length_in-framed form ordinal payload rest is =
    ap length_in (append_assoc (head_in form ordinal (length payload)) payload rest)
    ∙ length_in-head form ordinal (length payload) (payload ++ rest) (fits payload is)

-- the head of a frame
pub take-framed : (form : Form) (ordinal : ℕ) (payload rest : List ℕ)
    → take (head_of form) (framed_in form ordinal payload ++ rest) ≡ head_in form ordinal (length payload)
take-framed form ordinal payload rest = ap (λ (list : List ℕ). take (head_of form) list)
    (append_assoc (head_in form ordinal (length payload)) payload rest)
    ∙ take_at (head_in form ordinal (length payload)) (payload ++ rest) (head_of form)
    (length-head form ordinal (length payload))

-- behind the head stands the payload
pub drop-framed : (form : Form) (ordinal : ℕ) (payload rest : List ℕ)
    → drop (head_of form) (framed_in form ordinal payload ++ rest) ≡ payload ++ rest
drop-framed form ordinal payload rest = ap (λ (list : List ℕ). drop (head_of form) list)
    (append_assoc (head_in form ordinal (length payload)) payload rest)
    ∙ drop_at (head_in form ordinal (length payload)) (payload ++ rest) (head_of form)
    (length-head form ordinal (length payload))

-- no frame begins another
pub framed-one : (form : Form) (ordinal : ℕ) (payload other rest more : List ℕ) → IsPayload payload → IsPayload other
    → framed_in form ordinal payload ++ rest ≡ framed_in form ordinal other ++ more → (payload ≡ other) × (rest ≡ more)
framed-one form ordinal payload other rest more is_p is_q same =
    let long : length payload ≡ length other = sym (length_in-framed form ordinal payload rest is_p)
    ∙ (ap length_in same ∙ length_in-framed form ordinal other more is_q) in
    let both : payload ++ rest ≡ other ++ more = sym (drop-framed form ordinal payload rest)
    ∙ (ap (λ (list : List ℕ). drop (head_of form) list) same ∙ drop-framed form ordinal other more) in (
      sym (take_at payload rest (length payload) refl) ∙ (ap (λ (list : List ℕ). take (length payload) list) both
          ∙ take_at other more (length payload) (sym long)),
      sym (drop_at payload rest (length payload) refl) ∙ (ap (λ (list : List ℕ). drop (length payload) list) both
          ∙ drop_at other more (length payload) (sym long)),
    )

-- no frame with this ordinal stands at the start of these bytes
abbrev pub Ends : Form → ℕ → List ℕ → Type 0
Ends form ordinal rest = (payload more : List ℕ) → IsPayload payload
    → rest ≡ 1 ∷ (framed_in form ordinal payload ++ more) → ⊥

-- no frame stands at a closed gate
pub Ends-closed : (form : Form) (ordinal gate : ℕ) (rest : List ℕ) → gate ≢ 1 → Ends form ordinal (gate ∷ rest)
Ends-closed form ordinal gate rest shut payload more is same = shut (cc)

-- what is no frame doesn't begin with one
pub no_frame : (form : Form) (ordinal : ℕ) (rest payload more : List ℕ) → IsPayload payload
    → rest ≡ framed_in form ordinal payload ++ more → IsNoFrameIn form ordinal rest → ⊥
no_frame form ordinal rest payload more is same none =
    let long : length rest ≡ head_of form + length payload + length more =
    omega (
      arith,
      ap length same,
      length-append (framed_in form ordinal payload) more,
      length-framed form ordinal payload,
    ) in
    let said : length_in rest ≡ length payload = ap length_in same ∙ length_in-framed form ordinal payload more is in
    elim none [
      | inl short ↦ omega arith
      | inr (inl none) ↦ omega (arith, is.some)
      | inr (inr (inl many)) ↦ omega (arith, is.short)
      | inr (inr (inr (inl past))) ↦ omega arith
      | inr (inr (inr (inr other))) ↦ other (ap (λ (list : List ℕ). take (head_of form) list) same
          ∙ (take-framed form ordinal payload more ∙ ap (λ (n : ℕ). head_in form ordinal n) (sym said)))
    ]

-- no frame stands where a file is broken
pub Ends-broken : (form : Form) (ordinal : ℕ) (rest : List ℕ) → IsBrokenIn form ordinal rest → Ends form ordinal rest
Ends-broken form ordinal [] broken payload more is same = cc
Ends-broken form ordinal (gate ∷ rest) broken payload more is same =
    no_frame form ordinal rest payload more is (cc) broken.1

-- one more
one_more : (n : ℕ) (first : List ℕ) (others : List (List ℕ))
    → n + length (first ∷ others) ≡ n + 1 + length others
one_more n first others = omega arith

-- whole frames before bytes at which no frame stands are the same, and so are the bytes
pub frames-one : (form : Form) (ordinal : ℕ) (payloads others : List (List ℕ)) (rest more : List ℕ)
    → ArePayloads payloads → ArePayloads others
    → Ends form (ordinal + length payloads) rest → Ends form (ordinal + length others) more
    → frames_in form ordinal payloads ++ rest ≡ frames_in form ordinal others ++ more
    → (payloads ≡ others) × (rest ≡ more)
frames-one form ordinal [] [] rest more are_p are_q end_rest end_more same = (refl, same)
frames-one form ordinal [] (other ∷ others) rest more are_p are_q end_rest end_more same =
    absurd (subst (λ (n : ℕ). Ends form n rest) (sym (plus_zero ordinal)) end_rest other
    (frames_in form (ordinal + 1) others ++ more) are_q.0 (same
    ∙ ap (λ (list : List ℕ). 1 ∷ list)
    (append_assoc (framed_in form ordinal other) (frames_in form (ordinal + 1) others) more)))
frames-one form ordinal (payload ∷ payloads) [] rest more are_p are_q end_rest end_more same =
    absurd (subst (λ (n : ℕ). Ends form n more) (sym (plus_zero ordinal)) end_more payload
    (frames_in form (ordinal + 1) payloads ++ rest) are_p.0
    (sym same ∙ ap (λ (list : List ℕ). 1 ∷ list)
    (append_assoc (framed_in form ordinal payload) (frames_in form (ordinal + 1) payloads) rest)))
frames-one form ordinal (payload ∷ payloads) (other ∷ others) rest more are_p are_q end_rest end_more same =
    let bodies : framed_in form ordinal payload ++ (frames_in form (ordinal + 1) payloads ++ rest)
    ≡ framed_in form ordinal other ++ (frames_in form (ordinal + 1) others ++ more) =
    sym (append_assoc (framed_in form ordinal payload) (frames_in form (ordinal + 1) payloads) rest)
    ∙ (ap (λ (list : List ℕ). drop 1 list) same
    ∙ append_assoc (framed_in form ordinal other) (frames_in form (ordinal + 1) others) more) in
    let one = framed-one form ordinal payload other (frames_in form (ordinal + 1) payloads ++ rest)
    (frames_in form (ordinal + 1) others ++ more) are_p.0 are_q.0 bodies in
    let behind = frames-one form (ordinal + 1) payloads others rest more are_p.1 are_q.1
    (subst (λ (n : ℕ). Ends form n rest) (one_more ordinal payload payloads) end_rest)
    (subst (λ (n : ℕ). Ends form n more) (one_more ordinal other others) end_more) one.1 in
    (cc, behind.1)

-- whole frames behind a header are the same, and so is what stands behind them
pub front-one : (form : Form) (payloads others : List (List ℕ)) (rest more : List ℕ)
    → ArePayloads payloads → ArePayloads others
    → Ends form (length payloads) rest → Ends form (length others) more
    → front_in form payloads ++ rest ≡ front_in form others ++ more → (payloads ≡ others) × (rest ≡ more)
front-one form payloads others rest more are_p are_q end_rest end_more same =
    frames-one form 0 payloads others rest more are_p are_q
    (subst (λ (n : ℕ). Ends form n rest) (sym (zero_plus (length payloads))) end_rest)
    (subst (λ (n : ℕ). Ends form n more) (sym (zero_plus (length others))) end_more)
    (sym (drop_at (header_of form) (frames_in form 0 payloads ++ rest) (first_place form) (length-header form))
    ∙ (ap (λ (list : List ℕ). drop (first_place form) list)
    (sym (append_assoc (header_of form) (frames_in form 0 payloads) rest)
    ∙ (same ∙ append_assoc (header_of form) (frames_in form 0 others) more))
    ∙ drop_at (header_of form) (frames_in form 0 others ++ more) (first_place form) (length-header form)))

-- the first bytes of a journal
pub begins_header : (form : Form) (payloads : List (List ℕ)) (rest : List ℕ)
    → take (first_place form) (front_in form payloads ++ rest) ≡ header_of form
begins_header form payloads rest = ap (λ (list : List ℕ). take (first_place form) list)
    (append_assoc (header_of form) (frames_in form 0 payloads) rest)
    ∙ take_at (header_of form) (frames_in form 0 payloads ++ rest) (first_place form) (length-header form)

-- the first sixteen
pub begins : (form : Form) (payloads : List (List ℕ)) (rest : List ℕ)
    → take 16 (front_in form payloads ++ rest) ≡ title_of form
begins First payloads rest = begins_header First payloads rest
begins Second payloads rest = ap (λ (list : List ℕ). take 16 list)
    (append_assoc (header_of Second) (frames_in Second 0 payloads) rest
    ∙ append_assoc (title_of Second) (1 ∷ []) (frames_in Second 0 payloads ++ rest))
    ∙ take_at (title_of Second) (1 ∷ (frames_in Second 0 payloads ++ rest)) 16 (length-title Second)

-- the byte of the seal
pub begins_sealed : (payloads : List (List ℕ)) (rest : List ℕ) → slice_index (front_in Second payloads ++ rest) 16 ≡ 1
begins_sealed payloads rest = ap (λ (list : List ℕ). slice_index list 16)
    (append_assoc (header_of Second) (frames_in Second 0 payloads) rest
    ∙ append_assoc (title_of Second) (1 ∷ []) (frames_in Second 0 payloads ++ rest))
    ∙ get_or-append_right (title_of Second) (1 ∷ (frames_in Second 0 payloads ++ rest)) 16 16 0
    (length-title Second) (omega arith)

-- a file stands for at most one list
pub StandsIn-one : (form : Form) (payloads others : List (List ℕ)) (file : List ℕ) → StandsIn form payloads file
    → StandsIn form others file → payloads ≡ others
StandsIn-one form payloads others file (inl one) (inl two) = one.1 ∙ sym two.1
StandsIn-one form payloads others file (inl one) (inr two) = absurd (omega (arith, one.0, two.0))
StandsIn-one form payloads others file (inr one) (inl two) = absurd (omega (arith, one.0, two.0))
StandsIn-one form payloads others file (inr one) (inr two) = (front-one form payloads others
    (one.1.gate ∷ one.1.rest) (two.1.gate ∷ two.1.rest) one.1.sizes two.1.sizes
    (Ends-closed form (length payloads) one.1.gate one.1.rest one.1.closed)
    (Ends-closed form (length others) two.1.gate two.1.rest two.1.closed) (sym one.1.is ∙ two.1.is)).0

-- a file that stands for a list begins with the title
pub StandsIn-journal : (form : Form) (payloads : List (List ℕ)) (file found : List ℕ) → StandsIn form payloads file
    → IsForeignTo form file found → ⊥
StandsIn-journal form payloads file found (inl one) other = omega (arith, one.0, other.long)
StandsIn-journal form payloads file found (inr one) other = other.differs
    (other.begins ∙ (ap (λ (list : List ℕ). take 16 list) one.1.is ∙ begins form payloads (one.1.gate ∷ one.1.rest)))

-- and is sealed
pub StandsIn-sealed : (payloads : List (List ℕ)) (file : List ℕ) (byte : ℕ) → StandsIn Second payloads file
    → IsUnsealed file byte → ⊥
StandsIn-sealed payloads file byte (inl one) other = omega (arith, one.0, other.long)
StandsIn-sealed payloads file byte (inr one) other = other.differs
    (sym other.is ∙ (ap (λ (list : List ℕ). slice_index list 16) one.1.is
    ∙ begins_sealed payloads (one.1.gate ∷ one.1.rest)))

-- a file that stands for a list isn't damaged
pub StandsIn-whole : (form : Form) (payloads : List (List ℕ)) (file : List ℕ) (place : ℕ)
    → StandsIn form payloads file → IsDamagedIn form file place → ⊥
StandsIn-whole form payloads file place (inl one) damage = omega (arith, one.0, damage.long)
StandsIn-whole form payloads file place (inr one) damage =
    let both = front-one form payloads damage.payloads (one.1.gate ∷ one.1.rest) damage.rest one.1.sizes damage.sizes
    (Ends-closed form (length payloads) one.1.gate one.1.rest one.1.closed)
    (Ends-broken form (length damage.payloads) damage.rest damage.broken)
    (sym one.1.is ∙ damage.is) in
    one.1.closed (subst (IsBrokenIn form (length damage.payloads)) (sym both.1) damage.broken).0

-- a damaged file is a journal
pub IsDamagedIn-journal : (form : Form) (file found : List ℕ) (place : ℕ) → IsDamagedIn form file place
    → IsForeignTo form file found → ⊥
IsDamagedIn-journal form file found place damage other = other.differs
    (other.begins ∙ (ap (λ (list : List ℕ). take 16 list) damage.is ∙ begins form damage.payloads damage.rest))

-- and is sealed
pub IsDamagedIn-sealed : (file : List ℕ) (byte place : ℕ) → IsDamagedIn Second file place → IsUnsealed file byte → ⊥
IsDamagedIn-sealed file byte place damage other = other.differs
    (sym other.is ∙ (ap (λ (list : List ℕ). slice_index list 16) damage.is
    ∙ begins_sealed damage.payloads damage.rest))

-- a file is damaged at one place
pub IsDamagedIn-one : (form : Form) (file : List ℕ) (place elsewhere : ℕ) → IsDamagedIn form file place
    → IsDamagedIn form file elsewhere → place ≡ elsewhere
IsDamagedIn-one form file place elsewhere one two =
    let same = front-one form one.payloads two.payloads one.rest two.rest one.sizes two.sizes
    (Ends-broken form (length one.payloads) one.rest one.broken)
    (Ends-broken form (length two.payloads) two.rest two.broken) (sym one.is ∙ two.is) in
    sym one.at ∙ (ap (λ (payloads : List (List ℕ)). length (front_in form payloads)) same.0 ∙ two.at)
