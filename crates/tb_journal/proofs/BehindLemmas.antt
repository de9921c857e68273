-- What stands behind the gate of a journal.
use Rattle.std.proofs.Common.{◌≡◌, ◌≢◌, ◌⊎◌, ℕ, ◌<◌, ◌≤◌, List, ◌∷◌, length, take, sym, ◌∙◌, ap, arith, inl, inr, length-take}
use Rattle.std.proofs.lemmas.List.{take_min}
use Rattle.tb_journal.specs.declared.form.Form.TheVariants.{Second}
use Rattle.tb_journal.specs.Frames.{head_in, head_of}
use Rattle.tb_journal.specs.Image.{IsNoFrameIn, length_in}
use Rattle.tb_journal.specs.Behind.{BeginsWithFrame, HasTwoFrames}
use Rattle.tb_journal.proofs.Spelling.{framed-one, length-head, no_frame}

-- bytes that begin with a frame aren't without one
pub BeginsWithFrame-some : (ordinal : ℕ) (payload rest bytes : List ℕ)
    → BeginsWithFrame ordinal payload rest bytes
    → IsNoFrameIn Second ordinal bytes
    → ⊥
BeginsWithFrame-some ordinal payload rest bytes begins none =
    no_frame Second ordinal bytes payload rest begins.size begins.is none

-- bytes begin with one frame alone, behind which the same bytes stand
pub BeginsWithFrame-one : (ordinal : ℕ) (payload other rest more bytes : List ℕ)
    → BeginsWithFrame ordinal payload rest bytes
    → BeginsWithFrame ordinal other more bytes
    → (payload ≡ other) × (rest ≡ more)
BeginsWithFrame-one ordinal payload other rest more bytes one another =
    framed-one Second ordinal payload other rest more one.size another.size (sym one.is ∙ another.is)

-- bytes whose head says no size of a payload, or has another ordinal, begin with no frame
pub no_size : (ordinal : ℕ) (bytes : List ℕ)
    → (length bytes < head_of Second) ⊎ (length_in bytes < 1) ⊎ (32768 < length_in bytes)
    ⊎ (take (head_of Second) bytes ≢ head_in Second ordinal (length_in bytes))
    → IsNoFrameIn Second ordinal bytes
no_size ordinal bytes none = elim none [
  | inl short ↦ inl short
  | inr (inl nothing) ↦ inr (inl nothing)
  | inr (inr (inl many)) ↦ inr (inr (inl many))
  | inr (inr (inr other)) ↦ inr (inr (inr (inr other)))
]

-- a head that is spelled whole is there
pub head_there : (ordinal size : ℕ) (bytes : List ℕ)
    → take 12 bytes ≡ head_in Second ordinal size
    → 12 ≤ length bytes
head_there ordinal size bytes spelled =
    omega (arith, ap length spelled, length-take 12 bytes, length-head Second ordinal size)

-- two frames begin with the first
pub first_of_two : (ordinal : ℕ) (first second payload rest bytes : List ℕ)
    → BeginsWithFrame ordinal payload rest bytes
    → (two : HasTwoFrames ordinal first second bytes)
    → rest ≡ two.gate ∷ two.between
first_of_two ordinal first second payload rest bytes begins two =
    (BeginsWithFrame-one ordinal payload first rest (two.gate ∷ two.between) bytes begins two.begins).1

-- as many bytes as a part has are that part
pub take_as_many : (count : ℕ) (bytes : List ℕ) → take (length (take count bytes)) bytes ≡ take count bytes
take_as_many count bytes = ap (λ (n : ℕ). take n bytes) (length-take count bytes) ∙ take_min count bytes
