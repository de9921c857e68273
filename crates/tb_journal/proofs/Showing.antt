-- What bytes of a window tell of the file.
use Rattle.std.proofs.Common.{◌≡◌, ℕ, ◌+◌, ◌-◌, ◌<◌, ◌≤◌, min, List, [], length, get_or, take, drop, refl, sym, ◌∙◌, ap, subst, arith, length-take, length-drop, inl, inr, false, true≢false, IsTrue}
use Rattle.std.proofs.lemmas.Bool.{cases_lt}
use Rattle.std.proofs.lemmas.List.{get_or-take, get_or-drop, take-take, drop-drop, drop-take}
use Rattle.std.specs.Prelude.{Option, Some, None, IfSome}
use Rattle.tb_disk.specs.Past.{Past, contents_of}
use Rattle.tb_journal.specs.Windows.{AreAt}
use Rattle.tb_journal.proofs.ToldLemmas.{known_of}

-- how many bytes there are
pub length-at : (place count : ℕ) (bytes file : List ℕ) → AreAt place count bytes file
    → length bytes ≡ min count (length file - place)
length-at place count bytes file are =
    omega (arith, ap length are, length-take count (drop place file), length-drop place file)

-- where there is one, the first is that at the place
pub first-at : (place more : ℕ) (bytes file : List ℕ) → AreAt place (1 + more) bytes file
    → get_or bytes 0 0 ≡ get_or file place 0
first-at place more bytes file are = ap (λ (list : List ℕ). get_or list 0 0) are
    ∙ (get_or-take (1 + more) (drop place file) 0 0 (omega arith)
    ∙ (get_or-drop place file 0 0 ∙ ap (λ (n : ℕ). get_or file n 0) (omega arith)))

-- behind some of them stand the others
pub behind-at : (place less more : ℕ) (bytes file : List ℕ) → AreAt place (less + more) bytes file
    → AreAt (place + less) more (drop less bytes) file
behind-at place less more bytes file are = ap (λ (list : List ℕ). drop less list) are
    ∙ (drop-take less more (drop place file) ∙ ap (λ (list : List ℕ). take more list) (drop-drop less place file))

-- a part of a window's bytes is one of the file
pub within-at : (from place need : ℕ) (bytes file : List ℕ) → AreAt from (length bytes) bytes file
    → from ≤ place → place - from + need ≤ length bytes
    → AreAt place need (take need (drop (place - from) bytes)) file
within-at from place need bytes file shown before enough =
    let less : ℕ = place - from in
    let at : from + less ≡ place = omega (arith, before) in
    let size : less + (length bytes - less) ≡ length bytes = omega (arith, enough) in
    let rest : AreAt place (length bytes - less) (drop less bytes) file =
    subst (λ (n : ℕ). AreAt n (length bytes - less) (drop less bytes) file) at
    (behind-at from less (length bytes - less) bytes file
    (subst (λ (n : ℕ). AreAt from n bytes file) (sym size) shown)) in
    ap (λ (list : List ℕ). take need list) rest
    ∙ take-take need (length bytes - less) (drop place file) (omega (arith, enough))

-- the same bytes, said otherwise
pub same-bytes : (past : Option Past) (place need count : ℕ) (part bytes : List ℕ) → need ≡ count → bytes ≡ part
    → IfSome past (λ past. AreAt place need part (contents_of past))
    → IfSome past (λ past. AreAt place count bytes (contents_of past))
same-bytes past place need count part bytes many same = known_of (λ past. AreAt place need part (contents_of past))
    (λ past. AreAt place count bytes (contents_of past)) past
    (λ past are. same ∙ (are ∙ ap (λ (n : ℕ). take n (drop place (contents_of past))) many))

-- a payload behind its head, as a part of the window
pub payload-behind : (from place head size : ℕ) (bytes : List ℕ) → from ≤ place
    → take size (drop (place + head - from) bytes) ≡ drop head (take (head + size) (drop (place - from) bytes))
payload-behind from place head size bytes before =
    ap (λ (n : ℕ). take size (drop n bytes)) (omega (arith, before))
    ∙ sym (drop-take head size (drop (place - from) bytes)
    ∙ ap (λ (list : List ℕ). take size list) (drop-drop head (place - from) bytes))

-- where the window lacks a part of the payload, it has fewer bytes of the frame than that takes
pub too-few : (from place head size : ℕ) (bytes : List ℕ) → from ≤ place → place - from ≤ length bytes
    → (place + head - from + size ≤ length bytes → IsTrue false)
    → length (take (head + size) (drop (place - from) bytes)) < head + size
too-few from place head size bytes before within lacks = elim (cases_lt (length bytes) (place + head - from + size)) [
  | inl less ↦ omega (
    arith,
    less,
    before,
    within,
    length-take (head + size) (drop (place - from) bytes),
    length-drop (place - from) bytes,
  )
  | inr enough ↦ absurd (true≢false (sym (lacks enough)))
]

-- a window that has enough has it
pub held-bytes : (past : Option Past) (from place need : ℕ) (bytes : List ℕ)
    → IfSome past (λ past. AreAt from (length bytes) bytes (contents_of past))
    → from ≤ place → place - from + need ≤ length bytes
    → IfSome past (λ past. AreAt place need (take need (drop (place - from) bytes)) (contents_of past))
held-bytes past from place need bytes shown before enough =
    known_of (λ past. AreAt from (length bytes) bytes (contents_of past))
    (λ past. AreAt place need (take need (drop (place - from) bytes)) (contents_of past)) past
    (λ past is. within-at from place need bytes (contents_of past) is before enough) shown

-- no bytes are a part of every file
pub nothing-shown : (past : Option Past) (from : ℕ) → IfSome past (λ past. AreAt from 0 [] (contents_of past))
nothing-shown None from = tt
nothing-shown (Some past) from = refl
