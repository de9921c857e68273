-- The elements of a list in blocks, where one block changes.
use Rattle.std.proofs.Common.{◌≡◌, ℕ, zero, suc, ◌+◌, ◌-◌, ◌<◌, ◌≤◌, List, [], ◌∷◌, ◌++◌, length, set, take, drop, get_or, sum_by, refl, ap, sym, ◌∙◌, arith, append_assoc, add-one, length-drop, length-append}
use Rattle.std.specs.List.{insert, remove}
use Rattle.std.proofs.Math.Seq.{drop-append-add, take-append_seam}
use Rattle.std.proofs.lemmas.List.{take-append-drop, drop-append-le, set-append_left, set-append_right}
use Rattle.std.proofs.lemmas.List.Sums.{sum_by-cons}
use Rattle.std.proofs.lemmas.List.Edits.{insert-append_left, insert-append_right, remove-append_left, remove-append_right}
use Rattle.std.proofs.lemmas.List.Concat.{length-flat_map, get_or-flat_map}
use Rattle.tb_blocks.specs.Rows.{joined, before}
use Rattle.tb_blocks.specs.Lists.{IsRun}

-- all blocks together
pub length-joined : {X : Type 0} (blocks : List (List X))
    → length (joined blocks) ≡ sum_by (λ block. length block) blocks
length-joined blocks = length-flat_map (λ block. block) blocks

-- the first block and the others
before-cons : {X : Type 0} (block : List X) (blocks : List (List X)) (at place : ℕ)
    → before (suc at) (block ∷ blocks) + place ≡ length block + (before at blocks + place)
before-cons block blocks at place = omega (arith, sum_by-cons (λ b. length b) block (take at blocks))

-- an element more in one block
pub joined-insert : {X : Type 0} (blocks : List (List X)) (at place : ℕ) (x : X) → at < length blocks
    → place ≤ length (get_or blocks at [])
    → joined (set blocks at (insert (get_or blocks at []) place x)) ≡ insert (joined blocks)
    (before at blocks + place) x
joined-insert [] at place x some within = absurd (omega arith)
joined-insert (block ∷ blocks) zero place x some within =
    let e : before zero (block ∷ blocks) + place ≡ place = omega arith in
    rw e (sym (insert-append_left block (joined blocks) place x within))
joined-insert (block ∷ blocks) (suc at) place x some within =
    let e : (length block + (before at blocks + place)) - length block ≡ before at blocks + place = omega arith in
    rw (
      before-cons block blocks at place,
      insert-append_right block (joined blocks) (length block) (length block + (before at blocks + place)) x refl
          (omega arith),
      e,
    )
    (ap (λ rest. block ++ rest) (joined-insert blocks at place x (omega arith) within))

-- an element fewer in one block
pub joined-remove : {X : Type 0} (blocks : List (List X)) (at place : ℕ) → at < length blocks
    → place < length (get_or blocks at [])
    → joined (set blocks at (remove (get_or blocks at []) place)) ≡ remove (joined blocks) (before at blocks + place)
joined-remove [] at place some within = absurd (omega arith)
joined-remove (block ∷ blocks) zero place some within =
    let e : before zero (block ∷ blocks) + place ≡ place = omega arith in
    rw e (sym (remove-append_left block (joined blocks) place within))
joined-remove (block ∷ blocks) (suc at) place some within =
    let e : (length block + (before at blocks + place)) - length block ≡ before at blocks + place = omega arith in
    rw (
      before-cons block blocks at place,
      remove-append_right block (joined blocks) (length block) (length block + (before at blocks + place)) refl
          (omega arith),
      e,
    )
    (ap (λ rest. block ++ rest) (joined-remove blocks at place (omega arith) within))

-- a block in two, with the place behind it as a successor
joined-split_suc : {X : Type 0} (blocks : List (List X)) (at half : ℕ) → at < length blocks
    → joined (insert (set blocks at (take half (get_or blocks at []))) (suc at) (drop half (get_or blocks at [])))
    ≡ joined blocks
joined-split_suc [] at half some = absurd (omega arith)
joined-split_suc (block ∷ blocks) zero half some =
    sym (append_assoc (take half block) (drop half block) (joined blocks))
    ∙ ap (λ whole. whole ++ joined blocks) (take-append-drop half block)
joined-split_suc (block ∷ blocks) (suc at) half some =
    ap (λ rest. block ++ rest) (joined-split_suc blocks at half (omega arith))

-- a block in two
pub joined-split : {X : Type 0} (blocks : List (List X)) (at half : ℕ) → at < length blocks
    → joined (insert (set blocks at (take half (get_or blocks at []))) (at + 1) (drop half (get_or blocks at [])))
    ≡ joined blocks
joined-split blocks at half some = rw (add-one at) (joined-split_suc blocks at half some)

-- an empty block less
pub joined-give_up : {X : Type 0} (blocks : List (List X)) (at : ℕ) → at < length blocks → get_or blocks at [] ≡ []
    → joined (remove blocks at) ≡ joined blocks
joined-give_up [] at some empty = absurd (omega arith)
joined-give_up (block ∷ blocks) zero some empty = rw empty refl
joined-give_up (block ∷ blocks) (suc at) some empty =
    ap (λ rest. block ++ rest) (joined-give_up blocks at (omega arith) empty)

-- an element put at a place, and taken from one
pub joined-put : {X : Type 0} (blocks : List (List X)) (at place : ℕ) (x : X) → at < length blocks
    → before at blocks ≤ place → place ≤ before at blocks + length (get_or blocks at [])
    → joined (set blocks at (insert (get_or blocks at []) (place - before at blocks) x)) ≡ insert (joined blocks)
    place x
joined-put blocks at place x some low high =
    let e : before at blocks + (place - before at blocks) ≡ place = omega arith in
    joined-insert blocks at (place - before at blocks) x some (omega arith) ∙ ap (λ p. insert (joined blocks) p x) e

-- an element taken from a place
pub joined-take : {X : Type 0} (blocks : List (List X)) (at place : ℕ) → at < length blocks → before at blocks ≤ place
    → place < before at blocks + length (get_or blocks at [])
    → joined (set blocks at (remove (get_or blocks at []) (place - before at blocks))) ≡ remove (joined blocks) place
joined-take blocks at place some low high =
    let e : before at blocks + (place - before at blocks) ≡ place = omega arith in
    joined-remove blocks at (place - before at blocks) some (omega arith) ∙ ap (λ p. remove (joined blocks) p) e

-- the element at a place
pub joined-at : {X : Type 0} (blocks : List (List X)) (at place : ℕ) (d : X) → at < length blocks
    → before at blocks ≤ place → place < before at blocks + length (get_or blocks at [])
    → get_or (get_or blocks at []) (place - before at blocks) d ≡ get_or (joined blocks) place d
joined-at blocks at place d some low high =
    let e : length (joined (take at blocks)) + (place - before at blocks) ≡ place =
    omega (arith, length-joined (take at blocks)) in
    sym (get_or-flat_map (λ block. block) blocks at (place - before at blocks) [] d some (omega arith))
    ∙ ap (λ p. get_or (joined blocks) p d) e

-- the list from a place of a block on begins with the rest of the block
pub drop-joined : {X : Type 0} (blocks : List (List X)) (at place : ℕ) → at < length blocks
    → place ≤ length (get_or blocks at [])
    → drop (before at blocks + place) (joined blocks) ≡ drop place (get_or blocks at []) ++ joined
    (drop (suc at) blocks)
drop-joined [] at place some within = absurd (omega arith)
drop-joined (block ∷ blocks) zero place some within =
    let e : before zero (block ∷ blocks) + place ≡ place = omega arith in
    rw e (drop-append-le place block (joined blocks) within)
drop-joined (block ∷ blocks) (suc at) place some within =
    rw (before-cons block blocks at place)
    (drop-append-add block (joined blocks) (before at blocks + place)
    ∙ drop-joined blocks at place (omega arith) within)

-- the rest of a block is a run of the list
pub IsRun-block : {X : Type 0} (blocks : List (List X)) (at place : ℕ) (block : List X) → at < length blocks
    → block ≡ get_or blocks at []
    → before at blocks ≤ place → place < before at blocks + length block
    → IsRun place (joined blocks) (drop (place - before at blocks) block)
IsRun-block blocks at place block some is low inside =
    let p = place - before at blocks in
    let e : before at blocks + p ≡ place = omega arith in
    let rest = joined (drop (suc at) blocks) in
    let whole : drop place (joined blocks) ≡ drop p block ++ rest =
    ap (λ n. drop n (joined blocks)) (sym e) ∙ drop-joined blocks at p some (omega (arith, ap (λ b. length b) is))
    ∙ ap (λ b. drop p b ++ rest) (sym is) in
    record {
      some = omega (arith, length-drop p block);
      within = omega (
        arith,
        length-drop p block,
        length-drop place (joined blocks),
        ap (λ l. length l) whole,
        length-append (drop p block) rest,
      );
      is = sym (ap (λ l. take (length (drop p block)) l) whole ∙ take-append_seam (drop p block) rest);
    }

-- another element in one block
joined-set : {X : Type 0} (blocks : List (List X)) (at place : ℕ) (x : X) → at < length blocks
    → place < length (get_or blocks at [])
    → joined (set blocks at (set (get_or blocks at []) place x)) ≡ set (joined blocks) (before at blocks + place) x
joined-set [] at place x some within = absurd (omega arith)
joined-set (block ∷ blocks) zero place x some within =
    let e : before zero (block ∷ blocks) + place ≡ place = omega arith in
    rw e (sym (set-append_left block (joined blocks) place x within))
joined-set (block ∷ blocks) (suc at) place x some within =
    let e : (length block + (before at blocks + place)) - length block ≡ before at blocks + place = omega arith in
    rw (
      before-cons block blocks at place,
      set-append_right block (joined blocks) (length block) (length block + (before at blocks + place)) x refl
          (omega arith),
      e,
    )
    (ap (λ rest. block ++ rest) (joined-set blocks at place x (omega arith) within))

-- another element at a place
pub joined-replace : {X : Type 0} (blocks : List (List X)) (at place : ℕ) (x : X) → at < length blocks
    → before at blocks ≤ place → place < before at blocks + length (get_or blocks at [])
    → joined (set blocks at (set (get_or blocks at []) (place - before at blocks) x)) ≡ set (joined blocks) place x
joined-replace blocks at place x some low high =
    let e : before at blocks + (place - before at blocks) ≡ place = omega arith in
    joined-set blocks at (place - before at blocks) x some (omega arith) ∙ ap (λ p. set (joined blocks) p x) e
