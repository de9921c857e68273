-- One note more.
use Rattle.std.proofs.Common.{◌≡◌, ℕ, ◌+◌, ◌-◌, ◌≤◌, max, min, List, [], ◌∷◌, ◌++◌, length, take, drop, replicate, refl, sym, ◌∙◌, ap, subst, arith, append_assoc, length-append, length-drop, inl, inr}
use Rattle.std.proofs.lemmas.List.{length-replicate, take_all, take_at, drop_at, take-append-le, drop-append-le, length-take}
use Rattle.std.proofs.lemmas.Bool.{cases_lt}
use Rattle.tb_disk.specs.Steps.{over, Torn, MaybeCut}
use Rattle.tb_disk.specs.Past.{Past}
use Rattle.tb_disk.specs.Notes.{size_of, sizes_of, after_note, after_notes, torn_over}
use Rattle.tb_disk.specs.declared.note.Note.{Note}

-- a list of no length is empty
empty : (l : List ℕ) → 0 ≡ length l → l ≡ []
empty [] e = refl
empty (x ∷ l) e = absurd (omega (arith, e))

-- the bytes of one note more
pub sizes_of-push : (notes : List Note) (note : Note) → sizes_of (notes ++ note ∷ []) ≡ sizes_of notes + size_of note
sizes_of-push [] note = omega arith
sizes_of-push (m ∷ notes) note = omega (arith, sizes_of-push notes note)

-- the past after one note more
pub after_notes-push : (torn : ℕ) (older : Past) (notes : List Note) (written : List ℕ) (note : Note) (bytes : List ℕ)
    → sizes_of notes ≡ length written → length bytes ≡ size_of note
    → after_notes torn older (notes ++ note ∷ []) (written ++ bytes) ≡ after_note torn note bytes
    (after_notes torn older notes written)
after_notes-push torn older [] written note bytes sized size =
    ap (λ (l : List ℕ). after_note torn note (take (size_of note) (l ++ bytes)) older) (empty written sized)
    ∙ ap (λ (l : List ℕ). after_note torn note l older) (take_all (size_of note) bytes (omega (arith, size)))
after_notes-push torn older (m ∷ notes) written note bytes sized size =
    let room : size_of m ≤ length written = omega (arith, sized) in
    ap (λ (l : List ℕ). after_notes torn (after_note torn m l older) (notes ++ note ∷ [])
    (drop (size_of m) (written ++ bytes))) (take-append-le (size_of m) written bytes room)
    ∙ (ap (λ (l : List ℕ). after_notes torn (after_note torn m (take (size_of m) written) older) (notes ++ note ∷ []) l)
    (drop-append-le (size_of m) written bytes room)
    ∙ after_notes-push torn (after_note torn m (take (size_of m) written) older) notes
    (drop (size_of m) written) note bytes (omega (arith, sized, length-drop (size_of m) written)) size)

-- how long a file is after a write
pub length-over : (place : ℕ) (bytes old : List ℕ) → place ≤ length old
    → length (over place bytes old) ≡ max (length old) (place + length bytes)
length-over place bytes old le = omega (
  arith,
  length-append (take place old)
      (bytes ++ drop (place + length bytes) old),
  length-append bytes (drop (place + length bytes) old),
  length-take place old,
  length-drop (place + length bytes) old,
)

-- bytes over a file change only their range
pub over-before : (place : ℕ) (bytes old : List ℕ) → place ≤ length old
    → take place (over place bytes old) ≡ take place old
over-before place bytes old le = take_at (take place old) (bytes ++ drop (place + length bytes) old) place
    (omega (arith, length-take place old))

-- bytes over a file leave what is behind them
pub over-behind : (place : ℕ) (bytes old : List ℕ) → place ≤ length old
    → drop (place + length bytes) (over place bytes old) ≡ drop (place + length bytes) old
over-behind place bytes old le =
    ap (λ (l : List ℕ). drop (place + length bytes) l) (sym (append_assoc (take place old) bytes
    (drop (place + length bytes) old)))
    ∙ drop_at (take place old ++ bytes) (drop (place + length bytes) old) (place + length bytes)
    (omega (arith, length-append (take place old) bytes, length-take place old))

-- a write keeps to the model
pub over-torn : (place : ℕ) (bytes old : List ℕ) → place ≤ length old
    → Torn place (length bytes) (place + length bytes) old (over place bytes old)
over-torn place bytes old le = record {
  before = over-before place bytes old le;
  behind = over-behind place bytes old le;
  no_shorter = omega (arith, length-over place bytes old le);
  no_longer = omega (arith, length-over place bytes old le);
}

-- nothing stands past the end
none_left : (n : ℕ) (l : List ℕ) → length l ≤ n → drop n l ≡ []
none_left n l le = empty (drop n l) (omega (arith, length-drop n l))

-- a failed write in memory keeps to the model
pub torn_over-torn : (place size torn : ℕ) (old : List ℕ) → place ≤ length old
    → Torn place size (place + size) old (torn_over place size torn old)
torn_over-torn place size torn old le =
    let tears : List ℕ = replicate (min size (length old - place)) torn in
    let many : length tears ≡ min size (length old - place) = length-replicate (min size (length old - place)) torn in
    let long : length (over place tears old) ≡ length old = omega (arith, length-over place tears old le, many) in
    record {
      before = over-before place tears old le;
      behind = elim (cases_lt (length old - place) size) [
        | inl past ↦ none_left (place + size) (over place tears old) (omega (arith, long))
            ∙ sym (none_left (place + size) old (omega arith))
        | inr within ↦ (let same : length tears ≡ size = omega (arith, many) in
            subst (λ (n : ℕ). drop (place + n) (over place tears old) ≡ drop (place + n) old) same
            (over-behind place tears old le))
      ];
      no_shorter = omega (arith, long);
      no_longer = omega (arith, long);
    }

-- a failed write in memory leaves the length
pub length-torn_over : (place size torn : ℕ) (old : List ℕ) → place ≤ length old
    → length (torn_over place size torn old) ≡ length old
length-torn_over place size torn old le = omega (
  arith,
  length-over place
      (replicate (min size (length old - place)) torn) old le,
  length-replicate {A = ℕ}
      (min size (length old - place)) torn,
)

-- a cut in memory keeps to the model
pub take-cut : (n : ℕ) (old : List ℕ) → n ≤ length old → MaybeCut n old (take n old)
take-cut n old le = record {
  front = take_all n (take n old) (omega (arith, length-take n old));
  no_shorter = omega (arith, length-take n old);
  no_longer = omega (arith, length-take n old);
}

-- what a failed write left is no longer than it left it
pub Torn-longest : (place size longest : ℕ) (old new : List ℕ) → Torn place size longest old new
    → Torn place size (length new) old new
Torn-longest place size longest old new torn = record {
  before = torn.before;
  behind = torn.behind;
  no_shorter = torn.no_shorter;
  no_longer = omega arith;
}
