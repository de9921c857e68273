-- The last LF of a text.
use Rattle.std.proofs.Common.{◌≡◌, ◌≢◌, ℕ, ◌+◌, ◌-◌, ◌<◌, ◌≤◌, List, [], ◌∷◌, ◌++◌, length, get_or, take, min, refl, ap, sym, ◌∙◌, subst, inl, inr, arith, add-one}
use Rattle.std.specs.Prelude.{◌==◌}
use Rattle.std.proofs.lemmas.Bool.{cases_Bool}
use Rattle.std.proofs.lemmas.List.{take_more, take_min, take-take, length-take}
use Rattle.tb_wire.specs.Front.{lines_len, seen, most_head}
use Rattle.tb_wire.proofs.Heads.{lines_bound}

-- a text that ends in LF ends with its last line
lines_len-lf : (xs : List ℕ) → lines_len (xs ++ 10 ∷ []) ≡ length xs + 1
unfolding lines_len
lines_len-lf [] = refl
lines_len-lf (x ∷ xs) = let ih = lines_len-lf xs in grind (arith, ih)

-- and another byte at its end changes nothing
lines_len-other : (xs : List ℕ) (b : ℕ) → b ≢ 10 → lines_len (xs ++ b ∷ []) ≡ lines_len xs
unfolding lines_len
lines_len-other [] b other = grind (arith, other)
lines_len-other (x ∷ xs) b other = let ih = lines_len-other xs b other in grind (arith, ih)

-- the bytes up to a place, the last of them apart
up_to : (bytes : List ℕ) (len : ℕ) → 0 < len → len ≤ length bytes
    → take len bytes ≡ take (len - 1) bytes ++ get_or bytes (len - 1) 0 ∷ []
up_to bytes len some within =
    let on : len - 1 + 1 ≡ len = omega (arith, some) in
    ap (λ (n : ℕ). take n bytes) (sym on) ∙ take_more bytes (len - 1) 0 (omega (arith, some, within))

-- where the last byte is LF
pub line_here : (bytes : List ℕ) (len : ℕ) → 0 < len → len ≤ length bytes → get_or bytes (len - 1) 0 ≡ 10
    → lines_len (take len bytes) ≡ len
line_here bytes len some within lf =
    let long = length-take (len - 1) bytes in
    ap lines_len (up_to bytes len some within ∙ ap (λ (b : ℕ). take (len - 1) bytes ++ b ∷ []) lf)
    ∙ (lines_len-lf (take (len - 1) bytes) ∙ omega (arith, long, some, within))

-- and where it is another
pub line_before : (bytes : List ℕ) (len : ℕ) → 0 < len → len ≤ length bytes → get_or bytes (len - 1) 0 ≢ 10
    → lines_len (take (len - 1) bytes) ≡ lines_len (take len bytes)
line_before bytes len some within other =
    let same = lines_len-other (take (len - 1) bytes) (get_or bytes (len - 1) 0) other in
    sym (ap lines_len (up_to bytes len some within) ∙ same)

-- where no LF stands behind the first byte or at it, there is no line
pub no_lines : (bytes : List ℕ) (len : ℕ) → len ≡ 0 → lines_len (take len bytes) ≡ lines_len bytes → 0 ≡ lines_len bytes
unfolding lines_len
no_lines [] len none same = refl
no_lines (byte ∷ bytes) len none same =
    subst (λ (n : ℕ). lines_len (take n (byte ∷ bytes)) ≡ lines_len (byte ∷ bytes)) none same

-- the lines of a text are whole
lines_whole : (xs : List ℕ) → lines_len (take (lines_len xs) xs) ≡ lines_len xs
unfolding lines_len
lines_whole [] = refl
lines_whole (x ∷ xs) = elim (cases_Bool (lines_len xs == 0)) [
  | inl e ↦ elim (cases_Bool (x == 10)) [
    | inl f ↦ rw (e, f) (rw (f) refl)
    | inr f ↦ rw (e, f) refl
  ]
  | inr e ↦
      let ih = lines_whole xs in
      rw (e, add-one) (rw (ih, e, add-one) refl)
]

-- what is looked at, by the bytes up to the limit
pub seen_by : (bytes : List ℕ) (n : ℕ)
    → n ≡ lines_len (take (min (length bytes) 8192) bytes)
    → take n bytes ≡ seen bytes
seen_by bytes n is = ap (λ (k : ℕ). take k bytes) (is ∙ ap lines_len (limited bytes))
  where
    limited : (bytes : List ℕ) → take (min (length bytes) 8192) bytes ≡ take most_head bytes
    limited bytes =
        let turned : min (length bytes) 8192 ≡ min 8192 (length bytes) = omega arith in
        ap (λ (k : ℕ). take k bytes) turned ∙ take_min 8192 bytes

-- it has whole lines
pub seen_lines : (bytes : List ℕ) → lines_len (seen bytes) ≡ length (seen bytes)
seen_lines bytes =
    let front = take most_head bytes in
    let bound = lines_bound front in
    let long = length-take most_head bytes in
    let within : take (lines_len front) front ≡ take (lines_len front) bytes =
    take-take (lines_len front) most_head bytes (omega (arith, bound, long)) in
    let text = length-take (lines_len front) bytes in
    ap lines_len (sym within) ∙ (lines_whole front ∙ omega (arith, text, bound, long))

-- and is short
pub seen_short : (bytes : List ℕ) → length (seen bytes) ≤ 8192
seen_short bytes =
    let bound = lines_bound (take most_head bytes) in
    let long = length-take most_head bytes in
    let text = length-take (lines_len (take most_head bytes)) bytes in
    omega (arith, text, bound, long)
