-- The stepwise model of a disk and its sentences say the same.
use Rattle.std.proofs.Common.{◌≡◌, ◌⊎◌, inl, inr, ℕ, ◌+◌, ◌-◌, ◌<◌, ◌≤◌, max, min, List, length, map, get_or, take, drop, refl, sym, ◌∙◌, ap, arith, length-take, length-drop}
use Rattle.std.specs.List.{range_with_len}
use Rattle.std.proofs.lemmas.List.{get_or-take, get_or-drop, ext_get_or}
use Rattle.std.proofs.lemmas.List.FromFn.{length-map-range_with_len, get_or-map-range_with_len}
use Rattle.std.proofs.lemmas.Bool.{cases_lt}
use Rattle.tb_disk.specs.Steps.{Wrote, Tore, CutTo, Synced, Torn}
use Rattle.tb_disk.specs.Past.{Past, Began, Then, contents_of, MayLeave, IsMade}
use Rattle.tb_disk.specs.Sentences.{synced_contents, least_length, greatest_length, MayBecome}
use Rattle.tb_disk.proofs.Noting.{length-over}

-- the length now is one of those since the last sync
least-now : (past : Past) → least_length past ≤ length (contents_of past)
least-now (Began first) = omega arith
least-now (Then (Wrote place bytes) older) = omega arith
least-now (Then (Tore place count left) older) = omega arith
least-now (Then (CutTo n) older) = omega arith
least-now (Then Synced older) = omega arith

-- the same of the greatest
greatest-now : (past : Past) → length (contents_of past) ≤ greatest_length past
greatest-now (Began first) = omega arith
greatest-now (Then (Wrote place bytes) older) = omega arith
greatest-now (Then (Tore place count left) older) = omega arith
greatest-now (Then (CutTo n) older) = omega arith
greatest-now (Then Synced older) = omega arith

-- a torn write leaves the bytes outside its range
torn_same : (place count longest : ℕ) (old new : List ℕ) → Torn place count longest old new → (index : ℕ)
    → (index < place) ⊎ (place + count ≤ index) → get_or new index 0 ≡ get_or old index 0
torn_same place count longest old new torn index (inl before) =
    sym (get_or-take place new index 0 before)
    ∙ (ap (λ (list : List ℕ). get_or list index 0) torn.before ∙ get_or-take place old index 0 before)
torn_same place count longest old new torn index (inr behind) =
    let far : ℕ = index - (place + count) in
    let there : place + count + far ≡ index = omega (arith, behind) in
    ap (λ (n : ℕ). get_or new n 0) (sym there)
    ∙ (sym (get_or-drop (place + count) new far 0)
    ∙ (ap (λ (list : List ℕ). get_or list far 0) torn.behind
    ∙ (get_or-drop (place + count) old far 0 ∙ ap (λ (n : ℕ). get_or old n 0) there)))

-- what a range has of one list, and the rest of another
abbrev pick_by : {before behind within far : Type 0} → before ⊎ within → behind ⊎ far → ℕ → ℕ → ℕ
pick_by (inl before) side own theirs = own
pick_by (inr from) (inl within) own theirs = theirs
pick_by (inr from) (inr behind) own theirs = own

-- in the range the byte of `base`, elsewhere that of `image`
abbrev pick : ℕ → ℕ → List ℕ → List ℕ → ℕ → ℕ
pick place count base image index =
    pick_by (cases_lt index place) (cases_lt index (place + count)) (get_or image index 0) (get_or base index 0)

-- outside the range
pick-outside : (place count index own theirs : ℕ) (side : (index < place) ⊎ (place ≤ index))
    → (end : (index < place + count) ⊎ (place + count ≤ index)) → (index < place) ⊎ (place + count ≤ index)
    → pick_by side end own theirs ≡ own
pick-outside place count index own theirs (inl before) end outside = refl
pick-outside place count index own theirs (inr from) (inl within) (inl before) = absurd (omega (arith, from, before))
pick-outside place count index own theirs (inr from) (inl within) (inr behind) = absurd (omega (arith, within, behind))
pick-outside place count index own theirs (inr from) (inr behind) outside = refl

-- in the range
pick-inside : (place count index own theirs : ℕ) (side : (index < place) ⊎ (place ≤ index))
    → (end : (index < place + count) ⊎ (place + count ≤ index)) → place ≤ index → index < place + count
    → pick_by side end own theirs ≡ theirs
pick-inside place count index own theirs (inl before) end from within = absurd (omega (arith, before, from))
pick-inside place count index own theirs (inr _) (inl _) from within = refl
pick-inside place count index own theirs (inr _) (inr behind) from within = absurd (omega (arith, behind, within))

-- an image before a step, of so many bytes: that after it, with the old bytes in the range of the step
abbrev earlier : ℕ → ℕ → List ℕ → List ℕ → ℕ → List ℕ
earlier place count base image size = map (pick place count base image) (range_with_len 0 size)

-- as many bytes as asked for
length-earlier : (place count : ℕ) (base image : List ℕ) (size : ℕ)
    → length (earlier place count base image size) ≡ size
length-earlier place count base image size = length-map-range_with_len (pick place count base image) 0 size

-- its bytes outside the range
earlier-outside : (place count : ℕ) (base image : List ℕ) (size index : ℕ) → index < size
    → (index < place) ⊎ (place + count ≤ index) → get_or (earlier place count base image size) index 0 ≡ get_or image
    index 0
earlier-outside place count base image size index below outside =
    get_or-map-range_with_len (pick place count base image) 0 size index index 0 below (omega arith)
    ∙ pick-outside place count index (get_or image index 0) (get_or base index 0)
    (cases_lt index place) (cases_lt index (place + count)) outside

-- its bytes in the range
earlier-inside : (place count : ℕ) (base image : List ℕ) (size index : ℕ) → index < size → place ≤ index
    → index < place + count → get_or (earlier place count base image size) index 0 ≡ get_or base index 0
earlier-inside place count base image size index below from within =
    get_or-map-range_with_len (pick place count base image) 0 size index index 0 below (omega arith)
    ∙ pick-inside place count index (get_or image index 0) (get_or base index 0)
    (cases_lt index place) (cases_lt index (place + count)) from within

-- the same bytes up to a place
same_front : (place size : ℕ) (first second : List ℕ) → min place (length first) ≡ min place (length second)
    → ((index : ℕ) → index < place → index < length first → get_or first index 0 ≡ get_or second index 0)
    → take place first ≡ take place second
same_front place size first second as_many same =
    ext_get_or 0 (take place first) (take place second)
    (omega (arith, length-take place first, length-take place second, as_many))
    (λ index below. (let long = length-take place first in
    let near : index < place = omega (arith, below, long) in
    get_or-take place first index 0 near
    ∙ (same index near (omega (arith, below, long)) ∙ sym (get_or-take place second index 0 near))))

-- the same bytes from a place on
same_rest : (place : ℕ) (first second : List ℕ) → length first - place ≡ length second - place
    → ((index : ℕ) → place ≤ index → index < length first → get_or first index 0 ≡ get_or second index 0)
    → drop place first ≡ drop place second
same_rest place first second as_many same =
    ext_get_or 0 (drop place first) (drop place second)
    (omega (arith, length-drop place first, length-drop place second, as_many))
    (λ index below. (let long = length-drop place first in
    get_or-drop place first index 0
    ∙ (same (place + index) (omega arith) (omega (arith, below, long)) ∙ sym (get_or-drop place second index 0))))

-- the image before a write of which this one may have been left
earlier-torn : (place count longest most : ℕ) (base image : List ℕ)
    → length image ≤ max most longest
    → (most < longest → place ≤ most)
    → (most < longest → longest ≤ place + count)
    → Torn place count longest (earlier place count base image (min (length image) most)) image
earlier-torn place count longest most base image long near far =
    let size : ℕ = min (length image) most in
    let was : List ℕ = earlier place count base image size in
    let sized : length was ≡ size = length-earlier place count base image size in
    elim (cases_lt most longest) [
      | inl past ↦ (let reach = near past in let ends = far past in record {
        before = same_front place size image was (omega (arith, sized, long, reach, past))
            (λ index before within. sym (earlier-outside place count base image size index
            (omega (arith, before, within, reach)) (inl before)));
        behind = same_rest (place + count) image was (omega (arith, sized, long, ends, past))
            (λ index behind within. sym (earlier-outside place count base image size index
            (omega (arith, behind, within, ends, long, past)) (inr behind)));
        no_shorter = omega (arith, sized);
        no_longer = omega (arith, sized, long);
      })
      | inr short ↦ (let whole : length image ≤ most = omega (arith, long, short) in record {
        before = same_front place size image was (omega (arith, sized, whole))
            (λ index before within. sym (earlier-outside place count base image size index
            (omega (arith, within, whole)) (inl before)));
        behind = same_rest (place + count) image was (omega (arith, sized, whole))
            (λ index behind within. sym (earlier-outside place count base image size index
            (omega (arith, within, whole)) (inr behind)));
        no_shorter = omega (arith, sized);
        no_longer = omega (arith, sized, long, whole);
      })
    ]

-- its bytes that weren't written before the step
earlier-kept : (place count size : ℕ) (base image : List ℕ) (index : ℕ) → index < size
    → ((index < place) ⊎ (place + count ≤ index) → get_or image index 0 ≡ get_or base index 0)
    → get_or (earlier place count base image size) index 0 ≡ get_or base index 0
earlier-kept place count size base image index below kept = elim (cases_lt index place) [
  | inl before ↦ earlier-outside place count base image size index below (inl before) ∙ kept (inl before)
  | inr from ↦ elim (cases_lt index (place + count)) [
    | inl within ↦ earlier-inside place count base image size index below from within
    | inr behind ↦ earlier-outside place count base image size index below (inr behind) ∙ kept (inr behind)
  ]
]

-- what is outside a range isn't in it
not_within : (place count index : ℕ) → (index < place) ⊎ (place + count ≤ index)
    → (place ≤ index) × (index < place + count) → ⊥
not_within place count index (inl before) within = omega (arith, before, within.0)
not_within place count index (inr behind) within = omega (arith, behind, within.1)

-- what isn't in a range is outside it
outside_of : (place count index : ℕ) → ((place ≤ index) × (index < place + count) → ⊥)
    → (index < place) ⊎ (place + count ≤ index)
outside_of place count index not = elim (cases_lt index place) [
  | inl before ↦ inl before
  | inr from ↦ elim (cases_lt index (place + count)) [
    | inl within ↦ absurd (not (from, within))
    | inr behind ↦ inr behind
  ]
]

-- each image keeps to the sentences
pub becomes : (past : Past) (image : List ℕ) → IsMade past → MayLeave past image → MayBecome past image
becomes (Began first) image made same = record {
  no_shorter = omega (arith, ap length same);
  no_longer = omega (arith, ap length same);
  kept = λ index below not. ap (λ (list : List ℕ). get_or list index 0) same;
}
becomes (Then (Wrote place bytes) older) image made left =
    let was = becomes older left.0 made.1 left.1 in
    let torn = left.2 in
    let long = length-over place bytes (contents_of older) made.0 in
    record {
      no_shorter = omega (arith, was.no_shorter, torn.no_shorter);
      no_longer = omega (arith, was.no_longer, torn.no_longer, long);
      kept = λ index below not.
          torn_same place (length bytes) (place + length bytes) left.0 image torn index
          (outside_of place (length bytes) index (λ within. not (inl within)))
          ∙ was.kept index (omega (arith, below)) (λ written. not (inr written));
    }
becomes (Then (Tore place count contents) older) image made left =
    let was = becomes older left.0 made.1 left.1 in
    let torn = left.2 in
    record {
      no_shorter = omega (arith, was.no_shorter, torn.no_shorter);
      no_longer = omega (arith, was.no_longer, torn.no_longer);
      kept = λ index below not.
          torn_same place count (length contents) left.0 image torn index
          (outside_of place count index (λ within. not (inl within)))
          ∙ was.kept index (omega (arith, below)) (λ written. not (inr written));
    }
becomes (Then (CutTo n) older) image made left =
    let was = becomes older left.0 made.1 left.1 in
    let cut = left.2 in
    let long = length-take n (contents_of older) in
    record {
      no_shorter = omega (arith, was.no_shorter, cut.no_shorter, long);
      no_longer = omega (arith, was.no_longer, cut.no_longer);
      kept = λ index below not. (let near : index < n = omega (arith, below, long) in
          sym (get_or-take n image index 0 near)
          ∙ (ap (λ (list : List ℕ). get_or list index 0) cut.front
          ∙ (get_or-take n left.0 index 0 near ∙ was.kept index (omega (arith, below)) not)));
    }
becomes (Then Synced older) image made same = record {
  no_shorter = omega (arith, ap length same);
  no_longer = omega (arith, ap length same);
  kept = λ index below not. ap (λ (list : List ℕ). get_or list index 0) same;
}

-- what keeps to the sentences is an image
pub is_left : (past : Past) (image : List ℕ) → IsMade past → MayBecome past image → MayLeave past image
is_left (Began first) image made is =
    ext_get_or 0 image first (omega (arith, is.no_shorter, is.no_longer))
    (λ index below. is.kept index (omega (arith, below, is.no_longer)) (λ written. written))
is_left (Then (Wrote place bytes) older) image made is =
    let most : ℕ = greatest_length older in
    let base : List ℕ = synced_contents older in
    let size : ℕ = min (length image) most in
    let long = length-over place bytes (contents_of older) made.0 in
    let least = least-now older in
    let great = greatest-now older in
    let was : List ℕ = earlier place (length bytes) base image size in
    let keeps : MayBecome older was = record {
      no_shorter = omega (
        arith,
        length-earlier place (length bytes) base image size,
        is.no_shorter,
        long,
        least,
        great,
      );
      no_longer = omega (arith, length-earlier place (length bytes) base image size);
      kept = λ index below not. earlier-kept place (length bytes) size base image index
          (omega (arith, below, is.no_shorter, long, least, great))
          (λ outside. is.kept index (omega (arith, below, long, least))
          (λ written. elim written [
            | inl within ↦ not_within place (length bytes) index outside within
            | inr before ↦ not before
          ]));
    } in (
      was,
      is_left older was made.1 keeps,
      earlier-torn place (length bytes) (place + length bytes) most base image
          (omega (arith, is.no_longer, long, great)) (λ _. omega (arith, made.0, great)) (λ _. omega arith),
    )
is_left (Then (Tore place count contents) older) image made is =
    let most : ℕ = greatest_length older in
    let base : List ℕ = synced_contents older in
    let size : ℕ = min (length image) most in
    let torn = made.0 in
    let least = least-now older in
    let great = greatest-now older in
    let front = ap length torn.before in
    let new_front = length-take place contents in
    let old_front = length-take place (contents_of older) in
    let was : List ℕ = earlier place count base image size in
    let keeps : MayBecome older was = record {
      no_shorter = omega (
        arith,
        length-earlier place count base image size,
        is.no_shorter,
        torn.no_shorter,
        least,
        great,
      );
      no_longer = omega (arith, length-earlier place count base image size);
      kept = λ index below not. earlier-kept place count size base image index
          (omega (arith, below, is.no_shorter, torn.no_shorter, least, great))
          (λ outside. is.kept index (omega (arith, below, torn.no_shorter, least))
          (λ written. elim written [
            | inl within ↦ not_within place count index outside within
            | inr before ↦ not before
          ]));
    } in (
      was,
      is_left older was made.1 keeps,
      earlier-torn place count (length contents) most base image
          is.no_longer
          (λ past. omega (arith, past, front, new_front, old_front, great))
          (λ past. omega (arith, past, torn.no_longer, great)),
    )
is_left (Then (CutTo n) older) image made is =
    let base : List ℕ = synced_contents older in
    let count : ℕ = least_length older - n in
    let size : ℕ = max (length image) (least_length older) in
    let long = length-take n (contents_of older) in
    let least = least-now older in
    let great = greatest-now older in
    let was : List ℕ = earlier n count base image size in
    let sized : length was ≡ size = length-earlier n count base image size in
    let keeps : MayBecome older was = record {
      no_shorter = omega (arith, sized);
      no_longer = omega (arith, sized, is.no_longer, long, least, great, made.0);
      kept = λ index below not. earlier-kept n count size base image index (omega (arith, below))
          (λ outside. elim outside [
            | inl before ↦ is.kept index (omega (arith, before, below, long, made.0)) not
            | inr behind ↦ absurd (omega (arith, behind, below))
          ]);
    } in (
      was,
      is_left older was made.1 keeps,
      record {
        front = same_front n size image was (omega (arith, sized, is.no_shorter, long, made.0))
            (λ index before within. sym (earlier-outside n count base image size index (omega (arith, within))
            (inl before)));
        no_shorter = omega (arith, sized, is.no_shorter, long, made.0);
        no_longer = omega (arith, sized);
      },
    )
is_left (Then Synced older) image made is =
    ext_get_or 0 image (contents_of older) (omega (arith, is.no_shorter, is.no_longer))
    (λ index below. is.kept index (omega (arith, below, is.no_longer)) (λ written. written))
