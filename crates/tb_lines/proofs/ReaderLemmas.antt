-- What the line reader gives, in the words of the text to come.
use Rattle.std.proofs.Common.{◌≡◌, ◌≢◌, ℕ, ◌+◌, ◌-◌, ◌<◌, ◌≤◌, List, [], ◌∷◌, ◌++◌, length, take, drop, sym, subst, ap, ◌∙◌, refl, arith, append-nil}
use Rattle.std.specs.Prelude.{Option, Some, None, position, IfSome}
use Rattle.std.specs.Str.Lines.{lines, strip_carriage_return}
use Rattle.std.proofs.lemmas.List.{take_all, drop_all, length-append, length-drop, length-take, drop-drop, take-take}
use Rattle.tb_link.specs.Sources.{before_left}
use Rattle.tb_lines.specs.LineEnds.{is_line_feed, FitsLine}
use Rattle.tb_lines.specs.Lines.{unread, current, GaveLast, GaveLine, Finds}
use Rattle.tb_lines.specs.declared.input.LineReader.{LineReader}
use Rattle.tb_lines.specs.declared.line_end.NextLine.{NextLine}
use Rattle.tb_lines.specs.declared.line_end.NextLine.TheVariants as next
use Rattle.tb_lines.proofs.LineLemmas.{lines-first, lines-last, lines-long}

-- the last line was given
pub GaveLast-line : (found : NextLine) (old : List ℕ) (new : LineReader)
    → lines old ≡ current new ∷ []
    → unread new ≡ []
    → FitsLine found (current new)
    → GaveLast found old new
GaveLast-line next.Line old new line none fits = (line, none, fits)
GaveLast-line next.End old new line none fits = absurd fits
GaveLast-line next.TooLong old new line none fits = (line, none, fits)

-- the line that is shown, where so many bytes from a place on are
pub shown-is : (bytes now : List ℕ) (at count from to : ℕ)
    → now ≡ bytes
    → from ≡ at
    → to ≡ at + count
    → take (to - from) (drop from now) ≡ take (at + count - at) (drop at bytes)
shown-is bytes now at count from to same begins ends = rw (same, begins, ends) refl

-- the bytes behind those that were given
pub rest-is : (bytes now : List ℕ) (at count place : ℕ)
    → now ≡ bytes
    → place ≡ at + count
    → drop place now ≡ drop (at + count) bytes
rest-is bytes now at count place same is = rw (same, is) refl

-- the same line in front of the same bytes
pub given-same : (line line' rest rest' more : List ℕ)
    → line ≡ line'
    → rest ≡ rest'
    → line ∷ lines (rest ++ more) ≡ line' ∷ lines (rest' ++ more)
given-same line line' rest rest' more one other = rw (one, other) refl

-- the rest of a text of n bytes, given to its end
module _ (items : List ℕ) (at n : ℕ) (size : n ≡ length (drop at items)) where
  -- what is left without a line feed is the last line
  pub gave_last-line : position is_line_feed (drop at items) ≡ None
      → n ≢ 0
      → lines (drop at items) ≡ take (at + n - at) (drop at items) ∷ []
  gave_last-line none some =
      let whole : take (at + n - at) (drop at items) ≡ drop at items =
      take_all (at + n - at) (drop at items) (omega arith) in
      lines-last (drop at items) none (λ empty. some (size ∙ empty)) ∙ ap (λ (line : List ℕ). line ∷ []) (sym whole)

  -- it is as long as what is left
  pub gave_last-size : length (take (at + n - at) (drop at items)) ≡ n
  gave_last-size = omega (arith, length-take (at + n - at) (drop at items))

  -- and nothing is left behind it
  pub gave_last-rest : drop (at + n) items ≡ []
  gave_last-rest = drop_all (at + n) items (omega (arith, length-drop at items))

-- the first line of the rest of a text, given up to its line feed
pub gave-line : (items more : List ℕ) (at end count : ℕ)
    → position is_line_feed (drop at items) ≡ Some end
    → count ≤ length (take end (drop at items))
    → take count (take end (drop at items)) ≡ strip_carriage_return (take end (drop at items))
    → lines (drop at items ++ more) ≡ take (at + count - at) (drop at items) ∷ lines
    (drop (at + (end + 1)) items ++ more)
gave-line items more at end count found short line =
    let same : at + count - at ≡ count = omega arith in
    let low : count ≤ end = omega (arith, length-take end (drop at items)) in
    let front : take (at + count - at) (drop at items) ≡ strip_carriage_return (take end (drop at items)) =
    ap (λ n. take n (drop at items)) same ∙ sym (take-take count end (drop at items) low) ∙ line in
    let rest : drop (end + 1) (drop at items) ≡ drop (at + (end + 1)) items = drop-drop (end + 1) at items in
    lines-first (drop at items) more end found ∙ (rw (front, rest) refl)

-- what is told of the bytes ahead
told : (front : List ℕ) (left : Option (List ℕ)) (text : List ℕ)
    → before_left front left ≡ Some text
    → (rest : List ℕ) × (left ≡ Some rest) × (front ++ rest ≡ text)
told front None text is = absurd (cc)
told front (Some rest) text is = (rest, refl, (cc))

-- at the end of the input the text is what the reader has
pub told-end : (front : List ℕ) (left : Option (List ℕ)) (text : List ℕ)
    → before_left front left ≡ Some text
    → IfSome left (λ rest. rest ≡ [])
    → text ≡ front
told-end front None text is none = absurd (cc)
told-end front (Some rest) text is none = let same : text ≡ front ++ rest = (cc) in
    same ∙ ap (λ r. front ++ r) none ∙ append-nil front

-- a line is found in front of whatever follows
found_line : (found : NextLine) (front back line rest : List ℕ)
    → lines (front ++ rest) ≡ line ∷ lines (back ++ rest)
    → FitsLine found line
    → Finds found (front ++ rest) line (Some (back ++ rest))
found_line next.Line front back line rest gave fits = (fits, (back ++ rest, refl, gave))
found_line next.End front back line rest gave fits = absurd fits
found_line next.TooLong front back line rest gave fits = (line, lines (back ++ rest), gave, fits)

-- a line that was given is the first of the text to come
pub Finds-line : (old : List ℕ) (new : LineReader) (left : Option (List ℕ)) (found : NextLine) (text : List ℕ)
    → GaveLine old new
    → FitsLine found (current new)
    → before_left old left ≡ Some text
    → Finds found text (current new) (before_left (unread new) left)
Finds-line old new None found text gave fits is = absurd (cc)
Finds-line old new (Some rest) found text gave fits is =
    let same : old ++ rest ≡ text = (cc) in
    subst (λ (t : List ℕ). Finds found t (current new) (Some (unread new ++ rest))) same
    (found_line found old (unread new) (current new) rest (gave rest) fits)

-- so many bytes without a line feed begin a line that is too long
pub Finds-long : (old : List ℕ) (left : Option (List ℕ)) (text line : List ℕ) (behind : Option (List ℕ))
    → position is_line_feed old ≡ None
    → 8193 < length old
    → before_left old left ≡ Some text
    → Finds next.TooLong text line behind
Finds-long old left text line behind none long is =
    let parts = told old left text is in
    subst (λ (t : List ℕ). Finds next.TooLong t line behind) parts.2
    (lines-long old parts.0 8192 none (omega arith))

-- what the end of the input cuts off is found
found_last : (found : NextLine) (old : List ℕ) (new : LineReader) (rest : List ℕ)
    → GaveLast found old new
    → rest ≡ []
    → Finds found old (current new) (Some (unread new ++ rest))
found_last next.Line old new rest gave none = (
  gave.2,
  (
    unread new ++ rest,
    refl,
    gave.0
        ∙ ap (λ more. current new ∷ lines more) (sym (ap (λ front. front ++ rest) gave.1 ∙ none)),
  ),
)
found_last next.End old new rest gave none = gave.0
found_last next.TooLong old new rest gave none = (current new, [], gave.0, gave.2)

-- what was given last is the first of the text to come
pub Finds-last : (old : List ℕ) (new : LineReader) (left : Option (List ℕ)) (found : NextLine) (text : List ℕ)
    → GaveLast found old new
    → before_left old left ≡ Some text
    → text ≡ old
    → Finds found text (current new) (before_left (unread new) left)
Finds-last old new None found text gave is whole = absurd (cc)
Finds-last old new (Some rest) found text gave is whole =
    let same : old ++ rest ≡ old = (let e : old ++ rest ≡ text = (cc) in e ∙ whole) in
    let none : rest ≡ [] = nothing rest (omega (arith, ap length same, length-append old rest)) in
    subst (λ (t : List ℕ). Finds found t (current new) (Some (unread new ++ rest))) (sym whole)
    (found_last found old new rest gave none)
  where
    nothing : (xs : List ℕ) → length xs ≡ 0 → xs ≡ []
    nothing [] is = refl
    nothing (x ∷ xs) is = absurd (omega arith)
