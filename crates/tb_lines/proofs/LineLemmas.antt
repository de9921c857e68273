-- The lines of a text, from its front.
use Rattle.std.proofs.Common.{◌≡◌, ◌≢◌, ℕ, ◌+◌, ◌-◌, ◌<◌, ◌≤◌, List, [], ◌∷◌, ◌++◌, length, take, drop, get_or, true, false, Bool, cond, sym, subst, ap, ◌∙◌, refl, arith, append_assoc, inl, inr}
use Rattle.std.specs.Prelude.{Some, None, position, ◌==◌, nat_lt}
use Rattle.std.specs.List.{All, position_or_len, slice_split}
use Rattle.std.specs.Str.Lines.{lines, lines_of_parts, strip_carriage_return}
use Rattle.std.proofs.lemmas.List.Splits.{slice_split_none, slice_split_at, length-slice_split}
use Rattle.std.proofs.lemmas.List.Sums.{fails_before_first, passes_at_first, split_at_first}
use Rattle.std.proofs.lemmas.Option.{cond_some}
use Rattle.std.proofs.lemmas.Bool.{eqb-true, ltb-true, cases_lt}
use Rattle.std.proofs.lemmas.Bool.Decides.{eqb_tells}
use borrow.Author.Tests.{ltb-false}
use Rattle.std.proofs.lemmas.List.{length-take, length-take-le, length-append, get_or-take, get_or_append_left}
use Rattle.std.proofs.Math.ListN.{get_or-append}
use Rattle.tb_lines.specs.LineEnds.{is_line_feed}

-- a part before others loses its carriage return
lines_of_parts-cons : (part : List ℕ) (parts : List (List ℕ))
    → 0 < length parts
    → lines_of_parts (part ∷ parts) ≡ strip_carriage_return part ∷ lines_of_parts parts
lines_of_parts-cons part [] some = absurd (omega arith)
lines_of_parts-cons part (next ∷ parts) some = refl

-- a line feed behind bytes that are none ends the first line
lines-cut : (front rest : List ℕ)
    → All (λ byte. is_line_feed byte ≡ false) front
    → lines (front ++ 10 ∷ rest) ≡ strip_carriage_return front ∷ lines rest
lines-cut front rest none =
    ap lines_of_parts (slice_split_at is_line_feed front 10 rest none refl)
    ∙ lines_of_parts-cons front (slice_split is_line_feed rest)
    (rw (length-slice_split is_line_feed rest) (omega arith))

-- where the first byte that passes stands
pub position-some : (passes : ℕ → Bool) (text : List ℕ) (end : ℕ)
    → position passes text ≡ Some end
    → (position_or_len passes text ≡ end) × (end < length text)
position-some passes text end found =
    let parts = cond_some (nat_lt (position_or_len passes text) (length text))
    (position_or_len passes text) end found in
    let below : position_or_len passes text < length text = ltb-true _ _ parts.0 in
    (parts.1, subst (λ (n : ℕ). n < length text) parts.1 below)

-- an answer that is none comes of a test that failed
some-of : (b : Bool) (n : ℕ) → cond b (Some n) None ≡ None → b ≡ false
some-of true n is = cc
some-of false n is = refl

-- where no byte passes the first is at the end
pub position-none : (passes : ℕ → Bool) (text : List ℕ)
    → position passes text ≡ None
    → length text ≤ position_or_len passes text
position-none passes text none = ltb-false _ _
    (some-of (nat_lt (position_or_len passes text) (length text)) (position_or_len passes text) none)

-- where the first line feed stands
pub first_is : (text : List ℕ) (end : ℕ)
    → position is_line_feed text ≡ Some end
    → (position_or_len is_line_feed text ≡ end) × (end < length text)
first_is text end found = position-some is_line_feed text end found

-- where there is no line feed the first is at the end
none_is : (text : List ℕ) → position is_line_feed text ≡ None → length text ≤ position_or_len is_line_feed text
none_is text none = position-none is_line_feed text none

-- before the first line feed there is none
none_before : (text : List ℕ) (n : ℕ)
    → n ≤ position_or_len is_line_feed text
    → All (λ byte. is_line_feed byte ≡ false) (take n text)
none_before text n low k d below =
    let short : length (take n text) ≤ n = omega (arith, length-take n text) in
    let inside : k < n = omega arith in
    rw (get_or-take n text k d inside) (fails_before_first is_line_feed text k d (omega arith))

-- a text, cut at its first line feed
cut_at_first : (text : List ℕ) (n : ℕ)
    → position_or_len is_line_feed text ≡ n
    → n < length text
    → text ≡ take n text ++ (10 ∷ drop (n + 1) text)
cut_at_first text n place within =
    let below : position_or_len is_line_feed text < length text = rw place within in
    let byte : get_or text (position_or_len is_line_feed text) 0 ≡ 10 =
    eqb-true _ _ (passes_at_first is_line_feed text 0 below) in
    let parts : text ≡ take (position_or_len is_line_feed text) text
    ++ (10 ∷ drop (position_or_len is_line_feed text + 1) text) =
    split_at_first is_line_feed text 0 below
    ∙ ap (λ (b : ℕ). take (position_or_len is_line_feed text) text
    ++ (b ∷ drop (position_or_len is_line_feed text + 1) text)) byte in
    subst (λ (m : ℕ). text ≡ take m text ++ (10 ∷ drop (m + 1) text)) place parts

-- the first line of a text goes up to its line feed
pub lines-first : (text more : List ℕ) (end : ℕ)
    → position is_line_feed text ≡ Some end
    → lines (text ++ more) ≡ strip_carriage_return (take end text) ∷ lines (drop (end + 1) text ++ more)
lines-first text more end found =
    let place = first_is text end found in
    let low : end ≤ position_or_len is_line_feed text = omega (arith, place.0) in
    let parts : text ≡ take end text ++ (10 ∷ drop (end + 1) text) = cut_at_first text end place.0 place.1 in
    let whole : text ++ more ≡ take end text ++ (10 ∷ (drop (end + 1) text ++ more)) =
    ap (λ t. t ++ more) parts ∙ append_assoc (take end text) (10 ∷ drop (end + 1) text) more in
    ap lines whole ∙ lines-cut (take end text) (drop (end + 1) text ++ more) (none_before text end low)

-- one part that isn't empty is a line
one_part : (t : List ℕ) → length t ≢ 0 → lines_of_parts (t ∷ []) ≡ t ∷ []
one_part t some = elim (eqb_tells (length t) 0) [ inl empty ↦ absurd (some empty.1) | inr full ↦ rw full.0 refl ]

-- a text without line feeds is one line
one_line : (text : List ℕ)
    → length text ≤ position_or_len is_line_feed text
    → length text ≢ 0
    → lines text ≡ text ∷ []
one_line text none some =
    let all : All (λ byte. is_line_feed byte ≡ false) text =
    λ k d below. fails_before_first is_line_feed text k d (omega arith) in
    ap lines_of_parts (slice_split_none is_line_feed text all) ∙ one_part text some

-- a text without a line feed is one line
pub lines-last : (text : List ℕ) → position is_line_feed text ≡ None → length text ≢ 0 → lines text ≡ text ∷ []
lines-last text none some = one_line text (none_is text none) some

-- a line loses at most one byte
shorter_by_one : (b : Bool) (line : List ℕ) → length line ≤ length (cond b (take (length line - 1) line) line) + 1
shorter_by_one true line = omega (arith, length-take (length line - 1) line)
shorter_by_one false line = omega arith

-- at most one carriage return is dropped
length-strip_carriage_return : (line : List ℕ) → length line ≤ length (strip_carriage_return line) + 1
length-strip_carriage_return line = shorter_by_one (get_or line (length line - 1) 0 == 13) line

-- behind bytes without a line feed, the first line feed of the whole comes later
first_later : (text more : List ℕ)
    → position is_line_feed text ≡ None
    → length text ≤ position_or_len is_line_feed (text ++ more)
first_later text more none = elim (cases_lt (position_or_len is_line_feed (text ++ more)) (length text)) [
  | inl early ↦
      (let within : position_or_len is_line_feed (text ++ more) < length (text ++ more) =
      omega (arith, length-append text more) in
      let passes = passes_at_first is_line_feed (text ++ more) 0 within in
      let same = get_or-append text more 0 (position_or_len is_line_feed (text ++ more)) early in
      let early' : position_or_len is_line_feed (text ++ more) < position_or_len is_line_feed text =
      omega (arith, none_is text none) in
      let fails = fails_before_first is_line_feed text (position_or_len is_line_feed (text ++ more)) 0 early' in
      absurd (let t : true ≡ false = sym passes ∙ ap is_line_feed same ∙ fails in cc))
  | inr late ↦ late
]

-- bytes without a line feed are the front of the first line
pub lines-long : (text more : List ℕ) (n : ℕ)
    → position is_line_feed text ≡ None
    → n + 1 < length text
    → (long : List ℕ) × (rest : List (List ℕ)) × (lines (text ++ more) ≡ long ∷ rest) × (n < length long)
lines-long text more n none long =
    let whole = text ++ more in
    let place = position_or_len is_line_feed whole in
    let late : length text ≤ place = first_later text more none in
    elim (cases_lt place (length whole)) [
      | inl within ↦
          (let cut = cut_at_first whole place refl within in
          let first = take place whole in
          let size : length first ≡ place = length-take-le place whole (omega arith) in (
            strip_carriage_return first,
            lines (drop (place + 1) whole),
            ap lines cut ∙ lines-cut first (drop (place + 1) whole) (none_before whole place (omega arith)),
            omega (arith, length-strip_carriage_return first, size, late, long),
          ))
      | inr none' ↦ (
        whole,
        [],
        one_line whole none'
            (λ empty. absurd (omega (arith, length-append text more, empty, long))),
        omega
            (arith, length-append text more, long),
      )
    ]

-- where a text has no line feed, the first of it and more stands behind it
pub line_feed-behind : (front back : List ℕ) (end : ℕ)
    → position is_line_feed front ≡ None
    → position is_line_feed (front ++ back) ≡ Some end
    → length front ≤ end
line_feed-behind front back end none found = elim (cases_lt end (length front)) [
  | inl less ↦
      (let place = first_is (front ++ back) end found in
      let within : position_or_len is_line_feed (front ++ back) < length (front ++ back) = rw place.0 place.1 in
      let passes : is_line_feed (get_or (front ++ back) (position_or_len is_line_feed (front ++ back)) 0) ≡ true =
      passes_at_first is_line_feed (front ++ back) 0 within in
      let here : is_line_feed (get_or (front ++ back) end 0) ≡ true =
      subst (λ (n : ℕ). is_line_feed (get_or (front ++ back) n 0) ≡ true) place.0 passes in
      let same : get_or (front ++ back) end 0 ≡ get_or front end 0 = get_or_append_left front back 0 end less in
      let fails : is_line_feed (get_or front end 0) ≡ false =
      fails_before_first is_line_feed front end 0 (omega (arith, none_is front none)) in
      absurd (let both : true ≡ false = sym here ∙ (ap is_line_feed same ∙ fails) in cc))
  | inr le ↦ le
]
