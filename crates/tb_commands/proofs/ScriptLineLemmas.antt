-- The words of a line of a script.
use Rattle.std.proofs.Common.{◌≡◌, ◌≢◌, ℕ, ◌+◌, ◌-◌, ◌<◌, ◌≤◌, ◌^◌, List, [], ◌∷◌, ◌++◌, length, take, drop, get_or, Bool, true, false, sym, subst, ap, ◌∙◌, refl, arith, inl, inr}
use Rattle.std.specs.Prelude.{Option, Some, None, IfNone, codes, ◌==◌, ◌&&◌, nat_lt, bytes_eq}
use Rattle.std.specs.Option.{option_map}
use Rattle.std.specs.List.{All, list_all, position_or_len, before_first, after_first}
use Rattle.std.specs.Str.{IsAscii, IsUtf8}
use Rattle.std.specs.Str.Parse.{AllDigits}
use Rattle.std.specs.Fmt.{decimal}
use Rattle.std.specs.Cmp.Lexicographic.{same_text}
use Rattle.std.specs.Cmp.Derive.{both_true}
use Rattle.std.proofs.lemmas.Bool.{cases_Bool, cases_lt, eqb-true}
use Rattle.std.proofs.lemmas.Bool.Decides.{eqb_tells, nat_tests}
use Rattle.std.proofs.lemmas.Fmt.{IsAscii-decimal, decimal_is_IsNumeral, decimal_injective}
use Rattle.std.proofs.lemmas.List.{drop-drop, drop_all, length-append, length-drop, get_or_append_left, get_or_default, take-append-drop}
use Rattle.std.proofs.lemmas.List.Sums.{AllPass-from_list_all, position_or_len_is, passes_at_first, split_at_first}
use Rattle.std.proofs.lemmas.Str.{IsUtf8-from_ascii}
use Rattle.std.proofs.lemmas.Str.Parse.{digit_at}
use Rattle.std.proofs.Math.ListN.{get_or-eq_default}
use Rattle.std.proofs.Math.Seq.{get_or-append_seam, take-append_seam, drop-append-add}
use Rattle.tb_units.specs.Bytes.{blank}
use Rattle.tb_units.specs.Names.{is_name, is_name_byte, name_of}
use Rattle.tb_units.specs.Same.{same_moment}
use Rattle.tb_units.specs.declared.moment.Moment.{Moment}
use Rattle.tb_message.specs.Keys.{key_of}
use Rattle.tb_message.specs.declared.key.Key.{Key}
use Rattle.tb_message.specs.declared.key.Key.TheVariants as keys
use Rattle.tb_text_book.specs.Fields.{is_blank}
use Rattle.tb_lines.specs.LineEnds.{longest_line}
use Rattle.tb_commands.specs.ScriptLines.{IsAsk, SpellsAsk, SpellsFrom}

-- no byte of the text is a space
abbrev pub NoBlank : List ℕ → Type 0
NoBlank text = All (λ byte. is_blank byte ≡ false) text

-- a word, a space and more
module _ (word rest : List ℕ) (none : NoBlank word) where
  -- the first space stands behind the word
  pub first_blank : position_or_len is_blank (word ++ blank ∷ rest) ≡ length word
  first_blank =
      position_or_len_is is_blank (word ++ blank ∷ rest) (length word) 0
      (omega (arith, length-append word (blank ∷ rest)))
      (λ k low. ap is_blank (get_or_append_left word (blank ∷ rest) 0 k low) ∙ none k 0 low)
      (λ _. ap is_blank (get_or-append_seam word blank rest 0))

  -- a space stands there
  pub has_blank : position_or_len is_blank (word ++ blank ∷ rest) < length (word ++ blank ∷ rest)
  has_blank = omega (arith, first_blank, length-append word (blank ∷ rest))

  -- the word is what stands before the first space
  pub before_first-word : before_first is_blank (word ++ blank ∷ rest) ≡ word
  before_first-word =
      ap (λ n. take n (word ++ blank ∷ rest)) first_blank ∙ take-append_seam word (blank ∷ rest)

  -- and what follows is what stands behind it
  pub after_first-word : after_first is_blank (word ++ blank ∷ rest) ≡ rest
  after_first-word =
      ap (λ n. drop (n + 1) (word ++ blank ∷ rest)) first_blank ∙ drop-append-add word (blank ∷ rest) 1

-- a text with a space is a word, a space and more
pub cut_at_blank : (text : List ℕ)
    → position_or_len is_blank text < length text
    → text ≡ before_first is_blank text ++ blank ∷ after_first is_blank text
cut_at_blank text within =
    let byte : get_or text (position_or_len is_blank text) 0 ≡ blank =
    eqb-true _ _ (passes_at_first is_blank text 0 within) in
    split_at_first is_blank text 0 within
    ∙ ap (λ (b : ℕ). before_first is_blank text ++ b ∷ after_first is_blank text) byte

-- a byte above 32 is no space
above_blank : (byte : ℕ) → 32 < byte → is_blank byte ≡ false
above_blank byte above = elim (eqb_tells byte blank) [ inl is ↦ absurd (omega (arith, is.1)) | inr isnt ↦ isnt.0 ]

-- a decimal number has no space
pub NoBlank-decimal : (n : ℕ) → n < 2 ^ 64 → NoBlank (decimal n)
NoBlank-decimal n small k d low =
    let digits : AllDigits 10 (decimal n) = (decimal_is_IsNumeral n (omega arith)).0.1 in
    let digit = digit_at (decimal n) k digits low in
    ap is_blank (get_or_default (decimal n) k d 0 low)
    ∙ above_blank (get_or (decimal n) k 0) (omega (arith, digit.0))

-- a byte that is printed, and no space
abbrev is_printed : ℕ → Bool
is_printed byte = nat_lt 32 byte && nat_lt byte 128

-- bytes of names are printed
printed_byte : (byte : ℕ) → is_name_byte byte ≡ true → is_printed byte ≡ true
printed_byte byte is = grind (arith, nat_tests)

-- so are all of a list of them
printed_bytes : (text : List ℕ) → list_all is_name_byte text ≡ true → list_all is_printed text ≡ true
printed_bytes [] are = refl
printed_bytes (byte ∷ text) are =
    let first : is_name_byte byte ≡ true = grind (arith, nat_tests) in
    let others : list_all is_name_byte text ≡ true = grind (arith, nat_tests) in
    both_true (printed_byte byte first) (printed_bytes text others)

-- a name has bytes of names
name_bytes : (text : List ℕ) → is_name text ≡ true → list_all is_name_byte text ≡ true
unfolding is_name
name_bytes text is = grind (arith, nat_tests)

-- a text that is a name is one
named : (text : List ℕ) (P : List ℕ → Key) (key : Key)
    → option_map P (name_of text) ≡ Some key
    → is_name text ≡ true
named text P key is = elim (cases_Bool (is_name text)) [
  | inl true_is ↦ true_is
  | inr false_is ↦ absurd (let none : None ≡ Some key = rw false_is at is in cc)
]

-- behind `op:` a text that is printed is printed whole
printed_behind : (text : List ℕ)
    → take 3 text ≡ codes "op:"
    → list_all is_printed (drop 3 text) ≡ true
    → list_all is_printed text ≡ true
printed_behind text front behind =
    let whole : codes "op:" ++ drop 3 text ≡ text =
    ap (λ (t : List ℕ). t ++ drop 3 text) (sym front) ∙ take-append-drop 3 text in
    subst (λ (t : List ℕ). list_all is_printed t ≡ true) whole behind

-- a key word is printed
printed_key : (word : List ℕ) (key : Key) → key_of word ≡ Some key → list_all is_printed word ≡ true
printed_key word key is = elim (cases_Bool (bytes_eq (take 3 word) (codes "op:"))) [
  | inl operators ↦
      printed_behind word (same_text (take 3 word) (codes "op:") (sym operators))
      (printed_bytes (drop 3 word)
      (name_bytes (drop 3 word) (named (drop 3 word) keys.Operator key (rw operators at is))))
  | inr submitters ↦
      printed_bytes word (name_bytes word (named word keys.Submitter key (rw submitters at is)))
]

-- a printed text has no space
NoBlank-printed : (text : List ℕ) → list_all is_printed text ≡ true → NoBlank text
NoBlank-printed text printed k d low =
    let here : is_printed (get_or text k d) ≡ true = AllPass-from_list_all is_printed text printed k d low in
    above_blank (get_or text k d) (grind (arith, nat_tests))

-- and is ASCII
IsAscii-printed : (text : List ℕ) → list_all is_printed text ≡ true → IsAscii text
IsAscii-printed text printed k = elim (cases_lt k (length text)) [
  | inl low ↦
      (let here : is_printed (get_or text k 0) ≡ true = AllPass-from_list_all is_printed text printed k 0 low in
      let small : get_or text k 0 < 128 = grind (arith, nat_tests) in
      small)
  | inr high ↦ (let none : get_or text k 0 ≡ 0 = get_or-eq_default text 0 high in omega arith)
]

-- a key word has no space
pub NoBlank-key : (word : List ℕ) (key : Key) → key_of word ≡ Some key → NoBlank word
NoBlank-key word key is = NoBlank-printed word (printed_key word key is)

-- and is UTF-8
pub IsUtf8-key : (word : List ℕ) (key : Key) → key_of word ≡ Some key → IsUtf8 word
IsUtf8-key word key is = IsUtf8-from_ascii word (IsAscii-printed word (printed_key word key is))

-- a text that isn't UTF-8 is no key word
pub no_key : (word : List ℕ) (found : Option Key) → key_of word ≡ found → ¬ (IsUtf8 word) → found ≡ None
no_key word None is other = refl
no_key word (Some key) is other = absurd (other (IsUtf8-key word key is))

-- a moment is UTF-8
pub IsUtf8-moment : (moment : Moment) → IsUtf8 (decimal moment.seconds)
IsUtf8-moment moment =
    IsUtf8-from_ascii (decimal moment.seconds) (IsAscii-decimal moment.seconds (omega (arith, moment.not_after)))

-- it has no space
pub NoBlank-moment : (moment : Moment) → NoBlank (decimal moment.seconds)
NoBlank-moment moment = NoBlank-decimal moment.seconds (omega (arith, moment.not_after))

-- a text that is no number of seconds in the range of moments is no moment
pub no-moment : (text : List ℕ) (found : Option Moment)
    → IfNone found ((n : ℕ) → 946702800 ≤ n → n ≤ 4102444799 → text ≢ decimal n)
    → IfNone found ((moment : Moment) → text ≢ decimal moment.seconds)
no-moment text None none = λ moment. none moment.seconds moment.not_before moment.not_after
no-moment text (Some found) none = tt

-- one text spells one moment
pub moment-one : (one other : Moment) → decimal one.seconds ≡ decimal other.seconds → one ≡ other
moment-one one other is =
    same_moment one other
    (decimal_injective one.seconds other.seconds (omega (arith, one.not_after)) (omega (arith, other.not_after)) is)

-- the words of a line that asks, as they are cut off at spaces
pub record AreWords (text : List ℕ) (moment : Moment) (key : Key) (json : List ℕ) : Type 0 where
  pub first : position_or_len is_blank text < length text
  pub moment_is : before_first is_blank text ≡ decimal moment.seconds
  pub second : position_or_len is_blank (after_first is_blank text) < length (after_first is_blank text)
  pub key_is : key_of (before_first is_blank (after_first is_blank text)) ≡ Some key
  pub json_is : after_first is_blank (after_first is_blank text) ≡ json

-- a line that asks has these
pub SpellsAsk-words : (text : List ℕ) (moment : Moment) (key : Key) (json : List ℕ)
    → SpellsAsk text moment key json
    → AreWords text moment key json
SpellsAsk-words text moment key json spells =
    let front = decimal moment.seconds in
    let back = spells.word ++ blank ∷ json in
    let no_blank = NoBlank-moment moment in
    let in_word = NoBlank-key spells.word key spells.key_is in
    let rest : after_first is_blank text ≡ back =
    ap (after_first is_blank) spells.written ∙ after_first-word front back no_blank in
    record {
      first = subst (λ (t : List ℕ). position_or_len is_blank t < length t) (sym spells.written)
          (has_blank front back no_blank);
      moment_is = ap (before_first is_blank) spells.written ∙ before_first-word front back no_blank;
      second = subst (λ (t : List ℕ). position_or_len is_blank t < length t) (sym rest)
          (has_blank spells.word json in_word);
      key_is = ap (λ (t : List ℕ). key_of (before_first is_blank t)) rest
          ∙ (ap key_of (before_first-word spells.word json in_word) ∙ spells.key_is);
      json_is = ap (after_first is_blank) rest ∙ after_first-word spells.word json in_word;
    }

-- words that say a moment and a key, and more behind them, are a line that asks
pub SpellsAsk-read : (text : List ℕ) (moment : Moment) (key : Key) (json : List ℕ)
    → AreWords text moment key json
    → json ≢ []
    → length text ≤ longest_line
    → SpellsAsk text moment key json
SpellsAsk-read text moment key json words some short =
    let rest = after_first is_blank text in
    let back : rest ≡ before_first is_blank rest ++ blank ∷ json =
    cut_at_blank rest words.second ∙ ap (λ (j : List ℕ). before_first is_blank rest ++ blank ∷ j) words.json_is in
    record {
      word = before_first is_blank rest;
      written = cut_at_blank text words.first
          ∙ (ap (λ (m : List ℕ). m ++ blank ∷ rest) words.moment_is
          ∙ ap (λ (r : List ℕ). decimal moment.seconds ++ blank ∷ r) back);
      key_is = words.key_is;
      some = some;
      short = short;
    }

-- a text that lacks its first space doesn't ask
pub no_first : (text : List ℕ) → length text ≤ position_or_len is_blank text → ¬ (IsAsk text)
no_first text none ask =
    let words = SpellsAsk-words text ask.0 ask.1 ask.2 ask.3 in
    absurd (omega (arith, words.first, none))

-- nor does one that lacks its second
pub no_second : (text : List ℕ)
    → length (after_first is_blank text) ≤ position_or_len is_blank (after_first is_blank text)
    → ¬ (IsAsk text)
no_second text none ask =
    let words = SpellsAsk-words text ask.0 ask.1 ask.2 ask.3 in
    absurd (omega (arith, words.second, none))

-- nor one with nothing behind that
pub no_json : (text : List ℕ) → length (after_first is_blank (after_first is_blank text)) ≡ 0 → ¬ (IsAsk text)
no_json text none ask =
    let words = SpellsAsk-words text ask.0 ask.1 ask.2 ask.3 in
    ask.3.some (empty ask.2 (ap length (sym words.json_is) ∙ none))
  where
    empty : (xs : List ℕ) → length xs ≡ 0 → xs ≡ []
    empty [] is = refl
    empty (x ∷ xs) is = absurd (omega arith)

-- nor one without a moment
pub no_moment : (text : List ℕ)
    → ((moment : Moment) → before_first is_blank text ≢ decimal moment.seconds)
    → ¬ (IsAsk text)
no_moment text none ask = none ask.0 (SpellsAsk-words text ask.0 ask.1 ask.2 ask.3).moment_is

-- nor one without a key word
pub no_key_word : (text : List ℕ)
    → key_of (before_first is_blank (after_first is_blank text)) ≡ None
    → ¬ (IsAsk text)
no_key_word text none ask =
    let same : Some ask.1 ≡ None = sym (SpellsAsk-words text ask.0 ask.1 ask.2 ask.3).key_is ∙ none in
    absurd (cc)

-- the end of a text from a place on begins where so much is left
drop_last : (text last : List ℕ) (n : ℕ) → last ≡ drop n text → drop (length text - length last) text ≡ last
drop_last text last n is = elim (cases_lt n (length text)) [
  | inl within ↦
      (let same : length text - length last ≡ n = omega (arith, ap length is, length-drop n text) in
      ap (λ m. drop m text) same ∙ sym is)
  | inr beyond ↦
      (let size : length last ≡ 0 = omega (arith, ap length is, length-drop n text) in
      let none : drop (length text - length last) text ≡ [] =
      drop_all (length text - length last) text (omega arith) in
      none ∙ sym (is ∙ drop_all n text beyond))
]

-- what stands behind two spaces is the end of the text
module _ (text json : List ℕ) (is : json ≡ after_first is_blank (after_first is_blank text)) where
  -- it is no longer
  pub json-shorter : length json ≤ length text
  json-shorter =
      omega (arith, ap length is, length-drop {A = ℕ})

  -- and begins where so much is left
  pub json-drop : drop (length text - length json) text ≡ json
  json-drop =
      let first = position_or_len is_blank text + 1 in
      let second = position_or_len is_blank (after_first is_blank text) + 1 in
      let whole : json ≡ drop (first + second) text = is ∙ drop-drop second first text in
      drop_last text json (first + second) whole

-- a text that was read is a line that asks
pub SpellsFrom-read : (text : List ℕ) (moment : Moment) (key : Key) (json : List ℕ)
    → AreWords text moment key json
    → json ≢ []
    → length text ≤ longest_line
    → SpellsFrom text (record { moment = moment; key = key; json_at = length text - length json })
SpellsFrom-read text moment key json words some short = record {
  within = omega arith;
  spells = subst (λ (j : List ℕ). SpellsAsk text moment key j) (sym (json-drop text json (sym words.json_is)))
      (SpellsAsk-read text moment key json words some short);
}

-- a list that has a length isn't empty
pub not_empty : (xs : List ℕ) → (length xs == 0) ≡ false → xs ≢ []
not_empty [] some none = absurd (cc)
not_empty (x ∷ xs) some none = absurd (cc)
