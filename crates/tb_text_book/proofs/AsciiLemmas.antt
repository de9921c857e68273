-- The lines of a book are texts of ASCII.
use Rattle.std.proofs.Common.{◌≡◌, ℕ, ℤ, pos, negsuc, ◌+◌, ◌*◌, ◌<◌, ◌≤◌, ◌^◌, List, [], ◌∷◌, length, get_or, true, false, sym, subst, arith, lit<, refl}
use Rattle.std.specs.Prelude.{Bool, IfSome, Option, Some, None, nat_lt, if◌then◌else◌}
use Rattle.std.specs.Fmt.{signed_decimal}
use Rattle.std.specs.List.{after_first, before_first, join_with_byte, list_all, list_any, position_or_len}
use Rattle.std.specs.Option.{option_and_then, option_map}
use Rattle.std.specs.Str.{IsAscii, IsUtf8, all_ascii_digits}
use Rattle.std.proofs.lemmas.Bool.Decides.{nat_tests}
use Rattle.std.proofs.lemmas.Fmt.{IsAscii-decimal, IsAscii-signed}
use Rattle.std.proofs.lemmas.List.Splits.{join_with_byte-slice_split}
use Rattle.std.proofs.lemmas.Str.{IsAscii-append, IsUtf8-from_ascii}
use Rattle.std.proofs.lemmas.Str.Ascii.{IsAscii-cons, IsAscii-nil}
use Rattle.std.proofs.lemmas.List.Sums.{passes_at_first, split_at_first}
use Rattle.tb_units.proofs.RateLemmas.{list_any-point}
use Rattle.tb_units.specs.Names.{is_name, is_name_byte}
use Rattle.tb_units.specs.Rates.{is_point, short_numeral_of, thousandths_of, thousandths_of_decimals}
use Rattle.tb_units.specs.declared.rate.Rate.{Rate}
use Rattle.tb_text_book.specs.BookLines.{AreBidFields, IsPosition, Says, Spells}
use Rattle.tb_text_book.specs.Fields.{fields}
use Rattle.tb_lines.specs.LineEnds.{longest_line}
use Rattle.tb_text_book.specs.Words.{spelling_of}
use Rattle.tb_text_book.specs.declared.word.Word.{Word}
use Rattle.tb_text_book.specs.declared.word.Word.TheVariants as words
use Rattle.tb_text_book.specs.declared.book_line.BookLine.{BookLine}
use Rattle.tb_text_book.specs.declared.book_line.BookLine.TheVariants as kind
use Rattle.tb_text_book.specs.declared.book_line.Entry.TheVariants as entry

-- a byte of ASCII
abbrev is_ascii_byte : ℕ → Bool
is_ascii_byte byte = nat_lt byte 128

-- a text that passes byte by byte is of ASCII
IsAscii-pass : (text : List ℕ) → list_all is_ascii_byte text ≡ true → IsAscii text
IsAscii-pass [] passes = IsAscii-nil
IsAscii-pass (byte ∷ bytes) passes =
    IsAscii-cons byte bytes (grind (arith, nat_tests)) (IsAscii-pass bytes (grind (arith, nat_tests)))

-- bytes of names are of ASCII
names-pass : (text : List ℕ) → list_all is_name_byte text ≡ true → list_all is_ascii_byte text ≡ true
names-pass [] passes = refl
names-pass (byte ∷ bytes) passes =
    let rest : list_all is_ascii_byte bytes ≡ true = names-pass bytes (grind (arith, nat_tests)) in
    grind (arith, nat_tests)

-- and so are digits
digits-pass : (text : List ℕ) → all_ascii_digits text ≡ true → list_all is_ascii_byte text ≡ true
digits-pass [] passes = refl
digits-pass (byte ∷ bytes) passes =
    let rest : list_all is_ascii_byte bytes ≡ true = digits-pass bytes (grind (arith, nat_tests)) in
    grind (arith, nat_tests)

-- a name is of ASCII
is_name-ascii : (name : List ℕ) → is_name name ≡ true → IsAscii name
unfolding is_name
is_name-ascii name named = IsAscii-pass name (names-pass name (grind (arith, nat_tests)))

-- a short numeral is of ASCII
short_numeral_of-ascii : (text : List ℕ) (n : ℕ) → short_numeral_of text ≡ Some n → IsAscii text
short_numeral_of-ascii text n is = IsAscii-pass text (digits-pass text (grind (arith, nat_tests)))

-- what a function is applied to where it gives a value
option_map-some : (f : ℕ → ℕ) (o : Option ℕ) (n : ℕ) → option_map f o ≡ Some n → (m : ℕ) × (o ≡ Some m)
option_map-some f None n is = absurd (cc)
option_map-some f (Some m) n is = (m, refl)

-- the same where the function gives one or none
option_and_then-some : (f : ℕ → Option ℕ) (o : Option ℕ) (n : ℕ)
    → option_and_then f o ≡ Some n
    → (m : ℕ) × (o ≡ Some m) × (f m ≡ Some n)
option_and_then-some f None n is = absurd (cc)
option_and_then-some f (Some m) n is = (m, refl, is)

-- decimals are of ASCII
decimals-ascii : (text : List ℕ) (n : ℕ) → thousandths_of_decimals text ≡ Some n → IsAscii text
decimals-ascii text n is =
    let short = option_map-some _ (short_numeral_of text) n is in
    short_numeral_of-ascii text short.0 short.1

-- a text is of ASCII where it is before its first point and behind it
points-ascii : (text : List ℕ)
    → list_any is_point text ≡ true
    → IsAscii (before_first is_point text)
    → IsAscii (after_first is_point text)
    → IsAscii text
points-ascii text some before after =
    let within : position_or_len is_point text < length text = grind (arith, nat_tests, list_any-point text) in
    let point = passes_at_first is_point text 0 within in
    let small : get_or text (position_or_len is_point text) 0 < 128 = grind (arith, nat_tests) in
    subst IsAscii (sym (split_at_first is_point text 0 within))
    (IsAscii-append (before_first is_point text) _ before (IsAscii-cons _ (after_first is_point text) small after))

-- fields of ASCII
abbrev AreAscii : List (List ℕ) → Type 0
AreAscii [] = Unit {0}
AreAscii (text ∷ texts) = IsAscii text × AreAscii texts

-- texts of ASCII with blanks between them are of ASCII
join-ascii : (texts : List (List ℕ)) → AreAscii texts → IsAscii (join_with_byte 32 texts)
join-ascii [] all = IsAscii-nil
join-ascii (text ∷ []) all = all.0
join-ascii (text ∷ next ∷ texts) all =
    IsAscii-append text _ all.0 (IsAscii-cons 32 _ (lit< tt) (join-ascii (next ∷ texts) all.1))

-- a text is of ASCII where its fields are
fields-ascii : (text : List ℕ) → AreAscii (fields text) → IsAscii text
fields-ascii text all = subst IsAscii (join_with_byte-slice_split 32 text) (join-ascii (fields text) all)

-- the two forms of a rate are of ASCII
rate-ascii : (text : List ℕ) (n : ℕ) (has_point : Bool)
    → list_any is_point text ≡ has_point
    → (if has_point
    then option_and_then
    (λ whole. option_map (λ thousandths. 1000 * whole + thousandths)
    (thousandths_of_decimals (after_first is_point text)))
    (short_numeral_of (before_first is_point text))
    else option_map (λ whole. 1000 * whole) (short_numeral_of text)) ≡ Some n
    → IsAscii text
rate-ascii text n true has is =
    let whole = option_and_then-some _ (short_numeral_of (before_first is_point text)) n is in
    let parts = option_map-some _ (thousandths_of_decimals (after_first is_point text)) n whole.2 in
    points-ascii text has (short_numeral_of-ascii _ whole.0 whole.1) (decimals-ascii _ parts.0 parts.1)
rate-ascii text n false has is =
    let whole = option_map-some _ (short_numeral_of text) n is in
    short_numeral_of-ascii text whole.0 whole.1

-- a rate is of ASCII
thousandths_of-ascii : (text : List ℕ) (n : ℕ) → thousandths_of text ≡ Some n → IsAscii text
unfolding thousandths_of
thousandths_of-ascii text n is = rate-ascii text n (list_any is_point text) refl is

-- a position is of ASCII
position-ascii : (position : ℤ) → IsPosition position → IsAscii (signed_decimal position)
position-ascii (pos n) small = IsAscii-signed (pos n) (omega arith)
position-ascii (negsuc n) small = IsAscii-signed (negsuc n) (omega arith)

-- the words that lines begin with are of ASCII
spelling_of-ascii : (word : Word) → IsAscii (spelling_of word)
spelling_of-ascii words.Offering = IsAscii-pass (spelling_of words.Offering) refl
spelling_of-ascii words.Noncompetitive = IsAscii-pass (spelling_of words.Noncompetitive) refl
spelling_of-ascii words.Competitive = IsAscii-pass (spelling_of words.Competitive) refl
spelling_of-ascii words.Position = IsAscii-pass (spelling_of words.Position) refl
spelling_of-ascii words.End = IsAscii-pass (spelling_of words.End) refl

-- and so is a text that is one of them
word-ascii : (text : List ℕ) (word : Word) → text ≡ spelling_of word → IsAscii text
word-ascii text word is = subst IsAscii (sym is) (spelling_of-ascii word)

-- the fields of a bid are of ASCII
AreBidFields-ascii : (word : List ℕ) (texts : List (List ℕ)) (bidder : List ℕ) (rate : Option Rate) (amount : ℕ)
    → AreBidFields word texts bidder rate amount
    → is_name bidder ≡ true
    → amount ≤ 10 ^ 12
    → AreAscii (word ∷ texts)
AreBidFields-ascii word texts bidder None amount are named small = (
  word-ascii word words.Noncompetitive are.0,
  subst AreAscii (sym are.1) (is_name-ascii bidder named, (IsAscii-decimal amount (omega arith), tt)),
)
AreBidFields-ascii word texts bidder (Some rate) amount are named small =
    let spelling = thousandths_of-ascii are.1.0 _ are.1.1 in (
      word-ascii word words.Competitive are.0,
      subst AreAscii (sym are.1.2)
          (is_name-ascii bidder named, (spelling, (IsAscii-decimal amount (omega arith), tt))),
    )

-- the fields of a line are of ASCII
Says-ascii : (texts : List (List ℕ)) (line : BookLine) → Says texts line → AreAscii texts
Says-ascii [] line says = tt
Says-ascii (word ∷ texts) (kind.Offering offering) says =
    let fields = says.1 in (
      word-ascii word words.Offering says.0,
      subst AreAscii (sym fields.written) (
        IsAscii-decimal offering.amount.value (omega (arith, fields.amount.within)),
        (
          IsAscii-decimal offering.floor.value (omega (arith, fields.floor.within, fields.amount.within)),
          (IsAscii-decimal offering.days.count (omega (arith, fields.days.few)), tt),
        ),
      ),
    )
Says-ascii (word ∷ texts) (kind.Entry (entry.Bid bid)) says =
    AreBidFields-ascii word texts bid.bidder bid.rate bid.amount.value says.written says.bidder says.amount.within
Says-ascii (word ∷ texts) (kind.Entry (entry.Report report)) says = (
  word-ascii word words.Position says.word_is,
  subst AreAscii (sym says.written)
      (is_name-ascii report.bidder says.bidder, (position-ascii report.position says.position, tt)),
)
Says-ascii (word ∷ texts) kind.End says = (
  word-ascii word words.End says.0,
  subst AreAscii (sym says.1) tt,
)

-- a text whose fields are those of a line is UTF-8
Says-utf8 : (text : List ℕ) (line : BookLine) → Says (fields text) line → IsUtf8 text
Says-utf8 text line says = IsUtf8-from_ascii text (fields-ascii text (Says-ascii (fields text) line says))

-- so that what its fields say is what it spells, where it is short
pub Spells-read : (text : List ℕ) (line : Option BookLine)
    → length text ≤ longest_line
    → IfSome line (Says (fields text))
    → IfSome line (Spells text)
Spells-read text None short says = tt
Spells-read text (Some line) short says = record {
  utf8 = Says-utf8 text line says;
  short = short;
  says = says;
}
