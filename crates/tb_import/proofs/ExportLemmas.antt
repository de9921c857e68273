-- What is exported needs no quotes, and what one record more adds to a text.
use Rattle.std.proofs.Common.{◌≡◌, ℕ, ◌+◌, ◌≤◌, ◌<◌, ◌/◌, ◌%◌, ◌^◌, List, [], ◌∷◌, ◌++◌, true, false, refl}
use Rattle.std.proofs.Common.{ap, ◌∙◌, sym, arith, append_assoc, get_or, length, map, take}
use Rattle.std.specs.Prelude.{Result, Ok, Err, IfOk, codes}
use Rattle.std.specs.List.{list_all, list_any, AllByRecursion}
use Rattle.std.specs.Fmt.{decimal}
use Rattle.std.proofs.lemmas.Bool.Decides.{nat_tests}
use Rattle.std.proofs.lemmas.Fmt.{decimal_by_steps_wide}
use Rattle.std.proofs.lemmas.List.{append-nil, map-append, take_more}
use Rattle.csv.specs.Writing.{default_writer, field_text, fields_text, is_blank, needs_byte, row_text}
use Rattle.tb_units.specs.Decimals.{cents_text}
use Rattle.tb_units.specs.Names.{is_name, is_name_byte}
use Rattle.tb_terms.specs.Cusips.{is_cusip, is_cusip_byte}
use Rattle.tb_history.specs.declared.readings.AwardLine.{AwardLine}
use Rattle.tb_history.specs.declared.readings.AddOnLine.{AddOnLine}
use Rattle.tb_history.specs.declared.readings.HoldingLine.{HoldingLine}
use Rattle.tb_import.specs.Rows.{Text, Fields}
use Rattle.tb_import.specs.Exports.{fields_of_award, award_fields, add_on_fields, holding_fields, plain_text}

-- all bytes are behind the comma, the quote mark and the ends of lines
abbrev AllHigh : Text → Type 0
AllHigh text = AllByRecursion (λ byte. 45 ≤ byte) text

-- such a byte needs no quotes
high_byte : (byte : ℕ) → 45 ≤ byte → needs_byte default_writer byte ≡ false
high_byte byte high = grind (arith, nat_tests, high)

-- nor does a field of them
high_field : (field : Text) → AllHigh field → list_any (needs_byte default_writer) field ≡ false
high_field [] high = refl
high_field (byte ∷ field) high = rw (high_byte byte high.0) (high_field field high.1)

-- it stands as it is
plain_field : (field : Text) → AllHigh field → field_text default_writer field ≡ field
plain_field field high = rw (high_field field high) refl

-- a text of two parts
high-append : (front rest : Text) → AllHigh front → AllHigh rest → AllHigh (front ++ rest)
high-append [] rest high more = more
high-append (byte ∷ front) rest high more = (high.0, high-append front rest high.1 more)

-- digits are high
high_decimal : (n : ℕ) → n < 10 ^ 64 → AllHigh (decimal n)
high_decimal n small =
    decimal_by_steps_wide (λ n digits. AllHigh digits) (λ n few. (omega arith, tt))
    (λ n digits big high. high-append digits ((48 + n % 10) ∷ []) high (omega arith, tt)) n small

-- so are cents
high_cents : (n : ℕ) → n < 2 ^ 128 → AllHigh (cents_text n)
high_cents n small =
    high-append (decimal (n / 10 ^ 2)) _ (high_decimal (n / 10 ^ 2) (omega arith))
    (omega arith, (omega arith, (omega arith, tt)))

-- a byte of names is high
high_name_byte : (byte : ℕ) → is_name_byte byte ≡ true → 45 ≤ byte
high_name_byte byte is = grind (arith, nat_tests, is)

-- so are all bytes of names
high_name_bytes : (name : Text) → list_all is_name_byte name ≡ true → AllHigh name
high_name_bytes [] all = tt
high_name_bytes (byte ∷ name) all =
    (high_name_byte byte (grind (arith, all)), high_name_bytes name (grind (arith, all)))

-- a name is high
high_name : (name : Text) → is_name name ≡ true → AllHigh name
unfolding is_name
high_name name is = high_name_bytes name (grind (arith, is))

-- a byte of CUSIPs is high
high_cusip_byte : (byte : ℕ) → is_cusip_byte byte ≡ true → 45 ≤ byte
high_cusip_byte byte is = grind (arith, nat_tests, is)

-- so are all bytes of CUSIPs
high_cusip_bytes : (bytes : Text) → list_all is_cusip_byte bytes ≡ true → AllHigh bytes
high_cusip_bytes [] all = tt
high_cusip_bytes (byte ∷ bytes) all =
    (high_cusip_byte byte (grind (arith, all)), high_cusip_bytes bytes (grind (arith, all)))

-- a CUSIP is high
high_cusip : (bytes : Text) → is_cusip bytes ≡ true → AllHigh bytes
high_cusip bytes is = high_cusip_bytes bytes (grind (arith, is))

-- fields that are high stand as they are, behind a first one that does
plain_fields : (field : Text) (fields : Fields)
    → field_text default_writer field ≡ field
    → AllByRecursion AllHigh fields
    → (field_text default_writer field ++ fields_text default_writer fields) ++ 10 ∷ [] ≡ plain_text (field ∷ fields)
unfolding fields_text
plain_fields field [] plain all = rw (plain, append-nil field) refl
plain_fields field (next ∷ fields) plain all =
    let rest : Text = field_text default_writer next ++ fields_text default_writer fields in
    rw plain (append_assoc field (44 ∷ rest) (10 ∷ [])
    ∙ ap (λ (t : Text). field ++ 44 ∷ t) (plain_fields next fields (plain_field next all.0) all.1))

-- a record of two such fields or more stands as it is
plain_record : (field next : Text) (fields : Fields)
    → field_text default_writer field ≡ field
    → AllHigh next
    → AllByRecursion AllHigh fields
    → row_text default_writer (field ∷ next ∷ fields) ≡ plain_text (field ∷ next ∷ fields)
unfolding is_blank
plain_record field next fields plain more all = plain_fields field (next ∷ fields) plain (more, all)

-- the record of an award stands as it is, where the name of whose it is does
plain_whose : (whose : Text) (amount payment : ℕ)
    → field_text default_writer whose ≡ whose
    → amount < 2 ^ 128
    → payment < 2 ^ 128
    → row_text default_writer (fields_of_award whose amount payment) ≡ plain_text (fields_of_award whose amount payment)
plain_whose whose amount payment plain few cents =
    plain_record whose (decimal amount) (cents_text payment ∷ []) plain
    (high_decimal amount (omega (arith, few))) (high_cents payment cents, tt)

-- the record of a bidder's award stands as it is
pub plain_award : (line : AwardLine)
    → is_name line.bidder ≡ true
    → line.amount.value < 2 ^ 128
    → line.payment.value < 2 ^ 128
    → row_text default_writer (award_fields line) ≡ plain_text (award_fields line)
plain_award line named amount payment =
    plain_whose line.bidder line.amount.value line.payment.value (plain_field line.bidder (high_name line.bidder named))
    amount payment

-- so does that of an add-on
pub plain_add_on : (line : AddOnLine)
    → line.amount.value < 2 ^ 128
    → line.payment.value < 2 ^ 128
    → row_text default_writer (add_on_fields line) ≡ plain_text (add_on_fields line)
plain_add_on line amount payment =
    plain_whose (codes "+") line.amount.value line.payment.value refl amount payment

-- so does that of a holding
pub plain_holding : (line : HoldingLine)
    → is_cusip line.cusip.bytes ≡ true
    → line.held.value < 2 ^ 128
    → line.pledged.value < 2 ^ 128
    → line.free.value < 2 ^ 128
    → row_text default_writer (holding_fields line) ≡ plain_text (holding_fields line)
plain_holding line checked held pledged free =
    plain_record line.cusip.bytes (decimal line.held.value) (decimal line.pledged.value ∷ decimal line.free.value ∷ [])
    (plain_field line.cusip.bytes (high_cusip line.cusip.bytes checked))
    (high_decimal line.held.value (omega (arith, held)))
    (high_decimal line.pledged.value (omega (arith, pledged)), (high_decimal line.free.value (omega (arith, free)), tt))

-- one line more of a table
pub one_more : {L : Type 0} (fields_of : L → Fields) (header : Fields) (lines : List L) (place : ℕ) (line : L)
    → line ≡ get_or lines place line
    → place < length lines
    → header ∷ map fields_of (take (place + 1) lines) ≡ (header ∷ map fields_of (take place lines))
    ++ fields_of line ∷ []
one_more {L} fields_of header lines place line is fits =
    ap (λ (r : List L). header ∷ map fields_of r) (take_more lines place line fits)
    ∙ ap (λ (r : List Fields). header ∷ r) (map-append fields_of (take place lines) (get_or lines place line ∷ []))
    ∙ ap (λ (l : L). header ∷ (map fields_of (take place lines) ++ fields_of l ∷ [])) (sym is)

-- what is said of an answer is said of it in other words
pub in_other_words : {T E : Type 0} (result : Result T E) (P Q : T → Type 0)
    → ((x : T) → P x → Q x)
    → IfOk result P
    → IfOk result Q
in_other_words (Ok x) P Q more is = more x is
in_other_words (Err e) P Q more is = tt
