-- The number that a text spells: it is found where the spellings are one to one, and only then.
use Rattle.std.proofs.Common.{◌≡◌, ◌≢◌, ℕ, zero, suc, ◌+◌, ◌<◌, ◌≤◌, List, Option, Some, None, inl, inr, refl, sym, ap, ◌∙◌, arith}
use Rattle.std.specs.Prelude.{bytes_eq, option_map, IfSome, IfNone}
use Rattle.tb_units.specs.declared.day.Day.{Day}
use Rattle.std.proofs.lemmas.Bool.{cases_Bool}
use Rattle.std.proofs.lemmas.Slice.Eq.{bytes_eq-Decides}
use Rattle.tb_terms.specs.Texts.{spelled_in, day_text, day_of, minute_text, minute_of}
use Rattle.tb_terms.proofs.TextFacts.{day_text-one, minute_text-one}

-- no two numbers of the range are spelled alike
abbrev pub SpellsApart : (ℕ → List ℕ) → ℕ → ℕ → Type 0
SpellsApart spell least count =
    (one other : ℕ) → least ≤ one → one < least + count → least ≤ other → other < least + count → spell one
    ≡ spell other → one ≡ other

-- the text of a number of the range spells that number
pub spelled_in-of : (spell : ℕ → List ℕ) (least count : ℕ) (text : List ℕ) (n : ℕ)
    → SpellsApart spell least count
    → least ≤ n
    → n < least + count
    → text ≡ spell n
    → spelled_in spell least count text ≡ Some n
unfolding spelled_in
spelled_in-of spell least zero text n apart from below is = absurd (omega arith)
spelled_in-of spell least (suc count) text n apart from below is =
    elim (cases_Bool (bytes_eq (spell (least + count)) text)) [
      | inl same ↦
          let spelled : spell (least + count) ≡ text = (bytes_eq-Decides (spell (least + count)) text).0 same in
          let number : least + count ≡ n =
          apart (least + count) n (omega arith) (omega arith) from below (spelled ∙ is) in
          rw same (ap Some number)
      | inr other ↦
          let apart_too : SpellsApart spell least count =
          λ one two f b g c. apart one two f (omega (arith, b)) g (omega (arith, c)) in
          let differs : n ≢ least + count = λ number. absurd (
          let t = (bytes_eq-Decides (spell (least + count)) text).1 (sym (ap spell number) ∙ sym is) in cc
          ) in
          rw other (spelled_in-of spell least count text n apart_too from (omega (arith, differs)) is)
    ]

-- a text that is that of no number of the range spells none
pub spelled_in-none : (spell : ℕ → List ℕ) (least count : ℕ) (text : List ℕ)
    → ((n : ℕ) → least ≤ n → n < least + count → text ≢ spell n)
    → spelled_in spell least count text ≡ None
unfolding spelled_in
spelled_in-none spell least zero text none = refl
spelled_in-none spell least (suc count) text none =
    elim (cases_Bool (bytes_eq (spell (least + count)) text)) [
      | inl same ↦ absurd (none (least + count) (omega arith) (omega arith)
          (sym ((bytes_eq-Decides (spell (least + count)) text).0 same)))
      | inr other ↦ rw other (spelled_in-none spell least count text (λ n from below. none n from (omega arith)))
    ]

-- the text of a day spells it
pub day_of-text : (text : List ℕ) (day : ℕ) → 10957 ≤ day → day ≤ 47481 → text ≡ day_text day → day_of text ≡ Some day
day_of-text text day from to is =
    spelled_in-of day_text 10957 36525 text day
    (λ one other f b g c same. day_text-one one other f (omega (arith, b)) g (omega (arith, c)) same)
    from (omega arith) is

-- another text spells no day
pub day_of-none : (text : List ℕ) → ((n : ℕ) → 10957 ≤ n → n ≤ 47481 → text ≢ day_text n) → day_of text ≡ None
day_of-none text none = spelled_in-none day_text 10957 36525 text (λ n from below. none n from (omega arith))

-- the text of a minute spells it
pub minute_of-text : (text : List ℕ) (minute : ℕ)
    → minute < 1440
    → text ≡ minute_text minute
    → minute_of text ≡ Some minute
minute_of-text text minute below is =
    spelled_in-of minute_text 0 1440 text minute
    (λ one other f b g c same. minute_text-one one other (omega (arith, b)) (omega (arith, c)) same)
    (omega arith) (omega arith) is

-- another text spells no minute
pub minute_of-none : (text : List ℕ) → ((n : ℕ) → n < 1440 → text ≢ minute_text n) → minute_of text ≡ None
minute_of-none text none = spelled_in-none minute_text 0 1440 text (λ n from below. none n (omega arith))

-- what is read of a text is the day that it spells
pub day_of-read : (text : List ℕ) (found : Option Day)
    → IfSome found (λ day. text ≡ day_text day.number)
    → IfNone found ((n : ℕ) → 10957 ≤ n → n ≤ 47481 → text ≢ day_text n)
    → option_map (λ day. day.number) found ≡ day_of text
day_of-read text (Some day) read none = sym (day_of-text text day.number day.not_before day.not_after read)
day_of-read text None read none = sym (day_of-none text none)

-- and the minute
pub minute_of-read : (text : List ℕ) (found : Option ℕ)
    → IfSome found (λ minute. (minute < 1440) × (text ≡ minute_text minute))
    → IfNone found ((n : ℕ) → n < 1440 → text ≢ minute_text n)
    → found ≡ minute_of text
minute_of-read text (Some minute) read none = sym (minute_of-text text minute read.0 read.1)
minute_of-read text None read none = sym (minute_of-none text none)
