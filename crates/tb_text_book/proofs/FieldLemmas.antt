-- Fields of a text, from its front.
use Rattle.std.proofs.Common.{◌≡◌, ◌≢◌, ℕ, ◌+◌, ◌<◌, List, [], ◌∷◌, take, drop, length, sym, ap, ◌∙◌, arith}
use Rattle.std.specs.List.{position_or_len}
use Rattle.std.proofs.lemmas.List.Splits.{slice_split_first, slice_split_none, length-slice_split}
use Rattle.std.proofs.lemmas.List.Sums.{fails_before_first, prefix_len-le-length}
use Rattle.std.proofs.lemmas.Bool.Decides.{nat_tests}
use Rattle.std.specs.Prelude.{None, Option, Some, not, position}
use Rattle.std.specs.Borrow.{Bor}
use Rattle.tb_text_book.specs.Fields.{fields, fields_of, is_blank}

-- a text has at least one field
pub fields-some : (text : List ℕ) → 0 < length (fields text)
fields-some text = rw (length-slice_split is_blank text) (omega arith)

-- a text without blanks is one field
pub fields-whole : (text : List ℕ) → position_or_len is_blank text ≡ length text → fields text ≡ text ∷ []
fields-whole text whole =
    slice_split_none is_blank text (λ k d below. fails_before_first is_blank text k d (rw whole below))

-- a text with a blank is a field and the fields behind that
pub fields-first : (text : List ℕ) (end : ℕ)
    → position is_blank text ≡ Some end
    → fields text ≡ take end text ∷ fields (drop (end + 1) text)
fields-first text end is =
    let within : position_or_len is_blank text < length text = grind (arith, nat_tests) in
    let at : position_or_len is_blank text ≡ end = grind (arith, nat_tests) in
    rw (← at) (slice_split_first is_blank text 0 within)

-- a text without one is a field
pub fields-only : (text : List ℕ) → position is_blank text ≡ None → fields text ≡ text ∷ []
fields-only text none =
    let most = prefix_len-le-length (λ byte. not (is_blank byte)) text in
    fields-whole text (grind (arith, nat_tests))

-- no text is without fields
pub fields-not_none : (text : List ℕ) → fields text ≢ []
fields-not_none text none = absurd (omega (arith, fields-some text, ap length none))

-- two fields before others are more than two
pub fields_of-not_two : (all others more : Option (Bor (List ℕ))) (text behind rest : Bor (List ℕ))
    (first second : List ℕ)
    → all ≡ Some text
    → fields text.now ≡ first ∷ fields_of others
    → others ≡ Some behind
    → fields behind.now ≡ second ∷ fields_of more
    → more ≡ Some rest
    → length (fields_of all) ≢ 2
fields_of-not_two all others more text behind rest first second all_is text_is others_is behind_is more_is two =
    let long : 0 < length (fields rest.now) = fields-some rest.now in
    let one : fields_of others ≡ second ∷ fields rest.now =
    ap fields_of others_is ∙ behind_is ∙ ap (λ o. second ∷ fields_of o) more_is in
    let whole : fields_of all ≡ first ∷ second ∷ fields rest.now =
    ap fields_of all_is ∙ text_is ∙ ap (λ texts. first ∷ texts) one in
    absurd (omega (arith, ap length whole, two, long))

-- a text has at least one field
pub fields_of-not_none : (all : Option (Bor (List ℕ))) (text : Bor (List ℕ)) → all ≡ Some text → fields_of all ≢ []
fields_of-not_none all text is none = fields-not_none text.now (sym (ap fields_of is) ∙ none)
