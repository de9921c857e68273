-- Lines, one behind another.
use Rattle.std.proofs.Common.{◌≡◌, ℕ, List, [], ◌∷◌, ◌++◌, map, refl, sym, ap, ◌∙◌, append_assoc}
use Rattle.std.specs.List.{flat_map}
use Rattle.std.proofs.lemmas.List.{append-nil, flat_map_more, map-append}
use Rattle.std.proofs.lemmas.List.Concat.{flat_map-append}
use Rattle.tb_report.specs.Lines.{Words, line, text_of, with_lines}

-- in one order of brackets
pub ruleset joined = (append_assoc, append-nil)

-- further lines stand behind the text
pub with_lines-is : (text : List ℕ) (lines : List Words) → with_lines text lines ≡ text ++ text_of lines
with_lines-is text [] = sym (append-nil text)
with_lines-is text (words ∷ lines) =
    with_lines-is (text ++ line words) lines ∙ append_assoc text (line words) (text_of lines)

-- a line behind lines
pub with_lines-more : (text : List ℕ) (lines : List Words) (words : Words)
    → with_lines text lines ++ line words ≡ with_lines text (lines ++ words ∷ [])
with_lines-more text [] words = refl
with_lines-more text (first ∷ lines) words = with_lines-more (text ++ line first) lines words

-- a line of a label and a word behind lines
pub told : {new was : List ℕ} (text : List ℕ) (lines : List Words) (label value word : List ℕ)
    → new ≡ was ++ line (label ∷ value ∷ [])
    → value ≡ word
    → was ≡ with_lines text lines
    → new ≡ with_lines text (lines ++ (label ∷ word ∷ []) ∷ [])
told {new} {was} text lines label value word pushed is before =
    pushed
    ∙ ap (λ v. was ++ line (label ∷ v ∷ [])) is
    ∙ ap (λ t. t ++ line (label ∷ word ∷ [])) before
    ∙ with_lines-more text lines (label ∷ word ∷ [])

-- lines and then more of them stand behind the text as the lines together
pub with_lines_joined : (text : List ℕ) (lines more : List Words)
    → with_lines (with_lines text lines) more ≡ with_lines text (lines ++ more)
with_lines_joined text [] more = refl
with_lines_joined text (words ∷ lines) more = with_lines_joined (text ++ line words) lines more

-- lines and then more of them are the lines together
pub with_lines-twice : (text : List ℕ) (lines more : List Words)
    → with_lines (with_lines text lines) more ≡ text ++ text_of (lines ++ more)
with_lines-twice text lines more = with_lines_joined text lines more ∙ with_lines-is text (lines ++ more)

-- the same of texts
pub text_of_joined : (text : List ℕ) (lines more : List Words)
    → (text ++ text_of lines) ++ text_of more ≡ text ++ text_of (lines ++ more)
text_of_joined text lines more =
    append_assoc text (text_of lines) (text_of more) ∙ ap (λ t. text ++ t) (sym (flat_map-append line lines more))

-- one line more of a list
pub lines-more : {X : Type 0} (words : X → Words) (text : List ℕ) (xs : List X) (x : X)
    → (text ++ text_of (map words xs)) ++ line (words x) ≡ text ++ text_of (map words (xs ++ x ∷ []))
lines-more words text xs x =
    flat_map_more line text (map words xs) (words x)
    ∙ ap (λ lines. text ++ flat_map line lines) (sym (map-append words xs (x ∷ [])))
