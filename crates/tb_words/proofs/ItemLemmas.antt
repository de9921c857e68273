-- What each word behind a command's name adds to the items.
use Rattle.std.proofs.Common.{◌≡◌, List, [], ◌∷◌, refl, true, false, Some, codes, ◌∙◌, arith, length, ltb}
use Rattle.std.specs.List.{list_any, before_first, after_first, position_or_len}
use Rattle.std.proofs.lemmas.Bool.Decides.{nat_tests}
use Rattle.std.specs.Str.{bytes_eq}
use Rattle.tb_words.specs.Items.{Text, place, option, csv, is_dashed, is_equals, items_from, items_of}

-- no word, no item
pub items_of-nil : items_of [] ≡ []
unfolding items_from
items_of-nil = refl

-- a word with no hyphen in front is a positional word
pub items_of-place : (word : Text) (words : List Text)
    → is_dashed word ≡ false
    → items_of (word ∷ words) ≡ place word ∷ items_of words
unfolding items_from
items_of-place word words plain = rw (plain) refl

-- the switch
pub items_of-csv : (word : Text) (words : List Text)
    → is_dashed word ≡ true
    → bytes_eq word (codes "--csv") ≡ true
    → items_of (word ∷ words) ≡ csv ∷ items_of words
unfolding items_from
items_of-csv word words dashed switch = rw (dashed, switch) refl

-- an option in one word
pub items_of-equals : (word : Text) (words : List Text)
    → is_dashed word ≡ true
    → bytes_eq word (codes "--csv") ≡ false
    → list_any is_equals word ≡ true
    → items_of (word ∷ words) ≡ option (before_first is_equals word) (after_first is_equals word) ∷ items_of words
unfolding items_from
items_of-equals word words dashed other equals = rw (dashed, other, equals) refl

-- an option in two words
pub items_of-name : (word : Text) (words : List Text)
    → is_dashed word ≡ true
    → bytes_eq word (codes "--csv") ≡ false
    → list_any is_equals word ≡ false
    → items_of (word ∷ words) ≡ items_from (Some word) words
unfolding items_from
items_of-name word words dashed other equals = rw (dashed, other, equals) refl

-- an equals sign stands in a word just where the first is before its end
list_any-equals : (word : Text) → list_any is_equals word ≡ ltb (position_or_len is_equals word) (length word)
list_any-equals [] = refl
list_any-equals (byte ∷ word) = grind (arith, nat_tests, list_any-equals word)

-- no equals sign stands in the word
pub no_equals : (word : Text) → position_or_len is_equals word ≡ length word → list_any is_equals word ≡ false
no_equals word none = list_any-equals word ∙ grind (arith, nat_tests)
