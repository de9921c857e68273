-- What stands behind the name of a command, read from the left.
use Rattle.std.specs.Prelude.{ℕ, ◌==◌, ◌&&◌, List, [], ◌∷◌, Bool, true, false, if◌then◌else◌}
use Rattle.std.specs.Prelude.{Option, Some, None, codes, slice_index, length, nat_lt}
use Rattle.std.specs.List.{list_any, before_first, after_first, filter_map}
use Rattle.std.specs.Str.{bytes_eq}

abbrev pub Text : Type 0
Text = List ℕ

-- a positional word; an option with its value; the switch `--csv`; an option without its value
pub data Item : Type 0 where
  place : Text → Item
  option : Text → Text → Item
  csv : Item
  bare : Item

-- a hyphen stands in front
abbrev pub is_dashed : Text → Bool
is_dashed word = nat_lt 0 (length word) && (slice_index word 0 == 45)

-- an equals sign
abbrev pub is_equals : ℕ → Bool
is_equals byte = byte == 61

-- an option whose value is a word of its own, which has no hyphen in front
abbrev pub option_with : Text → Text → Item
option_with name word = if is_dashed word then bare else option name word

-- the items of the words, where an option may wait for its value: `--name=value` is an option in one word, any other
-- word with a hyphen in front but `--csv` is an option whose value comes next
unfoldable pub items_from : Option Text → List Text → List Item
items_from None [] = []
items_from None (word ∷ words) =
    if is_dashed word
    then (if bytes_eq word (codes "--csv") then csv ∷ items_from None words
    else (if list_any is_equals word
    then option (before_first is_equals word) (after_first is_equals word) ∷ items_from None words
    else items_from (Some word) words))
    else place word ∷ items_from None words
items_from (Some name) [] = bare ∷ []
items_from (Some name) (word ∷ words) = option_with name word ∷ items_from None words

-- the items of the words behind a command's name
abbrev pub items_of : List Text → List Item
items_of words = items_from None words

abbrev pub place_in : Item → Option Text
place_in (place word) = Some word
place_in (option name value) = None
place_in csv = None
place_in bare = None

-- the positional words in their order
abbrev pub places_in : List Item → List Text
places_in items = filter_map place_in items

abbrev pub value_in : Text → Item → Option Text
value_in wanted (place word) = None
value_in wanted (option name value) = if bytes_eq name wanted then Some value else None
value_in wanted csv = None
value_in wanted bare = None

-- the values of the options of this name
abbrev pub values_in : Text → List Item → List Text
values_in wanted items = filter_map (value_in wanted) items

abbrev pub is_csv : Item → Bool
is_csv (place word) = false
is_csv (option name value) = false
is_csv csv = true
is_csv bare = false

-- no option but those of these names, and none without its value
abbrev pub is_known : List Text → Item → Bool
is_known names (place word) = true
is_known names (option name value) = list_any (bytes_eq name) names
is_known names csv = true
is_known names bare = false
