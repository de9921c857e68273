-- The line that a command is: its positional words, its options and its switch.
use Rattle.std.specs.Prelude.{◌≡◌, ℕ, List, [], ◌∷◌, Bool, true, if◌then◌else◌, map, count_by}
use Rattle.std.specs.List.{list_all, AllByRecursion}
use Rattle.tb_words.specs.Items.{Text, Item, places_in, values_in, is_csv, is_known}

-- positional words in order, options with their values, and whether `--csv` stands
pub record Line : Type 0 where
  pub places : List Text
  pub options : List (Text × Text)
  pub csv : Bool

-- the names of the options
abbrev pub option_names : Line → List Text
option_names line = map (λ option. option.0) line.options

-- once or not at all
abbrev pub times : Bool → ℕ
times stands = if stands then 1 else 0

-- the items are those of the line: its positional words in order, each of its options once, wherever it stands, its
-- switch, and no more
pub record Says (line : Line) (items : List Item) : Type 0 where
  pub places : places_in items ≡ line.places
  pub options : AllByRecursion (λ option. values_in option.0 items ≡ option.1 ∷ []) line.options
  pub switch : count_by is_csv items ≡ times line.csv
  pub no_more : list_all (is_known (option_names line)) items ≡ true
