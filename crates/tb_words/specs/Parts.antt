-- The parts of a line, as they are read.
use Rattle.std.specs.Prelude.{◌≡◌, ℕ, zero, suc, List, [], ◌∷◌, map, string_bytes, Bool}
use Rattle.std.specs.Prelude.{true, false, Option, Some, None, codes, count_by}
use Rattle.std.specs.List.{list_all}
use Rattle.tb_words.specs.declared.items.Items.{Items}
use Rattle.tb_words.specs.declared.items.Item as declared
use Rattle.tb_words.specs.declared.items.Item.TheVariants as read
use Rattle.tb_words.specs.declared.shape.Places.{Places}
use Rattle.tb_words.specs.declared.shape.Places.TheVariants as places
use Rattle.tb_words.specs.declared.shape.Options.{Options}
use Rattle.tb_words.specs.declared.shape.Options.TheVariants as options
use Rattle.tb_words.specs.declared.shape.Shape.{Shape}
use Rattle.tb_words.specs.Items.{Text, Item, place, option, csv, bare, items_of, places_in, is_csv, is_known}
use Rattle.tb_words.specs.Lines.{times}
use Rattle.tb_words.specs.Commands.{Spells, name_of}
use Rattle.tb_words.specs.declared.command.Command.{Command}

-- an item as it is read
abbrev pub item_of : declared.Item → Item
item_of (read.Place word) = place word.now
item_of (read.Named name value) = option name.now value.now
item_of read.Csv = csv
item_of read.Bare = bare

-- the items that are left
abbrev pub items_left : Items → List Item
items_left items = items_of (map string_bytes items.words.now)

-- the positional words that were read
abbrev pub texts_of : Places → List Text
texts_of places.Nothing = []
texts_of (places.One word) = word.now ∷ []
texts_of (places.Two first second) = first.now ∷ second.now ∷ []

-- the options that a command has
abbrev pub names_of : Options → List Text
names_of options.Nothing = []
names_of options.Operator = codes "--op" ∷ []
names_of options.Serving = codes "--op" ∷ codes "--port" ∷ codes "--workers" ∷ codes "--links" ∷ []
names_of options.Keyed = codes "--op" ∷ codes "--key" ∷ []
names_of options.Bill = codes "--cusip" ∷ []

-- the only value, if there is one and no second
abbrev pub only_of : List Text → Option Text
only_of [] = None
only_of (value ∷ []) = Some value
only_of (value ∷ second ∷ values) = None

-- whether it stands, if it stands at most once
abbrev pub standing_of : ℕ → Option Bool
standing_of zero = Some false
standing_of (suc zero) = Some true
standing_of (suc (suc n)) = None

-- the positional words, the switch and that no option is unknown
pub record IsShapeOf (shape : Shape) (names : List Text) (items : List Item) : Type 0 where
  pub places : places_in items ≡ texts_of shape.places
  pub switch : count_by is_csv items ≡ times shape.csv
  pub no_more : list_all (is_known names) items ≡ true

-- options of these names, and nothing else
pub record HasOptionsAlone (names : List Text) (items : List Item) : Type 0 where
  pub places : places_in items ≡ []
  pub switch : count_by is_csv items ≡ 0
  pub no_more : list_all (is_known names) items ≡ true

-- these positional words, and nothing else
pub record HasPlacesAlone (words : List Text) (items : List Item) : Type 0 where
  pub places : places_in items ≡ words
  pub switch : count_by is_csv items ≡ 0
  pub no_more : list_all (is_known []) items ≡ true

-- behind this name these words are the command, or no command of this name has them
abbrev pub IsReadAs : Text → List Text → Option Command → Type 0
IsReadAs name words (Some command) = (name_of command ≡ name) × Spells command (items_of words)
IsReadAs name words None = (command : Command) → name_of command ≡ name → ¬ (Spells command (items_of words))
