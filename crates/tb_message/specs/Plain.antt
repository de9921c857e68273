-- Plain objects of JSON: what their members say.
use Rattle.std.specs.Prelude.{◌≡◌, List, [], ◌∷◌, reverse, Option, Some, None}
use Rattle.std.specs.Option.{option_map}
use Rattle.json.specs.Token.{Token}
use Rattle.serde_json.specs.Data.{Data, unsigned, negative, null, boolean, number, string, object}
use Rattle.serde_json.specs.Data.{Members, no_members, put}
use Rattle.serde_json.specs.Read.{number_of}
use Rattle.tb_message.specs.declared.plain.Leaf.{Leaf}
use Rattle.tb_message.specs.declared.plain.Leaf.TheVariants.{Text, Whole, Below, Truth, Null}
use Rattle.tb_message.specs.declared.plain.Member.{Member}

abbrev pub leaf_data : Leaf → Data
leaf_data (Text t) = string t.now
leaf_data (Whole n) = number (unsigned n)
leaf_data (Below z) = number (negative z)
leaf_data (Truth b) = boolean b
leaf_data Null = null

-- members, the last of the text first: of a name that comes twice the last counts
abbrev pub members_data : List Member → Members
members_data [] = no_members
members_data (member ∷ older) = put member.name.now (leaf_data member.leaf) (members_data older)

-- the object with these members in the order of the text
abbrev pub plain_data : List Member → Data
plain_data members = object (members_data (reverse members))

-- what a token says that is a value by itself
abbrev pub leaf_said : Token → Option Data
leaf_said Token.begin_object = None
leaf_said Token.end_object = None
leaf_said Token.begin_array = None
leaf_said Token.end_array = None
leaf_said (Token.key s) = None
leaf_said (Token.string s) = Some (string s)
leaf_said (Token.number s) = option_map number (number_of s)
leaf_said (Token.boolean b) = Some (boolean b)
leaf_said Token.null = Some null
leaf_said Token.bad = None

-- the tokens begin with a member, or with the brace that closes the object, and go on as `left`
abbrev pub IsNext : List Token → Option Member → List Token → Type 0
IsNext tokens None left = tokens ≡ Token.end_object ∷ left
IsNext tokens (Some member) left =
    (t : Token) × (tokens ≡ Token.key member.name.now ∷ t ∷ left) × (leaf_said t ≡ Some (leaf_data member.leaf))
