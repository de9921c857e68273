-- Plain objects: the grammar of JSON a member at a time, and look-ups among their members.
use Rattle.std.proofs.Common.{◌≡◌, ℕ, suc, ◌-◌, ◌<◌, ◌≤◌, List, [], ◌∷◌, length, take, reverse, get_or}
use Rattle.std.proofs.Common.{Option, Some, None, refl, ap, ◌∙◌, arith}
use Rattle.std.specs.Option.{option_map, option_and_then}
use Rattle.std.proofs.lemmas.List.{reverse-append}
use Rattle.std.proofs.Math.Seq.{take-suc}
use Rattle.json.specs.Token.{Token}
use Rattle.json.specs.Lex.{tokens}
use Rattle.json.specs.Json as json
use Rattle.json.proofs.Grammar.{value_is, value-begin_object, members_more, members_end}
use Rattle.serde_json.specs.Data.{Data, object, Members, no_members, put}
use Rattle.serde_json.specs.Read.{read, of_json, of_members}
use Rattle.serde_json.specs.Find.{get_member}
use Rattle.serde_json.proofs.Views.{get_member-put, get_member-put_other}
use Rattle.tb_message.specs.declared.plain.Member.{Member}
use Rattle.tb_message.specs.Plain.{leaf_data, members_data, leaf_said}

-- ---- reading

-- the whole text, where its members behind these go on like that
abbrev finished : Members → Option (json.Members × List Token) → Option Data
finished found None = None
finished found (Some (ms, [])) = option_map object (of_members ms found)
finished found (Some (ms, t ∷ ts)) = None

-- these members were found in the text, whose tokens go on like that
pub record IsLeft (text : List ℕ) (left : List Token) (found : Members) : Type 0 where
  pub turns : ℕ
  pub enough : length left ≤ turns
  pub same : read text ≡ finished found (json.members (json.value 126) turns left)

-- an object that is whole is the data of its members
object_whole : (o : Option (json.Members × List Token))
    → option_and_then of_json (option_and_then (λ p. json.if_last p.0 p.1) (json.parse_map json.object o))
    ≡ finished no_members o
object_whole None = refl
object_whole (Some (ms, [])) = refl
object_whole (Some (ms, t ∷ ts)) = refl

-- behind the opening brace no member was found
pub IsLeft-opened : (text : List ℕ) (left : List Token)
    → tokens text ≡ Token.begin_object ∷ left
    → IsLeft text left no_members
IsLeft-opened text left opens = record {
  turns = length left;
  enough = omega arith;
  same =
      ap (λ ts. option_and_then of_json (option_and_then (λ p. json.if_last p.0 p.1) (json.value 127 ts))) opens
      ∙ ap (λ o. option_and_then of_json (option_and_then (λ p. json.if_last p.0 p.1) o))
      (value-begin_object 127 left (omega arith))
      ∙ object_whole (json.members (json.value 126) (length left) left);
}

-- a token that says something by itself is a value at any depth
record IsValue (depth : ℕ) (t : Token) (left : List Token) (d : Data) : Type 0 where
  value : json.Json
  read_is : json.value depth (t ∷ left) ≡ Some (value, left)
  says : of_json value ≡ Some d

leaf_value : (depth : ℕ) (t : Token) (left : List Token) (d : Data)
    → leaf_said t ≡ Some d
    → IsValue depth t left d
leaf_value depth (Token.string s) left d e =
    record { value = json.string s; read_is = value_is depth (Token.string s ∷ left); says = e }
leaf_value depth (Token.number s) left d e =
    record { value = json.number s; read_is = value_is depth (Token.number s ∷ left); says = e }
leaf_value depth (Token.boolean b) left d e =
    record { value = json.boolean b; read_is = value_is depth (Token.boolean b ∷ left); says = e }
leaf_value depth Token.null left d e =
    record { value = json.null; read_is = value_is depth (Token.null ∷ left); says = e }
leaf_value depth Token.begin_object left d e = absurd cc
leaf_value depth Token.end_object left d e = absurd cc
leaf_value depth Token.begin_array left d e = absurd cc
leaf_value depth Token.end_array left d e = absurd cc
leaf_value depth (Token.key s) left d e = absurd cc
leaf_value depth Token.bad left d e = absurd cc

-- a member in front is put before those behind it
member_put : (name : List ℕ) (value : json.Json) (d : Data) (found : Members) (o : Option (json.Members × List Token))
    → of_json value ≡ Some d
    → finished found (json.parse_map (json.member name value) o) ≡ finished (put name d found) o
member_put name value d found None says = refl
member_put name value d found (Some (ms, [])) says = rw says refl
member_put name value d found (Some (ms, t ∷ ts)) says = refl

-- a member is found
pub IsLeft-member : (text name : List ℕ) (t : Token) (left : List Token) (d : Data) (found : Members)
    → IsLeft text (Token.key name ∷ t ∷ left) found
    → leaf_said t ≡ Some d
    → IsLeft text left (put name d found)
IsLeft-member text name t left d found is says =
    let value = leaf_value 126 t left d says in
    let some : 0 < is.turns = omega (arith, is.enough) in
    record {
      turns = is.turns - 1;
      enough = omega (arith, is.enough);
      same =
          is.same
          ∙ ap (finished found) (members_more (json.value 126) is.turns name (Token.key name ∷ t ∷ left) (t ∷ left)
          left value.value some refl value.read_is)
          ∙ member_put name value.value d found (json.members (json.value 126) (is.turns - 1) left) value.says;
    }

-- where the closing brace is all that is left, the text is the object of the members found
pub IsLeft-closed : (text : List ℕ) (found : Members)
    → IsLeft text (Token.end_object ∷ []) found
    → read text ≡ Some (object found)
IsLeft-closed text found is =
    is.same
    ∙ ap (finished found) (members_end (json.value 126) is.turns (Token.end_object ∷ []) [] is.enough refl)

-- ---- looking up

-- members one before the end, the last first
reverse-front : (members : List Member) (left : ℕ) (none : Member)
    → left < length members
    → reverse (take (suc left) members) ≡ get_or members left none ∷ reverse (take left members)
reverse-front members left none within =
    ap reverse (take-suc members left none within) ∙ reverse-append (take left members) (get_or members left none ∷ [])

-- a member of another name is passed over
pub get_member-passed : (name : List ℕ) (members : List Member) (before left : ℕ) (none : Member)
    → left ≡ suc before
    → before < length members
    → (name ≡ (get_or members before none).name.now → ⊥)
    → get_member name (members_data (reverse (take left members)))
    ≡ get_member name (members_data (reverse (take before members)))
get_member-passed name members before left none one_more within other =
    let member = get_or members before none in
    ap (λ n. get_member name (members_data (reverse (take n members)))) one_more
    ∙ ap (λ ms. get_member name (members_data ms)) (reverse-front members before none within)
    ∙ get_member-put_other name member.name.now (leaf_data member.leaf)
    (members_data (reverse (take before members))) other

-- a member of that name is found
pub get_member-found : (name : List ℕ) (members : List Member) (before left : ℕ) (none : Member)
    → left ≡ suc before
    → before < length members
    → name ≡ (get_or members before none).name.now
    → get_member name (members_data (reverse (take left members)))
    ≡ Some (leaf_data (get_or members before none).leaf)
get_member-found name members before left none one_more within same =
    let member = get_or members before none in
    ap (λ n. get_member name (members_data (reverse (take n members)))) one_more
    ∙ ap (λ ms. get_member name (members_data ms)) (reverse-front members before none within)
    ∙ ap (λ n. get_member n (put member.name.now (leaf_data member.leaf)
    (members_data (reverse (take before members))))) same
    ∙ get_member-put member.name.now (leaf_data member.leaf) (members_data (reverse (take before members)))
