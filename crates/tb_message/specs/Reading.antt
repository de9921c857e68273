-- Reading records from the left.
use Rattle.std.specs.Prelude.{ℕ, List, [], ◌∷◌, length, take, drop, Option, Some, None}
use Rattle.std.specs.Prelude.{nat_lt, if◌then◌else◌, option_and_then, option_map}
use Rattle.std.specs.Option.{option_and_then, option_map}
use Rattle.std.specs.Int.{Width, w16, w32, w64, byte_len, from_be_bytes, cast_signed}
use Rattle.tb_message.specs.declared.kind.Kind.{Kind}
use Rattle.tb_message.specs.declared.version.Version.{Version}
use Rattle.tb_message.specs.Forms.{Form, name, cusip, amount, money, number, position, rate, day}
use Rattle.tb_message.specs.Forms.{minute, moment, width_of, Part, text, whole, signed, is_of}
use Rattle.tb_message.specs.Kinds.{kind_of_tag, forms_of}
use Rattle.tb_message.specs.Spelling.{heads_in}

-- so many bytes, and what follows them
abbrev pub front_at : ℕ → List ℕ → Option (List ℕ × List ℕ)
front_at size bytes = if nat_lt (length bytes) size then None else Some (take size bytes, drop size bytes)

abbrev pub text_at : List ℕ → Option (Part × List ℕ)
text_at [] = None
text_at (size ∷ bytes) = option_map (λ front. (text front.0, front.1)) (front_at size bytes)

abbrev pub whole_at : Width → List ℕ → Option (Part × List ℕ)
whole_at w bytes = option_map (λ front. (whole (from_be_bytes w front.0), front.1)) (front_at (byte_len w) bytes)

-- a field, whatever its range
abbrev pub field_at : Form → List ℕ → Option (Part × List ℕ)
field_at name bytes = text_at bytes
field_at cusip bytes = option_map (λ front. (text front.0, front.1)) (front_at 9 bytes)
field_at amount bytes = whole_at w64 bytes
field_at money bytes = whole_at w64 bytes
field_at number bytes = whole_at w64 bytes
field_at position bytes =
    option_map (λ front. (signed (cast_signed w64 (from_be_bytes w64 front.0)), front.1)) (front_at 8 bytes)
field_at rate bytes = whole_at w32 bytes
field_at day bytes = whole_at w32 bytes
field_at minute bytes = whole_at w16 bytes
field_at (moment version) bytes = whole_at (width_of version) bytes

abbrev pub ranged : Form → Part × List ℕ → Option (Part × List ℕ)
ranged form read = if is_of form read.0 then Some read else None

-- a field in its range
unfoldable pub part_at : Form → List ℕ → Option (Part × List ℕ)
part_at form bytes = option_and_then (ranged form) (field_at form bytes)

abbrev pub parts_at : List Form → List ℕ → Option (List Part × List ℕ)
parts_at [] bytes = Some ([], bytes)
parts_at (form ∷ forms) bytes =
    option_and_then (λ first. option_map (λ others. (first.0 ∷ others.0, others.1)) (parts_at forms first.1))
    (part_at form bytes)

-- a message of a kind: its kind, its parts, and what follows
abbrev pub message_at : Kind → List ℕ → Option (Kind × List Part × List ℕ)
message_at kind bytes = option_map (λ read. (kind, read.0, read.1)) (parts_at (forms_of kind) bytes)

abbrev pub tagged_at : List ℕ → Option (Kind × List Part × List ℕ)
tagged_at [] = None
tagged_at (tag ∷ bytes) = option_and_then (λ kind. message_at kind bytes) (kind_of_tag tag)

-- an entry: what stands in front of the tag, and the message
abbrev pub entry_at : Version → List ℕ → Option (List Part × Kind × List Part × List ℕ)
entry_at version bytes =
    option_and_then (λ head. option_map (λ body. (head.0, body.0, body.1, body.2)) (tagged_at head.1))
    (parts_at (heads_in version) bytes)
