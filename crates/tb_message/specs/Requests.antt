-- JSON requests: what each member says by its form, and what the whole asks, or the first member that fails.
use Rattle.std.specs.Prelude.{◌≡◌, ℕ, ◌/◌, ◌%◌, ◌==◌, ℤ, List, [], ◌∷◌, Option, Some, None}
use Rattle.std.specs.Prelude.{Result, Ok, Err, is_some, IsUtf8, if◌then◌else◌, ⊤}
use Rattle.std.specs.Option.{option_map, option_and_then, ok_or}
use Rattle.serde_json.specs.Data.{Data}
use Rattle.serde_json.specs.Read.{read}
use Rattle.serde_json.specs.Find.{get, as_number, as_u64, as_i64, as_str, as_object}
use Rattle.tb_units.specs.Rates.{thousandths_of}
use Rattle.tb_terms.specs.Texts.{day_of, minute_of}
use Rattle.tb_terms.specs.Refusals.{member_of}
use Rattle.tb_terms.specs.declared.refusal.Field.{Field}
use Rattle.tb_terms.specs.declared.refusal.Field.TheVariants as field
use Rattle.tb_message.specs.declared.kind.Kind.{Kind}
use Rattle.tb_message.specs.declared.query.QueryKind.{QueryKind}
use Rattle.tb_message.specs.declared.query.Request.{Request}
use Rattle.tb_message.specs.declared.query.Request.TheVariants as request
use Rattle.tb_message.specs.declared.query.ReadFault.{ReadFault}
use Rattle.tb_message.specs.declared.query.ReadFault.TheVariants as fault
use Rattle.tb_message.specs.Forms.{Form, name, cusip, amount, money, number, position, rate, day, minute}
use Rattle.tb_message.specs.Forms.{moment, Part, text, whole, signed, in_range}
use Rattle.tb_message.specs.Kinds.{kind_of_text, members_of}
use Rattle.tb_message.specs.Queries.{query_of_text, query_members_of, query_kind_of, query_parts_of}
use Rattle.tb_message.specs.Messages.{kind_of, parts_of}
use Rattle.tb_message.specs.Spelling.{IsNumbered}

-- f of the value, or the error
abbrev pub result_map : {T U E : Type 0} → (T → U) → Result T E → Result U E
result_map f (Ok x) = Ok (f x)
result_map f (Err e) = Err e

-- what f makes of the value, or the error
abbrev pub result_and_then : {T U E : Type 0} → (T → Result U E) → Result T E → Result U E
result_and_then f (Ok x) = f x
result_and_then f (Err e) = Err e

-- ---- members

abbrev pub text_in : Option Data → Option (List ℕ)
text_in value = option_and_then as_str value

-- a whole number: no fraction, no exponent and not `-0`
abbrev pub whole_in : Option Data → Option ℕ
whole_in value = option_and_then as_u64 (option_and_then as_number value)

abbrev pub signed_in : Option Data → Option ℤ
signed_in value = option_and_then as_i64 (option_and_then as_number value)

-- the steps of a rate in percent, whose third decimal is 0 or 5
abbrev pub steps_of : List ℕ → Option ℕ
steps_of t =
    option_and_then (λ thousandths. if thousandths % 5 == 0 then Some (thousandths / 5) else None) (thousandths_of t)

-- what a value says by a form, whatever the range
abbrev pub said_in : Form → Option Data → Option Part
said_in name value = option_map text (text_in value)
said_in cusip value = option_map text (text_in value)
said_in amount value = option_map whole (whole_in value)
said_in money value = option_map whole (whole_in value)
said_in number value = option_map whole (whole_in value)
said_in position value = option_map signed (signed_in value)
said_in rate value = option_map whole (option_and_then steps_of (text_in value))
said_in day value = option_map whole (option_and_then day_of (text_in value))
said_in minute value = option_map whole (option_and_then minute_of (text_in value))
said_in (moment version) value = None

-- what a member of an object says, or the member itself where it is missing or not of its form
unfoldable pub part_in : Data → Field × Form → Result Part Field
part_in d member = ok_or (option_and_then (in_range member.1) (said_in member.1 (get (member_of member.0) d))) member.0

-- what the members say in order, or the first that fails
abbrev pub parts_in : Data → List (Field × Form) → Result (List Part) Field
parts_in d [] = Ok []
parts_in d (member ∷ members) =
    result_and_then (λ part. result_map (λ parts. part ∷ parts) (parts_in d members)) (part_in d member)

-- ---- requests

-- what an object asks: a message by its number, kind and members, or a query by its kind and members
pub data Asked : Type 0 where
  message : Part → Kind → List Part → Asked
  query : QueryKind → List Part → Asked

abbrev pub asked_by : Request → Asked
asked_by (request.Message n m) = message (whole n) (kind_of m) (parts_of m)
asked_by (request.Query q) = query (query_kind_of q) (query_parts_of q)

abbrev pub message_kind_in : Data → Option Kind
message_kind_in d = option_and_then kind_of_text (text_in (get (member_of field.Kind) d))

abbrev pub query_kind_in : Data → Option QueryKind
query_kind_in d = option_and_then query_of_text (text_in (get (member_of field.Kind) d))

-- the members of a message, once its kind is known
abbrev pub body_in : Data → Kind → Result (Kind × List Part) Field
body_in d kind = result_map (λ parts. (kind, parts)) (parts_in d (members_of kind))

-- `number` is looked at first, then `kind`, then the members of the kind
abbrev pub message_in : Data → Result (Part × Kind × List Part) Field
message_in d =
    result_and_then (λ n. result_and_then (λ kind. result_map (λ body. (n, body.0, body.1)) (body_in d kind))
    (ok_or (message_kind_in d) field.Kind))
    (part_in d (field.Number, number))

-- in a query `number` isn't looked at
abbrev pub object_in : Data → Option QueryKind → Result Asked Field
object_in d (Some kind) = result_map (query kind) (parts_in d (query_members_of kind))
object_in d None = result_map (λ said. message said.0 said.1 said.2) (message_in d)

-- what a request asks, or the first member that fails; `body` where it is no object
abbrev pub request_in : Data → Result Asked Field
request_in d = if is_some (as_object d) then object_in d (query_kind_in d) else Err field.Body

-- the bytes are a JSON text, and d is what it says
abbrev pub Says : List ℕ → Data → Type 0
Says bytes d = IsUtf8 bytes × (read bytes ≡ Some d)

-- each answer has its cause; want of memory has none that is stated
abbrev pub FaultOf : List ℕ → ReadFault → Type 0
FaultOf bytes fault.BadJson = (d : Data) → ¬ (Says bytes d)
FaultOf bytes (fault.BadShape at_fault) = (d : Data) × Says bytes d × (request_in d ≡ Err at_fault)
FaultOf bytes fault.OutOfMemory = ⊤

abbrev pub AnswerOf : List ℕ → Result Request ReadFault → Type 0
AnswerOf bytes (Ok asked) = (d : Data) × Says bytes d × (request_in d ≡ Ok (asked_by asked))
AnswerOf bytes (Err e) = FaultOf bytes e

-- a message with its number is one that an entry can carry
abbrev pub IsRequestInRange : Request → Type 0
IsRequestInRange (request.Message n m) = IsNumbered n m
IsRequestInRange (request.Query q) = ⊤
