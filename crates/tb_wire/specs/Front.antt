-- The front of a stream: the first fault by its code, else a whole request, else more bytes are needed.
use Rattle.std.specs.Prelude.{◌≡◌, ℕ, ◌+◌, List, [], ◌∷◌, length, take, Bool, ◌||◌, ◌==◌, nat_lt, if◌then◌else◌, Option, None, Result, Ok, Err, codes}
use Rattle.std.specs.List.{list_any}
use Rattle.httparse.specs.Grammar.{RequestHead, ReadsRequest, HasNoRequest, NeverHasRequest}
use Rattle.tb_message.specs.Keys.{key_of}
use Rattle.tb_message.specs.declared.key.Key.{Key}
use Rattle.tb_wire.specs.declared.cutting.Cutting.{Cutting}
use Rattle.tb_wire.specs.declared.cutting.Cutting.TheVariants.{Whole, Bad, More}
use Rattle.tb_wire.specs.declared.cutting.HttpRequest.{HttpRequest}
use Rattle.tb_wire.specs.Head.{Head, head_in}
use Rattle.tb_wire.specs.Headers.{values_of, closes}
use Rattle.tb_wire.specs.Bodies.{body_length}
use Rattle.tb_wire.specs.Targets.{target_of}

-- bytes and headers of a head, at most
abbrev pub most_head : ℕ
most_head = 8192

abbrev pub most_headers : ℕ
most_headers = 32

-- how many bytes there are up to and with the last LF
unfoldable pub lines_len : List ℕ → ℕ
lines_len [] = 0
lines_len (byte ∷ rest) = if lines_len rest == 0 then (if byte == 10 then 1 else 0) else lines_len rest + 1

-- what is looked at: the bytes up to the last LF among the first 8,192
abbrev pub seen : List ℕ → List ℕ
seen bytes = take (lines_len (take most_head bytes)) bytes

-- the key word of the one Auction-Key header
abbrev pub key_by : List (List ℕ) → Option Key
key_by [] = None
key_by (value ∷ []) = key_of value
key_by (value ∷ other ∷ others) = None

abbrev pub key_said : List (List ℕ × List ℕ) → Option Key
key_said headers = key_by (values_of (codes "auction-key") headers)

-- a request of version 1.0 asks to close, and one that says so
abbrev pub asks_to_close : Head → Bool
asks_to_close head = (head.minor == 0) || list_any closes head.headers

-- a request with a body of so many bytes
abbrev pub request_of : Head → ℕ → HttpRequest
request_of head body = record {
  target = target_of head.method head.target;
  key = key_said head.headers;
  body_start = head.size;
  used = head.size + body;
  close = asks_to_close head;
}

-- once so many bytes are there
abbrev pub with_body : ℕ → Head → Result ℕ ℕ → Cutting
with_body there head (Err code) = Bad code
with_body there head (Ok body) = if nat_lt there (head.size + body) then More else Whole (request_of head body)

-- the front behind a whole head: too many headers, a fault in what they say of the body, or the request
abbrev pub front_after : ℕ → Head → Cutting
front_after there head =
    if nat_lt most_headers (length head.headers) then Bad 431
    else with_body there head (body_length head.method head.headers)

-- while there is no whole head: it is too long once 8,192 bytes are there
abbrev pub unfinished_front : ℕ → Cutting
unfinished_front there = if nat_lt there most_head then More else Bad 431

-- the front of a stream of which this text was looked at, and so many bytes are there: the text never becomes a head,
-- or may become one, or begins with one
pub data IsFrontOf (text : List ℕ) (there : ℕ) (front : Cutting) : Type 0 where
  never_head : NeverHasRequest text → front ≡ Bad 400 → IsFrontOf text there front
  later_head : HasNoRequest text → ¬ (NeverHasRequest text) → front ≡ unfinished_front there
      → IsFrontOf text there front
  whole_head : (h : RequestHead) → (rest : List ℕ) → ReadsRequest text h rest → front ≡ front_after there (head_in h)
      → IsFrontOf text there front

-- the front of these bytes
abbrev pub IsFront : List ℕ → Cutting → Type 0
IsFront bytes front = IsFrontOf (seen bytes) (length bytes) front
