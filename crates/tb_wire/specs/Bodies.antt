-- How long the body of a request is (RFC 9112, section 6; lengths up to 4,096 are our choice).
use Rattle.std.specs.Prelude.{ℕ, List, [], ◌∷◌, length, Bool, ◌&&◌, nat_lt, nat_le, if◌then◌else◌, Result, Ok, Err, codes}
use Rattle.std.specs.List.{list_all}
use Rattle.std.specs.Char.{is_ascii_digit}
use Rattle.std.specs.Str.{bytes_eq}
use Rattle.std.specs.Str.Parse.{digits_value}
use Rattle.tb_wire.specs.Headers.{values_of}

-- bytes of a body, at most
abbrev pub most_body : ℕ
most_body = 4096

-- one to nine decimal digits
abbrev pub is_length : List ℕ → Bool
is_length value = nat_lt 0 (length value) && nat_le (length value) 9 && list_all is_ascii_digit value

-- the length that a value says, or the code of its fault
abbrev pub length_said : List ℕ → Result ℕ ℕ
length_said value =
    if is_length value then (if nat_lt most_body (digits_value 10 value) then Err 413 else Ok (digits_value 10 value))
    else Err 400

-- by the values of the Content-Length headers: without one a POST is at fault, and another method has no body
abbrev pub length_by : List ℕ → List (List ℕ) → Result ℕ ℕ
length_by method [] = if bytes_eq method (codes "POST") then Err 411 else Ok 0
length_by method (value ∷ []) = length_said value
length_by method (value ∷ other ∷ others) = Err 400

-- a transfer coding is not served, whatever the length
abbrev pub length_unless : List (List ℕ) → Result ℕ ℕ → Result ℕ ℕ
length_unless [] length = length
length_unless (coding ∷ others) length = Err 501

-- the length of the body, or the code of the first fault in what the headers say of it
abbrev pub body_length : List ℕ → List (List ℕ × List ℕ) → Result ℕ ℕ
body_length method headers =
    length_unless (values_of (codes "transfer-encoding") headers)
    (length_by method (values_of (codes "content-length") headers))
