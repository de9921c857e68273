-- Headers by name. Case does not matter in names (RFC 9110, section 5.1).
use Rattle.std.specs.Prelude.{◌≡◌, ℕ, ◌≤◌, List, [], ◌∷◌, length, map, Bool, ◌&&◌, codes}
use Rattle.std.specs.List.{filter}
use Rattle.std.specs.Str.{bytes_eq}
use Rattle.std.specs.Char.{to_ascii_lowercase}
use Rattle.httparse.specs.Spans.{IsWithin, span_bytes}
use Rattle.tb_wire.specs.declared.headers.Standing.{Standing}
use Rattle.tb_wire.specs.declared.headers.Standing.TheVariants as standing

abbrev pub lowered : List ℕ → List ℕ
lowered bytes = map to_ascii_lowercase bytes

-- the bytes are this word, in any case
abbrev pub is_word : List ℕ → List ℕ → Bool
is_word word bytes = bytes_eq (lowered bytes) (lowered word)

-- the values of the headers of this name, in order
abbrev pub values_of : List ℕ → List (List ℕ × List ℕ) → List (List ℕ)
values_of name headers = map (λ header. header.1) (filter (λ header. is_word name header.0) headers)

-- a header by which a request asks to close: a Connection header with this one value
abbrev pub closes : List ℕ × List ℕ → Bool
closes header = is_word (codes "connection") header.0 && is_word (codes "close") header.1

-- how many values there are, and the one where there is one
abbrev pub Stands : List ℕ → Standing → List (List ℕ) → Type 0
Stands text standing.Nowhere values = values ≡ []
Stands text (standing.Once value) values = (values ≡ span_bytes text value ∷ []) × IsWithin (length text) value
Stands text standing.Often values = 2 ≤ length values
