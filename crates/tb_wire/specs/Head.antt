-- The head of a request.
use Rattle.std.specs.Prelude.{ℕ, List, length, map}
use Rattle.httparse.specs.Grammar.{RequestHead, print_request}
use Rattle.httparse.specs.Spans.{name_and_value, span_bytes, header_bytes}
use Rattle.httparse.specs.declared.spans.HeaderSpan.{HeaderSpan}
use Rattle.httparse.specs.declared.spans.RequestSpans.{RequestSpans}

-- method, target, minor version, the names and values of the headers in order, and how many bytes it has
pub record Head : Type 0 where
  pub method : List ℕ
  pub target : List ℕ
  pub minor : ℕ
  pub headers : List (List ℕ × List ℕ)
  pub size : ℕ

-- what the grammar of RFC 9112 says of a head; the white space around a value is no part of it
abbrev pub head_in : RequestHead → Head
head_in h = record {
  method = h.method;
  target = h.target;
  minor = h.minor;
  headers = map name_and_value h.fields;
  size = length (print_request h);
}

-- the same by the places of its parts
abbrev pub spanned_head : List ℕ → List HeaderSpan → RequestSpans → Head
spanned_head text headers spans = record {
  method = span_bytes text spans.method;
  target = span_bytes text spans.path;
  minor = spans.version;
  headers = map (header_bytes text) headers;
  size = spans.len;
}
