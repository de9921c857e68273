-- What httparse reads at the front of a text.
use Rattle.std.specs.Prelude.{ℕ, List, length}
use Rattle.httparse.specs.Grammar.{HasNoRequest, NeverHasRequest}
use Rattle.httparse.specs.Spans.{IsRequestOf, IsRequestWithin, RequestOverflows, RequestExceeds}
use Rattle.httparse.specs.declared.spans.HeaderSpan.{HeaderSpan}
use Rattle.httparse.specs.declared.spans.RequestSpans.{RequestSpans}
use Rattle.tb_wire.specs.declared.fronts.Reading.{Reading}
use Rattle.tb_wire.specs.declared.fronts.Reading.TheVariants as reading

-- the spans are those of a head, and lie in the text
pub record IsWholeHead (text : List ℕ) (headers : List HeaderSpan) (spans : RequestSpans) : Type 0 where
  pub within : IsRequestWithin text headers spans
  pub parts : IsRequestOf text headers spans

-- a head whose headers find no room
pub record IsCrowded (room : ℕ) (text : List ℕ) : Type 0 where
  pub overflows : RequestOverflows room text
  pub exceeds : RequestExceeds room text

-- a whole head, one that can't come, one that may still come, or one with too many headers
abbrev pub Reads : List ℕ → List HeaderSpan → Reading → Type 0
Reads text headers (reading.Whole spans) = IsWholeHead text headers spans
Reads text headers reading.Refused = NeverHasRequest text
Reads text headers reading.More = HasNoRequest text × ¬ (NeverHasRequest text)
Reads text headers reading.Crowded = IsCrowded (length headers) text
