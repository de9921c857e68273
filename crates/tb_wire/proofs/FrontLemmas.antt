-- What httparse answers, as the front of a stream.
use Rattle.std.proofs.Common.{◌≡◌, ℕ, ◌<◌, ◌≤◌, List, [], length, take, drop, map, true, refl, ap, sym, ◌∙◌, subst, inl, inr, arith}
use Rattle.std.specs.Prelude.{nat_lt, IsUtf8}
use Rattle.std.specs.List.{All}
use Rattle.std.proofs.lemmas.List.{append-nil, length-map}
use Rattle.httparse.specs.Grammar.{RequestHead, ReadsRequest, HasNoRequest, NeverHasRequest, MayBecomeRequest}
use Rattle.httparse.specs.Spans.{RequestOverflows, RequestExceeds, IsRequestOf, IsRequestAt, IsWithin, IsHeaderWithin, name_and_value, span_bytes}
use Rattle.httparse.specs.declared.spans.Span.{Span}
use Rattle.httparse.specs.declared.spans.HeaderSpan.{HeaderSpan}
use Rattle.httparse.specs.declared.spans.RequestSpans.{RequestSpans}
use Rattle.tb_wire.specs.declared.cutting.Cutting.{Cutting}
use Rattle.tb_wire.specs.declared.cutting.Cutting.TheVariants.{Bad}
use Rattle.tb_wire.specs.Head.{Head, head_in, spanned_head}
use Rattle.tb_wire.specs.Reading.{IsWholeHead}
use Rattle.tb_wire.specs.Front.{lines_len, front_after, unfinished_front, IsFrontOf, later_head, whole_head, most_headers}
use Rattle.tb_wire.proofs.Heads.{not_in_target, fields_fit}

-- heads with the same parts are the same
same_head : (m m' t t' : List ℕ) (n n' : ℕ) (hs hs' : List (List ℕ × List ℕ)) (s s' : ℕ)
    → m ≡ m' → t ≡ t' → n ≡ n' → hs ≡ hs' → s ≡ s'
    → ◌≡◌ {A = Head} (record { method = m; target = t; minor = n; headers = hs; size = s })
    (record { method = m'; target = t'; minor = n'; headers = hs'; size = s' })
same_head m m' t t' n n' hs hs' s s' a b c d e =
    ap (λ (x : List ℕ). let r : Head = record { method = x; target = t; minor = n; headers = hs; size = s } in r) a
    ∙ (ap (λ (x : List ℕ). let r : Head = record { method = m'; target = x; minor = n; headers = hs; size = s } in r) b
    ∙ (ap (λ (x : ℕ). let r : Head = record { method = m'; target = t'; minor = x; headers = hs; size = s } in r) c
    ∙ (ap (λ (x : List (List ℕ × List ℕ)).
    let r : Head = record { method = m'; target = t'; minor = n'; headers = x; size = s } in r) d
    ∙ ap (λ (x : ℕ). let r : Head = record { method = m'; target = t'; minor = n'; headers = hs'; size = x } in r) e)))

-- the places of a head's parts give the head
pub spanned : (text : List ℕ) (headers : List HeaderSpan) (spans : RequestSpans) (h : RequestHead)
    → IsRequestAt text headers spans h
    → spanned_head text (take spans.headers headers) spans ≡ head_in h
spanned text headers spans h at =
    same_head _ _ _ _ _ _ _ _ _ _ at.method at.path at.version at.fields at.len

-- a whole head at the front
pub whole : (text : List ℕ) (there : ℕ) (headers few : List HeaderSpan) (spans : RequestSpans) (front : Cutting)
    → IsRequestOf text headers spans → few ≡ take spans.headers headers
    → front ≡ front_after there (spanned_head text few spans) → IsFrontOf text there front
whole text there headers few spans front (h, at) taken is =
    whole_head h (drop spans.len text) at.reads
    (is ∙ ap (front_after there)
    (ap (λ (hs : List HeaderSpan). spanned_head text hs spans) taken ∙ spanned text headers spans h at))

-- some bytes can follow a text of whole lines that make it a head
pub may_be : (text : List ℕ) → lines_len text ≡ length text → MayBecomeRequest text → ¬ (NeverHasRequest text)
may_be text lines may never = elim may [
  | inl some ↦ let (more, h, reads) = some in never more h [] reads
  | inr ends ↦ not_in_target text lines ends
]

-- the test of two numbers
true_if : (a b : ℕ) → a < b → nat_lt a b ≡ true
true_if a b h = grind (arith, h)

-- more than 32 headers are a fault
too_many : (there : ℕ) (h : RequestHead) → 32 < length h.fields → front_after there (head_in h) ≡ Bad 431
too_many there h many =
    let long : 32 < length (map name_and_value h.fields) = rw (length-map) many in
    rw (true_if most_headers (length (map name_and_value h.fields)) long) refl

-- a whole head that found no room for 32 headers is that fault
pub crowded : (text : List ℕ) (there : ℕ) (headers : List HeaderSpan) (spans : RequestSpans) (front : Cutting)
    → RequestOverflows 32 text
    → IsRequestOf text headers spans
    → front ≡ Bad 431
    → IsFrontOf text there front
crowded text there headers spans front over (h, at) is =
    let again = subst (λ (t : List ℕ). ReadsRequest t h (drop spans.len text)) (sym (append-nil text)) at.reads in
    whole_head h (drop spans.len text) at.reads (is ∙ sym (too_many there h (over [] h (drop spans.len text) again)))

-- a text of at most 8,192 bytes has no more than 2,731 headers
pub has_room : (room : ℕ) (text : List ℕ) → room ≡ 2731 → length text ≤ 8192 → ¬ (RequestExceeds room text)
has_room room text is short exceeds =
    fields_fit text short (subst (λ (n : ℕ). RequestExceeds n text) is exceeds)

-- a span within a text is within a longer one
widen : (n m : ℕ) (span : Span) → n ≤ m → IsWithin n span → IsWithin m span
widen n m span le is = (is.0, let end = is.1 in omega (arith, end, le))

-- the parts of a whole head lie in the text
pub record Fits (text : List ℕ) (headers : List HeaderSpan) (spans : RequestSpans) : Type 0 where
  pub method : IsWithin (length text) spans.method
  pub path : IsWithin (length text) spans.path
  pub within : All (IsHeaderWithin (length text)) (take spans.headers headers)
  pub target : IsUtf8 (span_bytes text spans.path)
  pub count : spans.headers ≤ length headers
  pub small : spans.len ≤ length text

-- so it is of each whole head
pub fits : (text : List ℕ) (headers : List HeaderSpan) (spans : RequestSpans)
    → IsWholeHead text headers spans
    → Fits text headers spans
fits text headers spans is =
    let (h, at) = is.parts in
    let len = is.within.section.len_fits in
    record {
      method = widen spans.len (length text) spans.method len is.within.method;
      path = widen spans.len (length text) spans.path len is.within.path;
      within = λ k d on.
          let w = is.within.section.headers_fit k d on in
          (widen spans.len (length text) _ len w.0, widen spans.len (length text) _ len w.1);
      target = subst IsUtf8 (sym at.path) at.reads.0.target_text;
      count = is.within.section.count_fits;
      small = len;
    }

-- a text that may become a head has none yet
pub none_yet : (text : List ℕ) (there : ℕ) (front : Cutting) → HasNoRequest text × ¬ (NeverHasRequest text)
    → front ≡ unfinished_front there → IsFrontOf text there front
none_yet text there front waits is = later_head waits.0 waits.1 is
