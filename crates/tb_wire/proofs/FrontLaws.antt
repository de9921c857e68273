-- The front of a stream is one, and stays.
use Rattle.std.proofs.Common.{◌≡◌, ◌≢◌, ℕ, ◌+◌, ◌<◌, ◌≤◌, List, [], ◌∷◌, ◌++◌, length, take, true, false, Bool, refl, ap, sym, ◌∙◌, subst, inl, inr, arith, Ok, Err, length-append}
use Rattle.std.specs.Prelude.{nat_lt, Result, IfOk}
use Rattle.std.specs.Prelude.{codes}
use Rattle.std.specs.Str.{bytes_eq}
use Rattle.std.specs.Str.Parse.{digits_value}
use Rattle.std.proofs.lemmas.Bool.{cases_Bool}
use Rattle.std.proofs.lemmas.List.{append-nil, take-append-le, length-take}
use Rattle.httparse.specs.Grammar.{RequestHead, ReadsRequest, HasNoRequest, NeverHasRequest, print_request}
use Rattle.httparse.proofs.GrammarLemmas.{request_unique}
use Rattle.tb_wire.specs.declared.cutting.Cutting.{Cutting}
use Rattle.tb_wire.specs.declared.cutting.Cutting.TheVariants.{Whole, Bad, More}
use Rattle.tb_wire.specs.declared.cutting.HttpRequest.{HttpRequest}
use Rattle.tb_wire.specs.Codes.{is_told}
use Rattle.tb_wire.specs.Head.{Head, head_in}
use Rattle.tb_wire.specs.Bodies.{body_length, length_by, length_said, length_unless, is_length, most_body}
use Rattle.tb_wire.specs.Headers.{values_of}
use Rattle.tb_wire.specs.Front.{lines_len, seen, front_after, with_body, request_of, unfinished_front, IsFrontOf, never_head, later_head, whole_head, IsFront, most_headers, most_head}
use Rattle.tb_wire.proofs.Heads.{stays_refused, stays_whole, lines_bound, head_long}

-- a text that never becomes a head has none
has_none : (text : List ℕ) (h : RequestHead) (rest : List ℕ) → NeverHasRequest text → ¬ (ReadsRequest text h rest)
has_none text h rest never reads =
    never [] h rest (subst (λ (t : List ℕ). ReadsRequest t h rest) (sym (append-nil text)) reads)

-- a text has one front
pub one-front : (text : List ℕ) (there : ℕ) (one other : Cutting)
    → IsFrontOf text there one
    → IsFrontOf text there other
    → one ≡ other
one-front text there one other (never_head n e) (never_head m f) = e ∙ sym f
one-front text there one other (never_head n e) (later_head none may f) = absurd (may n)
one-front text there one other (never_head n e) (whole_head h rest reads f) = absurd (has_none text h rest n reads)
one-front text there one other (later_head none may e) (never_head n f) = absurd (may n)
one-front text there one other (later_head none may e) (later_head none' may' f) = e ∙ sym f
one-front text there one other (later_head none may e) (whole_head h rest reads f) = absurd (none h rest reads)
one-front text there one other (whole_head h rest reads e) (never_head n f) = absurd (has_none text h rest n reads)
one-front text there one other (whole_head h rest reads e) (later_head none may f) = absurd (none h rest reads)
one-front text there one other (whole_head h rest reads e) (whole_head k others reads' f) =
    let same = request_unique text h k rest others reads reads' in
    e ∙ (ap (λ (x : RequestHead). front_after there (head_in x)) same.0 ∙ sym f)

-- what the test of two numbers says
lt_of : (a b : ℕ) → nat_lt a b ≡ true → a < b
lt_of a b h = grind (arith, h)

-- and where it fails
le_of : (a b : ℕ) → nat_lt a b ≡ false → b ≤ a
le_of a b h = grind (arith, h)

-- and when it fails
not_lt : (a b : ℕ) → b ≤ a → nat_lt a b ≡ false
not_lt a b h = grind (arith, h)

-- what is looked at of a long stream stays
seen_full : (bytes more : List ℕ) → most_head ≤ length bytes → seen (bytes ++ more) ≡ seen bytes
seen_full bytes more long =
    let front = take-append-le most_head bytes more long in
    let within : lines_len (take most_head bytes) ≤ length bytes =
    let lines = lines_bound (take most_head bytes) in
    let few = length-take most_head bytes in
    omega (arith, lines, few, long) in
    ap (λ (t : List ℕ). take (lines_len t) (bytes ++ more)) front
    ∙ take-append-le (lines_len (take most_head bytes)) bytes more within

-- what stands behind a head stays, unless its body is still to come
with_body-more : (a b : ℕ) (head : Head) (body : Result ℕ ℕ)
    → a ≤ b
    → with_body a head body ≢ More
    → with_body b head body ≡ with_body a head body
with_body-more a b head (Err code) le there = refl
with_body-more a b head (Ok body) le there = elim (cases_Bool (nat_lt a (head.size + body))) [
  | inl e ↦ absurd (there (rw (e) refl))
  | inr e ↦
      let enough = le_of a (head.size + body) e in
      let later : nat_lt b (head.size + body) ≡ false = not_lt b (head.size + body) (omega (arith, enough, le)) in
      rw (e, later) refl
]

-- what stands behind a head stays as more bytes come
after-more : (a b : ℕ) (head : Head) → a ≤ b → front_after a head ≢ More → front_after b head ≡ front_after a head
after-more a b head le there = elim (cases_Bool (nat_lt most_headers (length head.headers))) [
  | inl e ↦ rw (e) refl
  | inr e ↦ rw (e) (with_body-more a b head (body_length head.method head.headers) le (rw (e) at there))
]

-- what is told without a whole head is told at 8,192 bytes, and stays
unfinished-more : (a b : ℕ)
    → a ≤ b
    → unfinished_front a ≢ More
    → (most_head ≤ a) × (unfinished_front b ≡ unfinished_front a)
unfinished-more a b le there = elim (cases_Bool (nat_lt a most_head)) [
  | inl e ↦ absurd (there (rw (e) refl))
  | inr e ↦
      let long = le_of a most_head e in
      let later : nat_lt b most_head ≡ false = not_lt b most_head (omega (arith, long, le)) in
      (long, rw (e, later) refl)
]

-- a fault and a whole request stay
pub front-more : (bytes more : List ℕ) (front : Cutting)
    → IsFront bytes front
    → front ≢ More
    → IsFront (bytes ++ more) front
front-more bytes more front (never_head n e) there = never_head (stays_refused bytes more n) e
front-more bytes more front (later_head none may e) there =
    let longer : length bytes ≤ length (bytes ++ more) = let l = length-append bytes more in omega (arith, l) in
    let (long, same) = unfinished-more (length bytes) (length (bytes ++ more)) longer (λ m. there (e ∙ m)) in
    let stays = seen_full bytes more long in
    later_head (subst HasNoRequest (sym stays) none)
    (subst (λ (t : List ℕ). ¬ (NeverHasRequest t)) (sym stays) may) (e ∙ sym same)
front-more bytes more front (whole_head h rest reads e) there =
    let longer : length bytes ≤ length (bytes ++ more) = let l = length-append bytes more in omega (arith, l) in
    let (others, again) = stays_whole bytes more h rest reads in
    whole_head h (rest ++ others) again
    (e ∙ sym (after-more (length bytes) (length (bytes ++ more)) (head_in h) longer (λ m. there (e ∙ m))))

-- what is used of a whole request
pub record IsUsed (there : ℕ) (request : HttpRequest) (head : Head) : Type 0 where
  pub used : request.used ≤ there
  pub start : request.body_start ≡ head.size
  pub body : request.body_start ≤ request.used

used_by : (there : ℕ) (head : Head) (body : ℕ) → head.size + body ≤ there → IsUsed there (request_of head body) head
used_by there head body le = record { used = le; start = refl; body = omega arith }

-- the request of a whole front
unwhole : Cutting → HttpRequest → HttpRequest
unwhole (Whole request) other = request
unwhole (Bad code) other = other
unwhole More other = other

-- whether a request is whole
is_whole : Cutting → Bool
is_whole (Whole request) = true
is_whole (Bad code) = false
is_whole More = false

-- a whole request behind a head uses no more bytes than are there
with_body-used : (there : ℕ) (head : Head) (body : Result ℕ ℕ) (request : HttpRequest)
    → with_body there head body ≡ Whole request
    → IsUsed there request head
unfolding unwhole is_whole
with_body-used there head (Err code) request is = let bad : false ≡ true = ap is_whole is in absurd (cc (bad))
with_body-used there head (Ok body) request is = elim (cases_Bool (nat_lt there (head.size + body))) [
  | inl e ↦ let bad : false ≡ true = ap is_whole (rw (e) at is) in absurd (cc (bad))
  | inr e ↦
      let same : request_of head body ≡ request = ap (λ (c : Cutting). unwhole c request) (rw (e) at is) in
      subst (λ (r : HttpRequest). IsUsed there r head) same (used_by there head body (le_of there (head.size + body) e))
]

-- the same, past the count of headers
after-used : (there : ℕ) (head : Head) (request : HttpRequest)
    → front_after there head ≡ Whole request
    → IsUsed there request head
unfolding is_whole
after-used there head request is = elim (cases_Bool (nat_lt most_headers (length head.headers))) [
  | inl e ↦ let bad : false ≡ true = ap is_whole (rw (e) at is) in absurd (cc (bad))
  | inr e ↦ with_body-used there head (body_length head.method head.headers) request (rw (e) at is)
]

-- a request has a head, and no more bytes than are there
pub record IsWithin (there : ℕ) (request : HttpRequest) : Type 0 where
  pub used : request.used ≤ there
  pub some : 0 < request.body_start
  pub body : request.body_start ≤ request.used

-- the same of the front of a stream
pub front-used : (bytes : List ℕ) (request : HttpRequest)
    → IsFront bytes (Whole request)
    → IsWithin (length bytes) request
unfolding is_whole
front-used bytes request (never_head n e) = let bad : true ≡ false = ap is_whole e in absurd (cc (bad))
front-used bytes request (later_head none may e) = elim (cases_Bool (nat_lt (length bytes) most_head)) [
  | inl f ↦ let bad : true ≡ false = ap is_whole (rw (f) at e) in absurd (cc (bad))
  | inr f ↦ let bad : true ≡ false = ap is_whole (rw (f) at e) in absurd (cc (bad))
]
front-used bytes request (whole_head h rest reads e) =
    let is = after-used (length bytes) (head_in h) request (sym e) in
    let long = head_long h reads.0 in
    record { used = is.used; some = (let start = is.start in omega (arith, long, start)); body = is.body }

-- a length that is told is at most 4,096
said_few : (value : List ℕ) → IfOk (length_said value) (λ n. n ≤ 4096)
said_few value = elim (cases_Bool (is_length value)) [
  | inl e ↦ elim (cases_Bool (nat_lt most_body (digits_value 10 value))) [
    | inl f ↦ rw (e, f) tt
    | inr f ↦ rw (e, f) (le_of most_body (digits_value 10 value) f)
  ]
  | inr e ↦ rw (e) tt
]

-- the same by all values of the Content-Length headers
by_few : (method : List ℕ) (values : List (List ℕ)) → IfOk (length_by method values) (λ n. n ≤ 4096)
by_few method [] = elim (cases_Bool (bytes_eq method (codes "POST"))) [
  | inl e ↦ rw (e) tt
  | inr e ↦ rw (e) (omega arith)
]
by_few method (value ∷ []) = said_few value
by_few method (value ∷ other ∷ others) = tt

-- and past a transfer coding
unless_few : (codings : List (List ℕ)) (r : Result ℕ ℕ)
    → IfOk r (λ n. n ≤ 4096)
    → IfOk (length_unless codings r) (λ n. n ≤ 4096)
unless_few [] r few = few
unless_few (coding ∷ others) r few = tt

-- so a body has at most 4,096 bytes
body_few : (method : List ℕ) (headers : List (List ℕ × List ℕ)) → IfOk (body_length method headers) (λ n. n ≤ 4096)
body_few method headers = unless_few (values_of (codes "transfer-encoding") headers)
    (length_by method (values_of (codes "content-length") headers))
    (by_few method (values_of (codes "content-length") headers))

-- whether more bytes are needed
is_more : Cutting → Bool
is_more (Whole request) = false
is_more (Bad code) = false
is_more More = true

-- while more bytes are needed behind a head, fewer than head and longest body are there
with_body-waits : (there : ℕ) (head : Head) (body : Result ℕ ℕ)
    → IfOk body (λ n. n ≤ 4096)
    → with_body there head body ≡ More
    → there < head.size + 4096
unfolding is_more
with_body-waits there head (Err code) few is = let bad : false ≡ true = ap is_more is in absurd (cc (bad))
with_body-waits there head (Ok body) few is = elim (cases_Bool (nat_lt there (head.size + body))) [
  | inl e ↦ let less = lt_of there (head.size + body) e in omega (arith, less, few)
  | inr e ↦ let bad : false ≡ true = ap is_more (rw (e) at is) in absurd (cc (bad))
]

-- the same, past the count of headers
after-waits : (there : ℕ) (head : Head) → front_after there head ≡ More → there < head.size + 4096
unfolding is_more
after-waits there head is = elim (cases_Bool (nat_lt most_headers (length head.headers))) [
  | inl e ↦ let bad : false ≡ true = ap is_more (rw (e) at is) in absurd (cc (bad))
  | inr e ↦
      let few = body_few head.method head.headers in
      with_body-waits there head (body_length head.method head.headers) few (rw (e) at is)
]

-- while more bytes are needed
pub front-waits : (bytes : List ℕ) → IsFront bytes More → length bytes < 12288
unfolding is_more
front-waits bytes (never_head n e) = let bad : true ≡ false = ap is_more e in absurd (cc (bad))
front-waits bytes (later_head none may e) = elim (cases_Bool (nat_lt (length bytes) most_head)) [
  | inl f ↦ let less = lt_of (length bytes) most_head f in omega (arith, less)
  | inr f ↦ let bad : true ≡ false = ap is_more (rw (f) at e) in absurd (cc (bad))
]
front-waits bytes (whole_head h rest reads e) =
    let less = after-waits (length bytes) (head_in h) (sym e) in
    let split = ap length reads.1 ∙ length-append (print_request h) rest in
    let lines = lines_bound (take most_head bytes) in
    let few = length-take most_head bytes in
    let text = length-take (lines_len (take most_head bytes)) bytes in
    omega (arith, less, split, lines, few, text)

-- the code of a fault
code_in : Cutting → ℕ
code_in (Whole request) = 200
code_in (Bad code) = code
code_in More = 200

-- the code of a fault has a phrase
told : Cutting → Type 0
told front = is_told (code_in front) ≡ true

-- no fault is told where the length is right
ok_told : (there : ℕ) (head : Head) (body : ℕ) → told (with_body there head (Ok body))
unfolding told code_in
ok_told there head body = elim (cases_Bool (nat_lt there (head.size + body))) [
  | inl e ↦ rw (e) refl
  | inr e ↦ rw (e) refl
]

-- the faults of one value have phrases
said_told : (there : ℕ) (head : Head) (value : List ℕ) → told (with_body there head (length_said value))
unfolding told code_in
said_told there head value = elim (cases_Bool (is_length value)) [
  | inl e ↦ elim (cases_Bool (nat_lt most_body (digits_value 10 value))) [
    | inl f ↦ rw (e, f) refl
    | inr f ↦ rw (e, f) (ok_told there head (digits_value 10 value))
  ]
  | inr e ↦ rw (e) refl
]

-- so have those of all values
by_told : (there : ℕ) (head : Head) (method : List ℕ) (values : List (List ℕ))
    → told (with_body there head (length_by method values))
unfolding told code_in
by_told there head method [] = elim (cases_Bool (bytes_eq method (codes "POST"))) [
  | inl e ↦ rw (e) refl
  | inr e ↦ rw (e) (ok_told there head 0)
]
by_told there head method (value ∷ []) = said_told there head value
by_told there head method (value ∷ other ∷ others) = refl

-- that of a transfer coding
unless_told : (there : ℕ) (head : Head) (codings : List (List ℕ)) (r : Result ℕ ℕ) → told (with_body there head r)
    → told (with_body there head (length_unless codings r))
unfolding told code_in
unless_told there head [] r is = is
unless_told there head (coding ∷ others) r is = refl

-- that of too many headers
after_told : (there : ℕ) (head : Head) → told (front_after there head)
unfolding told code_in
after_told there head = elim (cases_Bool (nat_lt most_headers (length head.headers))) [
  | inl e ↦ rw (e) refl
  | inr e ↦ rw (e) (unless_told there head (values_of (codes "transfer-encoding") head.headers)
      (length_by head.method (values_of (codes "content-length") head.headers))
      (by_told there head head.method (values_of (codes "content-length") head.headers)))
]

-- and that of a head which is too long
unfinished_told : (there : ℕ) → told (unfinished_front there)
unfolding told code_in
unfinished_told there = elim (cases_Bool (nat_lt there most_head)) [
  | inl e ↦ rw (e) refl
  | inr e ↦ rw (e) refl
]

-- so each fault of a front has one
front_told : (text : List ℕ) (there : ℕ) (front : Cutting) → IsFrontOf text there front → told front
unfolding told code_in
front_told text there front (never_head n e) = subst told (sym e) refl
front_told text there front (later_head none may e) = subst told (sym e) (unfinished_told there)
front_told text there front (whole_head h rest reads e) = subst told (sym e) (after_told there (head_in h))

-- each fault has a code that replies are told by
pub front-told : (bytes : List ℕ) (code : ℕ) → IsFront bytes (Bad code) → is_told code ≡ true
unfolding told code_in
front-told bytes code is = front_told (seen bytes) (length bytes) (Bad code) is
