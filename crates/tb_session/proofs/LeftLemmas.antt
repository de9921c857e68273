-- Bytes at whose front no whole request stands.
use Rattle.std.proofs.Common.{◌≡◌, ◌≢◌, ℕ, ◌<◌, List, [], length, map, true, refl, sym, ◌∙◌, subst, inl, inr, arith}
use Rattle.std.specs.Prelude.{nat_lt}
use Rattle.std.proofs.lemmas.Bool.{cases_Bool}
use Rattle.std.proofs.lemmas.List.{append-nil, length-map}
use Rattle.httparse.specs.Grammar.{RequestHead, ReadsRequest}
use Rattle.httparse.specs.Spans.{RequestOverflows, name_and_value}
use Rattle.tb_wire.specs.declared.cutting.Cutting.TheVariants.{Whole, Bad, More}
use Rattle.tb_wire.specs.declared.cutting.HttpRequest.{HttpRequest}
use Rattle.tb_wire.specs.Cuts.{HoldsNone}
use Rattle.tb_wire.specs.Front.{IsFront, IsFrontOf, front_after, unfinished_front, seen, most_head, most_headers, never_head, later_head, whole_head}
use Rattle.tb_wire.specs.Head.{head_in}
use Rattle.tb_wire.proofs.FrontLaws.{front-used, one-front}

-- a whole request is not less than one
pub not-more : (r : HttpRequest) → Whole r ≢ More
not-more r is = cc

-- nor a fault
not-bad : (r : HttpRequest) (code : ℕ) → Whole r ≢ Bad code
not-bad r code is = cc

-- where more bytes are needed
pub none-yet : (bytes : List ℕ) → IsFront bytes More → HoldsNone bytes
none-yet bytes more r whole = not-more r (one-front (seen bytes) (length bytes) (Whole r) More whole more)

-- where the bytes are at fault
pub none-bad : (bytes : List ℕ) (code : ℕ) → IsFront bytes (Bad code) → HoldsNone bytes
none-bad bytes code bad r whole =
    not-bad r code (one-front (seen bytes) (length bytes) (Whole r) (Bad code) whole bad)

-- where there are no bytes
pub none-empty : HoldsNone []
none-empty r whole = let within = front-used [] r whole in omega (arith, within.used, within.some, within.body)

-- nor is it what stands there while there is no whole head
not-unfinished : (r : HttpRequest) (there : ℕ) → Whole r ≢ unfinished_front there
not-unfinished r there is = elim (cases_Bool (nat_lt there most_head)) [
  | inl few ↦ not-more r (rw (few) at is)
  | inr many ↦ not-bad r 431 (rw (many) at is)
]

-- the test of two numbers
true_if : (a b : ℕ) → a < b → nat_lt a b ≡ true
true_if a b less = grind (arith, less)

-- more than 32 headers are a fault
too_many : (there : ℕ) (h : RequestHead) → 32 < length h.fields → front_after there (head_in h) ≡ Bad 431
too_many there h many =
    let long : 32 < length (map name_and_value h.fields) = rw (length-map) many in
    rw (true_if most_headers (length (map name_and_value h.fields)) long) refl

-- where whatever head stands there has more than 32 headers
not-crowded : (text : List ℕ) (there : ℕ) (r : HttpRequest) → RequestOverflows 32 text
    → ¬ (IsFrontOf text there (Whole r))
not-crowded text there r over (never_head none is) = not-bad r 400 is
not-crowded text there r over (later_head none may is) = not-unfinished r there is
not-crowded text there r over (whole_head h rest reads is) =
    let again = subst (λ (t : List ℕ). ReadsRequest t h rest) (sym (append-nil text)) reads in
    not-bad r 431 (is ∙ too_many there h (over [] h rest again))

-- so no request stands in front of bytes with more than 32 headers
pub none-crowded : (bytes : List ℕ) → RequestOverflows 32 (seen bytes) → HoldsNone bytes
none-crowded bytes over r whole = not-crowded (seen bytes) (length bytes) r over whole
