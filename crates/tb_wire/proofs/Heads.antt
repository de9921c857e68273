-- On heads: where a text ends in LF, and how many fields fit.
use Rattle.std.proofs.Common.{◌≡◌, ℕ, ◌+◌, ◌*◌, ◌≤◌, List, [], ◌∷◌, ◌++◌, length, refl, ap, sym, ◌∙◌, subst, arith, rules, true, false, length-append, append_assoc, Bool}
use Rattle.std.specs.List.{flat_map, AllByRecursion}
use Rattle.std.proofs.lemmas.List.Elements.{recursion_from_All}
use Rattle.std.specs.Prelude.{IsTrue, ◌==◌, if◌then◌else◌}
use Rattle.httparse.specs.Grammar.{is_uri_byte, Field, IsField, print_field, print_blank, print_request, RequestHead, IsRequestHead, ReadsRequest, EndsInTarget}
use Rattle.httparse.specs.Spans.{RequestExceeds}
use Rattle.std.proofs.lemmas.List.{take-append-le, take-append-drop, length-take, take-take, take_min}
use Rattle.std.proofs.Common.{take, drop, min}
use Rattle.httparse.specs.Grammar.{NeverHasRequest}
use Rattle.httparse.proofs.GrammarLemmas.{ReadsRequest-append}
use Rattle.tb_wire.specs.Front.{lines_len, seen}

-- a text that has no LF in its last part
pub ends_before : (xs zs : List ℕ) → lines_len zs ≡ 0 → lines_len (xs ++ zs) ≤ length xs
unfolding lines_len
ends_before [] zs h = omega arith
ends_before (x ∷ xs) zs h = let ih = ends_before xs zs h in grind (arith, ih)

-- a byte of a target is no LF, by the test
visible_cases : (z : ℕ) (b : Bool) → (z == 10) ≡ b → is_uri_byte z ≡ true → ◌≡◌ {A = ℕ} (if b then 1 else 0) 0
visible_cases z true e h = let n : z ≡ 10 = search rules in let bad : is_uri_byte 10 ≡ true = rw n at h in cc
visible_cases z false e h = refl

-- a byte of a target is no LF
visible : (z : ℕ) → is_uri_byte z ≡ true → ◌≡◌ {A = ℕ} (if z == 10 then 1 else 0) 0
visible z h = visible_cases z (z == 10) refl h

-- a target has no LF
pub no_line : (zs : List ℕ) → AllByRecursion (λ b. IsTrue (is_uri_byte b)) zs → lines_len zs ≡ 0
unfolding lines_len
no_line [] h = refl
no_line (z ∷ zs) h = let ih = no_line zs h.1 in let v = visible z h.0 in rw (ih, v)

pub field_long : (f : Field) → IsField f → 3 ≤ length (print_field f)
field_long f h = let n = h.name.0 in grind (arith, length-append {A = ℕ})

pub fields_long : (fs : List Field) → AllByRecursion IsField fs → 3 * length fs ≤ length (flat_map print_field fs)
fields_long [] h = omega arith
fields_long (f ∷ fs) h =
    let ih = fields_long fs h.1 in
    let one = field_long f h.0 in
    omega (arith, length-append (print_field f) (flat_map print_field fs))

-- a head has three bytes for each header, and two more
pub head_long : (h : RequestHead) → IsRequestHead h → 3 * length h.fields + 2 ≤ length (print_request h)
unfolding print_request
head_long h is = let fs = fields_long h.fields (recursion_from_All _ _ is.fields) in simp length-append (omega arith)

-- a text of whole lines does not end inside a target
pub not_in_target : (text : List ℕ) → lines_len text ≡ length text → ¬ (EndsInTarget text)
unfolding lines_len
not_in_target text whole ends =
    let (blank, method, target, token, uri, is) = ends in
    let t = no_line target (recursion_from_All _ _ uri) in
    let s : lines_len (32 ∷ target) ≡ 0 = rw t refl in
    let long = ends_before (print_blank blank ++ method) (32 ∷ target) s in
    let lines = ap lines_len is in
    let total = simp length-append at (ap length is) in
    let front = length-append (print_blank blank) method in
    omega (arith, whole, long, lines, total, front)

-- more than 2,731 fields do not fit 8,192 bytes
pub fields_fit : (text : List ℕ) → length text ≤ 8192 → ¬ (RequestExceeds 2731 text)
fields_fit text short exceeds =
    let (front, rest, is, h, reads, many) = exceeds in
    let long = head_long h reads.0 in
    let a = simp length-append at (ap length is) in
    let b = simp length-append at (ap length reads.1) in
    omega (arith, long, a, b, many)

-- ---- more bytes

-- more bytes leave no fewer lines
pub more_lines : (xs ys : List ℕ) → lines_len xs ≤ lines_len (xs ++ ys)
unfolding lines_len
more_lines [] ys = omega arith
more_lines (x ∷ xs) ys = let ih = more_lines xs ys in grind (arith, ih)

-- lines are no longer than the text
pub lines_bound : (xs : List ℕ) → lines_len xs ≤ length xs
unfolding lines_len
lines_bound [] = omega arith
lines_bound (x ∷ xs) = let ih = lines_bound xs in grind (arith, ih)

-- a front of a longer list begins with a front of the list
split_at : (n m : ℕ) (a b : List ℕ) → n ≤ m → n ≤ length a → take m (a ++ b) ≡ take n a ++ drop n (take m (a ++ b))
split_at n m a b h k =
    let front = take-take n m (a ++ b) h ∙ take-append-le n a b k in
    sym (take-append-drop n (take m (a ++ b))) ∙ ap (λ (x : List ℕ). x ++ drop n (take m (a ++ b))) front

-- so does the front of the same limit
take_front : (n l : ℕ) (a b : List ℕ) → l ≡ min n (length a) → take n (a ++ b) ≡ take n a ++ drop l (take n (a ++ b))
take_front n l a b e =
    let front = ap (λ (k : ℕ). take k a) e ∙ take_min n a in
    split_at l n a b (omega (arith, e)) (omega (arith, e)) ∙ ap (λ (x : List ℕ). x ++ drop l (take n (a ++ b))) front

-- so the lines within a limit only grow
grows_by : (limit : ℕ) (a b : List ℕ) → lines_len (take limit a) ≤ lines_len (take limit (a ++ b))
grows_by limit a b =
    let front = take_front limit (min limit (length a)) a b refl in rw (front) (more_lines (take limit a) _)

-- what is looked at only grows
pub seen_grows : (a b : List ℕ) → (c : List ℕ) × (seen (a ++ b) ≡ seen a ++ c)
seen_grows a b = (
  _,
  split_at (lines_len (take 8192 a)) (lines_len (take 8192 (a ++ b))) a b (grows_by 8192 a b)
      (omega (arith, lines_bound (take 8192 a), length-take 8192 a)),
)

-- a refusal stays one
pub stays_refused : (a b : List ℕ) → NeverHasRequest (seen a) → NeverHasRequest (seen (a ++ b))
stays_refused a b never more h rest reads =
    let (c, is) = seen_grows a b in
    let longer = ap (λ (x : List ℕ). x ++ more) is ∙ append_assoc (seen a) c more in
    never (c ++ more) h rest (subst (λ (x : List ℕ). ReadsRequest x h rest) longer reads)

-- and a whole head stays the same head
pub stays_whole : (a b : List ℕ) (h : RequestHead) (rest : List ℕ)
    → ReadsRequest (seen a) h rest
    → (more : List ℕ) × ReadsRequest (seen (a ++ b)) h (rest ++ more)
stays_whole a b h rest reads =
    let (c, is) = seen_grows a b in
    (c, subst (λ (x : List ℕ). ReadsRequest x h (rest ++ c)) (sym is) (ReadsRequest-append (seen a) h rest c reads))
