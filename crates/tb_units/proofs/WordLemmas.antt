-- Texts with zeros behind them, compared eight bytes at a time.
use Rattle.std.proofs.Common.{◌≡◌, ℕ, zero, suc, ◌+◌, ◌*◌, ◌<◌, ◌≤◌, List, [], ◌∷◌, ◌++◌, length, take, drop, true, refl, sym, ap, ◌∙◌, arith}
use Rattle.std.specs.Prelude.{replicate}
use Rattle.std.specs.List.{list_all}
use Rattle.std.specs.Ordering.{nat_cmp, ordering_then}
use Rattle.std.specs.Cmp.Lexicographic.{slice_cmp}
use Rattle.std.specs.declared.cmp.Ordering.{Ordering}
use Rattle.std.specs.declared.cmp.Ordering.TheVariants.{Less, Equal, Greater}
use Rattle.std.proofs.lemmas.Bool.Decides.{nat_tests}
use Rattle.std.proofs.lemmas.Cmp.{ranked, by_ranked}
use Rattle.std.proofs.lemmas.List.{take-append-drop, drop-drop, length-drop, length-take-le}
use Rattle.tb_units.specs.Names.{is_name_byte}
use Rattle.tb_units.specs.Words.{big_endian}
use Rattle.tb_units.proofs.OrderLemmas.{less-nat, greater-nat, equal-nat}
use Rattle.tb_units.proofs.ByteLemmas.{AreBytes, take-bytes, drop-bytes}

-- numbers that differ go on to differ, whatever bytes follow
big_endian-rises : (one other : List ℕ) (before after : ℕ)
    → length one ≡ length other
    → AreBytes one
    → before < after
    → big_endian before one < big_endian after other
big_endian-rises [] [] before after long small below = below
big_endian-rises [] (y ∷ other) before after long small below = absurd (omega (arith, long))
big_endian-rises (x ∷ one) [] before after long small below = absurd (omega (arith, long))
big_endian-rises (x ∷ one) (y ∷ other) before after long small below =
    let byte : x < 256 = small 0 in
    big_endian-rises one other (before * 256 + x) (after * 256 + y) (omega (arith, long)) (λ place. small (suc place))
    (omega (arith, byte, below))

-- texts of one length stand in the order of the numbers that they spell
pub big_endian-order : (one other : List ℕ) (before : ℕ)
    → length one ≡ length other
    → AreBytes one
    → AreBytes other
    → nat_cmp (big_endian before one) (big_endian before other) ≡ slice_cmp nat_cmp one other
big_endian-order [] [] before long small small_other = equal-nat before before refl
big_endian-order [] (y ∷ other) before long small small_other = absurd (omega (arith, long))
big_endian-order (x ∷ one) [] before long small small_other = absurd (omega (arith, long))
big_endian-order (x ∷ one) (y ∷ other) before long small small_other =
    by_ranked (x < y) (x ≡ y) (y < x) (nat_cmp x y) (ranked x y (nat_cmp x y) refl)
    (λ is below.
    less-nat _ _ (big_endian-rises one other (before * 256 + x) (before * 256 + y) shorter (λ place. small (suc place))
    (omega (arith, below)))
    ∙ sym (ap (λ order. ordering_then order rest) is))
    (λ is same.
    (λ i. nat_cmp (big_endian (before * 256 + x) one) (big_endian (before * 256 + sym same i) other))
    ∙ big_endian-order one other (before * 256 + x) shorter (λ place. small (suc place))
    (λ place. small_other (suc place))
    ∙ sym (ap (λ order. ordering_then order rest) is))
    (λ is above.
    greater-nat _ _ (big_endian-rises other one (before * 256 + y) (before * 256 + x) (sym shorter)
    (λ place. small_other (suc place)) (omega (arith, above)))
    ∙ sym (ap (λ order. ordering_then order rest) is))
  where
    rest : Ordering
    rest = slice_cmp nat_cmp one other

    shorter : length one ≡ length other
    shorter = omega (arith, long)

-- orders one after the other, the first two taken together
then-then : (first second third : Ordering)
    → ordering_then (ordering_then first second) third ≡ ordering_then first (ordering_then second third)
then-then Less second third = refl
then-then Equal second third = refl
then-then Greater second third = refl

-- the order of texts whose fronts have one length is that of the fronts, and then that of the rests
pub order-parts : (one other rest other_rest : List ℕ)
    → length one ≡ length other
    → slice_cmp nat_cmp (one ++ rest) (other ++ other_rest)
    ≡ ordering_then (slice_cmp nat_cmp one other) (slice_cmp nat_cmp rest other_rest)
order-parts [] [] rest other_rest long = refl
order-parts [] (y ∷ other) rest other_rest long = absurd (omega (arith, long))
order-parts (x ∷ one) [] rest other_rest long = absurd (omega (arith, long))
order-parts (x ∷ one) (y ∷ other) rest other_rest long =
    ap (ordering_then (nat_cmp x y)) (order-parts one other rest other_rest (omega (arith, long)))
    ∙ sym (then-then (nat_cmp x y) (slice_cmp nat_cmp one other) (slice_cmp nat_cmp rest other_rest))

-- a text is in the order of itself
pub order-same : (list : List ℕ) → slice_cmp nat_cmp list list ≡ Equal
order-same [] = refl
order-same (x ∷ list) =
    ap (λ order. ordering_then order (slice_cmp nat_cmp list list)) (equal-nat x x refl) ∙ order-same list

-- zeros behind names, as many as make them equally long, leave their order
pub padding-order : (one other : List ℕ) (lacks others : ℕ)
    → list_all is_name_byte one ≡ true
    → list_all is_name_byte other ≡ true
    → length one + lacks ≡ length other + others
    → slice_cmp nat_cmp (one ++ replicate lacks 0) (other ++ replicate others 0) ≡ slice_cmp nat_cmp one other
padding-order [] [] lacks others named named_other long =
    let same : lacks ≡ others = omega (arith, long) in
    (λ i. slice_cmp nat_cmp (replicate (same i) 0) (replicate others 0)) ∙ order-same (replicate others 0)
padding-order [] (y ∷ other) zero others named named_other long = absurd (omega (arith, long))
padding-order [] (y ∷ other) (suc lacks) others named named_other long =
    let some : 0 < y = grind (arith, nat_tests) in
    ap (λ order. ordering_then order (slice_cmp nat_cmp (replicate lacks 0) (other ++ replicate others 0)))
    (less-nat 0 y some)
padding-order (x ∷ one) [] lacks zero named named_other long = absurd (omega (arith, long))
padding-order (x ∷ one) [] lacks (suc others) named named_other long =
    let some : 0 < x = grind (arith, nat_tests) in
    ap (λ order. ordering_then order (slice_cmp nat_cmp (one ++ replicate lacks 0) (replicate others 0)))
    (greater-nat x 0 some)
padding-order (x ∷ one) (y ∷ other) lacks others named named_other long =
    ap (ordering_then (nat_cmp x y))
    (padding-order one other lacks others (grind (arith, nat_tests)) (grind (arith, nat_tests)) (omega (arith, long)))

-- the eight bytes from a place on
abbrev pub eight_from : ℕ → List ℕ → List ℕ
eight_from place list = take 8 (drop place list)

-- from a place on stand eight bytes, and those behind them
from-eight : (list : List ℕ) (place : ℕ) → drop place list ≡ eight_from place list ++ drop (place + 8) list
from-eight list place =
    sym (take-append-drop 8 (drop place list)) ∙ ap (λ rest. eight_from place list ++ rest) (drop-drop 8 place list)

-- numbers that differ have the order of what begins with them
then-apart : (one other : ℕ) (rest : Ordering) → ¬ (one ≡ other)
    → ordering_then (nat_cmp one other) rest ≡ nat_cmp one other
then-apart one other rest apart =
    by_ranked (one < other) (one ≡ other) (other < one) (nat_cmp one other) (ranked one other (nat_cmp one other) refl)
    (λ is _. ap (λ order. ordering_then order rest) is ∙ sym is)
    (λ _ same. absurd (apart same))
    (λ is _. ap (λ order. ordering_then order rest) is ∙ sym is)

module _ (one other : List ℕ) (place : ℕ)
    (within : place + 8 ≤ length one)
    (within_other : place + 8 ≤ length other)
    (small : AreBytes one)
    (small_other : AreBytes other) where
  long : length (eight_from place one) ≡ length (eight_from place other)
  long =
      length-take-le 8 (drop place one) (omega (arith, length-drop place one))
      ∙ sym (length-take-le 8 (drop place other) (omega (arith, length-drop place other)))

  abbrev pub rest : Ordering
  rest = slice_cmp nat_cmp (drop (place + 8) one) (drop (place + 8) other)

  -- from a place on the order is that of the next eight bytes as numbers, and then that of the rest
  eight-then : slice_cmp nat_cmp (drop place one) (drop place other)
      ≡ ordering_then (nat_cmp (big_endian 0 (eight_from place one)) (big_endian 0 (eight_from place other))) rest
  eight-then =
      (λ i. slice_cmp nat_cmp (from-eight one place i) (from-eight other place i))
      ∙ order-parts (eight_from place one) (eight_from place other) (drop (place + 8) one) (drop (place + 8) other) long
      ∙ sym (ap (λ order. ordering_then order rest)
      (big_endian-order (eight_from place one) (eight_from place other) 0 long
      (take-bytes 8 (drop place one) (drop-bytes place one small))
      (take-bytes 8 (drop place other) (drop-bytes place other small_other))))

  -- where these numbers differ they decide
  pub eight-apart : (left right : ℕ)
      → left ≡ big_endian 0 (eight_from place one)
      → right ≡ big_endian 0 (eight_from place other)
      → ¬ (left ≡ right)
      → slice_cmp nat_cmp (drop place one) (drop place other) ≡ nat_cmp left right
  eight-apart left right is is_other apart =
      eight-then
      ∙ (λ i. ordering_then (nat_cmp (sym is i) (sym is_other i)) rest)
      ∙ then-apart left right rest apart

  -- and where they are the same the rest does
  pub eight-same : (left right : ℕ)
      → left ≡ big_endian 0 (eight_from place one)
      → right ≡ big_endian 0 (eight_from place other)
      → left ≡ right
      → slice_cmp nat_cmp (drop place one) (drop place other) ≡ rest
  eight-same left right is is_other same =
      eight-then
      ∙ (λ i. ordering_then (nat_cmp (sym is i) (sym is_other i)) rest)
      ∙ ap (λ order. ordering_then order rest) (equal-nat left right same)
