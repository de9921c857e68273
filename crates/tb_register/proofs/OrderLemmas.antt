-- The byte order of names.
use Rattle.std.proofs.Common.{◌≡◌, ℕ, List, Bool, true, false, not, ◌&&◌, bytes_eq, refl, sym, ap, subst, ◌∙◌}
use Rattle.std.specs.Ordering.{nat_cmp, is_lt, is_eq, ordering_reverse}
use Rattle.std.specs.declared.cmp.Ordering.{Ordering}
use Rattle.std.specs.declared.cmp.Ordering.TheVariants.{Less, Equal, Greater}
use Rattle.std.specs.Cmp.Lexicographic.{slice_cmp}
use Rattle.std.proofs.lemmas.Cmp.{nat_list_cmp_total}
use Rattle.std.proofs.lemmas.Map.Text.{is_eq-slice_cmp}
use Rattle.std.proofs.lemmas.Slice.Eq.{bytes_eq-Decides}
use Rattle.tb_register.specs.Tables.{is_before}

-- both of two tests that hold together
pub both_tests : (one other : Bool) → one && other ≡ true → (one ≡ true) × (other ≡ true)
both_tests true other both = (refl, both)
both_tests false other both = absurd (let hold = both in cc)

-- what is not untrue
pub not_untrue : (test : Bool) → not test ≡ false → test ≡ true
not_untrue true untrue = refl
not_untrue false untrue = absurd (let holds = untrue in cc)

-- no test both holds and fails
pub true_or_false : (test : Bool) → test ≡ true → test ≡ false → ⊥
true_or_false test holds fails = let both = sym holds ∙ fails in cc

-- names of the same bytes are one
pub same_name : (one other : List ℕ) → bytes_eq one other ≡ true → one ≡ other
same_name one other same = (bytes_eq-Decides one other).0 same

-- a name has its own bytes
pub name_itself : (name : List ℕ) → bytes_eq name name ≡ true
name_itself name = (bytes_eq-Decides name name).1 refl

-- names that differ do so either way round
pub names_differ : (one other : List ℕ) → bytes_eq one other ≡ false → bytes_eq other one ≡ false
names_differ one other differ = by_test (bytes_eq other one) refl
  where
    by_test : (test : Bool) → bytes_eq other one ≡ test → test ≡ false
    by_test true same =
        let itself = subst (λ name. bytes_eq one name ≡ true) (sym (same_name other one same)) (name_itself one) in
        absurd (true_or_false _ itself differ)
    by_test false same = refl

less_is : (order : Ordering) → is_lt order ≡ true → order ≡ Less
less_is Less before = refl
less_is Equal before = absurd (let less = before in cc)
less_is Greater before = absurd (let less = before in cc)

-- a name before one that stands before a third stands before the third
pub before_then : (first second third : List ℕ) → is_before first second ≡ true
    → is_before second third ≡ true
    → is_before first third ≡ true
before_then first second third before after =
    ap is_lt (nat_list_cmp_total.trans first second third (less_is _ before) (less_is _ after))

turned : (order : Ordering) → is_eq order ≡ false → is_lt (ordering_reverse order) ≡ not (is_lt order)
turned Less differ = refl
turned Equal differ = absurd (let same = differ in cc)
turned Greater differ = refl

-- of two names that differ one stands before the other
pub before_back : (one other : List ℕ) → bytes_eq one other ≡ false → is_before other one ≡ not (is_before one other)
before_back one other differ =
    ap is_lt (nat_list_cmp_total.antisymm other one)
    ∙ turned (slice_cmp nat_cmp one other) (is_eq-slice_cmp one other ∙ differ)

not_less : (order : Ordering) → order ≡ ordering_reverse order → is_lt order ≡ false
not_less Less turns = absurd (let same = turns in cc)
not_less Equal turns = refl
not_less Greater turns = refl

-- no name stands before itself
pub before_itself : (name : List ℕ) → is_before name name ≡ false
before_itself name = not_less (slice_cmp nat_cmp name name) (nat_list_cmp_total.antisymm name name)

-- nor do two stand before each other
pub before_one_way : (one other : List ℕ) → is_before one other ≡ true → is_before other one ≡ true → ⊥
before_one_way one other before behind =
    true_or_false (is_before one one) (before_then one other one before behind) (before_itself one)

-- a name that stands before another is another
pub before_differs : (one other : List ℕ) → is_before one other ≡ true → bytes_eq one other ≡ false
before_differs one other before = by_test (bytes_eq one other) refl
  where
    by_test : (test : Bool) → bytes_eq one other ≡ test → test ≡ false
    by_test true same =
        let itself = subst (λ name. is_before one name ≡ true) (sym (same_name one other same)) before in
        absurd (true_or_false _ itself (before_itself one))
    by_test false same = refl
