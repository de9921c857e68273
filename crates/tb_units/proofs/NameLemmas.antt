-- Names, and texts with zeros behind them.
use Rattle.std.proofs.Common.{◌≡◌, ℕ, ◌≤◌, List, ◌++◌, length, take, drop, true, sym, ◌∙◌, arith}
use Rattle.std.specs.Prelude.{replicate}
use Rattle.std.proofs.lemmas.Bool.Decides.{nat_tests}
use Rattle.std.proofs.lemmas.List.{drop-replicate, length-replicate, length-append, length-drop}
use Rattle.std.proofs.Math.Seq.{drop-append_seam}
use Rattle.tb_units.specs.Names.{is_name}
use Rattle.std.specs.List.{list_all}
use Rattle.std.specs.Ordering.{nat_cmp}
use Rattle.std.specs.Cmp.Lexicographic.{slice_cmp}
use Rattle.tb_units.specs.Names.{is_name_byte}
use Rattle.tb_units.specs.Padding.{IsPadded, IsPadded-bytes, IsPadded-length}
use Rattle.tb_units.proofs.WordLemmas.{padding-order}

-- a name is no longer than 32 bytes
pub is_name-length : (text : List ℕ) → is_name text ≡ true → length text ≤ 32
unfolding is_name
is_name-length text named = grind (arith, nat_tests)

-- and has one at least
pub is_name-some : (text : List ℕ) → is_name text ≡ true → 1 ≤ length text
unfolding is_name
is_name-some text named = grind (arith, nat_tests)

-- a text before what is left of 32 zeros
pub IsPadded-front : (text zeros : List ℕ)
    → length text ≤ 32
    → zeros ≡ replicate 32 0
    → IsPadded (text ++ drop (length text) zeros) (length text)
IsPadded-front text zeros few is = record {
  whole = rw (is, length-append text _, length-drop (length text) _, length-replicate {A = ℕ} 32 0) (omega arith);
  within = few;
  zeros = drop-append_seam text _ ∙ rw is (drop-replicate (length text) 32 0);
}

-- and has bytes of names alone
is_name-bytes : (text : List ℕ) → is_name text ≡ true → list_all is_name_byte text ≡ true
unfolding is_name
is_name-bytes text named = grind (arith, nat_tests)

-- names stand in the order of the arrays in which they have zeros behind them
pub padded-order : (bytes others : List ℕ) (used used_other : ℕ)
    → IsPadded bytes used × (is_name (take used bytes) ≡ true)
    → IsPadded others used_other × (is_name (take used_other others) ≡ true)
    → slice_cmp nat_cmp bytes others ≡ slice_cmp nat_cmp (take used bytes) (take used_other others)
padded-order bytes others used used_other one other =
    let long = IsPadded-length bytes used one.0 in
    let long_other = IsPadded-length others used_other other.0 in
    (λ i.
    slice_cmp nat_cmp (sym (IsPadded-bytes bytes used one.0) i) (sym (IsPadded-bytes others used_other other.0) i))
    ∙ padding-order (take used bytes) (take used_other others) _ _
    (is_name-bytes (take used bytes) one.1) (is_name-bytes (take used_other others) other.1)
    (omega (arith, long, long_other, one.0.within, other.0.within))
