-- The first places of the keys of a list, as it grows and shrinks at its end.
use Rattle.std.proofs.Common.{◌≡◌, ℕ, ◌+◌, ◌<◌, ◌≤◌, Some, None, List, [], ◌∷◌, ◌++◌, inl, inr, length, get_or, arith, sym, ap, ◌∙◌, refl}
use Rattle.std.specs.List.{All, insert, remove, position}
use Rattle.std.specs.Ordering.{is_eq}
use Rattle.std.specs.Cmp.{IsTotalOrder}
use Rattle.std.specs.declared.cmp.Ordering.{Ordering}
use Rattle.std.specs.declared.cmp.Ordering.TheVariants.{Equal}
use Rattle.std.proofs.lemmas.Bool.{cases_Bool, cases_lt, false≢true}
use Rattle.std.proofs.lemmas.Cmp.{alike_right, tied_back, tied_itself}
use Rattle.std.proofs.lemmas.List.Elements.{All-weaker}
use Rattle.std.proofs.lemmas.List.Edits.{length-remove, get_or-remove_below, get_or-remove_above}
use Rattle.tb_blocks.specs.Orders.{AreOrdered, HasKey, HasKeyAt}
use Rattle.tb_blocks.proofs.OrderLemmas.{equal-is}
use Rattle.tb_index.specs.declared.places.Place.{Place}
use Rattle.tb_index.specs.Indexes.{first_of, tied, ArePlaces}
use Rattle.tb_index.proofs.PositionLemmas.{position-stays, position-new, position-none, position-none_before, position-before, position-within, position-last}
use Rattle.tb_index.proofs.KeyLemmas.{All-insert, HasKey-insert, HasKey-inserted, HasKey-remove, ordered-apart}

-- the key of a place
abbrev pub key_in : {K : Type 0} → Place K → K
key_in place = place.key

-- keys that their order ties stand first at the same place
pub first_of-equal : {K : Type 0} (compare : K → K → Ordering) (one other : K) (keys : List K)
    → IsTotalOrder compare
    → compare one other ≡ Equal
    → first_of (tied compare) one keys ≡ first_of (tied compare) other keys
first_of-equal compare one other keys total equal =
    λ i. position (λ k. is_eq (alike_right total one other k equal i)) keys

-- what a place that is kept says of an equal key
pub first_of-kept : {K : Type 0} (compare : K → K → Ordering) (keys : List K) (places : List (Place K)) (key : K)
    (at : ℕ) (place : Place K)
    → IsTotalOrder compare
    → ArePlaces compare keys places
    → HasKeyAt compare key_in key places at
    → place ≡ get_or places at place
    → first_of (tied compare) key keys ≡ Some place.place
first_of-kept compare keys places key at place total are has is =
    let equal : compare place.key key ≡ Equal = ap (λ p. compare (key_in p) key) is ∙ has.same place in
    sym (first_of-equal compare place.key key keys total equal)
    ∙ (ap (λ p. first_of (tied compare) (key_in p) keys) is
    ∙ (are.each at place has.within ∙ ap (λ (p : Place _). Some p.place) (sym is)))

-- no keys have no places
pub ArePlaces-nil : {K : Type 0} (compare : K → K → Ordering) → ArePlaces {K = K} compare [] []
ArePlaces-nil compare = record {
  order = λ i j d earlier short. absurd (omega (arith, short));
  each = λ k d short. absurd (omega (arith, short));
  others = λ key lacks. refl;
}

-- the keys that are kept stay at their places when a key is added
each-stays : {K : Type 0} (compare : K → K → Ordering) (keys : List K) (key : K) (places : List (Place K))
    → All (λ (place : Place K). first_of (tied compare) place.key keys ≡ Some place.place) places
    → All (λ (place : Place K). first_of (tied compare) place.key (keys ++ key ∷ []) ≡ Some place.place) places
each-stays compare keys key places each =
    All-weaker (λ (place : Place _). first_of (tied compare) place.key keys ≡ Some place.place)
    (λ (place : Place _). first_of (tied compare) place.key (keys ++ key ∷ []) ≡ Some place.place)
    (λ place is. position-stays (λ other. is_eq (compare other place.key)) keys key place.place is) places each

-- a key that isn't kept gets the end as its place
pub ArePlaces-new : {K : Type 0} (compare : K → K → Ordering) (keys : List K) (places : List (Place K)) (key : K)
    (i : ℕ)
    → IsTotalOrder compare
    → ArePlaces compare keys places
    → ¬ (HasKey compare key_in key places)
    → i ≤ length places
    → AreOrdered compare key_in (insert places i (record { key = key; place = length keys }))
    → ArePlaces compare (keys ++ key ∷ []) (insert places i (record { key = key; place = length keys }))
ArePlaces-new compare keys places key i total are lacks within order =
    let new : Place _ = record { key = key; place = length keys } in
    record {
      order = order;
      each =
          All-insert (λ (place : Place _). first_of (tied compare) place.key (keys ++ key ∷ []) ≡ Some place.place)
          places i new
          (each-stays compare keys key places are.each)
          (position-new (λ other. is_eq (compare other key)) keys key (are.others key lacks)
          (ap is_eq (tied_itself total key)));
      others = λ other none.
          position-none (λ k. is_eq (compare k other)) keys key
          (are.others other (λ has. none (HasKey-insert compare key_in other places i new within has)))
          (elim (cases_Bool (is_eq (compare key other))) [
            | inl same ↦
                let equal = equal-is (compare key other) same in
                absurd (none (HasKey-inserted compare key_in other places i new within equal))
            | inr apart ↦ apart
          ]);
    }

-- a key that is kept stays where it stood
pub ArePlaces-known : {K : Type 0} (compare : K → K → Ordering) (keys : List K) (places : List (Place K)) (key : K)
    → IsTotalOrder compare
    → ArePlaces compare keys places
    → HasKey compare key_in key places
    → ArePlaces compare (keys ++ key ∷ []) places
ArePlaces-known compare keys places key total are has = record {
  order = are.order;
  each = each-stays compare keys key places are.each;
  others = λ other none.
      position-none (λ k. is_eq (compare k other)) keys key (are.others other none)
      (elim (cases_Bool (is_eq (compare key other))) [
        | inl same ↦ absurd (none (
          has.0,
          record {
            within = has.1.within;
            same = λ d.
                sym (alike_right total key other (key_in (get_or places has.0 d)) (equal-is (compare key other) same))
                ∙ has.1.same d;
          },
        ))
        | inr apart ↦ apart
      ]);
}

-- a key that stands at the end is kept
pub ArePlaces-has : {K : Type 0} (compare : K → K → Ordering) (keys : List K) (places : List (Place K)) (key : K)
    → IsTotalOrder compare
    → ArePlaces compare (keys ++ key ∷ []) places
    → ¬ (HasKey compare key_in key places)
    → ⊥
ArePlaces-has compare keys places key total are lacks =
    let none : first_of (tied compare) key (keys ++ key ∷ []) ≡ None = are.others key lacks in
    let some : first_of (tied compare) key (keys ++ key ∷ []) ≡ Some (length keys) =
    position-new (λ other. is_eq (compare other key)) keys key
    (position-none_before (λ other. is_eq (compare other key)) keys key none) (ap is_eq (tied_itself total key)) in
    cc

-- where the last key stood earlier too, its place stays when it is taken off
pub ArePlaces-kept : {K : Type 0} (compare : K → K → Ordering) (keys : List K) (places : List (Place K)) (key : K)
    → IsTotalOrder compare
    → ArePlaces compare (keys ++ key ∷ []) places
    → (first_of (tied compare) key (keys ++ key ∷ []) ≡ Some (length keys) → ⊥)
    → ArePlaces compare keys places
ArePlaces-kept compare keys places key total are earlier = record {
  order = are.order;
  each = λ k d short.
      let place = get_or places k d in
      let is : first_of (tied compare) place.key (keys ++ key ∷ []) ≡ Some place.place = are.each k d short in
      elim (cases_Bool (is_eq (compare key place.key))) [
        | inl same ↦
            let equal = equal-is (compare key place.key) same in
            position-within (λ other. is_eq (compare other place.key)) keys key place.place is
            (λ end. earlier
            (first_of-equal compare key place.key (keys ++ key ∷ []) total equal ∙ (is ∙ ap (λ n. Some n) end)))
        | inr apart ↦ position-before (λ other. is_eq (compare other place.key)) keys key place.place is apart
      ];
  others = λ other none. position-none_before (λ k. is_eq (compare k other)) keys key (are.others other none);
}

-- where the last key stood nowhere else, it is taken off with its place
pub ArePlaces-removed : {K : Type 0} (compare : K → K → Ordering) (keys : List K) (places : List (Place K)) (key : K)
    (i : ℕ)
    → IsTotalOrder compare
    → ArePlaces compare (keys ++ key ∷ []) places
    → first_of (tied compare) key (keys ++ key ∷ []) ≡ Some (length keys)
    → HasKeyAt compare key_in key places i
    → AreOrdered compare key_in (remove places i)
    → ArePlaces compare keys (remove places i)
ArePlaces-removed {K} compare keys places key i total are last has order =
    let apart-at : (k : ℕ) (d : Place K) → k < length places → (k ≡ i → ⊥)
    → first_of (tied compare) (key_in (get_or places k d)) keys ≡ Some (get_or places k d).place =
    λ k d short other.
    let place = get_or places k d in
    elim (cases_Bool (is_eq (compare key place.key))) [
      | inl same ↦ absurd (ordered-apart compare key_in places k i d total are.order short has.within other
          (tied_back total (key_in (get_or places i d)) place.key
          (total.congr (key_in (get_or places i d)) key place.key (has.same d)
          ∙ equal-is (compare key place.key) same)))
      | inr apart ↦ position-before (λ k. is_eq (compare k place.key)) keys key place.place (are.each k d short) apart
    ] in
    let equal-at : (other : K) (there : HasKey compare key_in other places) → there.0 ≡ i → compare key other ≡ Equal =
    λ other there at.
    let d : Place K = record { key = key; place = 0 } in
    sym (total.congr (key_in (get_or places i d)) key other (has.same d))
    ∙ (ap (λ n. compare (key_in (get_or places n d)) other) (sym at) ∙ there.1.same d) in
    let none-before : first_of (tied compare) key keys ≡ None =
    position-last (λ k. is_eq (compare k key)) keys key last in
    record {
      order = order;
      each = λ k d short.
          let fewer = length-remove places i has.within in
          elim (cases_lt k i) [
            | inl below ↦
                let e = get_or-remove_below places i d k below has.within in
                ap (λ p. first_of (tied compare) (key_in p) keys) e
                ∙ (apart-at k d (omega (arith, below, has.within)) (λ at. omega (arith, at, below))
                ∙ ap (λ (p : Place K). Some p.place) (sym e))
            | inr above ↦
                let e = get_or-remove_above places i d k above has.within in
                ap (λ p. first_of (tied compare) (key_in p) keys) e
                ∙ (apart-at (k + 1) d (omega (arith, fewer, short)) (λ at. omega (arith, at, above))
                ∙ ap (λ (p : Place K). Some p.place) (sym e))
          ];
      others = λ other none.
          elim (cases_Bool (is_eq (compare key other))) [
            | inl same ↦
                let equal = equal-is (compare key other) same in
                sym (first_of-equal compare key other keys total equal) ∙ none-before
            | inr apart ↦
                position-none_before (λ k. is_eq (compare k other)) keys key
                (are.others other (λ there. none (HasKey-remove compare key_in other places i has.within there
                (λ at. false≢true (sym apart ∙ ap is_eq (equal-at other there at))))))
          ];
    }
