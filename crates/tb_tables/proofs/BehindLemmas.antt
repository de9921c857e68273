-- What is found first in a list of which the elements of one kind are gone through from the last back to the first.
use Rattle.std.proofs.Common.{◌≡◌, ℕ, suc, ◌+◌, ◌-◌, ◌<◌, ◌≤◌, Bool, true, false, cond, nat_lt, Option, Some, None, List, [], ◌∷◌, ◌++◌, inl, inr, length, get_or, take, drop, refl, sym, ap, ◌∙◌, subst, arith}
use Rattle.std.specs.List.{find}
use Rattle.std.proofs.lemmas.Bool.{cases_Bool, false≢true, ltb-false}
use Rattle.std.proofs.lemmas.List.{drop-drop, drop-take, drop_more, get_or-take, length-take-le, take-append-drop}
use Rattle.tb_units.proofs.PlaceLemmas.{find-append_none}
use Rattle.tb_index.specs.Indexes.{end_by}
use Rattle.tb_index.proofs.EndLemmas.{end_by-within, end-passes}

-- behind the last of a kind nothing is found that is of the kind
none-behind : {X : Type 0} (p q : X → Bool) (xs : List X)
    → ((x : X) → q x ≡ true → p x ≡ true)
    → find q (drop (end_by p xs) xs) ≡ None
none-behind p q [] part = refl
none-behind p q (x ∷ xs) part =
    let rest : find q (drop (end_by p xs) xs) ≡ None = none-behind p q xs part in
    elim (cases_Bool (nat_lt 0 (end_by p xs))) [
      | inl some ↦
          ap (λ b. find q (drop (cond b (suc (end_by p xs)) (cond (p x) 1 0)) (x ∷ xs))) some ∙ rest
      | inr past ↦
          let none : end_by p xs ≡ 0 = omega (arith, ltb-false _ _ past) in
          let later : find q xs ≡ None = ap (λ e. find q (drop e xs)) (sym none) ∙ rest in
          elim (cases_Bool (p x)) [
            | inl passes ↦
                ap (λ b. find q (drop (cond b (suc (end_by p xs)) (cond (p x) 1 0)) (x ∷ xs))) past
                ∙ (ap (λ b. find q (drop (cond b 1 0) (x ∷ xs))) passes ∙ later)
            | inr fails ↦
                let not : q x ≡ false =
                elim (cases_Bool (q x)) [
                  | inl is ↦ absurd (false≢true (sym fails ∙ part x is))
                  | inr isnt ↦ isnt
                ] in
                ap (λ b. find q (drop (cond b (suc (end_by p xs)) (cond (p x) 1 0)) (x ∷ xs))) past
                ∙ (ap (λ b. find q (drop (cond b 1 0) (x ∷ xs))) fails
                ∙ (ap (λ b. cond b (Some x) (find q xs)) not ∙ later))
          ]
    ]

-- the first is found of what stands behind the end, and the element before the end is of the kind
pub record IsFirstBehind {X : Type 0} (p q : X → Bool) (xs : List X) (end : ℕ) (first : Option X) : Type 0 where
  pub within : end ≤ length xs
  pub passes : (n : ℕ) (d : X) → end ≡ suc n → p (get_or xs n d) ≡ true
  pub found : first ≡ find q (drop end xs)

-- before the first step
pub IsFirstBehind-start : {X : Type 0} (p q : X → Bool) (xs : List X) (end : ℕ)
    → ((x : X) → q x ≡ true → p x ≡ true)
    → end ≡ end_by p xs
    → IsFirstBehind p q xs end None
IsFirstBehind-start p q xs end part is = record {
  within = subst (λ e. e ≤ length xs) (sym is) (end_by-within p xs);
  passes = λ n d more. end-passes p xs n d (sym is ∙ more);
  found = sym (ap (λ e. find q (drop e xs)) is ∙ none-behind p q xs part);
}

-- with the element before the end, and the end in what stands before it
pub IsFirstBehind-step : {X : Type 0} (p q : X → Bool) (xs : List X) (end next : ℕ) (x : X) (first : Option X)
    → ((y : X) → q y ≡ true → p y ≡ true)
    → IsFirstBehind p q xs end first
    → 0 < end
    → x ≡ get_or xs (end - 1) x
    → next ≡ end_by p (take (end - 1) xs)
    → IsFirstBehind p q xs next (cond (q x) (Some x) first)
IsFirstBehind-step p q xs end next x first part so_far some is link =
    let n = end - 1 in
    let short : n < length xs = omega (arith, so_far.within, some) in
    let long : length (take n xs) ≡ n = length-take-le n xs (omega (arith, short)) in
    let few : next ≤ n = omega (arith, link, long, end_by-within p (take n xs)) in
    let last : n + 1 ≡ end = omega (arith, some) in
    let between : next + (n - next) ≡ n = omega (arith, few) in
    let front : find q (drop next (take n xs)) ≡ None =
    ap (λ e. find q (drop e (take n xs))) link ∙ none-behind p q (take n xs) part in
    let parts : drop next xs ≡ drop next (take n xs) ++ drop n xs =
    sym (take-append-drop (n - next) (drop next xs))
    ∙ (ap (λ ys. ys ++ drop (n - next) (drop next xs))
    (sym (drop-take next (n - next) xs) ∙ ap (λ m. drop next (take m xs)) between)
    ∙ ap (λ ys. drop next (take n xs) ++ ys)
    (drop-drop (n - next) next xs ∙ ap (λ m. drop m xs) between)) in
    record {
      within = omega (arith, few, short);
      passes = λ m d more.
          ap p (sym (get_or-take n xs m d (omega (arith, few, more))))
          ∙ end-passes p (take n xs) m d (sym link ∙ more);
      found = sym (ap (find q) parts
          ∙ (find-append_none q (drop next (take n xs)) (drop n xs) front
          ∙ (ap (find q) (drop_more xs n x short)
          ∙ (ap (λ y. cond (q y) (Some y) (find q (drop (n + 1) xs))) (sym is)
          ∙ ap (λ o. cond (q x) (Some x) o) (ap (λ m. find q (drop m xs)) last ∙ sym so_far.found)))));
    }
