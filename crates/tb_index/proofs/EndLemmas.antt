-- How many elements there are up to the last that passes a test, and the ends of the keys of a list.
use Rattle.std.proofs.Common.{◌≡◌, ℕ, zero, suc, ◌+◌, ◌-◌, ◌<◌, ◌≤◌, map, Bool, true, false, cond, nat_lt, Some, None, List, [], ◌∷◌, ◌++◌, inl, inr, length, get_or, take, refl, sym, ap, ◌∙◌, arith}
use Rattle.std.specs.List.{filter, list_any}
use Rattle.std.specs.HashMap.{HashMap, get}
use Rattle.std.specs.Map.{count_at}
use Rattle.std.specs.Option.{unwrap_or}
use Rattle.std.specs.Cmp.{IsEquivalence}
use Rattle.std.proofs.lemmas.Bool.{cases_Bool, ltb-true, ltb-false}
use Rattle.std.proofs.lemmas.List.{length_push}
use Rattle.std.proofs.lemmas.List.Elements.{filter_more}
use Rattle.tb_index.specs.Indexes.{end_by, end_of, AreCounts, AreEnds}
use Rattle.tb_index.proofs.KeyLemmas.{alike}

-- a number that follows another is above 0
positive : (n : ℕ) → nat_lt 0 (suc n) ≡ true
positive n =
    elim (cases_Bool (nat_lt 0 (suc n))) [ inl some ↦ some | inr none ↦ absurd (omega (arith, ltb-false _ _ none)) ]

-- the end is the new one's where it passes, else the old end
pub end_by-push : {X : Type 0} (p : X → Bool) (xs : List X) (y : X)
    → end_by p (xs ++ y ∷ []) ≡ cond (p y) (suc (length xs)) (end_by p xs)
end_by-push p [] y = refl
end_by-push p (x ∷ xs) y =
    elim (cases_Bool (p y)) [
      | inl passes ↦
          ap (λ e. cond (nat_lt 0 e) (suc e) (cond (p x) 1 0))
          (end_by-push p xs y ∙ ap (λ b. cond b (suc (length xs)) (end_by p xs)) passes)
          ∙ (ap (λ b. cond b (suc (suc (length xs))) (cond (p x) 1 0)) (positive (length xs))
          ∙ sym (ap (λ b. cond b (suc (length (x ∷ xs))) (end_by p (x ∷ xs))) passes))
      | inr fails ↦ rw (end_by-push p xs y, fails) refl
    ]

-- it is within the list
pub end_by-within : {X : Type 0} (p : X → Bool) (xs : List X) → end_by p xs ≤ length xs
end_by-within p [] = omega arith
end_by-within p (x ∷ xs) =
    let within = end_by-within p xs in
    elim (cases_Bool (nat_lt 0 (end_by p xs))) [
      | inl some ↦ rw some (omega (arith, within))
      | inr none ↦
          elim (cases_Bool (p x)) [
            | inl passes ↦ rw (none, passes) (omega arith)
            | inr fails ↦ rw (none, fails) (omega arith)
          ]
    ]

-- where the end is none, nothing passes
pub filter-none : {X : Type 0} (p : X → Bool) (xs : List X) → end_by p xs ≡ 0 → filter p xs ≡ []
filter-none p [] none = refl
filter-none p (x ∷ xs) none =
    elim (cases_Bool (nat_lt 0 (end_by p xs))) [
      | inl some ↦
          let wrong : suc (end_by p xs) ≡ 0 = rw some at none in
          absurd (omega (arith, wrong))
      | inr past ↦
          elim (cases_Bool (p x)) [
            | inl passes ↦
                let wrong : 1 ≡ 0 = rw (past, passes) at none in
                absurd (omega (arith, wrong))
            | inr fails ↦
                let later : end_by p xs ≡ 0 = omega (arith, ltb-false _ _ past) in
                rw fails (filter-none p xs later)
          ]
    ]

-- the last that passes is the one before the end
pub end-passes : {X : Type 0} (p : X → Bool) (xs : List X) (n : ℕ) (d : X)
    → end_by p xs ≡ suc n
    → p (get_or xs n d) ≡ true
end-passes p [] n d is = absurd (omega (arith, is))
end-passes p (x ∷ xs) zero d is =
    elim (cases_Bool (nat_lt 0 (end_by p xs))) [
      | inl some ↦
          let wrong : suc (end_by p xs) ≡ suc zero = rw some at is in
          absurd (omega (arith, wrong, ltb-true _ _ some))
      | inr none ↦
          elim (cases_Bool (p x)) [
            | inl passes ↦ passes
            | inr fails ↦
                let wrong : 0 ≡ suc zero = rw (none, fails) at is in
                absurd (omega (arith, wrong))
          ]
    ]
end-passes p (x ∷ xs) (suc n) d is =
    elim (cases_Bool (nat_lt 0 (end_by p xs))) [
      | inl some ↦
          let later : suc (end_by p xs) ≡ suc (suc n) = rw some at is in
          end-passes p xs n d (omega (arith, later))
      | inr none ↦
          elim (cases_Bool (p x)) [
            | inl passes ↦
                let wrong : 1 ≡ suc (suc n) = rw (none, passes) at is in
                absurd (omega (arith, wrong))
            | inr fails ↦
                let wrong : 0 ≡ suc (suc n) = rw (none, fails) at is in
                absurd (omega (arith, wrong))
          ]
    ]

-- what passes is what passes up to the end
pub filter-end : {X : Type 0} (p : X → Bool) (xs : List X) → filter p xs ≡ filter p (take (end_by p xs) xs)
filter-end p [] = refl
filter-end p (x ∷ xs) =
    elim (cases_Bool (nat_lt 0 (end_by p xs))) [
      | inl some ↦ rw some (ap (λ rest. cond (p x) (x ∷ rest) rest) (filter-end p xs))
      | inr past ↦
          let none : end_by p xs ≡ 0 = omega (arith, ltb-false _ _ past) in
          elim (cases_Bool (p x)) [
            | inl passes ↦
                let end : end_by p (x ∷ xs) ≡ 1 =
                ap (λ b. cond b (suc (end_by p xs)) (cond (p x) 1 0)) past ∙ ap (λ b. cond b 1 0) passes in
                ap (λ b. cond b (x ∷ filter p xs) (filter p xs)) passes
                ∙ (ap (λ rest. x ∷ rest) (filter-none p xs none)
                ∙ sym (ap (λ e. filter p (take e (x ∷ xs))) end ∙ ap (λ b. cond b (x ∷ []) []) passes))
            | inr fails ↦
                let end : end_by p (x ∷ xs) ≡ 0 =
                ap (λ b. cond b (suc (end_by p xs)) (cond (p x) 1 0)) past ∙ ap (λ b. cond b 1 0) fails in
                ap (λ b. cond b (x ∷ filter p xs) (filter p xs)) fails
                ∙ (filter-none p xs none ∙ sym (ap (λ e. filter p (take e (x ∷ xs))) end))
          ]
    ]

-- the part of a list before a place, and the element there, which passes
pub filter-last : {X : Type 0} (p : X → Bool) (xs : List X) (n : ℕ) (d : X)
    → n < length xs
    → p (get_or xs n d) ≡ true
    → filter p (take (n + 1) xs) ≡ filter p (take n xs) ++ get_or xs n d ∷ []
filter-last p xs n d within passes =
    filter_more p xs n d within ∙ ap (λ b. filter p (take n xs) ++ cond b (get_or xs n d ∷ []) []) passes

-- some pass just where there is an end
pub any-end : {X : Type 0} (p : X → Bool) (xs : List X) → nat_lt 0 (end_by p xs) ≡ list_any p xs
any-end p [] = refl
any-end p (x ∷ xs) =
    elim (cases_Bool (nat_lt 0 (end_by p xs))) [
      | inl some ↦
          elim (cases_Bool (p x)) [
            | inl passes ↦ rw (some, passes) (positive (end_by p xs))
            | inr fails ↦ rw (some, fails) (positive (end_by p xs) ∙ (sym some ∙ any-end p xs))
          ]
      | inr none ↦
          elim (cases_Bool (p x)) [
            | inl passes ↦ rw (none, passes) refl
            | inr fails ↦ rw (none, fails) (sym none ∙ any-end p xs)
          ]
    ]

-- the end of what is made of the elements
end_by-map : {X Y : Type 0} (p : Y → Bool) (f : X → Y) (xs : List X) → end_by p (map f xs) ≡ end_by (λ x. p (f x)) xs
end_by-map p f [] = refl
end_by-map p f (x ∷ xs) = ap (λ end. cond (nat_lt 0 end) (suc end) (cond (p (f x)) 1 0)) (end_by-map p f xs)

-- the end of a key among those of rows is that of the rows that have it
pub end_of-rows : {X K : Type 0} (same : K → K → Bool) (key_of : X → K) (key : K) (rows : List X)
    → end_of same key (map key_of rows) ≡ end_by (λ row. same (key_of row) key) rows
end_of-rows same key_of key rows = end_by-map (λ other. same other key) key_of rows

-- equal keys have one end
pub end_of-same : {K : Type 0} {same : K → K → Bool} → IsEquivalence same
    → (one other : K) (keys : List K)
    → same one other ≡ true
    → end_of same one keys ≡ end_of same other keys
end_of-same laws one other keys equal = λ i. end_by (λ k. alike laws one other k equal i) keys

-- a key that differs from the new one has the end that it had
pub end_of-other : {K : Type 0} (same : K → K → Bool) (key : K) (keys : List K) (new : K)
    → same new key ≡ false
    → end_of same key (keys ++ new ∷ []) ≡ end_of same key keys
end_of-other same key keys new apart =
    end_by-push (λ other. same other key) keys new
    ∙ ap (λ b. cond b (suc (length keys)) (end_of same key keys)) apart

-- and one that equals it has it at the end
pub end_of-last : {K : Type 0} (same : K → K → Bool) (key : K) (keys : List K) (new : K)
    → same new key ≡ true
    → end_of same key (keys ++ new ∷ []) ≡ length keys + 1
end_of-last same key keys new equal =
    let last : end_of same key (keys ++ new ∷ []) ≡ suc (length keys) =
    end_by-push (λ other. same other key) keys new
    ∙ ap (λ b. cond b (suc (length keys)) (end_of same key keys)) equal in
    omega (arith, last)

-- a map that has the numbers of all keys before, and gets another at one key, has those after
pub numbers-set : {K S : Type 0} (same : K → K → Bool) (before after : K → ℕ) (old next : HashMap K ℕ S) (key : K)
    (number : ℕ)
    → ((q : K) → count_at (get same old) q ≡ before q)
    → ((q : K) → get same next q ≡ cond (same key q) (Some number) (get same old q))
    → ((q : K) → same key q ≡ true → after q ≡ number)
    → ((q : K) → same key q ≡ false → after q ≡ before q)
    → (q : K)
    → count_at (get same next) q ≡ after q
numbers-set same before after old next key number are is right rest q =
    let step : (b : Bool) → same key q ≡ b
    → count_at (get same next) q ≡ unwrap_or (cond b (Some number) (get same old q)) 0 =
    λ b e. ap (λ o. unwrap_or o 0) (is q ∙ ap (λ x. cond x (Some number) (get same old q)) e) in
    elim (cases_Bool (same key q)) [
      | inl equal ↦ step true equal ∙ sym (right q equal)
      | inr apart ↦ step false apart ∙ (are q ∙ sym (rest q apart))
    ]

-- no keys have no counts
pub AreCounts-nil : {K S : Type 0} (same : K → K → Bool) (counts : HashMap K ℕ S)
    → counts.entries ≡ []
    → AreCounts same [] counts
AreCounts-nil same counts none = λ key. rw none refl

-- no keys have no ends
pub AreEnds-nil : {K S : Type 0} (same : K → K → Bool) (ends : HashMap K ℕ S)
    → ends.entries ≡ []
    → AreEnds same [] ends
AreEnds-nil same ends none = λ key. rw none refl

-- a key that is added has its end at the end of the list
pub AreEnds-later : {K S : Type 0} (same : K → K → Bool) (keys : List K) (ends next : HashMap K ℕ S) (key : K)
    (end : ℕ)
    → AreEnds same keys ends
    → ((q : K) → get same next q ≡ cond (same key q) (Some end) (get same ends q))
    → length keys + 1 ≡ end
    → AreEnds same (keys ++ key ∷ []) next
AreEnds-later same keys ends next key end are is long =
    numbers-set same (λ q. end_of same q keys) (λ q. end_of same q (keys ++ key ∷ [])) ends next key end are is
    (λ q equal. end_of-last same q keys key equal ∙ long)
    (λ q apart. end_of-other same q keys key apart)

-- it gets the end that it had where it is taken off
pub AreEnds-earlier : {K S : Type 0} {same : K → K → Bool} → IsEquivalence same
    → (keys : List K) (ends next : HashMap K ℕ S) (key : K) (end : ℕ)
    → AreEnds same (keys ++ key ∷ []) ends
    → ((q : K) → get same next q ≡ cond (same key q) (Some end) (get same ends q))
    → end_of same key keys ≡ end
    → AreEnds same keys next
AreEnds-earlier {same = same} laws keys ends next key end are is had =
    numbers-set same (λ q. end_of same q (keys ++ key ∷ [])) (λ q. end_of same q keys) ends next key end are is
    (λ q equal. sym (end_of-same laws key q keys equal) ∙ had)
    (λ q apart. sym (end_of-other same q keys key apart))

-- a key that stands at the end has one
pub AreEnds-has : {K S : Type 0} {same : K → K → Bool} → IsEquivalence same
    → (keys : List K) (ends : HashMap K ℕ S) (key : K)
    → AreEnds same (keys ++ key ∷ []) ends
    → get same ends key ≡ None
    → ⊥
AreEnds-has {same = same} laws keys ends key are lacks =
    let none : count_at (get same ends) key ≡ 0 = ap (λ o. unwrap_or o 0) lacks in
    omega (arith, none, are key, end_of-last same key keys key (laws.refl key))

-- the row before an end is the last that passes
pub filter-to_end : {X : Type 0} (p : X → Bool) (xs : List X) (end : ℕ) (row : X)
    → end ≡ end_by p xs
    → (end ≡ 0 → ⊥)
    → row ≡ get_or xs (end - 1) row
    → filter p xs ≡ filter p (take (end - 1) xs) ++ row ∷ []
filter-to_end p xs end row is some there =
    let n = end - 1 in
    let at : end ≡ suc n = omega (arith, some) in
    let plus : end ≡ n + 1 = omega (arith, some) in
    let short : n < length xs = omega (arith, at, is, end_by-within p xs) in
    filter-end p xs
    ∙ (ap (λ e. filter p (take e xs)) (sym is ∙ plus)
    ∙ (filter-last p xs n row short (end-passes p xs n row (sym is ∙ at))
    ∙ ap (λ x. filter p (take n xs) ++ x ∷ []) (sym there)))

-- so that some pass
pub filter-some : {X : Type 0} (p : X → Bool) (xs : List X) (end : ℕ) (row : X)
    → end ≡ end_by p xs
    → (end ≡ 0 → ⊥)
    → row ≡ get_or xs (end - 1) row
    → filter p xs ≡ []
    → ⊥
filter-some p xs end row is some there none =
    let more : length (filter p (take (end - 1) xs) ++ row ∷ []) ≡ 0 =
    ap length (sym (filter-to_end p xs end row is some there) ∙ none) in
    omega (arith, more, length_push (filter p (take (end - 1) xs)) row)
