-- The first places of the keys of a list, as a map has them, as the list grows and shrinks at its end.
use Rattle.std.proofs.Common.{◌≡◌, ℕ, Bool, true, false, cond, is_some, Some, None, Option, List, [], ◌∷◌, ◌++◌, inl, inr, length, refl, sym, ap, ◌∙◌}
use Rattle.std.specs.List.{position}
use Rattle.std.specs.HashMap.{HashMap, get}
use Rattle.std.specs.Cmp.{IsEquivalence}
use Rattle.std.proofs.lemmas.Bool.{cases_Bool, true≢false}
use Rattle.tb_index.specs.Indexes.{first_of, AreFirsts}
use Rattle.tb_index.proofs.PositionLemmas.{position-new, position-other}
use Rattle.tb_index.proofs.KeyLemmas.{alike}

-- equal keys stand first at the same place
pub first_of-same : {K : Type 0} {same : K → K → Bool} → IsEquivalence same
    → (one other : K) (keys : List K)
    → same one other ≡ true
    → first_of same one keys ≡ first_of same other keys
first_of-same laws one other keys equal = λ i. position (λ k. alike laws one other k equal i) keys

-- what isn't some is none
is-none : {X : Type 0} (found : Option X) → is_some found ≡ false → found ≡ None
is-none None lacks = refl
is-none (Some x) lacks = absurd (true≢false lacks)

-- no keys have no places
pub AreFirsts-nil : {K S : Type 0} (same : K → K → Bool) (firsts : HashMap K ℕ S)
    → firsts.entries ≡ []
    → AreFirsts same [] firsts
AreFirsts-nil same firsts none = λ key. rw none refl

-- a key that has none gets the end of the list
pub AreFirsts-new : {K S : Type 0} {same : K → K → Bool} → IsEquivalence same
    → (keys : List K) (firsts next : HashMap K ℕ S) (key : K) (place : ℕ)
    → AreFirsts same keys firsts
    → is_some (get same firsts key) ≡ false
    → ((q : K) → get same next q ≡ cond (same key q) (Some place) (get same firsts q))
    → length keys ≡ place
    → AreFirsts same (keys ++ key ∷ []) next
AreFirsts-new {same = same} laws keys firsts next key place are lacks is long = λ q.
    let step : (b : Bool) → same key q ≡ b → get same next q ≡ cond b (Some place) (get same firsts q) =
    λ b e. is q ∙ ap (λ x. cond x (Some place) (get same firsts q)) e in
    elim (cases_Bool (same key q)) [
      | inl equal ↦
          let old : first_of same q keys ≡ None =
          sym (first_of-same laws key q keys equal) ∙ (sym (are key) ∙ is-none (get same firsts key) lacks) in
          step true equal
          ∙ (ap (λ n. Some n) (sym long) ∙ sym (position-new (λ other. same other q) keys key old equal))
      | inr apart ↦ step false apart ∙ (are q ∙ sym (position-other (λ other. same other q) keys key apart))
    ]
