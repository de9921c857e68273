-- Legal histories grow by one movement that passes, and redemptions stand.
use Rattle.std.proofs.Common.{◌≡◌, ℕ, zero, suc, ◌<◌, Bool, true, false, not, cond, ◌||◌, List, [], ◌∷◌, ◌++◌, length, get_or, take, refl, ap, sym, ◌∙◌, inl, inr, subst, append-nil, eq-eqb, arith}
use Rattle.std.proofs.lemmas.Bool.{cases_Bool, cases_lt}
use Rattle.std.proofs.lemmas.List.{length-take, take-take, get_or-take, take_all, take-append-le, take_at, get_or_append_left, get_or_push, length_push}
use Rattle.std.proofs.lemmas.List.Folds.{list_any-append}
use Rattle.std.proofs.lemmas.List.Sums.{take_while-cons}
use Rattle.std.proofs.Math.Seq.{take-suc}
use Rattle.tb_movements.specs.Movements.{Movement, Redeemed, redeems}
use Rattle.tb_movements.specs.Holdings.{is_redeemed, before_redemption}
use Rattle.tb_movements.specs.Legal.{Passes, IsLegal}
use Rattle.tb_movements.proofs.SumLemmas.{take_while-stopped, take_while-passed}

-- the empty history is legal
pub IsLegal-none : IsLegal []
IsLegal-none = λ place d short. absurd (omega arith)

-- the front of a legal history is legal
pub IsLegal-take : (n : ℕ) (history : List Movement) → IsLegal history → IsLegal (take n history)
IsLegal-take n history legal = λ place d short.
    let within : place < n = omega (arith, length-take n history) in
    let inside : place < length history = omega (arith, length-take n history) in
    let front = take-take place n history (omega arith) in
    let at = get_or-take n history place d within in
    rw (front, at) (legal place d inside)

-- a legal history with one more movement that passes is legal
pub IsLegal-push : (history : List Movement) (movement : Movement)
    → IsLegal history
    → Passes history movement
    → IsLegal (history ++ movement ∷ [])
IsLegal-push history movement legal passes = λ place d short.
    elim (cases_lt place (length history)) [
      | inl before ↦
          let front = take-append-le place history (movement ∷ []) (omega arith) in
          let at = get_or_append_left history (movement ∷ []) d place before in
          rw (front, at) (legal place d before)
      | inr last ↦
          let is : length history ≡ place = omega (arith, length_push history movement) in
          let front = take_at history (movement ∷ []) place is in
          let at = get_or_push history movement d place is in
          rw (front, at) passes
    ]

-- what holds of a legal history holds of it with one more movement that passes
abbrev pub GoesOn : (List Movement → Type 0) → Type 0
GoesOn P =
    (before : List Movement) (movement : Movement)
    → IsLegal before
    → P before
    → Passes before movement
    → P (before ++ movement ∷ [])

-- then what holds of no movement holds of each front of a legal history
up_to : (P : List Movement → Type 0)
    → P []
    → GoesOn P
    → (history : List Movement)
    → IsLegal history
    → (n : ℕ) → P (take n history)
up_to P none more history legal zero = none
up_to P none more history legal (suc n) =
    let so_far = up_to P none more history legal n in
    elim (cases_lt n (length history)) [
      | inl short ↦
          subst P (sym (take-suc history n (Redeemed 0) short))
          (more (take n history) (get_or history n (Redeemed 0))
          (IsLegal-take n history legal) so_far (legal n (Redeemed 0) short))
      | inr past ↦ subst P (take_all n history past ∙ sym (take_all (suc n) history (omega arith))) so_far
    ]

-- and so of the whole of it
pub by_movements : (P : List Movement → Type 0)
    → P []
    → GoesOn P
    → (history : List Movement)
    → IsLegal history
    → P history
by_movements P none more history legal =
    subst P (take_all (length history) history (omega arith)) (up_to P none more history legal (length history))

-- nothing more is said beside what doesn't hold
pub or_false : (b : Bool) → (b || false) ≡ b
or_false true = refl
or_false false = refl

-- a redemption stands in a longer history, or the new movement is it
pub is_redeemed-push : (security : ℕ) (history : List Movement) (movement : Movement)
    → is_redeemed security (history ++ movement ∷ []) ≡ (is_redeemed security history || redeems security movement)
is_redeemed-push security history movement =
    list_any-append (redeems security) history (movement ∷ [])
    ∙ ap (λ b. is_redeemed security history || b) (or_false (redeems security movement))

-- a security that isn't redeemed wasn't before
pub is_redeemed-before : (security : ℕ) (history : List Movement) (movement : Movement)
    → is_redeemed security (history ++ movement ∷ []) ≡ false
    → is_redeemed security history ≡ false
is_redeemed-before security history movement live =
    elim (cases_Bool (is_redeemed security history)) [
      | inl redeemed ↦
          let said : true ≡ false =
          sym (ap (λ b. b || redeems security movement) redeemed)
          ∙ sym (is_redeemed-push security history movement)
          ∙ live in
          absurd (cc)
      | inr is ↦ is
    ]

-- a security that was redeemed stays so
pub is_redeemed-stays : (security : ℕ) (history : List Movement) (movement : Movement)
    → is_redeemed security history ≡ true
    → is_redeemed security (history ++ movement ∷ []) ≡ true
is_redeemed-stays security history movement redeemed =
    is_redeemed-push security history movement ∙ ap (λ b. b || redeems security movement) redeemed

-- a movement that doesn't redeem it changes nothing
pub is_redeemed-same : (security : ℕ) (history : List Movement) (movement : Movement)
    → redeems security movement ≡ false
    → is_redeemed security (history ++ movement ∷ []) ≡ is_redeemed security history
is_redeemed-same security history movement none =
    is_redeemed-push security history movement
    ∙ ap (λ b. is_redeemed security history || b) none
    ∙ or_false (is_redeemed security history)

-- a security that wasn't redeemed is where the new movement redeems it
pub is_redeemed-now : (security : ℕ) (history : List Movement) (movement : Movement)
    → is_redeemed security history ≡ false
    → is_redeemed security (history ++ movement ∷ []) ≡ redeems security movement
is_redeemed-now security history movement live =
    is_redeemed-push security history movement ∙ ap (λ b. b || redeems security movement) live

-- the movements before a redemption stay
pub before_redemption-stays : (security : ℕ) (history : List Movement) (movement : Movement)
    → is_redeemed security history ≡ true
    → before_redemption security (history ++ movement ∷ []) ≡ before_redemption security history
before_redemption-stays security history movement redeemed =
    take_while-stopped (redeems security) history (movement ∷ []) redeemed

-- those before a redemption that comes now are all
pub before_redemption-now : (security : ℕ) (history : List Movement)
    → is_redeemed security history ≡ false
    → before_redemption security (history ++ Redeemed security ∷ []) ≡ history
before_redemption-now security history live =
    take_while-passed (redeems security) history (Redeemed security ∷ []) live
    ∙ ap (λ ms. history ++ ms)
    (take_while-cons (λ movement. not (redeems security movement)) (Redeemed security) []
    ∙ ap (λ b. cond (not b) (Redeemed security ∷ []) []) (eq-eqb security security refl))
    ∙ append-nil history
