-- Histories that begin others, and lists that are longer.
use Rattle.std.proofs.Common.{◌≡◌, ◌⊎◌, suc, ◌<◌, ◌≤◌, List, [], ◌∷◌, ◌++◌, length, true, false, refl, sym, ap, ◌∙◌, ⊎_elim, append_assoc, arith, length-append}
use Rattle.std.specs.Prelude.{Any, Contains, nat_lt, cond}
use Rattle.std.proofs.lemmas.List.{append-nil}
use Rattle.std.proofs.lemmas.List.Elements.{Contains-append_left, Contains-append_right}
use Rattle.std.proofs.lemmas.Bool.Decides.{nat_tests}
use Rattle.tb_lock.specs.Meanings.{History, IsPrefix}
use Rattle.tb_lock.specs.Views.{longer}

-- a history begins itself
pub prefix-self : (xs : History) → IsPrefix xs xs
prefix-self xs = ([], sym (append-nil xs))

-- a beginning of a beginning is a beginning
pub prefix-trans : (xs ys zs : History) → IsPrefix xs ys → IsPrefix ys zs → IsPrefix xs zs
prefix-trans xs ys zs a b = (a.0 ++ b.0, b.1 ∙ (ap (λ (l : History). l ++ b.0) a.1 ∙ append_assoc xs a.0 b.0))

-- a beginning that isn't shorter leaves no rest
nothing-more : (xs rest whole : History) → whole ≡ xs ++ rest → length whole ≤ length xs → xs ≡ whole
nothing-more xs [] whole is least = sym (is ∙ append-nil xs)
nothing-more xs (r ∷ rs) whole is least =
    absurd (omega (arith, ap (λ (l : History). length l) is, length-append xs (r ∷ rs)))

-- a beginning that is as long is the whole
pub prefix-whole : (xs whole : History) → IsPrefix xs whole → length whole ≤ length xs → xs ≡ whole
prefix-whole xs whole begins least = nothing-more xs begins.0 whole begins.1 least

-- a beginning isn't longer
pub prefix-length : (xs whole : History) → IsPrefix xs whole → length xs ≤ length whole
prefix-length xs whole begins = omega (arith, ap (λ (l : History). length l) begins.1, length-append xs begins.0)

-- the longer of two histories is one of them
pub longer-either : (P : History → Type 0) (xs ys : History) → P xs → P ys → P (longer xs ys)
longer-either P xs ys a b = elim (nat_lt (length xs) (length ys)) as (λ t. P (cond t ys xs)) [ true ↦ b | false ↦ a ]

-- the longer of two beginnings of which one is the whole, by the test of their lengths
longer-by : (xs ys whole : History) (t : Rattle.std.specs.Prelude.Bool)
    → nat_lt (length xs) (length ys) ≡ t
    → IsPrefix xs whole
    → IsPrefix ys whole
    → (xs ≡ whole) ⊎ (ys ≡ whole)
    → cond t ys xs ≡ whole
longer-by xs ys whole true is a b one =
    let lt : length xs < length ys = grind (arith, nat_tests) in
    prefix-whole ys whole b
    (⊎_elim (λ (e : xs ≡ whole). let s = ap (λ (l : History). length l) e in omega arith)
    (λ (e : ys ≡ whole). let s = ap (λ (l : History). length l) e in omega arith) one)
longer-by xs ys whole false is a b one =
    let le : length ys ≤ length xs = grind (arith, nat_tests) in
    prefix-whole xs whole a
    (⊎_elim (λ (e : xs ≡ whole). let s = ap (λ (l : History). length l) e in omega arith)
    (λ (e : ys ≡ whole). let s = ap (λ (l : History). length l) e in omega arith) one)

-- where one of two beginnings is the whole, the longer is
pub longer-whole : (xs ys whole : History)
    → IsPrefix xs whole
    → IsPrefix ys whole
    → (xs ≡ whole) ⊎ (ys ≡ whole)
    → longer xs ys ≡ whole
longer-whole xs ys whole a b one = longer-by xs ys whole (nat_lt (length xs) (length ys)) refl a b one

-- what some element of the first list meets, some element of both meets
pub any-left : {A : Type 0} (P : A → Type 0) (xs ys : List A) → Any P xs → Any P (xs ++ ys)
any-left P xs ys h = let c = Contains-append_left xs ys h.1 (h.0, h.2, h.3) in (c.0, h.1, c.1, c.2, h.4)

-- and so with the second
pub any-right : {A : Type 0} (P : A → Type 0) (xs ys : List A) → Any P ys → Any P (xs ++ ys)
any-right P xs ys h = let c = Contains-append_right xs ys h.1 (h.0, h.2, h.3) in (c.0, h.1, c.1, c.2, h.4)

-- the first element meets it
pub any-first : {A : Type 0} (P : A → Type 0) (x : A) (xs : List A) → P x → Any P (x ∷ xs)
any-first P x xs h = (0, x, omega arith, refl, h)

-- some element behind the first meets it
pub any-later : {A : Type 0} (P : A → Type 0) (x : A) (xs : List A) → Any P xs → Any P (x ∷ xs)
any-later P x xs h = let lt = h.2 in (suc h.0, h.1, omega arith, h.3, h.4)

-- a weaker fact is met as well
pub any-weaker : {A : Type 0} (P Q : A → Type 0) → ((x : A) → P x → Q x) → (xs : List A) → Any P xs → Any Q xs
any-weaker P Q f xs h = (h.0, h.1, h.2, h.3, f h.1 h.4)

-- no element of an empty list meets anything
pub any-none : {A : Type 0} (P : A → Type 0) (xs : List A) → xs ≡ [] → Any P xs → ⊥
any-none P xs is h = let lt = h.2 in absurd (omega (arith, ap length is))
