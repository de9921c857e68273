-- No entry is told to two calls as accepted.
use Rattle.std.proofs.Common.{◌≡◌, ◌≢◌, ◌⊎◌, ℕ, suc, ◌+◌, ◌<◌, ◌≤◌, List, [], ◌∷◌, ◌++◌, length, set, refl, sym, ap, ◌∙◌, inl, inr, ⊎_elim, arith, length-append}
use Rattle.std.specs.Prelude.{All}
use Rattle.std.proofs.lemmas.Bool.{cases_lt}
use Rattle.std.proofs.lemmas.Bool.Decides.{nat_tests}
use Rattle.std.proofs.lemmas.List.Elements.{All-head, All-tail, All-cons, All-weaker}
use Rattle.std.proofs.lemmas.List.Kept.{AllPairs-cons}
use mathlib.Core.Logic.{dite}
use native.Mathlib.Decide.{ℕ_discrete}
use Rattle.tb_units.proofs.ListLemmas.{AllPairs-head, AllPairs-tail, AllPairs-nil}
use Rattle.tb_lock.specs.declared.view.Call.{Call}
use Rattle.tb_lock.specs.declared.view.View.{View}
use Rattle.tb_lock.specs.Meanings.{History, IsPrefix, Answer, accepted, repeated, faulted, entryless, Meanings}
use Rattle.tb_lock.specs.Calls.{one_at, accepted_at, AreApart, IsOnce, entry_of, Stands}
use Rattle.tb_lock.specs.Views.{joined, spent, IsView, EachView, total}
use Rattle.tb_lock.specs.Rule.{AreAnswered, AreOnce}
use Rattle.tb_lock.proofs.ViewLemmas.{total-set, total-snoc, total-at}
use Rattle.tb_lock.proofs.PrefixLemmas.{prefix-length}

-- a call was accepted behind n entries, and is one there, or it is none
one-either : (n place : ℕ) (answer : Answer)
    → (one_at n answer place ≡ 0) ⊎ ((one_at n answer place ≡ 1) × (answer ≡ accepted) × (place ≡ n))
one-either n place accepted = dite (ℕ_discrete place n)
    (λ here. inr (grind (arith, nat_tests), refl, here))
    (λ elsewhere. inl (grind (arith, nat_tests)))
one-either n place repeated = inl refl
one-either n place faulted = inl refl
one-either n place entryless = inl refl

-- where each view has none the sum is none
total-none : (f : View → ℕ) (vs : List View) → EachView vs (λ v. f v ≡ 0) → total f vs ≡ 0
total-none f [] none = refl
total-none f (v ∷ vs) none =
    let first = none 0 v refl in
    let others = total-none f vs (λ j u there. none (suc j) u there) in
    omega arith

module _ {T : Type 0} (m : Meanings T) where
  -- the calls of two lists
  accepted-append : (n : ℕ) (first second : List Call)
      → accepted_at m n (first ++ second) ≡ accepted_at m n first + accepted_at m n second
  accepted-append n [] second = omega arith
  accepted-append n (c ∷ first) second = let others = accepted-append n first second in omega arith

  -- where no call was accepted behind n entries none is there
  accepted-none : (n : ℕ) (cs : List Call) → All (λ c. m.answer c.code ≡ accepted → length c.prefix ≢ n) cs
      → accepted_at m n cs ≡ 0
  accepted-none n [] elsewhere = refl
  accepted-none n (c ∷ cs) elsewhere =
      let Elsewhere : Call → Type 0 = λ d. m.answer d.code ≡ accepted → length d.prefix ≢ n in
      let others = accepted-none n cs (All-tail Elsewhere c cs elsewhere) in
      let apart = All-head Elsewhere c cs elsewhere in
      ⊎_elim (λ none. omega arith) (λ (one : (one_at n (m.answer c.code) (length c.prefix) ≡ 1)
      × (m.answer c.code ≡ accepted) × (length c.prefix ≡ n)). absurd (apart one.1 one.2))
      (one-either n (length c.prefix) (m.answer c.code))

  -- of calls that are told no entry twice, at most one was accepted behind n entries
  once-count : (n : ℕ) (cs : List Call) → IsOnce m cs → accepted_at m n cs ≤ 1
  once-count n [] once = omega arith
  once-count n (c ∷ cs) once =
      let others = once-count n cs (AllPairs-tail (AreApart m) c cs once) in
      let apart = AllPairs-head (AreApart m) c cs once in
      ⊎_elim (λ none. omega arith)
      (λ (one : (one_at n (m.answer c.code) (length c.prefix) ≡ 1)
      × (m.answer c.code ≡ accepted) × (length c.prefix ≡ n)).
      let here = one.0 in
      let none = accepted-none n cs (All-weaker (AreApart m c)
      (λ d. m.answer d.code ≡ accepted → length d.prefix ≢ n)
      (λ d other is there. other one.1 is (one.2 ∙ sym there)) cs apart) in omega arith)
      (one-either n (length c.prefix) (m.answer c.code))

  -- an accepted call is one of those that were accepted behind as many entries
  accepted-least : (cs : List Call)
      → All (λ c. m.answer c.code ≡ accepted → 1 ≤ accepted_at m (length c.prefix) cs) cs
  accepted-least [] = λ k d within. absurd (omega arith)
  accepted-least (c ∷ cs) =
      let Least : List Call → Call → Type 0 =
      λ all d. m.answer d.code ≡ accepted → 1 ≤ accepted_at m (length d.prefix) all in
      All-cons (Least (c ∷ cs)) c cs
      (λ is. let one = ap (λ (a : Answer). one_at (length c.prefix) a (length c.prefix)) is in grind (arith, nat_tests))
      (All-weaker (Least cs) (Least (c ∷ cs)) (λ d least is. let one = least is in omega arith) cs (accepted-least cs))

  -- where at most one was accepted behind each number of entries no entry is told twice
  pub count-once : (cs : List Call) → ((n : ℕ) → accepted_at m n cs ≤ 1) → IsOnce m cs
  count-once [] most = AllPairs-nil (AreApart m)
  count-once (c ∷ cs) most =
      AllPairs-cons (AreApart m) c cs
      (All-weaker (λ d. m.answer d.code ≡ accepted → 1 ≤ accepted_at m (length d.prefix) cs) (AreApart m c)
      (λ d least first second same.
      let one = ap (λ (a : Answer). one_at (length d.prefix) a (length c.prefix)) first in
      let others = least second in
      let all = most (length d.prefix) in
      let here : one_at (length d.prefix) (m.answer c.code) (length c.prefix) ≡ 1 = grind (arith, nat_tests) in
      absurd (omega arith))
      cs (accepted-least cs))
      (count-once cs (λ n. let all = most n in omega arith))

  -- one view of all is told no entry twice
  pub view-once : (vs : List View) (id : ℕ) (v : View) → AreOnce m vs → IsView vs id v → IsOnce m v.mine
  view-once vs id v once at =
      count-once v.mine (λ n.
      let all = once n in
      let own = total-at (λ u. accepted_at m n u.mine) vs id v at in omega arith)

  -- one view changes, which keeps its calls
  pub once-set : (vs : List View) (id : ℕ) (v w : View) → AreOnce m vs → IsView vs id v → w.mine ≡ v.mine
      → AreOnce m (set vs id w)
  once-set vs id v w once at same n =
      let before = once n in
      let sum = total-set (λ u. accepted_at m n u.mine) vs id v w at in
      let own = ap (λ (calls : List Call). accepted_at m n calls) same in omega arith

  -- a view more without calls
  pub once-more : (vs : List View) (w : View) → AreOnce m vs → w.mine ≡ [] → AreOnce m (vs ++ w ∷ [])
  once-more vs w once none_made n =
      let before = once n in
      let sum = total-snoc (λ u. accepted_at m n u.mine) vs w in
      let own = ap (λ (calls : List Call). accepted_at m n calls) none_made in omega arith

  -- the calls of a spent view go to the one that took it in
  pub once-joined : (vs : List View) (id : ℕ) (v : View) (other : ℕ) (w : View)
      → AreOnce m vs
      → IsView vs id v
      → IsView (set vs id (joined v w)) other w
      → AreOnce m (set (set vs id (joined v w)) other spent)
  once-joined vs id v other w once at there n =
      let before = once n in
      let sum = total-set (λ u. accepted_at m n u.mine) vs id v (joined v w) at in
      let more = total-set (λ u. accepted_at m n u.mine) (set vs id (joined v w)) other w spent there in
      let both = accepted-append n v.mine w.mine in omega arith

  -- a turn ends: its calls were answered behind the counted history, in which all earlier ones stand
  pub once-back : (fixed : List ℕ) (counted : History) (vs : List View) (id : ℕ) (v w : View) (calls : List Call)
      → AreOnce m vs
      → AreAnswered m fixed counted vs
      → IsView vs id v
      → w.mine ≡ v.mine ++ calls
      → All (λ c. IsPrefix counted c.prefix) calls
      → IsOnce m calls
      → AreOnce m (set vs id w)
  once-back fixed counted vs id v w calls once answered at mine begin once_told n =
      let f : View → ℕ = λ u. accepted_at m n u.mine in
      let before = once n in
      let new = once-count n calls once_told in
      let sum = total-set f vs id v w at in
      let own = ap (λ (l : List Call). accepted_at m n l) mine ∙ accepted-append n v.mine calls in
      ⊎_elim
      (λ (earlier : n < length counted).
      let none = accepted-none n calls (All-weaker (λ c. IsPrefix counted c.prefix)
      (λ c. m.answer c.code ≡ accepted → length c.prefix ≢ n)
      (λ c begins is there. let longer = prefix-length counted c.prefix begins in absurd (omega arith)) calls begin) in
      omega arith)
      (λ (later : length counted ≤ n).
      let none = total-none f vs (λ j u there. accepted-none n u.mine (All-weaker (Stands m fixed counted)
      (λ c. m.answer c.code ≡ accepted → length c.prefix ≢ n)
      (λ c stands is there.
      let within = prefix-length (c.prefix ++ entry_of m fixed c ∷ []) counted (stands.entry is) in
      absurd (omega (arith, length-append c.prefix (entry_of m fixed c ∷ [])))) u.mine (answered j u there))) in
      omega arith)
      (cases_lt n (length counted))
