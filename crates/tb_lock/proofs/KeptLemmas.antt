-- The value stays at home, or with the view whose turn it is.
use Rattle.std.proofs.Common.{◌≡◌, ℕ, ◌+◌, List, [], ◌∷◌, ◌++◌, set, Some, refl, sym, ap, ◌∙◌, subst, ⊎_elim, inl, inr, arith}
use mathlib.Core.Option.{none, some}
use mathlib.Core.Logic.{dite}
use native.Mathlib.Decide.{ℕ_discrete}
use Rattle.atomic_table.proofs.Lists.{set_here, set_else, at_longer}
use Rattle.tb_lock.specs.declared.view.View.{View}
use Rattle.tb_lock.specs.declared.view.Stage.TheVariants.{Idle}
use Rattle.tb_lock.specs.Meanings.{Meanings}
use Rattle.tb_lock.specs.Views.{IsLive, spent, IsView, SomeView, HasTurn, HasTaken, HasTicket}
use Rattle.tb_lock.specs.Rule.{IsQueue, Homes, IsHome, IsKept}
use Rattle.tb_lock.proofs.ViewLemmas.{each-set, each-snoc, same-view, below-length, idle-turn, idle-taken, ticket-of_turn, turn-of_taken}

-- some view stays so where the changed view, if it was the one, still is
pub some-set : (P : View → Type 0) (vs : List View) (id : ℕ) (v w : View)
    → IsView vs id v
    → (P v → P w)
    → SomeView vs P
    → SomeView (set vs id w) P
some-set P vs id v w at more found = dite (ℕ_discrete found.0 id)
    (λ same. (
      id,
      w,
      set_here vs id w (below-length vs id v at),
      more
          (subst P (sym (same-view vs id found.0 v found.1 at found.2 (sym same))) found.3),
    ))
    (λ apart. (found.0, found.1, set_else vs id found.0 w apart ∙ found.2, found.3))

-- what some view meets, some view of a longer list meets
pub some-snoc : (P : View → Type 0) (vs : List View) (w : View) → SomeView vs P → SomeView (vs ++ w ∷ []) P
some-snoc P vs w found = (found.0, found.1, at_longer vs (w ∷ []) found.0 found.1 found.2, found.3)

module _ {T : Type 0} where
  -- one value is at home
  pub home-value : (homes : Homes T) (x y : T) → IsHome homes x → IsHome homes y → x ≡ y
  home-value homes x y e f = cc

  -- a value at home isn't away
  pub home-away : (homes : Homes T) (x : T) → IsHome homes x → homes ≡ none ∷ [] → ⊥
  home-away homes x e f = cc

module _ {T : Type 0} (m : Meanings T) (served : ℕ) (fixed : List ℕ) (homes : Homes T) where
  -- the slot stays as it is
  pub kept-same : (vs : List View) (id : ℕ) (v w : View)
      → IsKept m served fixed homes vs
      → IsView vs id v
      → w.fixed ≡ v.fixed
      → IsLive v
      → ((n : ℕ) → HasTurn n w.stage → n ≡ served)
      → (HasTaken served v.stage → HasTaken served w.stage)
      → ((n : ℕ) → HasTaken n w.stage → homes ≡ none ∷ [])
      → IsKept m served fixed homes (set vs id w)
  kept-same vs id v w k at same live turn taken away = record {
    turn = λ j n u. each-set (λ _ u. HasTurn n u.stage → n ≡ served) vs id w (λ i x _ there. k.turn i n x there)
        (turn n) j u;
    place = ⊎_elim (λ home. inl home) (λ away. inr (some-set (λ u. HasTaken served u.stage) vs id v w at taken away))
        k.place;
    away = λ j n. each-set (λ _ u. HasTaken n u.stage → homes ≡ none ∷ []) vs id w (λ i x _ there. k.away i n x there)
        (away n) j;
    value = k.value;
    same = each-set (λ _ u. IsLive u → u.fixed ≡ fixed) vs id w (λ j u _ there. k.same j u there)
        (λ _. same ∙ k.same id v at live);
  }

  -- an idle view more, with the fixed part, leaves where the value is
  pub kept-more : (vs : List View) (w : View) → IsKept m served fixed homes vs → w.fixed ≡ fixed → w.stage ≡ Idle
      → IsKept m served fixed homes (vs ++ w ∷ [])
  kept-more vs w k same idle = record {
    turn = λ j n. each-snoc (λ u. HasTurn n u.stage → n ≡ served) vs w (λ i x there. k.turn i n x there)
        (λ mine. absurd (idle-turn n w.stage idle mine)) j;
    place = ⊎_elim (λ home. inl home) (λ away. inr (some-snoc (λ u. HasTaken served u.stage) vs w away)) k.place;
    away = λ j n. each-snoc (λ u. HasTaken n u.stage → homes ≡ none ∷ []) vs w (λ i x there. k.away i n x there)
        (λ has. absurd (idle-taken n w.stage idle has)) j;
    value = k.value;
    same = each-snoc (λ u. IsLive u → u.fixed ≡ fixed) vs w k.same (λ _. same);
  }

  -- a view is spent that has not taken the value
  pub kept-spent : (vs : List View) (id : ℕ) (v : View)
      → IsKept m served fixed homes vs
      → IsView vs id v
      → (HasTaken served v.stage → ⊥)
      → IsKept m served fixed homes (set vs id spent)
  kept-spent vs id v k at free = record {
    turn = λ j n u. each-set (λ _ u. HasTurn n u.stage → n ≡ served) vs id spent (λ i x _ there. k.turn i n x there)
        (λ mine. absurd mine) j u;
    place = ⊎_elim (λ home. inl home)
        (λ away. inr (some-set (λ u. HasTaken served u.stage) vs id v spent at (λ has. absurd (free has)) away))
        k.place;
    away = λ j n. each-set (λ _ u. HasTaken n u.stage → homes ≡ none ∷ []) vs id spent
        (λ i x _ there. k.away i n x there) (λ has. absurd has) j;
    value = k.value;
    same = each-set (λ _ u. IsLive u → u.fixed ≡ fixed) vs id spent (λ j u _ there. k.same j u there)
        (λ live. absurd (omega arith));
  }

  -- the value is taken by the view whose turn it is
  pub kept-taken : (vs : List View) (id : ℕ) (v w : View)
      → IsKept m served fixed homes vs
      → IsView vs id v
      → w.fixed ≡ v.fixed
      → IsLive v
      → ((n : ℕ) → HasTurn n w.stage → n ≡ served)
      → HasTaken served w.stage
      → IsKept m served fixed (none ∷ []) (set vs id w)
  kept-taken vs id v w k at same live turn taken = record {
    turn = λ j n u. each-set (λ _ u. HasTurn n u.stage → n ≡ served) vs id w (λ i x _ there. k.turn i n x there)
        (turn n) j u;
    place = inr (id, w, set_here vs id w (below-length vs id v at), taken);
    away = λ j n u there has. refl;
    value = λ x home. absurd (home-away (none ∷ []) x home refl);
    same = each-set (λ _ u. IsLive u → u.fixed ≡ fixed) vs id w (λ j u _ there. k.same j u there)
        (λ _. same ∙ k.same id v at live);
  }

  -- only one view has the turn
  pub turn-once : (drawn : ℕ) (vs : List View) (id j : ℕ) (v w : View)
      → IsQueue drawn served vs
      → IsView vs id v
      → HasTurn served v.stage
      → IsView vs j w
      → HasTurn served w.stage
      → j ≡ id
  turn-once drawn vs id j v w q at has there also =
      q.once j id served w v there at (ticket-of_turn served w.stage also) (ticket-of_turn served v.stage has)

  -- the value comes home, while the turn lasts
  pub kept-back : (vs : List View) (id : ℕ) (v w : View) (x : T)
      → IsKept m served fixed homes vs
      → IsView vs id v
      → w.fixed ≡ v.fixed
      → IsLive v
      → ((n : ℕ) → HasTurn n w.stage → n ≡ served)
      → m.fixed x ≡ fixed
      → ((j n : ℕ) (u : View) → IsView (set vs id w) j u → HasTaken n u.stage → ⊥)
      → IsKept m served fixed (some (Some x) ∷ []) (set vs id w)
  kept-back vs id v w x k at same live turn fixed_is free = record {
    turn = λ j n u. each-set (λ _ u. HasTurn n u.stage → n ≡ served) vs id w (λ i y _ there. k.turn i n y there)
        (turn n) j u;
    place = inl (x, refl);
    away = λ j n u there has. absurd (free j n u there has);
    value = λ y home. ap m.fixed (sym (home-value (some (Some x) ∷ []) x y refl home)) ∙ fixed_is;
    same = each-set (λ _ u. IsLive u → u.fixed ≡ fixed) vs id w (λ j u _ there. k.same j u there)
        (λ _. same ∙ k.same id v at live);
  }

  -- where the view whose turn it is has not taken the value, it is at home
  pub home-in_turn : (drawn : ℕ) (vs : List View) (id n : ℕ) (v : View)
      → IsKept m served fixed homes vs
      → IsQueue drawn served vs
      → IsView vs id v
      → HasTicket n v.stage
      → n ≡ served
      → (HasTaken served v.stage → ⊥)
      → (x : T) × IsHome homes x
  home-in_turn drawn vs id n v k q at has now free = ⊎_elim (λ home. home)
      (λ (away : SomeView vs (λ u. HasTaken served u.stage)).
      let theirs = ticket-of_turn served away.1.stage (turn-of_taken served away.1.stage away.3) in
      let same : away.0 ≡ id =
      q.once away.0 id served away.1 v away.2 at theirs (subst (λ (i : ℕ). HasTicket i v.stage) now has) in
      absurd (free (subst (λ (u : View). HasTaken served u.stage) (same-view vs away.0 id away.1 v away.2 at same)
      away.3)))
      k.place

  -- the turn ends, with the value at home
  pub kept-passed : (drawn : ℕ) (vs : List View) (id : ℕ) (v w : View) (x : T)
      → IsKept m served fixed homes vs
      → IsQueue drawn served vs
      → IsView vs id v
      → w.fixed ≡ v.fixed
      → IsLive v
      → HasTurn served v.stage
      → w.stage ≡ Idle
      → IsHome homes x
      → IsKept m (served + 1) fixed homes (set vs id w)
  kept-passed drawn vs id v w x k q at same live has idle home = record {
    turn = λ j n u. each-set (λ _ u. HasTurn n u.stage → n ≡ served + 1) vs id w
        (λ i y ne there theirs. absurd
        (ne (turn-once drawn vs id i v y q at has there
        (subst (λ (a : ℕ). HasTurn a y.stage) (k.turn i n y there theirs) theirs))))
        (λ mine. absurd (idle-turn n w.stage idle mine)) j u;
    place = inl (x, home);
    away = λ j n. each-set (λ _ u. HasTaken n u.stage → homes ≡ none ∷ []) vs id w (λ i y _ there. k.away i n y there)
        (λ has. absurd (idle-taken n w.stage idle has)) j;
    value = k.value;
    same = each-set (λ _ u. IsLive u → u.fixed ≡ fixed) vs id w (λ j u _ there. k.same j u there)
        (λ _. same ∙ k.same id v at live);
  }
