-- The counted history, and what was seen of it.
use Rattle.std.proofs.Common.{◌≡◌, ◌≢◌, ◌⊎◌, ℕ, List, [], ◌∷◌, ◌++◌, set, Some, refl, sym, ap, ◌∙◌, subst, inl, inr, arith}
use mathlib.Core.Option.{none, some}
use mathlib.Core.Logic.{dite}
use native.Mathlib.Decide.{ℕ_discrete}
use Rattle.atomic_table.proofs.Lists.{set_here, set_else}
use Rattle.tb_lock.specs.declared.view.View.{View}
use Rattle.tb_lock.specs.declared.view.Stage.TheVariants.{Idle}
use Rattle.tb_lock.specs.Meanings.{History, IsPrefix, Meanings}
use Rattle.tb_lock.specs.Views.{IsLive, spent, joined, IsView, HasTaken}
use Rattle.tb_lock.specs.Rule.{Homes, IsCounted, HasSeen, AreSeen}
use Rattle.tb_lock.proofs.PrefixLemmas.{prefix-self, prefix-trans, longer-either, longer-whole}
use Rattle.tb_lock.proofs.ViewLemmas.{each-set, each-snoc, same-view, below-length, idle-taken}
use Rattle.tb_lock.proofs.KeptLemmas.{some-set, some-snoc, home-value, home-away}

module _ {T : Type 0} (m : Meanings T) (counted : History) (homes : Homes T) where
  -- a changed view that has taken nothing, or has seen the counted history, leaves what is known of the count
  pub count-same : (vs : List View) (id : ℕ) (v w : View) → IsCounted m counted homes vs → IsView vs id v
      → ((n : ℕ) → HasTaken n w.stage → w.seen ≡ counted) → IsCounted m counted homes (set vs id w)
  count-same vs id v w c at mine = record {
    value = c.value;
    taken = λ j n. each-set (λ _ u. HasTaken n u.stage → u.seen ≡ counted) vs id w
        (λ k u _ there. c.taken k n u there) (mine n) j;
  }

  -- and so does an idle view more
  pub count-more : (vs : List View) (w : View)
      → IsCounted m counted homes vs
      → w.stage ≡ Idle
      → IsCounted m counted homes (vs ++ w ∷ [])
  count-more vs w c idle = record {
    value = c.value;
    taken = λ j n. each-snoc (λ u. HasTaken n u.stage → u.seen ≡ counted) vs w (λ k u there. c.taken k n u there)
        (λ has. absurd (idle-taken n w.stage idle has)) j;
  }

  -- the value is taken
  pub count-away : (vs : List View) (id : ℕ) (v w : View)
      → IsCounted m counted homes vs
      → IsView vs id v
      → w.seen ≡ counted
      → IsCounted m counted (none ∷ []) (set vs id w)
  count-away vs id v w c at seen = record {
    value = λ x home. absurd (home-away (none ∷ []) x home refl);
    taken = λ j n. each-set (λ _ u. HasTaken n u.stage → u.seen ≡ counted) vs id w
        (λ k u _ there. c.taken k n u there) (λ _. seen) j;
  }

-- the value comes home, and no view has it
pub count-back : {T : Type 0} (m : Meanings T) (vs : List View) (x : T)
    → ((j n : ℕ) (v : View) → IsView vs j v → HasTaken n v.stage → ⊥)
    → IsCounted m (m.history x) (some (Some x) ∷ []) vs
count-back m vs x free = record {
  value = λ y home. ap m.history (sym (home-value (some (Some x) ∷ []) x y refl home));
  taken = λ j n v there has. absurd (free j n v there has);
}

-- a view with the same history seen and the same opening has seen as much
seen-again : (opening counted : History) (v w : View)
    → w.seen ≡ v.seen
    → w.opening ≡ v.opening
    → HasSeen opening counted v
    → HasSeen opening counted w
seen-again opening counted v w seen same has = record {
  begins = subst (λ (l : History). IsPrefix l counted) (sym seen) has.begins;
  has_opening = subst (λ (l : History). IsPrefix opening l) (sym seen) has.has_opening;
  same = same ∙ has.same;
}

module _ (opening counted : History) where
  -- a changed view that has seen its part leaves what was seen, if the one that has seen all stays
  pub seen-set : (vs : List View) (id : ℕ) (v w : View)
      → AreSeen opening counted vs
      → IsView vs id v
      → HasSeen opening counted w
      → (IsLive v × (v.seen ≡ counted) → IsLive w × (w.seen ≡ counted))
      → AreSeen opening counted (set vs id w)
  seen-set vs id v w s at has whole = record {
    each = each-set (λ _ u. IsLive u → HasSeen opening counted u) vs id w (λ j u _ there. s.each j u there) (λ _. has);
    whole = some-set (λ u. IsLive u × (u.seen ≡ counted)) vs id v w at whole s.whole;
  }

  -- a view that keeps what it has seen
  pub seen-same : (vs : List View) (id : ℕ) (v w : View)
      → AreSeen opening counted vs
      → IsView vs id v
      → IsLive v
      → IsLive w
      → w.seen ≡ v.seen
      → w.opening ≡ v.opening
      → AreSeen opening counted (set vs id w)
  seen-same vs id v w s at live live' seen same =
      seen-set vs id v w s at (seen-again opening counted v w seen same (s.each id v at live))
      (λ (is : IsLive v × (v.seen ≡ counted)). (live', seen ∙ is.1))

  -- a view that takes the value has seen the whole
  pub seen-taken : (vs : List View) (id : ℕ) (v w : View)
      → AreSeen opening counted vs
      → IsView vs id v
      → IsLive v
      → IsLive w
      → w.seen ≡ counted
      → w.opening ≡ v.opening
      → AreSeen opening counted (set vs id w)
  seen-taken vs id v w s at live live' seen same =
      let has = s.each id v at live in
      seen-set vs id v w s at record {
        begins = subst (λ (l : History). IsPrefix l counted) (sym seen) (prefix-self counted);
        has_opening = subst (λ (l : History). IsPrefix opening l) (sym seen)
            (prefix-trans opening v.seen counted has.has_opening has.begins);
        same = same ∙ has.same;
      } (λ _. (live', seen))

  -- and so does a view more
  pub seen-more : (vs : List View) (w : View)
      → AreSeen opening counted vs
      → HasSeen opening counted w
      → AreSeen opening counted (vs ++ w ∷ [])
  seen-more vs w s has = record {
    each = each-snoc (λ u. IsLive u → HasSeen opening counted u) vs w s.each (λ _. has);
    whole = some-snoc (λ u. IsLive u × (u.seen ≡ counted)) vs w s.whole;
  }

  -- the longer of two beginnings has all that either has
  pub seen-joined : (vs : List View) (id : ℕ) (v : View) (other : ℕ) (w : View)
      → AreSeen opening counted vs
      → IsView vs id v
      → IsView vs other w
      → (other ≡ id → ⊥)
      → IsLive v
      → IsLive w
      → AreSeen opening counted (set (set vs id (joined v w)) other spent)
  seen-joined vs id v other w s at there apart live live' =
      let both : View = joined v w in
      let first = s.each id v at live in
      let second = s.each other w there live' in
      let here : IsView (set (set vs id both) other spent) id both =
      set_else (set vs id both) other id spent (λ e. apart (sym e)) ∙ set_here vs id both (below-length vs id v at) in
      let live_both : IsLive both = omega arith in
      let one = λ (is : (v.seen ≡ counted) ⊎ (w.seen ≡ counted)). longer-whole v.seen w.seen counted first.begins
      second.begins is in
      record {
        each = each-set (λ _ u. IsLive u → HasSeen opening counted u) (set vs id both) other spent
            (λ j u _. each-set (λ _ u. IsLive u → HasSeen opening counted u) vs id both (λ k y _ at'. s.each k y at')
            (λ _. record {
              begins = longer-either (λ (l : History). IsPrefix l counted) v.seen w.seen first.begins second.begins;
              has_opening = longer-either (λ (l : History). IsPrefix opening l) v.seen w.seen first.has_opening
                  second.has_opening;
              same = first.same;
            }) j u)
            (λ none_left. absurd (omega arith));
        whole = dite (ℕ_discrete s.whole.0 other)
            (λ same. (
              id,
              both,
              here,
              (
                live_both,
                one (inr
                    (ap (λ (u : View). u.seen) (same-view vs other s.whole.0 w s.whole.1 there s.whole.2 (sym same))
                    ∙ s.whole.3.1)),
              ),
            ))
            (λ (ne : s.whole.0 ≢ other). dite (ℕ_discrete s.whole.0 id)
            (λ same. (
              id,
              both,
              here,
              (
                live_both,
                one (inl
                    (ap (λ (u : View). u.seen) (same-view vs id s.whole.0 v s.whole.1 at s.whole.2 (sym same))
                    ∙ s.whole.3.1)),
              ),
            ))
            (λ (ne' : s.whole.0 ≢ id). (
              s.whole.0,
              s.whole.1,
              set_else (set vs id both) other s.whole.0 spent ne
                  ∙ (set_else vs id s.whole.0 both ne' ∙ s.whole.2),
              s.whole.3,
            )));
      }

-- the counted history grows, and the view that makes it grow has seen it
pub seen-longer : (opening counted more : History) (vs : List View) (id : ℕ) (v w : View) → IsPrefix counted more
    → AreSeen opening counted vs → IsView vs id v → IsLive v → IsLive w → w.seen ≡ more → w.opening ≡ v.opening
    → AreSeen opening more (set vs id w)
seen-longer opening counted more vs id v w grows s at live live' seen same =
    let has = s.each id v at live in
    record {
      each = each-set (λ _ u. IsLive u → HasSeen opening more u) vs id w
          (λ j u _ there alive. let h = s.each j u there alive in
          record {
            begins = prefix-trans u.seen counted more h.begins grows;
            has_opening = h.has_opening;
            same = h.same;
          })
          (λ _. record {
            begins = subst (λ (l : History). IsPrefix l more) (sym seen) (prefix-self more);
            has_opening = subst (λ (l : History). IsPrefix opening l) (sym seen)
                (prefix-trans opening v.seen more has.has_opening
                (prefix-trans v.seen counted more has.begins grows));
            same = same ∙ has.same;
          });
      whole = (id, w, set_here vs id w (below-length vs id v at), (live', seen));
    }
