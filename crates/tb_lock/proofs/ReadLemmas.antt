-- The clock's readings, and those of the calls.
use Rattle.std.proofs.Common.{◌≡◌, ℕ, ◌≤◌, List, [], ◌∷◌, ◌++◌, set, Some, refl, sym, ap, arith}
use Rattle.std.specs.Prelude.{All}
use Rattle.std.proofs.lemmas.List.Elements.{All-nil, All-append, All-same, All-weaker}
use mathlib.Core.Option.{none, some}
use Rattle.tb_lock.specs.declared.view.Call.{Call}
use Rattle.tb_lock.specs.declared.view.View.{View}
use Rattle.tb_lock.specs.declared.view.Stage.TheVariants.{Idle}
use Rattle.tb_lock.specs.Meanings.{Meanings}
use Rattle.tb_lock.specs.Calls.{IsReadBy}
use Rattle.tb_lock.specs.Views.{IsView, HasTaken}
use Rattle.tb_lock.specs.Rule.{Homes, AreRead}
use Rattle.tb_lock.proofs.ViewLemmas.{each-set, each-snoc, idle-taken}
use Rattle.tb_lock.proofs.KeptLemmas.{home-value, home-away}

-- calls whose turns ended at no more readings than these ended at no more than a greater number
read-more : (read more : ℕ)
    → read ≤ more
    → (cs : List Call)
    → All (IsReadBy read) cs
    → All (IsReadBy more) cs
read-more read more le cs h =
    All-weaker (IsReadBy read) (IsReadBy more) (λ c (by : c.readings ≤ read). omega arith) cs h

module _ {T : Type 0} (m : Meanings T) (read : ℕ) (homes : Homes T) where
  -- a view changes that keeps the readings of the value, where it has taken it
  pub read-set : (vs : List View) (id : ℕ) (w : View)
      → AreRead m read homes vs
      → ((n : ℕ) → HasTaken n w.stage → w.readings ≡ read)
      → All (IsReadBy read) w.mine
      → AreRead m read homes (set vs id w)
  read-set vs id w r same calls = record {
    value = r.value;
    taken = λ j n. each-set (λ _ u. HasTaken n u.stage → u.readings ≡ read) vs id w (λ k u _ there. r.taken k n u there)
        (λ has. same n has) j;
    calls = each-set (λ _ u. All (IsReadBy read) u.mine) vs id w (λ j u _ there. r.calls j u there) calls;
  }

  -- an idle view more without calls leaves what is known of the readings
  pub read-one-more : (vs : List View) (w : View) → AreRead m read homes vs → w.stage ≡ Idle → w.mine ≡ []
      → AreRead m read homes (vs ++ w ∷ [])
  read-one-more vs w r idle none_made = record {
    value = r.value;
    taken = λ j n. each-snoc (λ u. HasTaken n u.stage → u.readings ≡ read) vs w (λ k u there. r.taken k n u there)
        (λ has. absurd (idle-taken n w.stage idle has)) j;
    calls = each-snoc (λ u. All (IsReadBy read) u.mine) vs w r.calls
        (All-same (IsReadBy read) w.mine [] none_made (All-nil (IsReadBy read)));
  }

  -- the value is taken, by a view that has its readings
  pub read-away : (vs : List View) (id : ℕ) (v w : View)
      → AreRead m read homes vs
      → IsView vs id v
      → w.readings ≡ read
      → w.mine ≡ v.mine
      → AreRead m read (none ∷ []) (set vs id w)
  read-away vs id v w r at now mine = record {
    value = λ x home. absurd (home-away (none ∷ []) x home refl);
    taken = λ j n. each-set (λ _ u. HasTaken n u.stage → u.readings ≡ read) vs id w (λ k u _ there. r.taken k n u there)
        (λ _. now) j;
    calls = each-set (λ _ u. All (IsReadBy read) u.mine) vs id w (λ j u _ there. r.calls j u there)
        (All-same (IsReadBy read) w.mine v.mine mine (r.calls id v at));
  }

-- the value comes home with no fewer readings, those of the calls of its turn, and no view has it
pub read-back : {T : Type 0} (m : Meanings T) (read : ℕ) (homes : Homes T) (vs : List View)
    (id : ℕ) (v w : View) (x : T) (calls : List Call)
    → AreRead m read homes vs
    → IsView vs id v
    → read ≤ m.readings x
    → ((j n : ℕ) (u : View) → IsView (set vs id w) j u → HasTaken n u.stage → ⊥)
    → w.mine ≡ v.mine ++ calls
    → All (IsReadBy (m.readings x)) calls
    → AreRead m (m.readings x) (some (Some x) ∷ []) (set vs id w)
read-back m read homes vs id v w x calls r at least free mine by = record {
  value = λ y home. ap m.readings (sym (home-value (some (Some x) ∷ []) x y refl home));
  taken = λ j n u there has. absurd (free j n u there has);
  calls = each-set (λ _ u. All (IsReadBy (m.readings x)) u.mine) vs id w
      (λ j u _ there. read-more read (m.readings x) least u.mine (r.calls j u there))
      (All-same (IsReadBy (m.readings x)) w.mine (v.mine ++ calls) mine
      (All-append (IsReadBy (m.readings x)) v.mine calls
      (read-more read (m.readings x) least v.mine (r.calls id v at)) by));
}
