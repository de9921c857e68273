-- The faults, and the counts of the calls.
use Rattle.std.proofs.Common.{◌≡◌, ◌≢◌, ℕ, ◌+◌, ◌≤◌, List, [], ◌∷◌, ◌++◌, set, Some, refl, sym, ap, ◌∙◌, arith}
use Rattle.std.specs.Prelude.{All}
use Rattle.std.proofs.lemmas.List.Elements.{All-nil, All-append, All-same, All-weaker}
use mathlib.Core.Option.{none, some}
use Rattle.tb_lock.specs.declared.view.Call.{Call}
use Rattle.tb_lock.specs.declared.view.View.{View}
use Rattle.tb_lock.specs.declared.view.Stage.TheVariants.{Idle, Holding, Raised}
use Rattle.tb_lock.specs.Meanings.{Meanings}
use Rattle.tb_lock.specs.Calls.{IsBetween}
use Rattle.tb_lock.specs.Views.{IsLive, IsView, HasTaken}
use Rattle.tb_lock.specs.Rule.{Homes, KnowsFaults, AreFaults}
use Rattle.tb_lock.proofs.ViewLemmas.{each-set, each-snoc, idle-taken, holding-taken, raised-holding}
use Rattle.tb_lock.proofs.KeptLemmas.{home-value, home-away}

-- counts below a number are below a greater one
between-more : (low high more : ℕ)
    → high ≤ more
    → (cs : List Call)
    → All (IsBetween low high) cs
    → All (IsBetween low more) cs
between-more low high more le cs h =
    All-weaker (IsBetween low high) (IsBetween low more)
    (λ c b. let most = b.most in record { least = b.least; rising = b.rising; most = omega arith }) cs h

module _ {T : Type 0} (m : Meanings T) (opening_faults faults : ℕ) (homes : Homes T) where
  -- a view changes that has not taken the value
  pub faults-free : (vs : List View) (id : ℕ) (w : View)
      → AreFaults m opening_faults faults homes vs
      → ((n : ℕ) → HasTaken n w.stage → ⊥)
      → (IsLive w → w.opening_faults ≡ opening_faults)
      → All (IsBetween opening_faults faults) w.mine
      → AreFaults m opening_faults faults homes (set vs id w)
  faults-free vs id w f free same calls = record {
    value = f.value;
    taken = λ j n. each-set (λ _ u. u.stage ≡ Holding n → u.faults_taken ≡ faults) vs id w
        (λ k u _ there. f.taken k n u there) (λ holds. absurd (free n (holding-taken n w.stage holds))) j;
    known = λ j n. each-set (λ _ u. HasTaken n u.stage → KnowsFaults opening_faults faults u) vs id w
        (λ k u _ there. f.known k n u there) (λ has. absurd (free n has)) j;
    least = f.least;
    same = each-set (λ _ u. IsLive u → u.opening_faults ≡ opening_faults) vs id w (λ j u _ there. f.same j u there)
        same;
    calls = each-set (λ _ u. All (IsBetween opening_faults faults) u.mine) vs id w (λ j u _ there. f.calls j u there)
        calls;
  }

  -- an idle view more without calls leaves what is known of the faults
  pub faults-more : (vs : List View) (w : View) → AreFaults m opening_faults faults homes vs → w.stage ≡ Idle
      → w.opening_faults ≡ opening_faults → w.mine ≡ [] → AreFaults m opening_faults faults homes (vs ++ w ∷ [])
  faults-more vs w f idle same none_made = record {
    value = f.value;
    taken = λ j n. each-snoc (λ u. u.stage ≡ Holding n → u.faults_taken ≡ faults) vs w
        (λ k u there. f.taken k n u there)
        (λ holds. absurd (idle-taken n w.stage idle (holding-taken n w.stage holds))) j;
    known = λ j n. each-snoc (λ u. HasTaken n u.stage → KnowsFaults opening_faults faults u) vs w
        (λ k u there. f.known k n u there) (λ has. absurd (idle-taken n w.stage idle has)) j;
    least = f.least;
    same = each-snoc (λ u. IsLive u → u.opening_faults ≡ opening_faults) vs w f.same (λ _. same);
    calls = each-snoc (λ u. All (IsBetween opening_faults faults) u.mine) vs w f.calls
        (All-same (IsBetween opening_faults faults) w.mine [] none_made (All-nil (IsBetween opening_faults faults)));
  }

  -- the value is taken, by a view that knows its count
  pub faults-away : (vs : List View) (id : ℕ) (v w : View)
      → AreFaults m opening_faults faults homes vs
      → IsView vs id v
      → IsLive v
      → w.faults ≡ faults
      → w.faults_taken ≡ faults
      → w.opening_faults ≡ v.opening_faults
      → w.mine ≡ v.mine
      → AreFaults m opening_faults faults (none ∷ []) (set vs id w)
  faults-away vs id v w f at live now then same mine =
      let least = f.least in record {
        value = λ x home. absurd (home-away (none ∷ []) x home refl);
        taken = λ j n. each-set (λ _ u. u.stage ≡ Holding n → u.faults_taken ≡ faults) vs id w
            (λ k u _ there. f.taken k n u there) (λ _. then) j;
        known = λ j n. each-set (λ _ u. HasTaken n u.stage → KnowsFaults opening_faults faults u) vs id w
            (λ k u _ there. f.known k n u there) (λ _. record { word = now; least = omega arith; most = omega arith })
            j;
        least = least;
        same = each-set (λ _ u. IsLive u → u.opening_faults ≡ opening_faults) vs id w
            (λ j u _ there. f.same j u there) (λ _. same ∙ f.same id v at live);
        calls = each-set (λ _ u. All (IsBetween opening_faults faults) u.mine) vs id w
            (λ j u _ there. f.calls j u there)
            (All-same (IsBetween opening_faults faults) w.mine v.mine mine (f.calls id v at));
      }

  -- the faults are raised, by the one view that has taken the value
  pub faults-raised : (vs : List View) (id n more : ℕ) (v w : View)
      → AreFaults m opening_faults faults homes vs
      → IsView vs id v
      → IsLive v
      → homes ≡ none ∷ []
      → v.stage ≡ Holding n
      → ((j k : ℕ) (u : View) → j ≢ id → IsView vs j u → HasTaken k u.stage → ⊥)
      → w.stage ≡ Raised n
      → w.faults ≡ faults + more
      → w.faults_taken ≡ v.faults_taken
      → w.opening_faults ≡ v.opening_faults
      → w.mine ≡ v.mine
      → AreFaults m opening_faults (faults + more) homes (set vs id w)
  faults-raised vs id n more v w f at live away holds alone is now then same mine =
      let least = f.least in
      let was = f.known id n v at (holding-taken n v.stage holds) in
      let low = was.least in
      let high = was.most in record {
        value = λ x home. absurd (home-away homes x home away);
        taken = λ j k. each-set (λ _ u. u.stage ≡ Holding k → u.faults_taken ≡ faults + more) vs id w
            (λ i u ne there hold. absurd (alone i k u ne there (holding-taken k u.stage hold)))
            (λ hold. absurd (raised-holding n k w.stage is hold)) j;
        known = λ j k. each-set (λ _ u. HasTaken k u.stage → KnowsFaults opening_faults (faults + more) u) vs id w
            (λ i u ne there has. absurd (alone i k u ne there has))
            (λ _. record { word = now; least = omega arith; most = omega arith }) j;
        least = omega arith;
        same = each-set (λ _ u. IsLive u → u.opening_faults ≡ opening_faults) vs id w
            (λ j u _ there. f.same j u there) (λ _. same ∙ f.same id v at live);
        calls = each-set (λ _ u. All (IsBetween opening_faults (faults + more)) u.mine) vs id w
            (λ j u _ there. between-more opening_faults faults (faults + more) (omega arith) u.mine
            (f.calls j u there))
            (All-same (IsBetween opening_faults (faults + more)) w.mine v.mine mine
            (between-more opening_faults faults (faults + more) (omega arith) v.mine (f.calls id v at)));
      }

-- the value comes home with the count that the word has, and no view has it
pub faults-back : {T : Type 0} (m : Meanings T) (opening_faults faults : ℕ) (homes : Homes T) (vs : List View)
    (id : ℕ) (v w : View) (x : T) (calls : List Call)
    → AreFaults m opening_faults faults homes vs
    → IsView vs id v
    → IsLive v
    → m.faults x ≡ faults
    → ((j n : ℕ) (u : View) → IsView (set vs id w) j u → HasTaken n u.stage → ⊥)
    → w.opening_faults ≡ v.opening_faults
    → w.mine ≡ v.mine ++ calls
    → All (IsBetween opening_faults faults) calls
    → AreFaults m opening_faults faults (some (Some x) ∷ []) (set vs id w)
faults-back m opening_faults faults homes vs id v w x calls f at live count free same mine between = record {
  value = λ y home. ap m.faults (sym (home-value (some (Some x) ∷ []) x y refl home)) ∙ count;
  taken = λ j n u there holds. absurd (free j n u there (holding-taken n u.stage holds));
  known = λ j n u there has. absurd (free j n u there has);
  least = f.least;
  same = each-set (λ _ u. IsLive u → u.opening_faults ≡ opening_faults) vs id w (λ j u _ there. f.same j u there)
      (λ _. same ∙ f.same id v at live);
  calls = each-set (λ _ u. All (IsBetween opening_faults faults) u.mine) vs id w (λ j u _ there. f.calls j u there)
      (All-same (IsBetween opening_faults faults) w.mine (v.mine ++ calls) mine
      (All-append (IsBetween opening_faults faults) v.mine calls (f.calls id v at) between));
}
