-- The turns, of which one ended at no more faults than another began with.
use Rattle.std.proofs.Common.{◌≡◌, ◌≢◌, ◌⊎◌, ℕ, ◌≤◌, List, [], ◌∷◌, ◌++◌, get_or, set, Some, refl, sym, ap, ◌∙◌, subst, inl, inr, ⊎_elim, arith}
use Rattle.std.specs.Prelude.{All, AllPairs}
use Rattle.std.proofs.lemmas.List.Elements.{All-nil, All-cons, All-append, All-same, All-weaker}
use mathlib.Core.Option.{none, some}
use Rattle.atomic_table.proofs.Lists.{at_snoc}
use Rattle.tb_units.proofs.ListLemmas.{AllPairs-nil, AllPairs-one, AllPairs-append}
use Rattle.tb_lock.specs.declared.view.Span.{Span}
use Rattle.tb_lock.specs.declared.view.View.{View}
use Rattle.tb_lock.specs.declared.view.Stage.TheVariants.{Idle}
use Rattle.tb_lock.specs.Meanings.{Meanings}
use Rattle.tb_lock.specs.Calls.{EndsBy, LieApart, AllApart}
use Rattle.tb_lock.specs.Views.{joined, spent, IsView, HasTaken}
use Rattle.tb_lock.specs.Rule.{Homes, AreSpans}
use Rattle.tb_lock.proofs.ViewLemmas.{each-set, each-snoc, idle-taken}
use Rattle.tb_lock.proofs.KeptLemmas.{home-value, home-away}

-- two turns lie apart whichever is named first
LieApart-swap : (one other : Span) → LieApart one other → LieApart other one
LieApart-swap one other apart =
    ⊎_elim (λ (first : one.after ≤ other.before). inr first) (λ (last : other.after ≤ one.before). inl last) apart

-- so do those of two lists
apart-swap : (these those : List Span) → AllApart these those → AllApart those these
apart-swap these those apart k d within i e inside =
    LieApart-swap (get_or these i e) (get_or those k d) (apart i e inside k d within)

-- no turn lies apart from any
apart-none : (those : List Span) → AllApart [] those
apart-none those = All-nil (λ one. All (LieApart one) those)

-- each turn lies apart from none
none-apart : (these : List Span) → AllApart these []
none-apart these = apart-swap [] these (apart-none these)

-- what two lists of turns lie apart from, both together do
apart-append : (these others those : List Span)
    → AllApart these those
    → AllApart others those
    → AllApart (these ++ others) those
apart-append these others those first second = All-append (λ one. All (LieApart one) those) these others first second

-- turns that ended by some count ended by a greater one
ended-more : (met more : ℕ) → met ≤ more → (spans : List Span) → All (EndsBy met) spans → All (EndsBy more) spans
ended-more met more le spans ended =
    All-weaker (EndsBy met) (EndsBy more) (λ span (by : span.after ≤ met). omega arith) spans ended

-- a turn that begins with so many faults lies apart from those that ended by then
begun-apart : (span : Span) (spans : List Span) → All (EndsBy span.before) spans → AllApart (span ∷ []) spans
begun-apart span spans ended =
    All-cons (λ one. All (LieApart one) spans) span []
    (All-weaker (EndsBy span.before) (LieApart span) (λ other by. inr by) spans ended)
    (apart-none spans)

-- the turns of different views lie apart
abbrev AreBetween : List View → Type 0
AreBetween views = (j k : ℕ) (v w : View) → IsView views j v → IsView views k w → j ≢ k → AllApart v.spans w.spans

-- a view changes, whose turns lie apart from those of the others
between-set : (vs : List View) (id : ℕ) (w : View)
    → AreBetween vs
    → ((j : ℕ) (u : View) → j ≢ id → IsView vs j u → AllApart w.spans u.spans)
    → AreBetween (set vs id w)
between-set vs id w between others j k u x at there ne =
    each-set (λ j' u'. (k' : ℕ) (x' : View) → IsView (set vs id w) k' x' → j' ≢ k' → AllApart u'.spans x'.spans) vs id w
    (λ j' u' j_ne at'. each-set (λ k' x'. j' ≢ k' → AllApart u'.spans x'.spans) vs id w
    (λ k' x' _ there' apart. between j' k' u' x' at' there' apart)
    (λ _. apart-swap w.spans u'.spans (others j' u' j_ne at')))
    (each-set (λ k' x'. id ≢ k' → AllApart w.spans x'.spans) vs id w
    (λ k' x' k_ne there' _. others k' x' k_ne there')
    (λ same. absurd (same refl)))
    j u at k x there ne

-- a view more without turns
between-more : (vs : List View) (w : View) → AreBetween vs → w.spans ≡ [] → AreBetween (vs ++ w ∷ [])
between-more vs w between none_had j k u x at there ne =
    ⊎_elim
    (λ (before : IsView vs j u). ⊎_elim
    (λ (also : IsView vs k x). between j k u x before also ne)
    (λ (last : w ≡ x). subst (λ (l : List Span). AllApart u.spans l)
    (sym none_had ∙ ap (λ (v : View). v.spans) last) (none-apart u.spans))
    (at_snoc vs w x k there))
    (λ (last : w ≡ u). subst (λ (l : List Span). AllApart l x.spans)
    (sym none_had ∙ ap (λ (v : View). v.spans) last) (apart-none x.spans))
    (at_snoc vs w u j at)

-- the turns of a spent view go to the one that took it in
module _ (vs : List View) (id : ℕ) (v : View) (other : ℕ) (w : View) (between : AreBetween vs)
    (at : IsView vs id v) (there : IsView vs other w) where
  -- apart from those of the others
  both-others : (j : ℕ) (u : View) → j ≢ id → j ≢ other → IsView vs j u → AllApart (joined v w).spans u.spans
  both-others j u j_id j_other here =
      apart-append v.spans w.spans u.spans
      (between id j v u at here (λ is. j_id (sym is)))
      (between other j w u there here (λ is. j_other (sym is)))

  -- the views but for the spent one
  between-first : (j k : ℕ) (u x : View)
      → j ≢ other
      → k ≢ other
      → IsView (set vs id (joined v w)) j u
      → IsView (set vs id (joined v w)) k x
      → j ≢ k
      → AllApart u.spans x.spans
  between-first j k u x j_other k_other here here' ne =
      each-set (λ j' u'. j' ≢ other → (k' : ℕ) (x' : View) → IsView (set vs id (joined v w)) k' x' → k' ≢ other
      → j' ≢ k' → AllApart u'.spans x'.spans) vs id (joined v w)
      (λ j' u' j_id at' j_other'. each-set
      (λ k' x'. k' ≢ other → j' ≢ k' → AllApart u'.spans x'.spans) vs id (joined v w)
      (λ k' x' _ there' _ apart. between j' k' u' x' at' there' apart)
      (λ _ _. apart-swap (joined v w).spans u'.spans (both-others j' u' j_id j_other' at')))
      (λ _. each-set (λ k' x'. k' ≢ other → id ≢ k' → AllApart (joined v w).spans x'.spans) vs id (joined v w)
      (λ k' x' k_id there' k_other' _. both-others k' x' k_id k_other' there')
      (λ _ same. absurd (same refl)))
      j u here j_other k x here' k_other ne

  -- all of them
  between-joined : AreBetween (set (set vs id (joined v w)) other spent)
  between-joined j k u x here here' ne =
      each-set (λ j' u'. (k' : ℕ) (x' : View) → IsView (set (set vs id (joined v w)) other spent) k' x' → j' ≢ k'
      → AllApart u'.spans x'.spans) (set vs id (joined v w)) other spent
      (λ j' u' j_other at'. each-set (λ k' x'. j' ≢ k' → AllApart u'.spans x'.spans)
      (set vs id (joined v w)) other spent
      (λ k' x' k_other there' apart. between-first j' k' u' x' j_other k_other at' there' apart)
      (λ _. none-apart u'.spans))
      (λ k' x' _ _. apart-none x'.spans)
      j u here k x here' ne

module _ {T : Type 0} (m : Meanings T) (met : ℕ) (homes : Homes T) where
  -- a view changes that keeps its turns, and the count of the value where it has taken it
  pub spans-set : (vs : List View) (id : ℕ) (v w : View)
      → AreSpans m met homes vs
      → IsView vs id v
      → ((n : ℕ) → HasTaken n w.stage → w.faults_taken ≡ met)
      → w.spans ≡ v.spans
      → AreSpans m met homes (set vs id w)
  spans-set vs id v w s at same kept = record {
    value = s.value;
    taken = λ j n. each-set (λ _ u. HasTaken n u.stage → u.faults_taken ≡ met) vs id w
        (λ k u _ there. s.taken k n u there) (λ has. same n has) j;
    ended = each-set (λ _ u. All (EndsBy met) u.spans) vs id w (λ j u _ there. s.ended j u there)
        (All-same (EndsBy met) w.spans v.spans kept (s.ended id v at));
    within = each-set (λ _ u. AllPairs LieApart u.spans) vs id w (λ j u _ there. s.within j u there)
        (subst (λ (l : List Span). AllPairs LieApart l) (sym kept) (s.within id v at));
    between = between-set vs id w s.between
        (λ j u ne there. subst (λ (l : List Span). AllApart l u.spans) (sym kept)
        (s.between id j v u at there (λ is. ne (sym is))));
  }

  -- an idle view more without turns
  pub spans-more : (vs : List View) (w : View) → AreSpans m met homes vs → w.stage ≡ Idle → w.spans ≡ []
      → AreSpans m met homes (vs ++ w ∷ [])
  spans-more vs w s idle none_had = record {
    value = s.value;
    taken = λ j n. each-snoc (λ u. HasTaken n u.stage → u.faults_taken ≡ met) vs w (λ k u there. s.taken k n u there)
        (λ has. absurd (idle-taken n w.stage idle has)) j;
    ended = each-snoc (λ u. All (EndsBy met) u.spans) vs w s.ended
        (All-same (EndsBy met) w.spans [] none_had (All-nil (EndsBy met)));
    within = each-snoc (λ u. AllPairs LieApart u.spans) vs w s.within
        (subst (λ (l : List Span). AllPairs LieApart l) (sym none_had) (AllPairs-nil LieApart));
    between = between-more vs w s.between none_had;
  }

  -- the turns of a spent view go to the idle one that took it in
  pub spans-joined : (vs : List View) (id : ℕ) (v : View) (other : ℕ) (w : View)
      → AreSpans m met homes vs
      → IsView vs id v
      → IsView vs other w
      → id ≢ other
      → v.stage ≡ Idle
      → AreSpans m met homes (set (set vs id (joined v w)) other spent)
  spans-joined vs id v other w s at there apart idle = record {
    value = s.value;
    taken = λ j n. each-set (λ _ u. HasTaken n u.stage → u.faults_taken ≡ met) (set vs id (joined v w)) other spent
        (λ k u _. each-set (λ _ x. HasTaken n x.stage → x.faults_taken ≡ met) vs id (joined v w)
        (λ i x _ here. s.taken i n x here) (λ has. absurd (idle-taken n v.stage idle has)) k u)
        (λ has. absurd has) j;
    ended = each-set (λ _ u. All (EndsBy met) u.spans) (set vs id (joined v w)) other spent
        (λ k u _. each-set (λ _ x. All (EndsBy met) x.spans) vs id (joined v w) (λ i x _ here. s.ended i x here)
        (All-append (EndsBy met) v.spans w.spans (s.ended id v at) (s.ended other w there)) k u)
        (All-nil (EndsBy met));
    within = each-set (λ _ u. AllPairs LieApart u.spans) (set vs id (joined v w)) other spent
        (λ k u _. each-set (λ _ x. AllPairs LieApart x.spans) vs id (joined v w) (λ i x _ here. s.within i x here)
        (AllPairs-append LieApart v.spans w.spans (s.within id v at) (s.within other w there)
        (s.between id other v w at there apart)) k u)
        (AllPairs-nil LieApart);
    between = between-joined vs id v other w s.between at there;
  }

  -- the value is taken, by a view that has its count
  pub spans-away : (vs : List View) (id : ℕ) (v w : View)
      → AreSpans m met homes vs
      → IsView vs id v
      → w.faults_taken ≡ met
      → w.spans ≡ v.spans
      → AreSpans m met (none ∷ []) (set vs id w)
  spans-away vs id v w s at now kept =
      let stays = spans-set vs id v w s at (λ _ _. now) kept in record {
        value = λ x home. absurd (home-away (none ∷ []) x home refl);
        taken = stays.taken;
        ended = stays.ended;
        within = stays.within;
        between = stays.between;
      }

-- the value comes home with no fewer faults, and the turn in which it met them is the last of its view
pub spans-back : {T : Type 0} (m : Meanings T) (met : ℕ) (homes : Homes T) (vs : List View) (id : ℕ) (v w : View)
    (x : T) (span : Span)
    → AreSpans m met homes vs
    → IsView vs id v
    → span.before ≡ met
    → span.after ≡ m.faults x
    → met ≤ m.faults x
    → ((j n : ℕ) (u : View) → IsView (set vs id w) j u → HasTaken n u.stage → ⊥)
    → w.spans ≡ v.spans ++ span ∷ []
    → AreSpans m (m.faults x) (some (Some x) ∷ []) (set vs id w)
spans-back m met homes vs id v w x span s at before after rose free had =
    let by : (spans : List Span) → All (EndsBy met) spans → All (EndsBy (m.faults x)) spans =
    ended-more met (m.faults x) rose in
    let behind : (spans : List Span) → All (EndsBy met) spans → AllApart (span ∷ []) spans =
    λ spans ended. begun-apart span spans (subst (λ (k : ℕ). All (EndsBy k) spans) (sym before) ended) in
    let own = s.ended id v at in
    let this : EndsBy (m.faults x) span = omega arith in record {
      value = λ y home. ap m.faults (sym (home-value (some (Some x) ∷ []) x y refl home));
      taken = λ j n u there has. absurd (free j n u there has);
      ended = each-set (λ _ u. All (EndsBy (m.faults x)) u.spans) vs id w
          (λ j u _ there. by u.spans (s.ended j u there))
          (All-same (EndsBy (m.faults x)) w.spans (v.spans ++ span ∷ []) had
          (All-append (EndsBy (m.faults x)) v.spans (span ∷ []) (by v.spans own)
          (All-cons (EndsBy (m.faults x)) span [] this (All-nil (EndsBy (m.faults x))))));
      within = each-set (λ _ u. AllPairs LieApart u.spans) vs id w (λ j u _ there. s.within j u there)
          (subst (λ (l : List Span). AllPairs LieApart l) (sym had)
          (AllPairs-append LieApart v.spans (span ∷ []) (s.within id v at) (AllPairs-one LieApart span)
          (apart-swap (span ∷ []) v.spans (behind v.spans own))));
      between = between-set vs id w s.between
          (λ j u ne there. subst (λ (l : List Span). AllApart l u.spans) (sym had)
          (apart-append v.spans (span ∷ []) u.spans (s.between id j v u at there (λ is. ne (sym is)))
          (behind u.spans (s.ended j u there))));
    }
