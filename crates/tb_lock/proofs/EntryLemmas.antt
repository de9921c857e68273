-- The calls, and the entries that they made.
use Rattle.std.proofs.Common.{◌≡◌, ◌≢◌, ◌⊎◌, ℕ, List, [], ◌∷◌, ◌++◌, set, Some, refl, sym, ap, ◌∙◌, subst, ⊎_elim, append_assoc, arith}
use Rattle.std.specs.Prelude.{All, Any}
use Rattle.std.proofs.lemmas.List.Elements.{All-nil, All-append, All-cons, All-same, All-weaker}
use mathlib.Core.Option.{none, some}
use mathlib.Core.Logic.{dite}
use native.Mathlib.Decide.{ℕ_discrete}
use Rattle.atomic_table.proofs.Lists.{set_here, set_else}
use Rattle.tb_lock.specs.declared.view.Call.{Call}
use Rattle.tb_lock.specs.declared.view.View.{View}
use Rattle.tb_lock.specs.Meanings.{History, IsPrefix, Answer, accepted, repeated, faulted, entryless, Meanings}
use Rattle.tb_lock.specs.Calls.{MayAdd, added_if, entry_of, Stands, Makes, Leaves, accepted_of}
use Rattle.tb_lock.specs.Views.{IsLive, spent, joined, IsView, HasTaken}
use Rattle.tb_lock.specs.Rule.{Homes, AreAnswered, IsMade, AreMade}
use Rattle.tb_lock.proofs.PrefixLemmas.{prefix-trans, any-left, any-right, any-first, any-later, any-weaker}
use Rattle.tb_lock.proofs.ViewLemmas.{each-set, each-snoc, same-view, below-length}
use Rattle.tb_lock.proofs.KeptLemmas.{some-set, home-value, home-away}

module _ {T : Type 0} (m : Meanings T) (fixed : List ℕ) where
  -- a call that stands in a history stands in a longer one
  stands-longer : (history more : History)
      → IsPrefix history more
      → (c : Call)
      → Stands m fixed history c
      → Stands m fixed more c
  stands-longer history more grows c h = record {
    answered = h.answered;
    prefix = prefix-trans c.prefix history more h.prefix grows;
    entry = λ is. prefix-trans (c.prefix ++ entry_of m fixed c ∷ []) history more (h.entry is) grows;
  }

  -- and so do all of a list
  pub all-longer : (history more : History)
      → IsPrefix history more
      → (cs : List Call)
      → All (Stands m fixed history) cs
      → All (Stands m fixed more) cs
  all-longer history more grows cs h =
      All-weaker (Stands m fixed history) (Stands m fixed more) (stands-longer history more grows) cs h

  -- calls stay answered where one view is changed, if those of the new view are
  pub answered-set : (counted : History) (vs : List View) (id : ℕ) (w : View) → AreAnswered m fixed counted vs
      → All (Stands m fixed counted) w.mine → AreAnswered m fixed counted (set vs id w)
  answered-set counted vs id w a mine =
      each-set (λ _ u. All (Stands m fixed counted) u.mine) vs id w (λ j u _ there. a j u there) mine

  -- a view more without calls leaves all calls answered
  pub answered-more : (counted : History) (vs : List View) (w : View) → AreAnswered m fixed counted vs → w.mine ≡ []
      → AreAnswered m fixed counted (vs ++ w ∷ [])
  answered-more counted vs w a none_made =
      each-snoc (λ u. All (Stands m fixed counted) u.mine) vs w a
      (All-same (Stands m fixed counted) w.mine [] none_made (All-nil (Stands m fixed counted)))

  -- calls stay answered when the counted history grows
  pub answered-longer : (counted more : History) (vs : List View)
      → IsPrefix counted more
      → AreAnswered m fixed counted vs
      → AreAnswered m fixed more vs
  answered-longer counted more vs grows a = λ j u there. all-longer counted more grows u.mine (a j u there)

  -- an entry that some view made stays made where that view keeps its calls
  pub made-set : (vs : List View) (id : ℕ) (v w : View)
      → IsView vs id v
      → IsLive w
      → ((e : List ℕ) → Any (Makes m fixed e) v.mine → Any (Makes m fixed e) w.mine)
      → (e : List ℕ)
      → IsMade m fixed vs e
      → IsMade m fixed (set vs id w) e
  made-set vs id v w at live more e =
      some-set (λ u. IsLive u × Any (Makes m fixed e) u.mine) vs id v w at
      (λ (h : IsLive v × Any (Makes m fixed e) v.mine). (live, more e h.1))

  -- a call of a spent view goes to the one that took it in
  pub made-joined : (vs : List View) (id : ℕ) (v : View) (other : ℕ) (w : View)
      → IsView vs id v
      → IsView vs other w
      → (other ≡ id → ⊥)
      → IsLive v
      → (e : List ℕ)
      → IsMade m fixed vs e
      → IsMade m fixed (set (set vs id (joined v w)) other spent) e
  made-joined vs id v other w at there apart live e made =
      let both : View = joined v w in
      let here : IsView (set (set vs id both) other spent) id both =
      set_else (set vs id both) other id spent (λ i. apart (sym i)) ∙ set_here vs id both (below-length vs id v at) in
      let live_both : IsLive both = omega arith in
      dite (ℕ_discrete made.0 other)
      (λ same. (
        id,
        both,
        here,
        (
          live_both,
          any-right (Makes m fixed e) v.mine w.mine
              (subst (λ (u : View). Any (Makes m fixed e) u.mine)
              (sym (same-view vs other made.0 w made.1 there made.2 (sym same))) made.3.1),
        ),
      ))
      (λ (ne : made.0 ≢ other). dite (ℕ_discrete made.0 id)
      (λ same. (
        id,
        both,
        here,
        (
          live_both,
          any-left (Makes m fixed e) v.mine w.mine
              (subst (λ (u : View). Any (Makes m fixed e) u.mine)
              (sym (same-view vs id made.0 v made.1 at made.2 (sym same))) made.3.1),
        ),
      ))
      (λ (ne' : made.0 ≢ id). (
        made.0,
        made.1,
        set_else (set vs id both) other made.0 spent ne
            ∙ (set_else vs id made.0 both ne' ∙ made.2),
        made.3,
      )))

  module _ (opening counted : History) (homes : Homes T) where
    -- other views know of the same entries, and of those in doubt
    pub entries-same : (vs vs' : List View)
        → AreMade m fixed opening counted homes vs
        → ((e : List ℕ) → IsMade m fixed vs e → IsMade m fixed vs' e)
        → ((j n : ℕ) (v : View) → IsView vs' j v → HasTaken n v.stage → All (IsMade m fixed vs) v.doubt)
        → AreMade m fixed opening counted homes vs'
    entries-same vs vs' a more taken =
        let all_more = All-weaker (IsMade m fixed vs) (IsMade m fixed vs') more in
        record {
          later = a.later;
          history = a.history;
          entries = all_more a.later a.entries;
          value = λ x home. all_more (m.doubt x) (a.value x home);
          taken = λ j n v there has. all_more v.doubt (taken j n v there has);
        }

    -- one view changes, which keeps its calls
    pub entries-set : (vs : List View) (id : ℕ) (v w : View)
        → AreMade m fixed opening counted homes vs
        → IsView vs id v
        → IsLive w
        → w.mine ≡ v.mine
        → ((n : ℕ) → HasTaken n w.stage → All (IsMade m fixed vs) w.doubt)
        → AreMade m fixed opening counted homes (set vs id w)
    entries-set vs id v w a at live same taken = entries-same vs (set vs id w) a
        (made-set vs id v w at live (λ e. subst (λ (l : List Call). Any (Makes m fixed e) l) (sym same)))
        (λ j n. each-set (λ _ u. HasTaken n u.stage → All (IsMade m fixed vs) u.doubt) vs id w
        (λ k u _ there. a.taken k n u there) (taken n) j)

    -- the value is taken
    pub entries-away : (vs : List View) (id : ℕ) (v w : View)
        → AreMade m fixed opening counted homes vs
        → IsView vs id v
        → IsLive w
        → w.mine ≡ v.mine
        → All (IsMade m fixed vs) w.doubt
        → AreMade m fixed opening counted (none ∷ []) (set vs id w)
    entries-away vs id v w a at live same doubt =
        let s = entries-set vs id v w a at live same (λ _ _. doubt) in
        record {
          later = s.later;
          history = s.history;
          entries = s.entries;
          value = λ x home. absurd (home-away (none ∷ []) x home refl);
          taken = s.taken;
        }

  -- an entry that a faulted call left is one that it may have made
  leaves-makes : (e : List ℕ) (c : Call) → Leaves m fixed e c → Makes m fixed e c
  leaves-makes e c h = (subst MayAdd (sym h.0) tt, h.1)

  -- the entry of a call more is made by one of the calls
  one-more : (c : Call) (cs : List Call) (es : History) (k : Answer)
      → m.answer c.code ≡ k
      → All (λ e. Any (Makes m fixed e) (c ∷ cs)) es
      → All (λ e. Any (Makes m fixed e) (c ∷ cs)) (added_if k (entry_of m fixed c) es)
  one-more c cs es accepted is others =
      All-cons (λ e. Any (Makes m fixed e) (c ∷ cs)) (entry_of m fixed c) es
      (any-first (Makes m fixed (entry_of m fixed c)) c cs (subst MayAdd (sym is) tt, refl)) others
  one-more c cs es repeated is others = others
  one-more c cs es faulted is others = others
  one-more c cs es entryless is others = others

  -- the entries of the calls that were accepted are entries of calls
  accepted-made : (cs : List Call) → All (λ e. Any (Makes m fixed e) cs) (accepted_of m fixed cs)
  accepted-made [] = All-nil (λ e. Any (Makes m fixed e) [])
  accepted-made (c ∷ cs) = one-more c cs (accepted_of m fixed cs) (m.answer c.code) refl
      (All-weaker (λ e. Any (Makes m fixed e) cs) (λ e. Any (Makes m fixed e) (c ∷ cs))
      (λ e. any-later (Makes m fixed e) c cs) (accepted_of m fixed cs) (accepted-made cs))

  -- a turn ends: its entries are made by its calls, or were in doubt before
  pub entries-back : (opening counted : History) (homes : Homes T) (vs : List View) (id : ℕ) (v w : View) (x : T)
      (calls : List Call) (group : History)
      → AreMade m fixed opening counted homes vs
      → IsView vs id v
      → IsLive w
      → w.mine ≡ v.mine ++ calls
      → All (IsMade m fixed vs) v.doubt
      → ((j n : ℕ) (u : View) → IsView (set vs id w) j u → HasTaken n u.stage → ⊥)
      → (group ≡ []) ⊎ (group ≡ v.doubt)
      → m.history x ≡ counted ++ (group ++ accepted_of m fixed calls)
      → (m.doubt x ≡ []) ⊎ ((m.doubt x ≡ v.doubt) ⊎ All (λ e. Any (Leaves m fixed e) calls) (m.doubt x))
      → AreMade m fixed opening (m.history x) (some (Some x) ∷ []) (set vs id w)
  entries-back opening counted homes vs id v w x calls group a at live mine doubt free group_is history doubt_is =
      let vs' : List View = set vs id w in
      let made = IsMade m fixed vs' in
      let more = made-set vs id v w at live
      (λ e h. subst (λ (l : List Call). Any (Makes m fixed e) l) (sym mine)
      (any-left (Makes m fixed e) v.mine calls h)) in
      let all_more = All-weaker (IsMade m fixed vs) made more in
      let new : (e : List ℕ) → Any (Makes m fixed e) calls → IsMade m fixed vs' e =
      λ e h. (
        id,
        w,
        set_here vs id w (below-length vs id v at),
        (
          live,
          subst (λ (l : List Call). Any (Makes m fixed e) l) (sym mine)
              (any-right (Makes m fixed e) v.mine calls h),
        ),
      ) in
      let in_doubt : All made v.doubt = all_more v.doubt doubt in
      let acc : History = accepted_of m fixed calls in
      record {
        later = a.later ++ (group ++ acc);
        history = history ∙ (ap (λ (l : History). l ++ (group ++ acc)) a.history
            ∙ append_assoc opening a.later (group ++ acc));
        entries = All-append made a.later (group ++ acc) (all_more a.later a.entries)
            (All-append made group acc
            (⊎_elim (λ (e : group ≡ []). All-same made group [] e (All-nil made))
            (λ (e : group ≡ v.doubt). All-same made group v.doubt e in_doubt) group_is)
            (All-weaker (λ e. Any (Makes m fixed e) calls) made new acc (accepted-made calls)));
        value = λ y home. subst (λ (z : T). All made (m.doubt z)) (home-value (some (Some x) ∷ []) x y refl home)
            (⊎_elim (λ (e : m.doubt x ≡ []). All-same made (m.doubt x) [] e (All-nil made))
            (λ (d : (m.doubt x ≡ v.doubt) ⊎ All (λ e. Any (Leaves m fixed e) calls) (m.doubt x)). ⊎_elim
            (λ (e : m.doubt x ≡ v.doubt). All-same made (m.doubt x) v.doubt e in_doubt)
            (λ all. All-weaker (λ e. Any (Leaves m fixed e) calls) made
            (λ e h. new e (any-weaker (Leaves m fixed e) (Makes m fixed e) (leaves-makes e) calls h)) (m.doubt x) all)
            d)
            doubt_is);
        taken = λ j n u there has. absurd (free j n u there has);
      }
