-- Workers that are hired and dismissed, one after the other.
use Rattle.std.proofs.Common.{◌≡◌, ℕ, ◌+◌, ◌*◌, ◌^◌, ◌≤◌, ◌<◌, List, [], ◌∷◌, ◌++◌, length, map, get_or, sum_by, refl, sym, ap, ◌∙◌, subst, true, false, arith, append_assoc}
use Rattle.std.specs.Prelude.{Bool, ◌||◌, flat_map, remove}
use Rattle.std.specs.List.{list_any}
use Rattle.std.proofs.lemmas.List.{append-nil, map-append}
use Rattle.std.proofs.lemmas.List.Sums.{sum_by-append}
use Rattle.std.proofs.lemmas.List.Elements.{All-nil, All-push}
use Rattle.tb_lock.specs.declared.lock.TurnLock.{TurnLock}
use Rattle.tb_lock.specs.declared.view.View.{View}
use Rattle.tb_lock.specs.Passes.{view}
use Rattle.tb_lock.specs.Views.{kept_half, given_half, joined}
use Rattle.tb_session.specs.declared.room.Room.{Room}
use Rattle.tb_session.specs.declared.worker.Worker.{Worker}
use Rattle.tb_session.specs.Work.{IsReady}
use Rattle.tb_session.specs.Serve.{SameLock, IsHired, Hires, Dismisses, share_of, served_of, failed_of, calls_with, spans_with}
use Rattle.tb_session.proofs.Shares.{two-left}

-- a list is its first element before what is left when that is taken out
pub first-left : {A : Type 0} (xs left : List A) (x : A) → 1 ≤ length xs → x ≡ get_or xs 0 x → left ≡ remove xs 0
    → xs ≡ x ∷ left
first-left [] left x some first is = absurd (let bad : ⊥ = omega arith in bad)
first-left (y ∷ ys) left x some first is =
    ap (λ (a : _). a ∷ ys) (sym first) ∙ ap (λ (l : List _). x ∷ l) (sym is)

-- a list without elements
pub no-elements : {A : Type 0} (xs : List A) → length xs ≡ 0 → xs ≡ []
no-elements [] none = refl
no-elements (x ∷ xs) none = absurd (let bad : ⊥ = omega arith in bad)

-- "or" of three may be taken from either side
either-both : (a b c : Bool) → ((a || b) || c) ≡ (a || (b || c))
either-both true b c = refl
either-both false b c = refl

-- "or" with what never is changes nothing
either-none : (a : Bool) → (a || false) ≡ a
either-none true = refl
either-none false = refl

-- the gate that a worker serves
abbrev gate_of : {D C G : Type 0} → Worker D C G → G
gate_of w = w.gate

-- nothing changed
same-lock : (v : View) → SameLock v v
same-lock v = record { fixed = refl; opening = refl; opening_faults = refl }

module _ {D C G : Type 0} (shared : TurnLock (Room D C)) (old : View) where
  -- no worker is hired yet
  pub hires-none : (gates : List G) (workers : List (Worker D C G)) → workers ≡ [] → 2 ^ length gates < 2 * old.share
      → Hires shared old old gates gates workers
  hires-none gates workers none enough =
      subst (λ (l : List (Worker D C G)). Hires shared old old gates gates l) (sym none) (record {
        in_order = refl;
        hired = All-nil (IsHired shared old);
        share = omega arith;
        enough = enough;
        same = same-lock old;
        mine = refl;
        spans = refl;
        seen = refl;
      })

  -- one worker more, with half of the share that is left
  pub hires-more : (now after : View) (gates left others : List G) (workers : List (Worker D C G)) (w : Worker D C G)
      → Hires shared old now gates left workers
      → left ≡ w.gate ∷ others
      → after ≡ kept_half now
      → view w.pass ≡ given_half now
      → IsReady shared w
      → w.served ≡ 0
      → Hires shared old after gates others (workers ++ w ∷ [])
  hires-more now after gates left others workers w hires first kept given ready unserved = record {
    in_order = ap (λ (l : List G). l ++ others) (map-append gate_of workers (w ∷ []))
        ∙ (append_assoc (map gate_of workers) (w.gate ∷ []) others
        ∙ (ap (λ (l : List G). map gate_of workers ++ l) (sym first) ∙ hires.in_order));
    hired = All-push (IsHired shared old) workers w hires.hired (record {
      ready = ready;
      none = ap (λ (v : View). v.mine) given;
      no_turns = ap (λ (v : View). v.spans) given;
      seen = ap (λ (v : View). v.seen) given ∙ hires.seen;
      same = record {
        fixed = ap (λ (v : View). v.fixed) given ∙ hires.same.fixed;
        opening = ap (λ (v : View). v.opening) given ∙ hires.same.opening;
        opening_faults = ap (λ (v : View). v.opening_faults) given ∙ hires.same.opening_faults;
      };
      unserved = unserved;
    });
    share = omega (
      arith,
      hires.share,
      ap (λ (v : View). v.share) kept,
      ap (λ (v : View). v.share) given,
      sum_by-append share_of workers (w ∷ []),
    );
    enough = subst (λ (s : ℕ). 2 ^ length others < 2 * s) (sym (ap (λ (v : View). v.share) kept))
        (two-left (length left) (length others) now.share (ap (λ (l : List G). length l) first) hires.enough).1;
    same = record {
      fixed = ap (λ (v : View). v.fixed) kept ∙ hires.same.fixed;
      opening = ap (λ (v : View). v.opening) kept ∙ hires.same.opening;
      opening_faults = ap (λ (v : View). v.opening_faults) kept ∙ hires.same.opening_faults;
    };
    mine = ap (λ (v : View). v.mine) kept ∙ hires.mine;
    spans = ap (λ (v : View). v.spans) kept ∙ hires.spans;
    seen = ap (λ (v : View). v.seen) kept ∙ hires.seen;
  }

  -- there is a worker for each gate
  pub hires-all : (now : View) (gates left : List G) (workers : List (Worker D C G))
      → Hires shared old now gates left workers → left ≡ []
      → map gate_of workers ≡ gates
  hires-all now gates left workers hires none =
      sym (append-nil (map gate_of workers))
      ∙ (ap (λ (l : List G). map gate_of workers ++ l) (sym none) ∙ hires.in_order)

module _ {D C G : Type 0} (old : View) where
  -- no worker is dismissed yet
  pub dismisses-none : (workers : List (Worker D C G)) (gates : List G) → gates ≡ []
      → Dismisses old old workers workers gates false
  dismisses-none workers gates none = record {
    in_order = ap (λ (l : List G). l ++ map gate_of workers) none;
    share = refl;
    mine = refl;
    spans = refl;
    same = same-lock old;
    failed_is = refl;
  }

  -- one more is
  pub dismisses-more : (now after : View) (workers left others : List (Worker D C G))
      (w : Worker D C G) (gates : List G)
      (failed then_failed : Bool)
      → Dismisses old now workers left gates failed
      → left ≡ w ∷ others
      → after ≡ joined now (view w.pass)
      → then_failed ≡ (failed || w.failed)
      → Dismisses old after workers others (gates ++ w.gate ∷ []) then_failed
  dismisses-more now after workers left others w gates failed then_failed dismisses first joins fails = record {
    in_order = append_assoc gates (w.gate ∷ []) (map gate_of others)
        ∙ (ap (λ (l : List (Worker D C G)). gates ++ map gate_of l) (sym first) ∙ dismisses.in_order);
    share = omega (
      arith,
      dismisses.share,
      ap (λ (v : View). v.share) joins,
      ap (λ (l : List (Worker D C G)). sum_by share_of l) first,
      sum_by-append share_of (w ∷ []) others,
    );
    mine = ap (λ (v : View). v.mine ++ flat_map calls_with others) joins
        ∙ (append_assoc now.mine (calls_with w) (flat_map calls_with others)
        ∙ (ap (λ (l : List (Worker D C G)). now.mine ++ flat_map calls_with l) (sym first) ∙ dismisses.mine));
    spans = ap (λ (v : View). v.spans ++ flat_map spans_with others) joins
        ∙ (append_assoc now.spans (spans_with w) (flat_map spans_with others)
        ∙ (ap (λ (l : List (Worker D C G)). now.spans ++ flat_map spans_with l) (sym first) ∙ dismisses.spans));
    same = record {
      fixed = ap (λ (v : View). v.fixed) joins ∙ dismisses.same.fixed;
      opening = ap (λ (v : View). v.opening) joins ∙ dismisses.same.opening;
      opening_faults = ap (λ (v : View). v.opening_faults) joins ∙ dismisses.same.opening_faults;
    };
    failed_is = ap (λ (b : Bool). b || list_any failed_of others) fails
        ∙ (either-both failed w.failed (list_any failed_of others)
        ∙ (ap (λ (l : List (Worker D C G)). failed || list_any failed_of l) (sym first) ∙ dismisses.failed_is));
  }

  -- and its links are counted
  pub served-more : (total all : ℕ) (left others : List (Worker D C G)) (w : Worker D C G)
      → total + sum_by served_of left ≡ all → left ≡ w ∷ others
      → total + w.served + sum_by served_of others ≡ all
  served-more total all left others w counted first =
      omega (
        arith,
        counted,
        ap (λ (l : List (Worker D C G)). sum_by served_of l) first,
        sum_by-append served_of (w ∷ []) others,
      )

  module _ (now : View) (workers left : List (Worker D C G)) (gates : List G) (failed : Bool)
      (dismisses : Dismisses old now workers left gates failed) (none : left ≡ []) where
    -- all are dismissed: their gates, in order,
    pub gates-all : gates ≡ map gate_of workers
    gates-all = sym (append-nil gates)
        ∙ (ap (λ (l : List (Worker D C G)). gates ++ map gate_of l) (sym none) ∙ dismisses.in_order)

    -- their shares,
    pub share-all : now.share ≡ old.share + sum_by share_of workers
    share-all = omega (arith, dismisses.share, ap (λ (l : List (Worker D C G)). sum_by share_of l) none)

    -- their calls and turns,
    pub mine-all : now.mine ≡ old.mine ++ flat_map calls_with workers
    mine-all = sym (append-nil now.mine)
        ∙ (ap (λ (l : List (Worker D C G)). now.mine ++ flat_map calls_with l) (sym none) ∙ dismisses.mine)

    pub spans-all : now.spans ≡ old.spans ++ flat_map spans_with workers
    spans-all = sym (append-nil now.spans)
        ∙ (ap (λ (l : List (Worker D C G)). now.spans ++ flat_map spans_with l) (sym none) ∙ dismisses.spans)

    -- and whether one failed
    pub failed-all : failed ≡ list_any failed_of workers
    failed-all = sym (either-none failed)
        ∙ (ap (λ (l : List (Worker D C G)). failed || list_any failed_of l) (sym none) ∙ dismisses.failed_is)
