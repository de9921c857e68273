-- The rule of a new lock, and what it says of a closed one.
use Rattle.std.proofs.Common.{◌+◌, ◌<◌, ◌≡◌, ◌≢◌, ◌⊎◌, ℕ, zero, suc, ◌-◌, ◌%◌, ◌^◌, List, [], ◌∷◌, ◌++◌, length, Some, refl, sym, ap, ◌∙◌, subst, ⊎_elim, inl, arith}
use Rattle.std.specs.Prelude.{slice_index, Option, None, All, AllPairs, Any, Contains}
use Rattle.std.proofs.lemmas.List.{append-nil}
use Rattle.std.proofs.lemmas.List.Elements.{All-nil, All-same, All-weaker}
use mathlib.Core.Logic.{dite}
use native.Mathlib.Decide.{ℕ_discrete}
use mathlib.Core.Option.{some, some-injective, some-ne-none}
use lib.ListN.{get_elem?}
use Rattle.atomic_table.specs.Table.{opening}
use Rattle.tb_units.proofs.ListLemmas.{AllPairs-nil}
use Rattle.tb_lock.specs.declared.view.View.{View}
use Rattle.tb_lock.specs.declared.view.Stage.TheVariants.{Idle}
use Rattle.tb_lock.specs.Meanings.{History, IsPrefix, repeated, Meanings, RepeatsStand}
use Rattle.tb_lock.specs.Calls.{IsBetween, IsReadBy, EndsBy, LieApart, AllApart, entry_of, Stands, Makes}
use Rattle.tb_lock.specs.Views.{IsLive, spent, newcomer, SomeView, tickets_of, HasTicket, HasTurn, HasTaken, total}
use Rattle.tb_lock.specs.Rule.{Homes, IsHome, HasSeen, IsMade, Rule}
use Rattle.tb_lock.specs.Turns.{HasOnlyOwn, Closes, AreOut}
use Rattle.tb_lock.specs.Closing.{IsLeft}
use Rattle.tb_lock.proofs.ViewLemmas.{first-only, holding-taken, same-view, total-at, tickets-of_ticket, ticket-of_turn, turn-of_taken}
use Rattle.tb_lock.proofs.ShareLemmas.{few-tickets, most-tickets, same-turn, whole-share_idle, whole-share_others}
use Rattle.tb_lock.proofs.OnceLemmas.{view-once}
use Rattle.tb_lock.proofs.PrefixLemmas.{prefix-self, prefix-trans, any-none}
use Rattle.tb_lock.proofs.KeptLemmas.{home-value}

-- a new lock meets the rule: no ticket is drawn, the value is at home, and its one view is the newcomer
pub starts : {T : Type 0} (m : Meanings T) (x : T) → m.doubt x ≡ []
    → Rule m (opening (0 ∷ 0 ∷ length (m.history x) ∷ m.faults x ∷ []) (Some x ∷ []) (newcomer m x))
starts m x no_doubt =
    let first : View = newcomer m x in
    let doubt = λ (y : _) (home : IsHome (some (Some x) ∷ []) y). All-same (IsMade m (m.fixed x) (first ∷ []))
    (m.doubt y) [] (ap m.doubt (sym (home-value (some (Some x) ∷ []) x y refl home)) ∙ no_doubt)
    (All-nil (IsMade m (m.fixed x) (first ∷ []))) in
    record {
      drawn = 0;
      served = 0;
      fixed = m.fixed x;
      opening = m.history x;
      opening_faults = m.faults x;
      counted = m.history x;
      faults = m.faults x;
      met = m.faults x;
      read = m.readings x;
      words = refl;
      queue = record {
        number = refl;
        range = λ j n v at has. absurd (first-only (λ (u : View). HasTicket n u.stage → ⊥) first (λ h. h) j v at has);
        once = λ j k n v w at _ has _. absurd
            (first-only (λ (u : View). HasTicket n u.stage → ⊥) first (λ h. h) j v at has);
      };
      shares = record {
        whole = refl;
        each = first-only (λ (u : View). IsLive u ⊎ (u ≡ spent)) first (inl (omega arith));
      };
      kept = record {
        turn = λ j n v at has. absurd (first-only (λ (u : View). HasTurn n u.stage → ⊥) first (λ h. h) j v at has);
        place = inl (x, refl);
        away = λ j n v at has. absurd (first-only (λ (u : View). HasTaken n u.stage → ⊥) first (λ h. h) j v at has);
        value = λ y home. ap m.fixed (sym (home-value (some (Some x) ∷ []) x y refl home));
        same = first-only (λ (u : View). IsLive u → u.fixed ≡ m.fixed x) first (λ _. refl);
      };
      count = record {
        value = λ y home. ap m.history (sym (home-value (some (Some x) ∷ []) x y refl home));
        taken = λ j n v at has. absurd (first-only (λ (u : View). HasTaken n u.stage → ⊥) first (λ h. h) j v at has);
      };
      seen = record {
        each = first-only (λ (u : View). IsLive u → HasSeen (m.history x) (m.history x) u) first
            (λ _. record {
              begins = prefix-self (m.history x);
              has_opening = prefix-self (m.history x);
              same = refl;
            });
        whole = (0, first, refl, (omega arith, refl));
      };
      answered = first-only (λ (u : View). All (Stands m (m.fixed x) (m.history x)) u.mine) first
          (All-nil (Stands m (m.fixed x) (m.history x)));
      once = λ n. omega arith;
      made = record {
        later = [];
        history = sym (append-nil (m.history x));
        entries = All-nil (IsMade m (m.fixed x) (first ∷ []));
        value = doubt;
        taken = λ j n v at has. absurd (first-only (λ (u : View). HasTaken n u.stage → ⊥) first (λ h. h) j v at has);
      };
      failed = record {
        value = λ y home. ap m.faults (sym (home-value (some (Some x) ∷ []) x y refl home));
        taken = λ j n v at holds. absurd
            (first-only (λ (u : View). HasTaken n u.stage → ⊥) first (λ h. h) j v at (holding-taken n v.stage holds));
        known = λ j n v at has. absurd (first-only (λ (u : View). HasTaken n u.stage → ⊥) first (λ h. h) j v at has);
        least = omega arith;
        same = first-only (λ (u : View). IsLive u → u.opening_faults ≡ m.faults x) first (λ _. refl);
        calls = first-only (λ (u : View). All (IsBetween (m.faults x) (m.faults x)) u.mine) first
            (All-nil (IsBetween (m.faults x) (m.faults x)));
      };
      readings = record {
        value = λ y home. ap m.readings (sym (home-value (some (Some x) ∷ []) x y refl home));
        taken = λ j n v at has. absurd (first-only (λ (u : View). HasTaken n u.stage → ⊥) first (λ h. h) j v at has);
        calls = first-only (λ (u : View). All (IsReadBy (m.readings x)) u.mine) first
            (All-nil (IsReadBy (m.readings x)));
      };
      spans = record {
        value = λ y home. ap m.faults (sym (home-value (some (Some x) ∷ []) x y refl home));
        taken = λ j n v at has. absurd (first-only (λ (u : View). HasTaken n u.stage → ⊥) first (λ h. h) j v at has);
        ended = first-only (λ (u : View). All (EndsBy (m.faults x)) u.spans) first (All-nil (EndsBy (m.faults x)));
        within = first-only (λ (u : View). AllPairs LieApart u.spans) first (AllPairs-nil LieApart);
        between = λ j k v w at there ne. first-only (λ (u : View). AllApart u.spans w.spans) first
            (All-nil (λ one. All (LieApart one) w.spans)) j v at;
      };
    }

-- the same of the words and the slot as they were made
pub opens : {T : Type 0} (m : Meanings T) (x given : T) (slots : List (Option T)) (entries faults : ℕ)
    → m.doubt x ≡ []
    → slots ≡ Some x ∷ []
    → given ≡ x
    → entries ≡ length (m.history x)
    → faults ≡ m.faults x
    → Rule m (opening (0 ∷ 0 ∷ entries ∷ faults ∷ []) slots (newcomer m given))
opens {T} m x given slots entries faults no_doubt items same count failed =
    let at : List (Option T) × T × ℕ × ℕ → Type 0 =
    λ y. Rule m (opening (0 ∷ 0 ∷ y.2 ∷ y.3 ∷ []) y.0 (newcomer m y.1)) in
    subst at (λ i. (sym items i, sym same i, sym count i, sym failed i)) (starts m x no_doubt)

-- a word that stands at a place is the one found there
word-at : (ws : List ℕ) (i x : ℕ) → get_elem? ws i ≡ some x → slice_index ws i ≡ x
word-at [] i x e = absurd (some-ne-none x (sym e))
word-at (w ∷ ws) zero x e = some-injective w x e
word-at (w ∷ ws) (suc i) x e = word-at ws i x e

-- what two equal options hold is equal
pub same-some : {T : Type 0} (x y : T) → Some x ≡ Some y → x ≡ y
same-some x y e = cc

-- an empty slot holds no value
pub none-some : {T : Type 0} (x : T) → None ≡ Some x → ⊥
none-some x e = cc

-- where more tickets are drawn than served, some are out
some-out : (out drawn served : ℕ) → drawn ≡ served + out → drawn ≢ served → 0 < out
some-out out drawn served is apart = omega arith

-- a sum may be cut to a word before it is added to
sum-mod : (served out : ℕ) → (served + out) % 2 ^ 64 ≡ (served % 2 ^ 64 + out) % 2 ^ 64
sum-mod served out = omega arith

-- what is read of a lock as it is closed
module _ {T : Type 0} (m : Meanings T) (id : ℕ) (last : View) (ticket serving : ℕ) (slot : Option T)
    (left : IsLeft m id last ticket serving slot) where
  -- the first word is the number of tickets drawn
  ticket-is : ticket ≡ left.final.1.0.drawn % 2 ^ 64
  ticket-is =
      let first-word : List ℕ → ℕ = λ words. slice_index words 0 in
      sym (word-at left.words 0 ticket left.first)
      ∙ (ap first-word (sym left.final.2) ∙ ap first-word left.final.1.0.words)

  -- the second word is the number of turns served
  serving-is : serving ≡ left.final.1.0.served % 2 ^ 64
  serving-is =
      let second-word : List ℕ → ℕ = λ words. slice_index words 1 in
      sym (word-at left.words 1 serving left.second)
      ∙ (ap second-word (sym left.final.2) ∙ ap second-word left.final.1.0.words)

  -- with the whole share and no ticket, the two words are equal
  pub all-served : last.stage ≡ Idle → last.share ≡ 2 ^ 64 - 1 → ticket ≡ serving
  all-served idle whole =
      let rule = left.final.1.0 in
      let none_out = whole-share_idle left.final.0.views id last rule.shares left.final.1.1 idle whole in
      let number = rule.queue.number in
      let same : rule.drawn ≡ rule.served = omega arith in
      ticket-is ∙ (ap (λ (n : ℕ). n % 2 ^ 64) same ∙ sym serving-is)

  -- where the two words are equal no ticket is out
  none-out : ticket ≡ serving → total tickets_of left.final.0.views ≡ 0
  none-out same =
      let rule = left.final.1.0 in
      let few = few-tickets left.final.0.views rule.shares in
      let number = rule.queue.number in
      let now = same-turn rule.drawn rule.served rule.drawn left.final.0.views rule.queue rule.shares
      (omega arith) (omega arith) (sym serving-is ∙ (sym same ∙ ticket-is)) in
      omega arith

  -- so a view with a ticket makes the two words differ
  pub words-differ : (n : ℕ) → HasTicket n last.stage → ticket ≡ serving → ⊥
  words-differ n has same =
      let none = none-out same in
      let one = tickets-of_ticket n last.stage has in
      let least = total-at tickets_of left.final.0.views id last left.final.1.1 in
      absurd (omega arith)

  -- where the two words differ, some tickets are out
  pub words-apart : IsLive last → ticket ≢ serving → AreOut last ticket serving
  words-apart live apart =
      let views = left.final.0.views in
      let rule = left.final.1.0 in
      let number = rule.queue.number in
      let equal : rule.drawn ≡ rule.served → ticket ≡ serving =
      λ same. ticket-is ∙ (ap (λ (n : ℕ). n % 2 ^ 64) same ∙ sym serving-is) in record {
        out = total tickets_of views;
        least = some-out (total tickets_of views) rule.drawn rule.served number (λ same. apart (equal same));
        most = most-tickets views id last rule.shares left.final.1.1;
        ahead = ticket-is
            ∙ (ap (λ (n : ℕ). n % 2 ^ 64) number
            ∙ (sum-mod rule.served (total tickets_of views)
            ∙ ap (λ (n : ℕ). (n + total tickets_of views) % 2 ^ 64) (sym serving-is)));
      }

  -- where the two words are equal the value is at home
  home-of : ticket ≡ serving → (value : T) × IsHome left.final.0.homes value
  home-of same = ⊎_elim (λ home. home)
      (λ (away : SomeView left.final.0.views (λ view. HasTaken left.final.1.0.served view.stage)).
      let served = left.final.1.0.served in
      let none = none-out same in
      let turn = turn-of_taken served away.1.stage away.3 in
      let one = tickets-of_ticket served away.1.stage (ticket-of_turn served away.1.stage turn) in
      let least = total-at tickets_of left.final.0.views away.0 away.1 away.2 in
      absurd (omega arith))
      left.final.1.0.kept.place

  -- a view with the whole share knows of all that is made
  knows-all : last.share ≡ 2 ^ 64 - 1 → (entry : List ℕ) → IsMade m left.final.1.0.fixed left.final.0.views entry
      → Any (Makes m last.fixed entry) last.mine
  knows-all whole entry made =
      let views = left.final.0.views in
      let rule = left.final.1.0 in
      let at = left.final.1.1 in
      let same : last.fixed ≡ rule.fixed = rule.kept.same id last at (omega arith) in
      let mine = λ (is : made.0 ≡ id). same-view views made.0 id made.1 last made.2 at is in
      let others = λ (apart : made.0 ≢ id).
      whole-share_others views id made.0 last made.1 rule.shares at whole apart made.2 in
      subst (λ (fixed : List ℕ). Any (Makes m fixed entry) last.mine) (sym same) (dite (ℕ_discrete made.0 id)
      (λ is. subst (λ (view : View). Any (Makes m rule.fixed entry) view.mine) (mine is) made.3.1)
      (λ (apart : made.0 ≢ id). absurd (any-none (Makes m rule.fixed entry) made.1.mine
      (ap (λ (view : View). view.mine) (others apart)) made.3.1)))

  -- with the whole share, all past the opening and in doubt is of the last view's own calls
  only-own : (value : T) → IsHome left.final.0.homes value → IsLive last → last.share ≡ 2 ^ 64 - 1
      → HasOnlyOwn m last value
  only-own value home live whole =
      let rule = left.final.1.0 in
      let has = rule.seen.each id last left.final.1.1 live in
      let known = All-weaker (IsMade m rule.fixed left.final.0.views)
      (λ entry. Any (Makes m last.fixed entry) last.mine)
      (knows-all whole) in record {
        later = rule.made.later;
        history = rule.count.value value home
            ∙ (rule.made.history ∙ ap (λ (first : History). first ++ rule.made.later) (sym has.same));
        entries = known rule.made.later rule.made.entries;
        doubt = known (m.doubt value) (rule.made.value value home);
      }

  -- where the two words are equal, the value stands in the slot, and is as the last pass was promised
  pub left-value : RepeatsStand m
      → ticket ≡ serving
      → IsLive last
      → (value : T) × (slot ≡ Some value) × Closes m last value
  left-value law same live =
      let home = home-of same in
      let rule = left.final.1.0 in
      let at = left.final.1.1 in
      let value : T = home.0 in
      let fixed = rule.kept.same id last at live in
      let history = rule.count.value value home.1 in
      let faults = rule.failed.value value home.1 in
      let readings = rule.readings.value value home.1 in
      let opened = rule.failed.same id last at live in
      let least = rule.failed.least in
      let has = rule.seen.each id last at live in
      let stand : All (Stands m last.fixed (m.history value)) last.mine =
      subst (λ (y : History × List ℕ). All (Stands m y.1 y.0) last.mine)
      (λ i. (sym history i, sym fixed i)) (rule.answered id last at) in (
        value,
        some-injective slot (Some value)
            (sym left.there ∙ left.final.4 0 (Some value) (ap (λ (homes : Homes T). get_elem? homes 0) home.1)),
        record {
          fixed = rule.kept.value value home.1 ∙ sym fixed;
          seen = subst (λ (whole : History). IsPrefix last.seen whole) (sym history) has.begins;
          has_opening = subst (λ (y : History × History). IsPrefix y.0 y.1) (λ i. (sym has.same i, sym history i))
              (prefix-trans rule.opening last.seen rule.counted has.has_opening has.begins);
          stand = stand;
          once = view-once m left.final.0.views id last rule.once at;
          repeats = All-weaker (Stands m last.fixed (m.history value))
              (λ c. m.answer c.code ≡ repeated → Contains c.prefix (entry_of m last.fixed c))
              (λ c h is. law last.fixed c.prefix c.code c.faults_before c.faults_after c.readings h.answered is)
              last.mine stand;
          counts = subst (λ (y : ℕ × ℕ). All (IsBetween y.0 y.1) last.mine)
              (λ i. (sym opened i, sym faults i)) (rule.failed.calls id last at);
          read = subst (λ (n : ℕ). All (IsReadBy n) last.mine) (sym readings) (rule.readings.calls id last at);
          apart = rule.spans.within id last at;
          least = omega arith;
          whole = only-own value home.1 live;
        },
      )
